use Rattle.std.proofs.Common.{◌≡◌, rules, Bool, Bor, List, ℕ, Option, Some, true, false, bytes_eq, cond, map, option_map, refl, sym, ap, ◌∙◌, string_bytes}
use Rattle.std.proofs.lemmas.Slice.Zip.{Zip-more, either_empty_from_Zip}
use Rattle.std.proofs.lemmas.Str.{IsUtf8-string_bytes}
use Rattle.std.specs.Iterator.Adapters.{zip_first, zip_second}
use Rattle.std.specs.Option.{option_or}
use Rattle.std.specs.Slice.Iter.{iter_rest}
use Rattle.std.specs.Str.{chars}
use Rattle.urlpattern_matches.proofs.MatchGroupLemmas.{chars-test, groups-end, named-more}
use Rattle.urlpattern_matches.specs.ResultViews.{group_of}
use Rattle.urlpattern_syntax.specs.Text.{option_text, text_of}
use Rattle.urlpattern_matches.proofs.captures.group_named.Goals as goal
use Rattle.urlpattern_matches.proofs.captures.group_named.Goals.{In-Some}

-- A capture counts if its name is that of the group.
more : (c : In-Some) (test : Bool) → bytes_eq c.args.group.now (string_bytes c.in-Some.name.now) ≡ test → (found : Option (Option (Bor (List ℕ))))
    → option_map option_text found ≡ cond test (Some (option_text c.in-Some.capture.now)) (option_map option_text c.loop-name.found)
    → option_or (group_of (map (λ name. text_of name) (iter_rest (zip_first c.next.new.self))) (map option_text (iter_rest (zip_second c.next.new.self))) (chars c.args.group.now)) (option_map option_text found)
    ≡ group_of (map (λ name. text_of name) c.args.names.now) (map option_text c.args.captures.now) (chars c.args.group.now)
more c test same found is =
    let before = c.loop-name.name-iterator in
    let behind = c.next.new.self in
    let name = c.in-Some.name.now in
    let group = c.args.group.now in
    let first = Zip-more before behind c.next.result (c.in-Some.name, c.in-Some.capture) c.in-Some.is c.next.ensures.steps in
    let by_text : test ≡ bytes_eq (chars group) (text_of name) = sym same ∙ sym (chars-test group (string_bytes name) c.utf8.group (IsUtf8-string_bytes name)) in
    named-more (iter_rest (zip_first before)) (iter_rest (zip_first behind)) (iter_rest (zip_second before)) (iter_rest (zip_second behind))
    name c.in-Some.capture.now (chars group) (option_map option_text c.loop-name.found) (option_map option_text found) _ first.0 first.1
    (is ∙ ap (λ b. cond b (Some (option_text c.in-Some.capture.now)) (option_map option_text c.loop-name.found)) by_text) c.loop-name.invariant

pub loop-name-preserved-then-eq : goal.loop-name-preserved-then-eq
loop-name-preserved-then-eq c =
    let same : bytes_eq c.args.group.now (string_bytes c.in-Some.name.now) ≡ true = search rules in
    more (goal.at.loop-name-preserved-then-eq c).In-Some true same (Some c.in-Some.capture.now) refl

pub loop-name-preserved : goal.loop-name-preserved
loop-name-preserved c =
    let other : bytes_eq c.args.group.now (string_bytes c.in-Some.name.now) ≡ false = search rules in
    more (goal.at.loop-name-preserved c).In-Some false other c.loop-name.found refl

pub returns : goal.returns
returns c =
    let left = c.loop-name.name-iterator in
    groups-end (iter_rest (zip_first left)) (iter_rest (zip_second left)) (chars c.args.group.now) (option_map option_text c.loop-name.found) _
    (either_empty_from_Zip left c.next.new.self c.next.result c.in-None.is c.next.ensures.steps) c.loop-name.invariant
