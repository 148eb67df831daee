use Rattle.std.proofs.Common.{rules, ◌≡◌, ℕ, List, None, Some, ap, chars, encode_utf8_all, option_map, refl, sym, ◌∙◌}
use Rattle.std.proofs.lemmas.Str.{encodes-chars}
use Rattle.std.specs.Option.{option_flatten}
use Rattle.std.specs.Prelude.{Option}
use Rattle.std.specs.Str.{IsUtf8}
use Rattle.urlpat_matching.specs.GroupLines.{group_bytes}
use Rattle.urlpat_matching.proofs.pattern_matching.capture_of.Goals as goal

bytes_of : (group : Option (Option (List ℕ))) (text : Option (List ℕ)) → text ≡ option_flatten group → group_bytes group ≡ option_map encode_utf8_all text
bytes_of None None same = refl
bytes_of None (Some text) same = absurd cc
bytes_of (Some None) None same = refl
bytes_of (Some None) (Some text) same = absurd cc
bytes_of (Some (Some capture)) None same = absurd cc
bytes_of (Some (Some capture)) (Some text) same =
    let e : text ≡ capture = cc in
    ap (λ (spelled : List ℕ). Some (encode_utf8_all spelled)) (sym e)

pub returns-in-Some : goal.returns-in-Some
returns-in-Some c =
    let u : IsUtf8 c.in-Some.capture.now = search rules in
    sym (bytes_of _ (Some (chars c.in-Some.capture.now)) (rw c.in-Some.is at c.get.ensures) ∙ ap Some (encodes-chars c.in-Some.capture.now u))

pub returns-in-None : goal.returns-in-None
returns-in-None c = sym (bytes_of _ None (rw c.in-None.is at c.get.ensures))
