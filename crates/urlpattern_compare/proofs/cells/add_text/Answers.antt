use Rattle.std.proofs.Common.{◌≡◌, ◌∙◌, ℕ, [], ◌∷◌, ◌++◌, ap, map, sym, append_assoc}
use Rattle.std.proofs.lemmas.List.{map-append, map-id}
use Rattle.std.proofs.lemmas.Iterator.Consumers.{YieldsList-end}
use Rattle.std.proofs.lemmas.Iterator.{YieldsList-from_chars}
use Rattle.std.specs.Str.{chars}
use Rattle.urlpattern_compare.specs.Cells.{text_cells}
use Rattle.urlpattern_compare.specs.declared.parts_automaton.Test.TheVariants.{Only}
use Rattle.urlpattern_compare.specs.declared.cells.Cell.{Cell}
use Rattle.urlpattern_compare.specs.declared.cells.Cell.TheVariants.{One}
use Rattle.urlpattern_meaning.specs.Matching.{folded_character}
use Rattle.urlpattern_compare.proofs.cells.add_text.Goals as goal

pub loop-c-preserved : goal.loop-c-preserved
loop-c-preserved c =
    let old = c.args.cells.now.items in
    let cell : ℕ → Cell = λ x. One (Only x) in
    let read = folded_character c.args.ignore_case in
    let before = map read c.loop-c.yielded in
    let one = read c.in-Some.c in
    let pushed : c.push.new.self.items ≡ c.loop-c.cells.items ++ cell c.folded_character.result ∷ [] = c.in_ok-push.ensures.items in
    pushed ∙ ap (λ x. c.loop-c.cells.items ++ cell x ∷ []) c.folded_character.ensures ∙ ap (λ l. l ++ cell one ∷ []) c.loop-c.invariant ∙ append_assoc old (text_cells before) (cell one ∷ [])
    ∙ ap (λ l. old ++ l) (sym (ap text_cells (map-append read c.loop-c.yielded (c.in-Some.c ∷ [])) ∙ map-append cell before (one ∷ [])))

pub returns : goal.returns
returns c =
    let all = YieldsList-end (YieldsList-from_chars c.args.text.now c.utf8.text cc) c.loop-c.yielded _ c.loop-c.yielded_by _ _ c.in-None.is c.next.ensures.steps in
    let same : c.loop-c.yielded ≡ chars c.args.text.now = sym (map-id c.loop-c.yielded) ∙ all.0 in
    c.loop-c.invariant ∙ ap (λ y. c.args.cells.now.items ++ text_cells (map (folded_character c.args.ignore_case) y)) same
