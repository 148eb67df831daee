use Rattle.std.proofs.Common.{◌≡◌, ◌∙◌, ◌+◌, [], ◌∷◌, ◌++◌, ap, refl, subst, sym, take, take_all}
use Rattle.std.proofs.lemmas.List.{take_more}
use Rattle.urlpattern_compare.proofs.PlaceLemmas.{line_more}
use Rattle.urlpattern_compare.proofs.examples.is_line.Goals as goal
use Rattle.urlpattern_compare.specs.TextSearch.{IsLine}

pub loop-c-init : goal.loop-c-init
loop-c-init c = record { scalars = refl; plain = refl }

pub loop-c-preserved : goal.loop-c-preserved
loop-c-preserved c =
    let text = c.args.text.now in
    let i = c.loop-c.c-index in
    let item = c.c-item.result in
    let next : take (i + 1) text ≡ take i text ++ item ∷ [] = take_more text i item c.loop-c-test.true ∙ ap (λ x. take i text ++ x ∷ []) (sym c.c-item.is) in
    let is = c.is_plain.ensures c.if-not-is_plain.false in
    subst IsLine (sym next) (line_more (take i text) item is.0 is.1 c.loop-c.invariant)

pub returns : goal.returns
returns c = λ yes. subst IsLine (take_all c.loop-c.c-index c.args.text.now c.loop-c-test.false) c.loop-c.invariant
