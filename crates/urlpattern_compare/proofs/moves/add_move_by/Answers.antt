use Rattle.std.proofs.Common.{◌∙◌, refl, subst, sym}
use Rattle.std.proofs.lemmas.List.Elements.{Contains-push}
use Rattle.std.specs.List.{Contains}
use Rattle.urlpattern_compare.specs.declared.moves.Move.{Move}
use Rattle.urlpattern_compare.proofs.moves.add_move_by.Goals as goal

pub returns-then-is_known-clause-added : goal.returns-then-is_known-clause-added
returns-then-is_known-clause-added c = λ plain.
    let (it, has, same) = c.if-is_known.ensures refl in
    (it, subst (λ l. Contains l it) c.deref.ensures.value has, same ∙ c.deref-2.ensures.value ∙ c.in_ok-flags.ensures)

pub returns-clause-added : goal.returns-clause-added
returns-clause-added c = λ plain.
    let move : Move = record { c = c.args.c; flags = c.in_ok-flags.flags } in
    (move, subst (λ l. Contains l move) (sym c.in_ok-push.ensures.items) (Contains-push c.args.moves.now.items move), c.in_ok-flags.ensures)
