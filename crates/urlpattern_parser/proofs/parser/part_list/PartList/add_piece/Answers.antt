use Rattle.std.proofs.Common.{ℕ, List, ◌++◌, ◌∷◌, ◌∙◌, [], sym, subst}
use Rattle.std.specs.Prelude.{IfErr, OnOk}
use Rattle.std.specs.Str.{chars}
use Rattle.std.proofs.lemmas.Str.{chars-nil}
use Rattle.urlpattern_parser.specs.Readers.{group_item, part_list_view}
use Rattle.urlpattern_parser.specs.PartLists.{AddsAll, AddsPiece, FailsToAdd, FailsToAddPiece, pending_item}
use Rattle.urlpattern_syntax.specs.Reading.{Fixed}
use Rattle.urlpattern_syntax.specs.RegexpText.{group_names}
use Rattle.std.proofs.lemmas.List.{append-nil}
use Rattle.urlpattern_parser.proofs.GivenNameLemmas.{knows_same, names_with, ok_both}
use Rattle.urlpattern_parser.proofs.parser.part_list.PartList.add_piece.Goals as goal

pub returns-in-Bare-clause-ok : goal.returns-in-Bare-clause-ok
returns-in-Bare-clause-ok g c =
    let old = c.args.self.now in
    let item = λ (after : List ℕ). group_item (chars c.in-Bare.prefix.now) c.in-Bare.placeholder after c.in-Bare.modifier old.next_numeric_name in
    subst (λ piece. OnOk c.add_group.result (AddsPiece g.F.Fn c.args.parser.now old piece c.add_group.new.self)) (sym c.in-Bare.is)
    (subst (λ after. OnOk c.add_group.result (AddsAll g.F.Fn c.args.parser.now old (pending_item old ++ item after ∷ []) c.add_group.new.self)) chars-nil c.add_group.ensures.ok)

pub returns-in-Bare-clause-err : goal.returns-in-Bare-clause-err
returns-in-Bare-clause-err g c =
    let old = c.args.self.now in
    let item = λ (after : List ℕ). group_item (chars c.in-Bare.prefix.now) c.in-Bare.placeholder after c.in-Bare.modifier old.next_numeric_name in
    subst (λ piece. IfErr c.add_group.result (FailsToAddPiece g.F.Fn c.args.parser.now old piece)) (sym c.in-Bare.is)
    (subst (λ after. IfErr c.add_group.result (FailsToAdd g.F.Fn c.args.parser.now old (pending_item old ++ item after ∷ []))) chars-nil c.add_group.ensures.err)

pub returns-in-TextGroup-clause-knows : goal.returns-in-TextGroup-clause-knows
returns-in-TextGroup-clause-knows g c =
    let old = c.args.self.now in
    let new = c.add_fixed.new.self in
    let text = Fixed (chars c.deref-in-TextGroup.result.now) c.in-TextGroup.modifier in
    ok_both c.add_fixed.result c.add_fixed.ensures.ok c.add_fixed.ensures.names c.add_fixed.ensures.number
    (λ ok names number. knows_same (group_names (part_list_view old).parts) (group_names (part_list_view new).parts) old.given_names new.given_names old.next_numeric_name new.next_numeric_name
    (names_with _ _ (part_list_view old) (part_list_view new) (text ∷ []) ok ∙ append-nil (group_names (part_list_view old).parts)) names number c.requires.knows)
