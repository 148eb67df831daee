use Rattle.std.proofs.Common.{subst}
use Rattle.std.specs.List.{Contains}
use Rattle.std.specs.Prelude.{OnOk}
use Rattle.urlpattern_compare.proofs.ExitClasses.{kept_after, range_added}
use Rattle.urlpattern_compare.proofs.classes.add_breaks.Goals as goal

pub returns-in_ok-add_break-in-Within-2-clause-kept : goal.returns-in_ok-add_break-in-Within-2-clause-kept
returns-in_ok-add_break-in-Within-2-clause-kept c =
    kept_after c.add_break-in-Within-2.result c.args.breaks.now.items c.add_break-in-Within.new.breaks.items _
    (λ x has. c.in_ok-add_break-in-Within-2.ensures.kept x (c.in_ok-add_break-in-Within.ensures.kept x has)) c.add_break-in-Within-2.ensures.kept

pub returns-in_ok-add_break-in-Within-2-clause-added : goal.returns-in_ok-add_break-in-Within-2-clause-added
returns-in_ok-add_break-in-Within-2-clause-added c =
    let first = c.in_ok-add_break-in-Within.ensures in
    let second = c.in_ok-add_break-in-Within-2.ensures in
    let new = c.add_break-in-Within-2.new.breaks.items in
    range_added c.add_break-in-Within-2.result c.args.edge.test c.add_break-in-Within.new.breaks.items new c.in-Within.first c.in-Within.last c.in-Within.is
    (second.kept 0 first.added) second.added c.add_break-in-Within-2.ensures.kept
    (subst (λ code. OnOk c.add_break-in-Within-2.result (Contains new code)) c.code_after.ensures c.add_break-in-Within-2.ensures.added)
