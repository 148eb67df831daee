use Rattle.std.proofs.Common.{◌≡◌, ◌∙◌, [], ◌∷◌, ◌+◌, ◌++◌, ap, drop, length, subst, take}
use Rattle.std.specs.List.{filter}
use Rattle.urlpattern_compare.proofs.ExitLemmas.{exits_lead, exits_more, none_left}
use Rattle.urlpattern_compare.specs.Conditions.{joint_moved}
use Rattle.urlpattern_compare.specs.Exits.{joint_moved_by}
use Rattle.urlpattern_compare.specs.Searching.{is_in}
use Rattle.urlpattern_compare.proofs.exits.exits_at.Goals as goal

pub loop-condition-preserved : goal.loop-condition-preserved
loop-condition-preserved c = λ x.
    let conditions = c.args.conditions.now in
    let i = c.loop-condition.condition-index in
    let it = c.condition-item.result in
    let left = c.loop-condition.left.now in
    let own = c.in_ok-own_exits.own_exits in
    let is = c.in_ok-own_exits.ensures in
    let automaton = it.automaton.now in
    let lead = exits_lead own automaton (take automaton.states left) x (subst (λ f. own.edges.items ≡ filter (λ edge. is_in f edge.from) automaton.edges.items) c.split.ensures.own is.edges)
    (subst (λ f. own.states ≡ length f) c.split.ensures.own is.states) is.case in
    ap (λ l. joint_moved_by l x ++ joint_moved (drop (i + 1) conditions) c.split.result.1.now x) c.in_ok-push.ensures.items
    ∙ ap (λ l. joint_moved_by (c.loop-condition.exits.items ++ own ∷ []) x ++ joint_moved (drop (i + 1) conditions) l x) c.split.ensures.others
    ∙ exits_more conditions i it c.loop-condition.exits.items own left x c.loop-condition-test.true c.condition-item.is lead
    ∙ c.loop-condition.invariant x

pub returns : goal.returns
returns c = λ x. none_left c.args.conditions.now c.loop-condition.condition-index c.loop-condition.exits.items c.loop-condition.left.now x c.loop-condition-test.false ∙ c.loop-condition.invariant x
