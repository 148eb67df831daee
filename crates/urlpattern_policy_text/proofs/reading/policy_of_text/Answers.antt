use Rattle.std.proofs.Common.{◌≡◌, ◌∙◌, ◌≤◌, List, ap, arith, length, map, rules, subst, sym}
use Rattle.std.specs.Prelude.{option_copied, vec_len}
use Rattle.std.specs.Str.Lines.{lines}
use Rattle.urlpattern_policy_text.proofs.ReadingLemmas.{all_faults, all_past, all_rules, all_said, each_fine, line_more, no_items, nothing_read, said_count, some_items}
use Rattle.urlpattern_policy_text.specs.PolicyTexts.{IsUsedBase}
use Rattle.urlpattern_policy_text.specs.Statements.{StatementView, options_of, statement_of, statement_view}
use Rattle.urlpattern_policy_text.specs.declared.statement.Statement.{Statement}
use Rattle.urlpattern_policy_text.proofs.reading.policy_of_text.Goals as goal

pub loop-index-init : goal.loop-index-init
loop-index-init g c = nothing_read g.R.RegExp c.args.text.now (option_copied c.in_ok-base.base) c.new-rules.result c.new-faults.result.items c.new-rules.ensures c.new-faults.ensures.items

pub loop-index-preserved : goal.loop-index-preserved
loop-index-preserved g c =
    let said = all_said c.in_ok-lines.lines.items c.in_ok-statements.statements.items c.args.text.now c.in_ok-lines.ensures (c.in_ok-statements.ensures ∙ ap (map (λ line. statement_of line.now)) c.deref.ensures.value) in
    line_more g.R.RegExp c.args.text.now (option_copied c.in_ok-base.base) c.loop-index.index _ _ c.in_ok-outcome.outcome c.loop-index.rules c.add_outcome.new.rules c.loop-index.faults.items c.add_outcome.new.faults.items
    (ap (map (λ line. line.now)) c.deref-in-loop-index.ensures.value ∙ c.in_ok-lines.ensures) (ap (map statement_view) c.deref-in-loop-index-2.ensures.value ∙ said) c.loop-index.invariant c.in_ok-outcome.ensures c.in_ok-add_outcome.ensures

pub returns-then-not-is_empty-clause-refused : goal.returns-then-not-is_empty-clause-refused
returns-then-not-is_empty-clause-refused g c =
    let faults = c.loop-index.faults in
    let count : length faults.items ≡ vec_len faults = search rules in
    let past = all_past c.in_ok-lines.lines.items c.args.text.now c.loop-index.index c.in_ok-lines.ensures (omega (arith, c.loop-index-test.false, c.len-index-end.ensures)) in
    all_faults g.R.RegExp c.args.text.now (option_copied c.in_ok-base.base) c.loop-index.index c.loop-index.rules faults.items past c.loop-index.invariant
    (some_items faults.items (vec_len faults) c.is_empty.result count c.is_empty.ensures c.if-not-is_empty.true)
    (subst (λ (all : List StatementView). IsUsedBase all (option_copied c.in_ok-base.base)) (ap (map statement_view) c.deref-2.ensures.value ∙ all_said c.in_ok-lines.lines.items c.in_ok-statements.statements.items c.args.text.now c.in_ok-lines.ensures (c.in_ok-statements.ensures ∙ ap (map (λ line. statement_of line.now)) c.deref.ensures.value)) c.in_ok-base.ensures)

pub returns-clause-policy : goal.returns-clause-policy
returns-clause-policy g c =
    let faults = c.loop-index.faults in
    let count : length faults.items ≡ vec_len faults = search rules in
    let none = no_items faults.items (vec_len faults) c.is_empty.result count c.is_empty.ensures c.if-not-is_empty.false in
    let past = all_past c.in_ok-lines.lines.items c.args.text.now c.loop-index.index c.in_ok-lines.ensures (omega (arith, c.loop-index-test.false, c.len-index-end.ensures)) in
    let base = option_copied c.in_ok-base.base in
    let index = c.loop-index.index in
    let said = all_said c.in_ok-lines.lines.items c.in_ok-statements.statements.items c.args.text.now c.in_ok-lines.ensures (c.in_ok-statements.ensures ∙ ap (map (λ line. statement_of line.now)) c.deref.ensures.value) in
    record {
      base = base;
      is_used = subst (λ (all : List StatementView). IsUsedBase all (option_copied c.in_ok-base.base)) (ap (map statement_view) c.deref-2.ensures.value ∙ said) c.in_ok-base.ensures;
      fine = each_fine g.R.RegExp c.args.text.now base index c.loop-index.rules faults.items past c.loop-index.invariant none;
      rules = all_rules g.R.RegExp c.args.text.now base index c.loop-index.rules faults.items past c.loop-index.invariant none;
      options = c.options_of.ensures ∙ ap (λ (all : List Statement). options_of (map statement_view all)) c.deref-3.ensures.value ∙ ap options_of said;
    }

pub outcome_at-requires-clause-all : goal.outcome_at-requires-clause-all
outcome_at-requires-clause-all g c =
    let count = said_count c.in_ok-lines.lines.items c.in_ok-statements.statements.items (c.in_ok-statements.ensures ∙ ap (map (λ line. statement_of line.now)) c.deref.ensures.value) in
    ap length c.deref-in-loop-index-2.ensures.value ∙ count ∙ sym (ap length c.deref-in-loop-index.ensures.value)
