use Rattle.std.proofs.Common.{arith, refl, take}
use Rattle.std.specs.List.{list_any}
use Rattle.urlpattern_route_analysis.proofs.FormulaLemmas.{all_table, made_within, no_table, table_next}
use Rattle.urlpattern_route_analysis.proofs.KeptLemmas.{kept, kept_further, still_ready}
use Rattle.urlpattern_route_analysis.proofs.MissingLemmas.{no_memory, one_lacks, passed_on}
use Rattle.urlpattern_route_analysis.specs.Formulas.{formula_views}
use Rattle.urlpattern_route_analysis.specs.Making.{lacks_parts}
use Rattle.urlpattern_route_analysis.proofs.analysis.Analysis.formulas.Goals as goal

pub loop-rule-init : goal.loop-rule-init
loop-rule-init g c = record {
  kept = kept c.args.self.now;
  made = no_table g.R.RegExp c.args.self.now.patterns.items (take 0 c.deref-rule-items.result.now) c.new-formulas.result.items refl c.new-formulas.ensures.items;
}

pub returns-in_err-one-clause-kept : goal.returns-in_err-one-clause-kept
returns-in_err-one-clause-kept g c = kept_further c.args.self.now c.loop-rule.self c.formula.new.self c.loop-rule.invariant.kept c.formula.ensures.kept

pub returns-in_err-one-clause-ready : goal.returns-in_err-one-clause-ready
returns-in_err-one-clause-ready g c = still_ready c.args.self.now c.formula.new.self (kept_further c.args.self.now c.loop-rule.self c.formula.new.self c.loop-rule.invariant.kept c.formula.ensures.kept)

pub returns-in_err-one-clause-missing : goal.returns-in_err-one-clause-missing
returns-in_err-one-clause-missing g c =
    passed_on _ c.in_err-one.field-0.0 (lacks_parts c.rule-item.result.condition) (list_any (λ rule. lacks_parts rule.condition) c.args.table.now.rules.items) c.from_residual.ensures.1 c.in_err-one.ensures.missing
    (one_lacks (λ rule. lacks_parts rule.condition) c.args.table.now.rules.items c.deref-rule-items.result.now c.loop-rule.rule-index c.rule-item.result c.loop-rule-test.true c.rule-item.is c.deref-rule-items.ensures.value)

pub returns-in_err-push-clause-missing : goal.returns-in_err-push-clause-missing
returns-in_err-push-clause-missing g c = no_memory _ _ c.from_residual-in_err-push.ensures.1

pub returns-in_err-push-clause-kept : goal.returns-in_err-push-clause-kept
returns-in_err-push-clause-kept g c = kept_further c.args.self.now c.loop-rule.self c.formula.new.self c.loop-rule.invariant.kept c.formula.ensures.kept

pub returns-in_err-push-clause-ready : goal.returns-in_err-push-clause-ready
returns-in_err-push-clause-ready g c = still_ready c.args.self.now c.formula.new.self (kept_further c.args.self.now c.loop-rule.self c.formula.new.self c.loop-rule.invariant.kept c.formula.ensures.kept)

pub loop-rule-preserved : goal.loop-rule-preserved
loop-rule-preserved g c = record {
  kept = kept_further c.args.self.now c.loop-rule.self c.formula.new.self c.loop-rule.invariant.kept c.formula.ensures.kept;
  made = table_next g.R.RegExp c.args.self.now.patterns.items c.loop-rule.self.patterns.items c.formula.new.self.patterns.items c.deref-rule-items.result.now c.loop-rule.rule-index c.rule-item.result c.loop-rule.formulas.items
      c.push.new.items.items c.in_ok-one.one c.loop-rule-test.true c.rule-item.is c.in_ok-push.ensures.appended c.loop-rule.invariant.made c.in_ok-one.ensures.made;
}

pub returns-clause-ready : goal.returns-clause-ready
returns-clause-ready g c = still_ready c.args.self.now c.loop-rule.self c.loop-rule.invariant.kept

pub returns-clause-made : goal.returns-clause-made
returns-clause-made g c =
    all_table g.R.RegExp c.args.self.now.patterns.items c.loop-rule.self.patterns.items c.args.table.now.rules.items c.deref-rule-items.result.now c.loop-rule.rule-index (formula_views c.loop-rule.formulas.items) (omega arith)
    c.deref-rule-items.ensures.value c.loop-rule.invariant.made

pub returns-clause-within : goal.returns-clause-within
returns-clause-within g c =
    made_within g.R.RegExp c.args.self.now.patterns.items c.loop-rule.self.patterns.items c.args.table.now.rules.items (formula_views c.loop-rule.formulas.items)
    (all_table g.R.RegExp c.args.self.now.patterns.items c.loop-rule.self.patterns.items c.args.table.now.rules.items c.deref-rule-items.result.now c.loop-rule.rule-index (formula_views c.loop-rule.formulas.items) (omega arith)
    c.deref-rule-items.ensures.value c.loop-rule.invariant.made)
