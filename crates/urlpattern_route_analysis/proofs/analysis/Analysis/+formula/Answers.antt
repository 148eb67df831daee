use Rattle.std.proofs.Common.{arith, refl}
use Rattle.std.specs.List.{list_any}
use Rattle.std.specs.Prelude.{is_none}
use Rattle.urlpattern_route_analysis.proofs.FormulaLemmas.{all_each, each_next, no_each}
use Rattle.urlpattern_route_analysis.proofs.KeptLemmas.{kept, kept_further}
use Rattle.urlpattern_route_analysis.proofs.MadeLemmas.{all_made, any_made, name_made, not_made, url_made}
use Rattle.urlpattern_route_analysis.proofs.MissingLemmas.{all_lack, any_lack, no_memory, not_lacks, one_lacks, passed_on, url_lacks}
use Rattle.urlpattern_route_analysis.specs.Formulas.{formula_view, formula_views}
use Rattle.urlpattern_route_analysis.specs.Making.{lacks_parts}
use Rattle.urlpattern_route_analysis.proofs.analysis.Analysis.+formula.Goals as goal

pub formula-returns-in_ok-index_of-in-Url-clause-made : goal.formula-returns-in_ok-index_of-in-Url-clause-made
formula-returns-in_ok-index_of-in-Url-clause-made g t c =
    url_made g.R.RegExp c.args.self.now.patterns.items c.index_of.new.self.patterns.items c.args.condition.now c.in-Url.pattern c.deref.result.now c.in_ok-index_of-in-Url.field-0 c.in-Url.is c.deref.ensures c.in_ok-index_of-in-Url.ensures.added

pub formula-returns-in_err-clone-in-Name-clause-kept : goal.formula-returns-in_err-clone-in-Name-clause-kept
formula-returns-in_err-clone-in-Name-clause-kept g t c = kept c.args.self.now

pub formula-returns-in_ok-clone-in-Name-clause-kept : goal.formula-returns-in_ok-clone-in-Name-clause-kept
formula-returns-in_ok-clone-in-Name-clause-kept g t c = kept c.args.self.now

pub formula-returns-in_ok-clone-in-Name-clause-made : goal.formula-returns-in_ok-clone-in-Name-clause-made
formula-returns-in_ok-clone-in-Name-clause-made g t c =
    name_made g.R.RegExp c.args.self.now.patterns.items c.args.self.now.patterns.items c.args.condition.now c.in-Name.attribute c.in-Name.name c.in_ok-clone-in-Name.field-0 c.in-Name.is c.in_ok-clone-in-Name.ensures.cases refl

pub formula-returns-in_ok-each-in-All-clause-made : goal.formula-returns-in_ok-each-in-All-clause-made
formula-returns-in_ok-each-in-All-clause-made g t c =
    all_made g.R.RegExp c.args.self.now.patterns.items c.each.new.self.patterns.items c.args.condition.now c.in-All.conditions c.in_ok-each-in-All.field-0 c.in-All.is c.in_ok-each-in-All.ensures.made

pub formula-returns-in_ok-opposite-in-Any-clause-made : goal.formula-returns-in_ok-opposite-in-Any-clause-made
formula-returns-in_ok-opposite-in-Any-clause-made g t c =
    any_made g.R.RegExp c.args.self.now.patterns.items c.each-in-Any.new.self.patterns.items c.args.condition.now c.in-Any.conditions c.in_ok-each-in-Any.field-0 (formula_view c.in_ok-opposite-in-Any.field-0) c.in-Any.is
    c.in_ok-each-in-Any.ensures.made c.in_ok-opposite-in-Any.ensures

pub formula-returns-in_ok-opposite-in-Not-clause-made : goal.formula-returns-in_ok-opposite-in-Not-clause-made
formula-returns-in_ok-opposite-in-Not-clause-made g t c =
    not_made g.R.RegExp c.args.self.now.patterns.items c.formula.new.self.patterns.items c.args.condition.now c.in-Not.condition c.deref-in-Not.result.now (formula_view c.in_ok-formula-in-Not.field-0) (formula_view c.in_ok-opposite-in-Not.field-0) c.in-Not.is
    c.deref-in-Not.ensures c.in_ok-formula-in-Not.ensures.made c.in_ok-opposite-in-Not.ensures

pub formula-returns-in_err-index_of-in-Url-clause-missing : goal.formula-returns-in_err-index_of-in-Url-clause-missing
formula-returns-in_err-index_of-in-Url-clause-missing g t c =
    passed_on _ c.in_err-index_of-in-Url.field-0.0 (is_none c.deref.result.now.parts) (lacks_parts c.args.condition.now) c.from_residual.ensures.1 c.in_err-index_of-in-Url.ensures.missing
    (url_lacks c.args.condition.now c.in-Url.pattern c.deref.result.now c.in-Url.is c.deref.ensures)

pub formula-returns-in_err-clone-in-Name-clause-missing : goal.formula-returns-in_err-clone-in-Name-clause-missing
formula-returns-in_err-clone-in-Name-clause-missing g t c = no_memory _ _ c.from_residual-in_err-clone-in-Name.ensures.1

pub formula-returns-in_err-each-in-All-clause-missing : goal.formula-returns-in_err-each-in-All-clause-missing
formula-returns-in_err-each-in-All-clause-missing g t c =
    passed_on _ c.in_err-each-in-All.field-0.0 (list_any lacks_parts c.in-All.conditions.items) (lacks_parts c.args.condition.now) c.from_residual-in_err-each-in-All.ensures.1 c.in_err-each-in-All.ensures.missing
    (all_lack c.args.condition.now c.in-All.conditions c.in-All.is)

pub formula-returns-in_err-each-in-Any-clause-missing : goal.formula-returns-in_err-each-in-Any-clause-missing
formula-returns-in_err-each-in-Any-clause-missing g t c =
    passed_on _ c.in_err-each-in-Any.field-0.0 (list_any lacks_parts c.in-Any.conditions.items) (lacks_parts c.args.condition.now) c.from_residual-in_err-each-in-Any.ensures.1 c.in_err-each-in-Any.ensures.missing
    (any_lack c.args.condition.now c.in-Any.conditions c.in-Any.is)

pub formula-returns-in_err-opposite-in-Any-clause-missing : goal.formula-returns-in_err-opposite-in-Any-clause-missing
formula-returns-in_err-opposite-in-Any-clause-missing g t c = no_memory _ _ c.from_residual-in_err-opposite-in-Any.ensures.1

pub formula-returns-in_err-formula-in-Not-clause-missing : goal.formula-returns-in_err-formula-in-Not-clause-missing
formula-returns-in_err-formula-in-Not-clause-missing g t c =
    passed_on _ c.in_err-formula-in-Not.field-0.0 (lacks_parts c.deref-in-Not.result.now) (lacks_parts c.args.condition.now) c.from_residual-in_err-formula-in-Not.ensures.1 c.in_err-formula-in-Not.ensures.missing
    (not_lacks c.args.condition.now c.in-Not.condition c.deref-in-Not.result.now c.in-Not.is c.deref-in-Not.ensures)

pub formula-returns-in_err-opposite-in-Not-clause-missing : goal.formula-returns-in_err-opposite-in-Not-clause-missing
formula-returns-in_err-opposite-in-Not-clause-missing g t c = no_memory _ _ c.from_residual-in_err-opposite-in-Not.ensures.1

pub each-returns-in_err-formula-clause-missing : goal.each-returns-in_err-formula-clause-missing
each-returns-in_err-formula-clause-missing g t c =
    passed_on _ c.in_err-formula.field-0.0 (lacks_parts c.condition-item.result) (list_any lacks_parts c.args.conditions.now.items) c.from_residual.ensures.1 c.in_err-formula.ensures.missing
    (one_lacks lacks_parts c.args.conditions.now.items c.deref-condition-items.result.now c.loop-condition.condition-index c.condition-item.result c.loop-condition-test.true c.condition-item.is c.deref-condition-items.ensures.value)

pub each-returns-in_err-one-clause-missing : goal.each-returns-in_err-one-clause-missing
each-returns-in_err-one-clause-missing g t c = no_memory _ _ c.from_residual-in_err-one.ensures.1

pub each-returns-in_err-push-clause-missing : goal.each-returns-in_err-push-clause-missing
each-returns-in_err-push-clause-missing g t c = no_memory _ _ c.from_residual-in_err-push.ensures.1

pub each-loop-condition-init : goal.each-loop-condition-init
each-loop-condition-init g t c = record {
  kept = kept c.args.self.now;
  made = no_each g.R.RegExp c.args.self.now.patterns.items c.args.is_opposite c.new-formulas.result.items c.new-formulas.ensures.items;
}

pub each-returns-in_err-formula-clause-kept : goal.each-returns-in_err-formula-clause-kept
each-returns-in_err-formula-clause-kept g t c = kept_further c.args.self.now c.loop-condition.self c.formula.new.self c.loop-condition.invariant.kept c.formula.ensures.kept

pub each-returns-in_err-one-clause-kept : goal.each-returns-in_err-one-clause-kept
each-returns-in_err-one-clause-kept g t c = kept_further c.args.self.now c.loop-condition.self c.formula.new.self c.loop-condition.invariant.kept c.formula.ensures.kept

pub each-returns-in_err-push-clause-kept : goal.each-returns-in_err-push-clause-kept
each-returns-in_err-push-clause-kept g t c = kept_further c.args.self.now c.loop-condition.self c.formula.new.self c.loop-condition.invariant.kept c.formula.ensures.kept

pub each-loop-condition-preserved : goal.each-loop-condition-preserved
each-loop-condition-preserved g t c = record {
  kept = kept_further c.args.self.now c.loop-condition.self c.formula.new.self c.loop-condition.invariant.kept c.formula.ensures.kept;
  made = each_next g.R.RegExp c.args.self.now.patterns.items c.loop-condition.self.patterns.items c.formula.new.self.patterns.items c.deref-condition-items.result.now c.loop-condition.condition-index c.condition-item.result c.args.is_opposite
      c.loop-condition.formulas.items c.push.new.items.items c.in_ok-one.one (formula_view c.in_ok-formula.formula) c.loop-condition-test.true c.condition-item.is c.in_ok-push.ensures.appended c.in_ok-one.ensures
      c.loop-condition.invariant.made c.in_ok-formula.ensures.made;
}

pub each-returns-clause-made : goal.each-returns-clause-made
each-returns-clause-made g t c =
    all_each g.R.RegExp c.args.self.now.patterns.items c.loop-condition.self.patterns.items c.args.conditions.now.items c.deref-condition-items.result.now c.loop-condition.condition-index c.args.is_opposite
    (formula_views c.loop-condition.formulas.items) (omega arith) c.deref-condition-items.ensures.value c.loop-condition.invariant.made
