use Rattle.std.proofs.Common.{◌∙◌, ap, arith, refl}
use Rattle.urlpattern_route_analysis.proofs.KeptLemmas.{kept, kept_more, kept_same, still_ready}
use Rattle.urlpattern_route_analysis.proofs.ScopeLemmas.{outside_within}
use Rattle.urlpattern_route_analysis.specs.Formulas.{formula_view}
use Rattle.urlpattern_route_analysis.specs.Scopes.{outside_of}
use Rattle.urlpattern_route_analysis.proofs.analysis.Analysis.outside.Goals as goal

pub returns-in_err-formula-clause-kept : goal.returns-in_err-formula-clause-kept
returns-in_err-formula-clause-kept c = kept c.args.self.now

pub returns-in_err-automata-clause-kept : goal.returns-in_err-automata-clause-kept
returns-in_err-automata-clause-kept c = kept c.args.self.now

pub returns-in_err-push-clause-kept : goal.returns-in_err-push-clause-kept
returns-in_err-push-clause-kept c = kept_same c.args.self.now _ refl refl refl c.in_err-push.ensures.unchanged

pub returns-in_err-push-clause-ready : goal.returns-in_err-push-clause-ready
returns-in_err-push-clause-ready c = still_ready c.args.self.now _ (kept_same c.args.self.now _ refl refl refl c.in_err-push.ensures.unchanged)

pub returns-clause-kept : goal.returns-clause-kept
returns-clause-kept c = kept_more c.args.self.now _ c.in_ok-automata.automata refl refl refl c.in_ok-push.ensures.appended c.in_ok-automata.ensures.automata

pub returns-clause-ready : goal.returns-clause-ready
returns-clause-ready c = still_ready c.args.self.now _ (kept_more c.args.self.now _ c.in_ok-automata.automata refl refl refl c.in_ok-push.ensures.appended c.in_ok-automata.ensures.automata)

pub returns-clause-pattern : goal.returns-clause-pattern
returns-clause-pattern c = (c.in_ok-automata.automata, c.in_ok-push.ensures.appended, c.in_ok-automata.ensures.automata, c.in_ok-automata.ensures.parts)

pub returns-clause-made : goal.returns-clause-made
returns-clause-made c = c.in_ok-formula.ensures ∙ ap outside_of (omega (arith, c.len-index.ensures, c.args.self.now.patterns.ok))

pub returns-clause-within : goal.returns-clause-within
returns-clause-within c =
    outside_within c.args.self.now.patterns.items c.push.new.items.items c.in_ok-automata.automata (formula_view c.in_ok-formula.formula) c.in_ok-push.ensures.appended
    (c.in_ok-formula.ensures ∙ ap outside_of (omega (arith, c.len-index.ensures, c.args.self.now.patterns.ok)))
