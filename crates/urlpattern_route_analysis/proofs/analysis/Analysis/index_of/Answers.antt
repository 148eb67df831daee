use Rattle.std.proofs.Common.{◌∙◌, ap, arith, refl, sym}
use Rattle.std.specs.Prelude.{is_none, option_copied}
use Rattle.urlpattern_route_analysis.proofs.FormulaLemmas.{index_added, index_found}
use Rattle.urlpattern_route_analysis.proofs.KeptLemmas.{kept, kept_more, kept_same}
use Rattle.urlpattern_route_analysis.proofs.MissingLemmas.{no_memory}
use Rattle.urlpattern_route_analysis.proofs.analysis.Analysis.index_of.Goals as goal

pub returns-in_default-clause-kept : goal.returns-in_default-clause-kept
returns-in_default-clause-kept g c = kept c.args.self.now

pub returns-in_default-clause-missing : goal.returns-in_default-clause-missing
returns-in_default-clause-missing g c same = ap is_none (sym c.parts.ensures.parts ∙ ap option_copied c.in_default.is)

pub returns-in_err-automata-clause-missing : goal.returns-in_err-automata-clause-missing
returns-in_err-automata-clause-missing g c = no_memory _ _ c.from_residual.ensures.1

pub returns-in_err-push-clause-missing : goal.returns-in_err-push-clause-missing
returns-in_err-push-clause-missing g c = no_memory _ _ c.from_residual-in_err-push.ensures.1

pub returns-then-is_same-clause-kept : goal.returns-then-is_same-clause-kept
returns-then-is_same-clause-kept g c = kept c.args.self.now

pub returns-then-is_same-clause-added : goal.returns-then-is_same-clause-added
returns-then-is_same-clause-added g c =
    index_found g.R.RegExp c.args.self.now.patterns.items c.args.pattern.now c.in-Some.parts.now c.loop-index.index c.index-known.result.now (sym c.parts.ensures.parts ∙ ap option_copied c.in-Some.is) c.parts.ensures.made
    (omega (arith, c.loop-index-test.true, c.len-index-end.ensures, c.args.self.now.patterns.ok)) c.index-known.ensures (c.is_same.ensures.0 c.if-is_same.true)

pub returns-in_err-automata-clause-kept : goal.returns-in_err-automata-clause-kept
returns-in_err-automata-clause-kept g c = kept c.args.self.now

pub returns-in_err-push-clause-kept : goal.returns-in_err-push-clause-kept
returns-in_err-push-clause-kept g c = kept_same c.args.self.now _ refl refl refl c.in_err-push.ensures.unchanged

pub returns-clause-kept : goal.returns-clause-kept
returns-clause-kept g c = kept_more c.args.self.now _ c.in_ok-automata.automata refl refl refl c.in_ok-push.ensures.appended c.in_ok-automata.ensures.automata

pub returns-clause-added : goal.returns-clause-added
returns-clause-added g c =
    index_added g.R.RegExp c.args.self.now.patterns.items c.push.new.items.items c.args.pattern.now c.in-Some.parts.now c.in_ok-automata.automata c.len-index.result (sym c.parts.ensures.parts ∙ ap option_copied c.in-Some.is)
    c.parts.ensures.made c.in_ok-automata.ensures.parts (omega (arith, c.len-index.ensures, c.args.self.now.patterns.ok)) c.in_ok-push.ensures.appended
