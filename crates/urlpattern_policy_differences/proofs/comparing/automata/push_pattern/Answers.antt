use Rattle.std.proofs.Common.{◌∙◌, ap, sym}
use Rattle.std.specs.Prelude.{option_copied}
use Rattle.urlpattern_policy_differences.proofs.ComparingLemmas.{has_automata}
use Rattle.urlpattern_policy_differences.proofs.comparing.automata.push_pattern.Goals as goal

pub returns : goal.returns
returns g c = (
  c.in_ok-one.one,
  has_automata g.R.RegExp c.args.pattern.now c.in-Some.parts.now c.in_ok-one.one (sym c.parts.ensures.parts ∙ ap option_copied c.in-Some.is) c.parts.ensures.made c.in_ok-one.ensures.automata c.in_ok-one.ensures.parts,
  c.in_ok-push.ensures.appended,
)
