use Rattle.std.proofs.Common.{◌∙◌, ap, sym}
use Rattle.std.proofs.lemmas.Result.{on_ok_weaker}
use Rattle.std.specs.Map.Iter.{deref_pair}
use Rattle.std.specs.Prelude.{option_map}
use Rattle.urlpattern_policy_differences.proofs.ComparingLemmas.{not_pushed_at, pushed_at}
use Rattle.urlpattern_policy_differences.proofs.comparing.automata.push_at.Goals as goal

pub returns-in-Some : goal.returns-in-Some
returns-in-Some g c =
    on_ok_weaker c.push_pattern.result
    (λ appended. pushed_at g.R.RegExp c.args.rules.now c.args.index (c.in-Some.pattern.now, c.in-Some.effect.now) c.args.automata.now c.push_pattern.new.automata (sym c.get.ensures ∙ ap (option_map deref_pair) c.in-Some.is) appended)
    c.push_pattern.ensures

pub returns-in-None : goal.returns-in-None
returns-in-None g c = not_pushed_at g.R.RegExp c.args.rules.now c.args.index c.args.automata.now (sym c.get.ensures ∙ ap (option_map deref_pair) c.in-None.is)
