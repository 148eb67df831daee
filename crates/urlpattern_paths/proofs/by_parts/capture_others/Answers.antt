use Rattle.std.proofs.Common.{refl}
use Rattle.std.specs.Prelude.{◌≢◌}
use Rattle.urlpattern_components.proofs.EightLemmas.{by_name}
use Rattle.urlpattern_components.specs.declared.eight.ComponentName.TheVariants.{Pathname}
use Rattle.urlpattern_paths.specs.PathsAlone.{CapturesAll}
use Rattle.urlpattern_pattern.specs.Patterns.{pattern_view}
use Rattle.urlpattern_paths.proofs.by_parts.capture_others.Goals as goal

pub returns : goal.returns
returns g c = λ last.
    by_name (λ name. name ≢ Pathname → CapturesAll g.R.RegExp.answer (pattern_view c.args.pattern.now name).matcher) (λ _. c.captures_all_at.ensures c.if-not-captures_all_at.false)
    (λ _. c.captures_all_at-2.ensures c.if-not-captures_all_at-2.false) (λ _. c.captures_all_at-3.ensures c.if-not-captures_all_at-3.false)
    (λ _. c.captures_all_at-4.ensures c.if-not-captures_all_at-4.false) (λ _. c.captures_all_at-5.ensures c.if-not-captures_all_at-5.false)
    (λ other. absurd (other refl)) (λ _. c.captures_all_at-6.ensures c.if-not-captures_all_at-6.false) (λ _. c.captures_all_at-7.ensures last)
