use Rattle.std.proofs.Common.{inl, subst}
use Rattle.urlpattern_compile.specs.Compiled.{RejectsInit}
use Rattle.urlpattern_compile.specs.Diagnoses.{ShowsInit}
use Rattle.urlpattern_inputs.specs.declared.options.UrlPatternOptions.{UrlPatternOptions}
use Rattle.urlpattern_syntax.specs.Errors.{error_view}
use Rattle.urlpattern_policy_text.proofs.json_rules.compiled_made.Goals as goal

pub returns-in-Some-clause-rejected : goal.returns-in-Some-clause-rejected
returns-in-Some-clause-rejected g c = (
  subst (λ (options : UrlPatternOptions). RejectsInit g.R.RegExp c.args.made options (error_view c.in-Some.diagnosis.error)) c.rule_options.ensures (rw c.in-Some.is at c.in_ok-found.ensures.refused),
  inl (
    subst (λ (options : UrlPatternOptions). ShowsInit g.R.RegExp c.args.made options c.in-Some.diagnosis) c.rule_options.ensures (rw c.in-Some.is at c.in_ok-found.ensures.shows),
    rw c.in-Some.is at c.in_ok-found.ensures.within,
  ),
)
