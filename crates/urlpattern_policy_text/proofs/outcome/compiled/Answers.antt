use Rattle.std.proofs.Common.{subst}
use Rattle.std.specs.Prelude.{option_copied}
use Rattle.std.specs.Str.{chars}
use Rattle.urlpattern_compile.proofs.DiagnosisLemmas.{is_other}
use Rattle.urlpattern_compile.specs.FromString.{IsPatternOfText, RejectsPatternOfText}
use Rattle.urlpattern_inputs.specs.declared.options.UrlPatternOptions.{UrlPatternOptions}
use Rattle.urlpattern_pattern.specs.KeptParts.{KeepsPartsOfText}
use Rattle.urlpattern_pattern.specs.Patterns.{pattern_view}
use Rattle.urlpattern_policy_text.specs.PolicyTexts.{RejectsRule}
use Rattle.urlpattern_syntax.specs.Errors.{MemoryOr}
use Rattle.urlpattern_policy_text.proofs.outcome.compiled.Goals as goal

pub returns-in-Ok-clause-compiled : goal.returns-in-Ok-clause-compiled
returns-in-Ok-clause-compiled g c = (
  subst (λ (options : UrlPatternOptions). IsPatternOfText g.R.RegExp (chars c.args.text.now) (option_copied c.args.base) options (pattern_view c.in-Ok.pattern)) c.rule_options.ensures c.in-Ok.ensures.compiled,
  subst (λ (options : UrlPatternOptions). KeepsPartsOfText g.R.RegExp (chars c.args.text.now) (option_copied c.args.base) options c.in-Ok.pattern) c.rule_options.ensures c.in-Ok.ensures.kept,
)

pub diagnosed-requires : goal.diagnosed-requires
diagnosed-requires g c =
    is_other (RejectsRule g.R.RegExp (option_copied c.args.base) c.args.text.now) c.in-Err.error c.in_ok-error-in-Err.error
    (subst (λ (options : UrlPatternOptions). MemoryOr (RejectsPatternOfText g.R.RegExp (chars c.args.text.now) (option_copied c.args.base) options) c.in-Err.error) c.rule_options.ensures c.in-Err.ensures.refused) c.in_ok-error-in-Err.ensures
