use Rattle.std.proofs.Common.{inr, subst, sym}
use Rattle.urlpattern.specs.Errors.{MemoryOr, error_view}
use Rattle.urlpattern.specs.Patterns.{pattern_view}
use Rattle.urlpattern_compile.specs.Compiled.{IsPatternOfInit, RejectsInit}
use Rattle.urlpattern_engine.specs.PatternRegexps.{pattern_engine}
use Rattle.urlpattern_ffi.proofs.CallLemmas.{reported}
use Rattle.urlpattern_ffi.specs.Calls.{c_options}
use Rattle.urlpattern_ffi_tables.specs.Compilations.{RejectsJson}
use Rattle.urlpattern_inputs.specs.declared.options.UrlPatternOptions.{UrlPatternOptions}
use Rattle.urlpattern_pattern.specs.KeptParts.{KeepsPartsOf}
use Rattle.urlpattern_ffi_tables.proofs.compiling.pattern_of_init.Goals as goal

pub returns-in-Ok-parse-clause-compiled : goal.returns-in-Ok-parse-clause-compiled
returns-in-Ok-parse-clause-compiled c = (
  c.in-Ok.init,
  c.in-Ok.ensures.found,
  subst (λ (asked : UrlPatternOptions). IsPatternOfInit pattern_engine c.in-Ok.init asked (pattern_view c.in-Ok-parse.pattern)) c.options.ensures c.in-Ok-parse.ensures.compiled,
  subst (λ (asked : UrlPatternOptions). KeepsPartsOf pattern_engine c.in-Ok.init asked c.in-Ok-parse.pattern) c.options.ensures c.in-Ok-parse.ensures.kept,
)

pub returns-in-Err-parse-clause-refused : goal.returns-in-Err-parse-clause-refused
returns-in-Err-parse-clause-refused c =
    let Why = λ (asked : UrlPatternOptions). MemoryOr (RejectsInit pattern_engine c.in-Ok.init asked) c.in-Err-parse.error in
    let why = subst Why c.options.ensures c.in-Err-parse.ensures.refused in
    let Rejects = RejectsJson c.args.json.now c.args.ignore_case in
    subst Rejects (sym c.status_of_error-status.ensures)
    (reported Rejects (RejectsInit pattern_engine c.in-Ok.init (c_options c.args.ignore_case)) c.in-Err-parse.error tt (λ reason. inr (error_view c.in-Err-parse.error, (c.in-Ok.init, c.in-Ok.ensures.found, reason))) why)
