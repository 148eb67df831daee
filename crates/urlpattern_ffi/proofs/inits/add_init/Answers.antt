use Rattle.std.proofs.Common.{subst, sym}
use Rattle.urlpattern.specs.Errors.{MemoryOr}
use Rattle.urlpattern_ffi.specs.Inits.{IsInitAdded}
use Rattle.urlpattern_ffi.specs.KeptPatterns.{boxed_patterns}
use Rattle.urlpattern_ffi.proofs.ReportedInitLemmas.{init_refused}
use Rattle.urlpattern_compile.specs.Compiled.{RejectsInit}
use Rattle.urlpattern_engine.specs.PatternRegexps.{pattern_engine}
use Rattle.urlpattern_inputs.specs.declared.options.UrlPatternOptions.{UrlPatternOptions}
use Rattle.urlpattern_ffi.proofs.inits.add_init.Goals as goal

pub returns-in-Err-parse : goal.returns-in-Err-parse
returns-in-Err-parse c =
    let old = boxed_patterns c.args.kept.now in
    let Why = λ (asked : UrlPatternOptions). MemoryOr (RejectsInit pattern_engine c.in-Ok.init asked) c.in-Err-parse.error in
    let why = subst Why c.options.ensures c.in-Err-parse.ensures.refused in
    subst (λ status. IsInitAdded old c.args.json.now c.args.ignore_case old status) (sym c.status_of_error-status.ensures)
    (init_refused old c.args.json.now c.args.ignore_case c.in-Ok.init c.in-Err-parse.error c.in-Ok.ensures.found why)
