use Rattle.std.proofs.Common.{subst, sym}
use Rattle.std.specs.Prelude.{ℕ, List, Option}
use Rattle.std.specs.Str.{chars}
use Rattle.urlpattern.specs.Errors.{MemoryOr, error_view}
use Rattle.urlpattern.specs.FromString.{RejectsPatternOfText}
use Rattle.urlpattern_engine.specs.PatternRegexps.{pattern_engine}
use Rattle.urlpattern_ffi.proofs.CallLemmas.{of_texts, reported}
use Rattle.urlpattern_ffi.specs.Calls.{c_options, given_base, IsCompiledFromText, KeepsItsParts, RejectsCompilation}
use Rattle.urlpattern_ffi_tables.specs.Compilations.{RejectsBytes}
use Rattle.urlpattern_ffi_tables.proofs.compiling.pattern_of_text.Goals as goal

pub returns-in-Ok-compiled-clause-compiled : goal.returns-in-Ok-compiled-clause-compiled
returns-in-Ok-compiled-clause-compiled c =
    let Holds = λ (Is : List ℕ → Option (List ℕ) → Type 0). of_texts Is c.args.text.now c.args.base.now c.in-Ok.text.now c.in-Ok-from_utf8.base.now _
    c.in-Ok.ensures.cases.0 c.in-Ok-from_utf8.ensures.cases.0 c.given_base.ensures in (
      Holds (λ bytes url. IsCompiledFromText bytes url c.args.ignore_case c.in-Ok-compiled.pattern) c.in-Ok-compiled.ensures.compiled,
      Holds (λ bytes url. KeepsItsParts bytes url c.args.ignore_case c.in-Ok-compiled.pattern) c.in-Ok-compiled.ensures.kept,
    )

pub returns-in-Err-clause-refused : goal.returns-in-Err-clause-refused
returns-in-Err-clause-refused c =
    let Why = λ (bytes : List ℕ) (url : Option (List ℕ)). MemoryOr (RejectsPatternOfText pattern_engine (chars bytes) url (c_options c.args.ignore_case)) c.in-Err.error in
    let why = of_texts Why c.args.text.now c.args.base.now c.in-Ok.text.now c.in-Ok-from_utf8.base.now _
    c.in-Ok.ensures.cases.0 c.in-Ok-from_utf8.ensures.cases.0 c.given_base.ensures c.in-Err.ensures.refused in
    let Rejects = RejectsBytes c.args.text.now c.args.base.now c.args.ignore_case in
    subst Rejects (sym c.status_of_error-status.ensures)
    (reported Rejects (RejectsCompilation c.args.text.now (given_base c.args.base.now) c.args.ignore_case) c.in-Err.error tt (λ reason. (error_view c.in-Err.error, reason)) why)
