use Rattle.std.proofs.Common.{subst, sym}
use Rattle.std.specs.Prelude.{ℕ, List, Option}
use Rattle.std.specs.Str.{chars}
use Rattle.urlpattern.specs.Errors.{MemoryOr}
use Rattle.urlpattern.specs.FromString.{RejectsPatternOfText}
use Rattle.urlpattern_ffi.specs.Calls.{c_options, IsAdded, IsCompiledFromText, KeepsItsParts}
use Rattle.urlpattern_ffi.specs.KeptPatterns.{boxed_patterns}
use Rattle.urlpattern_engine.specs.PatternRegexps.{pattern_engine}
use Rattle.urlpattern_ffi.proofs.CallLemmas.{added, of_texts, refused}
use Rattle.urlpattern_ffi.proofs.adding.add.Goals as goal

pub returns-in-Ok-compiled : goal.returns-in-Ok-compiled
returns-in-Ok-compiled c =
    let Holds = λ (Is : List ℕ → Option (List ℕ) → Type 0). of_texts Is c.args.text.now c.args.base.now c.in-Ok.text.now c.in-Ok-from_utf8.base.now _
    c.in-Ok.ensures.cases.0 c.in-Ok-from_utf8.ensures.cases.0 c.given_base.ensures in
    added (boxed_patterns c.args.kept.now) c.args.text.now c.args.base.now c.args.ignore_case c.in-Ok-compiled.pattern (boxed_patterns c.push.new.kept) c.push.result
    (Holds (λ bytes url. IsCompiledFromText bytes url c.args.ignore_case c.in-Ok-compiled.pattern) c.in-Ok-compiled.ensures.compiled)
    (Holds (λ bytes url. KeepsItsParts bytes url c.args.ignore_case c.in-Ok-compiled.pattern) c.in-Ok-compiled.ensures.kept)
    c.push.ensures

pub returns-in-Err : goal.returns-in-Err
returns-in-Err c =
    let old = boxed_patterns c.args.kept.now in
    let Why = λ (bytes : List ℕ) (url : Option (List ℕ)). MemoryOr (RejectsPatternOfText pattern_engine (chars bytes) url (c_options c.args.ignore_case)) c.in-Err.error in
    let why = of_texts Why c.args.text.now c.args.base.now c.in-Ok.text.now c.in-Ok-from_utf8.base.now _
    c.in-Ok.ensures.cases.0 c.in-Ok-from_utf8.ensures.cases.0 c.given_base.ensures c.in-Err.ensures.refused in
    subst (λ status. IsAdded old c.args.text.now c.args.base.now c.args.ignore_case old status) (sym c.status_of_error-status.ensures)
    (refused old c.args.text.now c.args.base.now c.args.ignore_case c.in-Err.error why)
