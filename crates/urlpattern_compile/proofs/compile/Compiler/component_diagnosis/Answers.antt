use Rattle.std.proofs.Common.{ℕ, List, Option, ◌≡◌, ◌∙◌, Some, refl, sym, ap, subst, inl, inr}
use Rattle.std.specs.Prelude.{IfNone, IfSome}
use Rattle.std.specs.Str.{chars}
use Rattle.urlpattern_matcher.proofs.CompileLemmas.{text-or_asterisk}
use Rattle.urlpattern_diagnosis.specs.Faults.{IsFaultOf}
use Rattle.urlpattern_diagnosis.specs.PatternOffsets.{IsFaultMoved}
use Rattle.urlpattern_diagnosis.specs.declared.span.Span.{Span}
use Rattle.urlpattern_compile.specs.Compiled.{pattern_of}
use Rattle.urlpattern_compile.specs.CompilerSteps.{compiled_values, settings_by}
use Rattle.urlpattern_compile.specs.Sources.{IsTextOf, written}
use Rattle.urlpattern_compile.specs.Diagnoses.{AcceptsParts, IsFaultOfPattern, IsFaultOfRejectedPart, span_in}
use Rattle.urlpattern_compile.proofs.DiagnosisLemmas.{shows_fault}
use Rattle.urlpattern_syntax.specs.Options.{OptionsView}
use Rattle.urlpattern_compile.proofs.compile.Compiler.component_diagnosis.Goals as goal
use Rattle.urlpattern_compile.proofs.compile.Compiler.component_diagnosis.Goals.{in-Some, in-None+in_ok-fault-in-None}

pub returns-clause-shows : goal.returns-clause-shows
returns-clause-shows g c =
    let pattern = c.unwrap_or-pattern.result.now in
    let error = c.args.rejection.error in
    let component = c.args.rejection.component in
    let point = chars c.as_str-point.result.now in
    let settings = settings_by c.args.self.now c.args.rejection.hierarchical c.args.rejection.component in
    let is = c.in_ok-of_part.ensures in
    let same : point ≡ settings.options.prefix = ap chars c.as_str-point.ensures.value ∙ ap (λ (options : OptionsView). options.prefix) c.in-Ok.ensures.ok in
    let text : chars pattern ≡ settings.text = text-or_asterisk c.pattern_of.result _ _ c.unwrap_or-pattern.ensures refl ∙ c.pattern_of.ensures in
    let fault = c.match-refused.fault in
    let faulty : IsFaultOfPattern g.R.RegExp component settings pattern error fault = elim c.match-refused.branch [
      | in-Some w ↦ inr (subst (IsFaultOfRejectedPart g.R.RegExp settings pattern error) (sym w.fault-is)
          (subst (λ found. IfSome found (IsFaultOfRejectedPart g.R.RegExp settings pattern error)) w.in-Some.is c.in_ok-refused.ensures.part))
      | in-None+in_ok-fault-in-None w ↦ inl (
        subst (IsFaultOf (Some component) pattern settings.options.prefix error) (sym w.fault-is)
            (subst (λ (x : List ℕ). IsFaultOf (Some component) pattern x error w.in_ok-fault-in-None.fault) same w.in_ok-fault-in-None.ensures.fault),
        subst (λ found. IfNone found (AcceptsParts g.R.RegExp settings pattern error)) w.in-None.is c.in_ok-refused.ensures.accepted,
      )
    ] in
    let shown = c.text-text.result.now in
    let span = λ (bytes : List ℕ). span_in (written c.args.source).string (written c.args.source).components bytes component in
    let moved = subst (λ (value : Option Span). IsFaultMoved component shown pattern value c.match-refused.fault c.in_ok-of_part.field-0.fault) c.span-value.ensures.span is.fault in
    (pattern, text, shows_fault (IsFaultOfPattern g.R.RegExp component settings pattern) component shown pattern span error c.in_ok-of_part.field-0 fault is.error is.text faulty moved)

pub returns-clause-text : goal.returns-clause-text
returns-clause-text g c =
    let component = c.args.rejection.component in
    let pattern = text-or_asterisk c.pattern_of.result _ _ c.unwrap_or-pattern.ensures refl ∙ c.pattern_of.ensures in
    subst (IsTextOf (written c.args.source) component (pattern_of (compiled_values c.args.self.now) component)) (sym c.in_ok-of_part.ensures.text)
    (subst (λ (x : List ℕ). IsTextOf (written c.args.source) component x c.text-text.result.now) pattern c.text-text.ensures)

pub span-value-requires-clause-text : goal.span-value-requires-clause-text
span-value-requires-clause-text g c = (chars c.unwrap_or-pattern.result.now, c.text-text.ensures)
