use Rattle.std.proofs.Common.{None, subst}
use Rattle.std.proofs.lemmas.Result.{IfOk-weaker}
use Rattle.std.specs.Prelude.{IfErr, IfOk}
use Rattle.std.specs.Str.{chars}
use Rattle.urlpattern_compile.specs.FromString.{RejectsPatternOfText}
use Rattle.urlpattern_inputs.specs.declared.options.UrlPatternOptions.{UrlPatternOptions}
use Rattle.urlpattern_pattern.specs.KeptParts.{KeepsPartsOfText}
use Rattle.urlpattern_syntax.specs.Errors.{MemoryOr}
use Rattle.urlpattern_pattern.proofs.ReadBackLemmas.{read_by}
use Rattle.urlpattern_pattern.specs.ReadBack.{options_of}
use Rattle.urlpattern_pattern.proofs.pattern.UrlPattern.text_reads_back.Goals as goal

pub returns-clause-reads : goal.returns-clause-reads
returns-clause-reads g c =
    let engine = g.R.RegExp in
    let parts = c.args.parts.now in
    let text = chars c.args.text.now in
    let compiled = c.from_constructor_string-compiled.result in
    let kept = subst (λ (o : UrlPatternOptions). IfOk compiled (KeepsPartsOfText engine text None o)) c.options_of.ensures c.from_constructor_string-compiled.ensures.kept in
    let rejected = subst (λ (o : UrlPatternOptions). IfErr compiled (MemoryOr (RejectsPatternOfText engine text None o))) c.options_of.ensures c.from_constructor_string-compiled.ensures.refused in
    IfOk-weaker c.is_compiled_to.result _ _
    (λ is outcome. read_by engine parts (KeepsPartsOfText engine text None (options_of parts)) (RejectsPatternOfText engine text None (options_of parts)) compiled is kept rejected outcome)
    c.is_compiled_to.ensures.parts
