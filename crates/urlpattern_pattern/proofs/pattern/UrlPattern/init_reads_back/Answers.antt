use Rattle.std.proofs.Common.{subst}
use Rattle.std.proofs.lemmas.Result.{IfOk-weaker}
use Rattle.std.specs.Prelude.{IfErr, IfOk}
use Rattle.urlpattern_compile.specs.Compiled.{RejectsInit}
use Rattle.urlpattern_inputs.specs.declared.options.UrlPatternOptions.{UrlPatternOptions}
use Rattle.urlpattern_pattern.specs.KeptParts.{KeepsPartsOf}
use Rattle.urlpattern_syntax.specs.Errors.{MemoryOr}
use Rattle.urlpattern_pattern.proofs.ReadBackLemmas.{copied_reads, read_by}
use Rattle.urlpattern_pattern.specs.ReadBack.{options_of}
use Rattle.urlpattern_pattern.proofs.pattern.UrlPattern.init_reads_back.Goals as goal

pub returns-clause-reads : goal.returns-clause-reads
returns-clause-reads g c =
    let engine = g.R.RegExp in
    let parts = c.args.parts.now in
    let copy = c.in_ok-copy.copy in
    let compiled = c.parse-compiled.result in
    let kept = subst (λ (o : UrlPatternOptions). IfOk compiled (KeepsPartsOf engine copy o)) c.options_of.ensures c.parse-compiled.ensures.kept in
    let rejected = subst (λ (o : UrlPatternOptions). IfErr compiled (MemoryOr (RejectsInit engine copy o))) c.options_of.ensures c.parse-compiled.ensures.refused in
    let (texts, base) = c.in_ok-copy.ensures.cases in
    IfOk-weaker c.is_compiled_to.result _ _
    (λ is outcome. copied_reads engine parts c.args.init.now copy texts base is
    (read_by engine parts (KeepsPartsOf engine copy (options_of parts)) (RejectsInit engine copy (options_of parts)) compiled is kept rejected outcome))
    c.is_compiled_to.ensures.parts
