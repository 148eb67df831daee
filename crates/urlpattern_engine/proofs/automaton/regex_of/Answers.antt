use Rattle.std.proofs.Common.{◌≡◌, ◌≢◌, List, ℕ, true, inl, ap, ◌∙◌, subst}
use Rattle.regex.specs.Views.{builder_config, builder_source}
use Rattle.regex_syntax.specs.Verdict.{Refuses}
use Rattle.regex_syntax.specs.declared.Config.{Config}
use Rattle.regex_syntax.specs.declared.error.ErrorKind.TheVariants.{OutOfMemory}
use Rattle.urlpattern_expressions.specs.Expressions.{config_for}
use Rattle.urlpattern_engine.proofs.RejectionLemmas.{unreadable_of_refused}
use Rattle.urlpattern_engine.proofs.automaton.regex_of.Goals as goal

pub returns-in-Err-Syntax-clause-refused : goal.returns-in-Err-Syntax-clause-refused
returns-in-Err-Syntax-clause-refused c =
    let builder = c.case_insensitive-builder.result in
    let error = c.in-Err-Syntax.field-0-0 in
    let config : record (builder_config builder) { utf8 = true } ≡ config_for c.args.ignore_case =
    ap (λ b. record (builder_config b) { utf8 = true }) c.case_insensitive-builder.ensures
    ∙ ap (λ (config : Config). record config { flags = record (config.flags) { case_insensitive = c.args.ignore_case }; utf8 = true }) c.new.ensures.config
    in
    let source : builder_source builder ≡ c.args.regexp.now = ap builder_source c.case_insensitive-builder.ensures ∙ c.new.ensures.source in
    let other : error.kind ≢ OutOfMemory = rw c.in-Err-Syntax.field-0-is at c.in-Err-Syntax.ensures.kind in
    let refuses : Refuses (config_for c.args.ignore_case) c.args.regexp.now error.kind =
    subst (λ (config : Config). Refuses config c.args.regexp.now error.kind) config
    (subst (λ (source : List ℕ). Refuses (record (builder_config builder) { utf8 = true }) source error.kind) source
    (c.in-Err-Syntax.ensures.by_grammar error c.in-Err-Syntax.field-0-is))
    in
    λ same. inl (unreadable_of_refused c.args.ignore_case c.args.regexp.now error.kind refuses other)
