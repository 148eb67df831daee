use Rattle.std.proofs.Common.{◌∙◌, map, option_map, subst, sym}
use Rattle.std.specs.Prelude.{string_bytes}
use Rattle.std.specs.Str.{chars}
use Rattle.regex_syntax.specs.Verdict.{Reads, Refuses}
use Rattle.urlpattern_expressions.proofs.SimpleLemmas.{not_simple, signs_missing, simple_read}
use Rattle.urlpattern_expressions.proofs.simple.is_simple.Goals as goal

pub returns-then-not-has_simple_signs : goal.returns-then-not-has_simple_signs
returns-then-not-has_simple_signs c = signs_missing c.args.ignore_case (chars c.args.expression.now) (sym c.has_simple_signs.ensures ∙ c.if-not-has_simple_signs.true)

pub returns-in-Ok : goal.returns-in-Ok
returns-in-Ok c =
    simple_read c.args.ignore_case c.args.expression.now c.in-Ok.parsed.hir (map (option_map string_bytes) c.in-Ok.parsed.names.items) (sym c.has_simple_signs.ensures ∙ c.if-not-has_simple_signs.false)
    (subst (λ config. Reads config c.args.expression.now c.in-Ok.parsed.hir (map (option_map string_bytes) c.in-Ok.parsed.names.items)) c.config_for.ensures c.in-Ok.ensures.ok)

pub returns-in_default : goal.returns-in_default
returns-in_default c =
    not_simple c.args.ignore_case c.args.expression.now c.in-Err.error.kind c.in_default.not-OutOfMemory
    (subst (λ config. Refuses config c.args.expression.now c.in-Err.error.kind) c.config_for.ensures c.in-Err.ensures.err)
