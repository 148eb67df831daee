use Rattle.std.proofs.Common.{ap, ◌∙◌}
use Rattle.std.specs.Prelude.{codes}
use Rattle.urlpattern_syntax.specs.Text.{begins_with}
use Rattle.urlpattern_compile.proofs.CompiledLemmas.{ipv6_pattern-bytes, or-first, or-second}
use Rattle.urlpattern_compile.specs.Compiled.{is_mark}
use Rattle.urlpattern_compile.proofs.compile.is_ipv6_pattern.Goals as goal

pub returns-then-begins_with_bracket : goal.returns-then-begins_with_bracket
returns-then-begins_with_bracket c =
    rw (ipv6_pattern-bytes c.args.pattern.now c.utf8.pattern, ← c.if-ne.ensures)
    (or-first _ _ c.begins_with_bracket.result (c.begins_with_bracket.ensures ∙ ap (begins_with (is_mark (codes "["))) c.without_first.ensures.value) c.if-begins_with_bracket.true)

pub returns-else-ne : goal.returns-else-ne
returns-else-ne c = rw (ipv6_pattern-bytes c.args.pattern.now c.utf8.pattern, ← c.if-ne.ensures) c.if-ne.false

pub returns-else-begins_with_bracket : goal.returns-else-begins_with_bracket
returns-else-begins_with_bracket c =
    rw (ipv6_pattern-bytes c.args.pattern.now c.utf8.pattern, ← c.if-ne.ensures)
    (or-second _ _ c.begins_with_bracket.result c.begins_with_bracket-else-begins_with_bracket.result
    (c.begins_with_bracket.ensures ∙ ap (begins_with (is_mark (codes "["))) c.without_first.ensures.value) c.if-begins_with_bracket.false
    (c.begins_with_bracket-else-begins_with_bracket.ensures ∙ ap (begins_with (is_mark (codes "["))) c.without_first-else-begins_with_bracket.ensures.value))
