use Rattle.std.proofs.Common.{ap, sym, ◌∙◌}
use Rattle.std.specs.Prelude.{◌&&◌}
use Rattle.std.specs.Str.{chars}
use Rattle.urlpattern_generate.proofs.GroupLemmas.{none_tested}
use Rattle.urlpattern_generate.proofs.group_copies.is_of_no_copies.Goals as goal
use Rattle.urlpattern_syntax.proofs.StringTexts.{is_empty-str}
use Rattle.urlpattern_syntax.specs.{RegexpText.is_empty, Text.text_of}

pub returns-then-is_bare : goal.returns-then-is_bare
returns-then-is_bare c =
    let empty = is_empty (chars c.args.text.now) in
    none_tested c.args.part.now.modifier (is_empty (text_of c.args.part.now.prefix) && is_empty (text_of c.args.part.now.suffix)) c.is_bare.result (chars c.args.text.now) c.is_empty.result
    c.in-ZeroOrMore.is c.is_bare.ensures (c.is_empty.ensures ∙ sym (is_empty-str c.args.text.now c.utf8.text) ∙ ap (λ b. b && empty) (sym c.if-is_bare.true))

pub returns-else-is_bare : goal.returns-else-is_bare
returns-else-is_bare c =
    let empty = is_empty (chars c.args.text.now) in
    none_tested c.args.part.now.modifier (is_empty (text_of c.args.part.now.prefix) && is_empty (text_of c.args.part.now.suffix)) c.is_bare.result (chars c.args.text.now) c.is_bare.result
    c.in-ZeroOrMore.is c.is_bare.ensures (c.if-is_bare.false ∙ ap (λ b. b && empty) (sym c.if-is_bare.false))
