use Rattle.std.proofs.Common.{◌∙◌, bytes_eq, not, sym}
use Rattle.std.proofs.Math.Bool.{and_assoc}
use Rattle.urlpattern_meaning.specs.Printing.{last_of}
use Rattle.urlpattern_syntax.proofs.StringTexts.{is_empty-text}
use Rattle.urlpattern_syntax.specs.RegexpText.{is_empty, is_fixed_text}
use Rattle.urlpattern_syntax.specs.Text.{text_of}
use Rattle.urlpattern_printing.proofs.printed.absorbs_before.Goals as goal

pub returns-then-is_empty : goal.returns-then-is_empty
returns-then-is_empty c =
    let before = c.in-Some.previous.now in
    let in_order = and_assoc (is_fixed_text before.kind) (not (is_empty (text_of before.value))) (bytes_eq (last_of (text_of before.value)) (text_of c.args.options.now.prefix_code_point)) in
    rw (c.in-Some.is, is_empty-text c.args.part.now.prefix, ← c.is_empty.ensures, c.if-is_empty.true) (c.is_text_ending_with_prefix.ensures ∙ sym in_order)

pub returns-else-is_empty : goal.returns-else-is_empty
returns-else-is_empty c = rw (c.in-Some.is, is_empty-text c.args.part.now.prefix, ← c.is_empty.ensures, c.if-is_empty.false)
