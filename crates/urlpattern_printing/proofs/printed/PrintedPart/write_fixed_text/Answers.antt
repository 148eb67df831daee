use Rattle.std.proofs.Common.{rules, ◌≡◌, sym, not, List, ℕ, subst}
use Rattle.std.specs.Str.{chars}
use Rattle.urlpattern_printing.proofs.PrintedTexts.{escaped-by, fixed-as}
use Rattle.urlpattern_meaning.specs.Printing.{escaped_pattern}
use Rattle.urlpattern_syntax.specs.Parts.{part_view}
use Rattle.urlpattern_syntax.specs.RegexpText.{is_unmodified}
use Rattle.urlpattern_syntax.specs.Text.{text_of}
use Rattle.urlpattern_syntax.specs.Writing.{escaped_text}
use Rattle.urlpattern_printing.proofs.printed.PrintedPart.write_fixed_text.Goals as goal

pub write_to-requires : goal.write_to-requires
write_to-requires g c =
    let part = c.args.self.now.part.now in
    let braces : c.ne-braces.result ≡ not (is_unmodified part.modifier) = search rules in
    let value : escaped_text c.pattern-inner.result ≡ escaped_pattern (text_of part.value) = escaped-by c.pattern-inner.ensures c.deref.ensures in
    subst (λ (text : List ℕ). g.W.Writer.Fits c.args.writer.now text) (sym (fixed-as (part_view part) c.ne-braces.result (escaped_text c.pattern-inner.result) (chars c.as_str.result.now) braces value c.as_str.ensures.text)) c.requires

pub returns : goal.returns
returns g c =
    let part = c.args.self.now.part.now in
    let braces : c.ne-braces.result ≡ not (is_unmodified part.modifier) = search rules in
    let value : escaped_text c.pattern-inner.result ≡ escaped_pattern (text_of part.value) = escaped-by c.pattern-inner.ensures c.deref.ensures in
    subst (λ (text : List ℕ). g.W.Writer.Writes c.args.writer.now text c.write_to.new.writer) (fixed-as (part_view part) c.ne-braces.result (escaped_text c.pattern-inner.result) (chars c.as_str.result.now) braces value c.as_str.ensures.text) c.write_to.ensures
