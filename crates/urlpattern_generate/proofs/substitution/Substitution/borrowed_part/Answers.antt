use Rattle.std.proofs.Common.{◌≡◌, ◌∙◌, rules, sym}
use Rattle.urlpattern_generate.proofs.WritingLemmas.{lent_if}
use Rattle.urlpattern_generate.specs.WrittenTexts.{settings_of_writer}
use Rattle.urlpattern_syntax.specs.Parts.{part_view}
use Rattle.urlpattern_syntax.specs.declared.parser.PartModifier.TheVariants as modifiers
use Rattle.urlpattern_generate.proofs.substitution.Substitution.borrowed_part.Goals as goal

pub returns-in-FullWildcard : goal.returns-in-FullWildcard
returns-in-FullWildcard c =
    let none : c.args.part.now.modifier ≡ modifiers.None = search rules in
    lent_if (settings_of_writer c.args.self.now) (part_view c.args.part.now) c.borrowed_capture.result c.in-FullWildcard.is none (sym c.is_bare.ensures ∙ c.if-is_bare.true)
    c.borrowed_capture.ensures.asked c.borrowed_capture.ensures.line
