-- Printed parts are read one by one: the tokens, the pieces and the items of a printed list of
-- parts.
use Rattle.std.proofs.Common.{◌≡◌, ◌≢◌, ℕ, false, List, [], ◌∷◌, ◌++◌, Option, Some, None, refl, ap, subst}
use Rattle.std.specs.Prelude.{IsTrue}
use Rattle.std.proofs.lemmas.Bool.{and_from}
use Rattle.urlpattern_syntax.specs.declared.parser.PartModifier.{PartModifier}
use Rattle.urlpattern_syntax.specs.declared.parser.PartModifier.TheVariants as modifiers
use Rattle.urlpattern_syntax.specs.declared.parser.PartType.{PartType}
use Rattle.urlpattern_syntax.specs.declared.parser.PartType.TheVariants.{FixedText}
use Rattle.urlpattern_syntax.specs.Options.{OptionsView}
use Rattle.urlpattern_syntax.specs.Parts.{PartView}
use Rattle.urlpattern_syntax.specs.RegexpText.{is_fixed_text, is_unmodified}
use Rattle.urlpattern_syntax.specs.Tokens.{end_of}
use Rattle.urlpattern_meaning.specs.Printing.{HaveTexts, printed}
use Rattle.urlpattern_meaning.specs.RoundTrip.{AllFieldsFit, AreNamed, ArePatternParts, AreUnskipped, FieldsFitKind, HasUnskipped, IsNamed, IsPrefixPoint, IsUnskipped, following_number}
use Rattle.urlpattern_meaning.proofs.PrintedAfter.{ReadsBack, reads_end}
use Rattle.urlpattern_meaning.proofs.PrintedCaptures.{step_group}
use Rattle.urlpattern_meaning.proofs.PrintedFixed.{step_modified, step_plain}
use Rattle.urlpattern_meaning.proofs.PrintedTokens.{run_tokens}
use Rattle.urlpattern_meaning.proofs.RoundTripWords.{AreApart, PrintsItsParts}

-- ---- one part

apart_rest : (part : PartView) (parts : List PartView) → AreApart (part ∷ parts) → AreApart parts
apart_rest part [] h = tt
apart_rest part (next ∷ parts) h = h.1

-- The properties of a part before others that are read back.
record IsBefore (options : OptionsView) (whole : List ℕ) (number : ℕ) (part : PartView) (parts : List PartView) : Type 0 where
  pub point : IsPrefixPoint options.prefix
  pub fields : FieldsFitKind options part.kind part
  pub named : IsNamed number part.kind part.name
  pub filled : IsTrue (is_fixed_text part.kind) → part.value ≢ []
  pub unskipped : HasUnskipped part.kind part
  pub apart : AreApart (part ∷ parts)
  pub more : ReadsBack options whole (Some part) (following_number number part.kind part) parts

step_fixed : (options : OptionsView) (whole : List ℕ) (before : Option PartView) (number : ℕ) (part : PartView) (parts : List PartView) (modifier : PartModifier) → part.kind ≡ FixedText → part.modifier ≡ modifier → IsBefore options whole number part parts → ReadsBack options whole before number (part ∷ parts)
step_fixed options whole before number part parts modifiers.None e f is =
    let fields = subst (λ kind. FieldsFitKind options kind part) e is.fields in
    step_plain options whole before number part parts (and_from _ _ (ap is_fixed_text e) (ap is_unmodified f)) (is.filled (ap is_fixed_text e))
    (subst (λ kind. HasUnskipped kind part) e is.unskipped) fields.0 fields.1 is.apart
    (subst (λ kind. ReadsBack options whole (Some part) (following_number number kind part) parts) e is.more)
step_fixed options whole before number part parts modifier e f is =
    step_modified options whole before number part parts (ap is_fixed_text e) (ap is_unmodified f)
    (subst (λ kind. HasUnskipped kind part) e is.unskipped) (subst (λ kind. ReadsBack options whole (Some part) (following_number number kind part) parts) e is.more)

step_capture : (options : OptionsView) (whole : List ℕ) (before : Option PartView) (number : ℕ) (part : PartView) (parts : List PartView) → is_fixed_text part.kind ≡ false → IsUnskipped part.prefix → IsUnskipped part.suffix → IsBefore options whole number part parts → ReadsBack options whole before number (part ∷ parts)
step_capture options whole before number part parts group prefix suffix is =
    step_group options whole before number part parts (record { group = group; fields = is.fields; named = is.named; prefix = prefix; suffix = suffix }) is.more is.point

step : (options : OptionsView) (whole : List ℕ) (before : Option PartView) (number : ℕ) (kind : PartType) (part : PartView) (parts : List PartView) → part.kind ≡ kind → IsBefore options whole number part parts → ReadsBack options whole before number (part ∷ parts)
step options whole before number FixedText part parts e is = step_fixed options whole before number part parts part.modifier e refl is
step options whole before number kind part parts e is =
    let unskipped = subst (λ k. HasUnskipped k part) e is.unskipped in
    step_capture options whole before number part parts (ap is_fixed_text e) unskipped.0 unskipped.1 is

-- ---- all parts

reads_back : (options : OptionsView) (whole : List ℕ) (before : Option PartView) (number : ℕ) (parts : List PartView) → IsPrefixPoint options.prefix → AllFieldsFit options parts → AreNamed number parts → HaveTexts parts → AreUnskipped parts → AreApart parts →
    ReadsBack options whole before number parts
reads_back options whole before number [] point fields named filled unskipped apart = reads_end options whole before number
reads_back options whole before number (part ∷ parts) point fields named filled unskipped apart =
    step options whole before number part.kind part parts refl (record {
      point = point;
      fields = fields.0;
      named = named.0;
      filled = filled.0;
      unskipped = unskipped.0;
      apart = apart;
      more = reads_back options whole (Some part) (following_number number part.kind part) parts point fields.1 named.1 filled.1 unskipped.1 (apart_rest part parts apart);
    })

-- Parts that are apart print as a text whose tokens and pieces spell the parts, one by one.
pub prints_its_parts : (options : OptionsView) (parts : List PartView) → IsPrefixPoint options.prefix → ArePatternParts options parts → HaveTexts parts → AreUnskipped parts → AreApart parts → PrintsItsParts options parts
prints_its_parts options parts point are filled unskipped apart =
    let read = reads_back options (printed options parts) None 0 parts point are.fields are.names filled unskipped apart in
    record {
      tokens = read.tokens ++ end_of (printed options parts) ∷ [];
      pieces = read.pieces;
      are_tokens = run_tokens (printed options parts) read.tokens read.run;
      are_pieces = read.are_pieces;
      are_items = read.are_items;
    }
