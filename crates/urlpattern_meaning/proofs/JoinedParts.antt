-- Neighbouring plain fixed texts made one: properties of the parts that the joined parts have too.
use Rattle.std.proofs.Common.{◌≡◌, ℕ, Bool, true, false, List, [], ◌∷◌, ◌++◌, refl, sym, ap, ◌∙◌, subst}
use Rattle.std.specs.Prelude.{IsTrue, AllPairs, ◌&&◌, filter, map, not, if◌then◌else◌}
use Rattle.std.specs.List.{list_all}
use Rattle.std.proofs.lemmas.Bool.{and_from, and_parts}
use Rattle.std.proofs.lemmas.List.Folds.{list_all-append}
use Rattle.urlpattern_syntax.specs.declared.parser.PartType.{PartType}
use Rattle.urlpattern_syntax.specs.declared.parser.PartType.TheVariants.{FixedText}
use Rattle.urlpattern_syntax.specs.Options.{OptionsView}
use Rattle.urlpattern_syntax.specs.Parts.{PartView}
use Rattle.urlpattern_syntax.specs.RegexpText.{group_names, is_fixed_text, is_plain}
use Rattle.urlpattern_syntax.specs.Tokens.{is_ignored}
use Rattle.urlpattern_meaning.specs.Printing.{joined, joined_with}
use Rattle.urlpattern_meaning.specs.RoundTrip.{AllFieldsFit, AreNamed, ArePatternParts, AreUnskipped, FieldsFitKind, HasUnskipped, IsNamed, IsUnskipped, following_number}
use Rattle.urlpattern_meaning.proofs.MeaningLaws.{with_value}
use Rattle.urlpattern_meaning.proofs.PrintingLaws.{plain_kind}
use Rattle.urlpattern_meaning.proofs.RoundTripWords.{AreApart}

-- ---- the first part and the next, joined or not

-- A part before others, made one with the next where `both` is set.
abbrev pub pair : Bool → PartView → PartView → List PartView → List PartView
pair both part next parts = if both then with_value part (part.value ++ next.value) ∷ parts else part ∷ next ∷ parts

-- Where two parts are made one, both are fixed texts.
record BothFixed (both : Bool) (part next : PartView) : Type 0 where
  pub first : IsTrue both → part.kind ≡ FixedText
  pub second : IsTrue both → next.kind ≡ FixedText

both_fixed : (part next : PartView) → BothFixed (is_plain part && is_plain next) part next
both_fixed part next = record {
  first = λ h. plain_kind part.kind part.modifier (and_parts (is_plain part) (is_plain next) h).0;
  second = λ h. plain_kind next.kind next.modifier (and_parts (is_plain part) (is_plain next) h).1;
}

-- ---- fields

value_fields : (options : OptionsView) (kind : PartType) (part : PartView) (value : List ℕ) → kind ≡ FixedText → FieldsFitKind options kind part → FieldsFitKind options kind (with_value part value)
value_fields options FixedText part value e h = h
value_fields options kind part value e h = absurd (cc e)

fields_pair : (options : OptionsView) (both : Bool) (part next : PartView) (parts : List PartView) → BothFixed both part next → AllFieldsFit options (part ∷ next ∷ parts) → AllFieldsFit options (pair both part next parts)
fields_pair options true part next parts fixed h = (value_fields options part.kind part (part.value ++ next.value) (fixed.first refl) h.0, h.1.1)
fields_pair options false part next parts fixed h = h

fields_first : (options : OptionsView) (part : PartView) (parts : List PartView) → FieldsFitKind options part.kind part → AllFieldsFit options parts → AllFieldsFit options (joined_with part parts)
fields_first options part [] h more = (h, more)
fields_first options part (next ∷ parts) h more = fields_pair options (is_plain part && is_plain next) part next parts (both_fixed part next) (h, more)

joined_fields : (options : OptionsView) (parts : List PartView) → AllFieldsFit options parts → AllFieldsFit options (joined parts)
joined_fields options [] h = h
joined_fields options (part ∷ parts) h = fields_first options part (joined parts) h.0 (joined_fields options parts h.1)

-- ---- names

fixed_number : (number : ℕ) (kind : PartType) (part : PartView) → kind ≡ FixedText → following_number number kind part ≡ number
fixed_number number FixedText part e = refl
fixed_number number kind part e = absurd (cc e)

names_pair : (number : ℕ) (both : Bool) (part next : PartView) (parts : List PartView) → BothFixed both part next → AreNamed number (part ∷ next ∷ parts) → AreNamed number (pair both part next parts)
names_pair number true part next parts fixed h =
    let one = with_value part (part.value ++ next.value) in
    let behind = fixed_number number part.kind part (fixed.first refl) in (
      h.0,
      subst (λ n. AreNamed n parts)
          (fixed_number (following_number number part.kind part) next.kind next (fixed.second refl) ∙ behind ∙ sym (fixed_number number part.kind one (fixed.first refl))) h.1.1,
    )
names_pair number false part next parts fixed h = h

names_first : (number : ℕ) (part : PartView) (parts : List PartView) → IsNamed number part.kind part.name → AreNamed (following_number number part.kind part) parts → AreNamed number (joined_with part parts)
names_first number part [] h more = (h, more)
names_first number part (next ∷ parts) h more = names_pair number (is_plain part && is_plain next) part next parts (both_fixed part next) (h, more)

joined_names : (number : ℕ) (parts : List PartView) → AreNamed number parts → AreNamed number (joined parts)
joined_names number [] h = h
joined_names number (part ∷ parts) h = names_first number part (joined parts) h.0 (joined_names (following_number number part.kind part) parts h.1)

-- The names of groups, where this kind is that of the first part.
abbrev names_by : PartType → PartView → List PartView → List (List ℕ)
names_by kind part parts = map (λ (one : PartView). one.name) (if not (is_fixed_text kind) then part ∷ filter (λ one. not (is_fixed_text one.kind)) parts else filter (λ one. not (is_fixed_text one.kind)) parts)

fixed_names : (kind : PartType) (part : PartView) (parts : List PartView) → kind ≡ FixedText → names_by kind part parts ≡ group_names parts
fixed_names FixedText part parts e = refl
fixed_names kind part parts e = absurd (cc e)

more_names : (kind : PartType) (part : PartView) (parts others : List PartView) → group_names parts ≡ group_names others → names_by kind part parts ≡ names_by kind part others
more_names FixedText part parts others e = e
more_names kind part parts others e = ap (λ x. part.name ∷ x) e

group_names_pair : (both : Bool) (part next : PartView) (parts : List PartView) → BothFixed both part next → group_names (pair both part next parts) ≡ group_names (part ∷ next ∷ parts)
group_names_pair true part next parts fixed =
    fixed_names part.kind (with_value part (part.value ++ next.value)) parts (fixed.first refl)
    ∙ sym (fixed_names next.kind next parts (fixed.second refl)) ∙ sym (fixed_names part.kind part (next ∷ parts) (fixed.first refl))
group_names_pair false part next parts fixed = refl

group_names_first : (part : PartView) (parts : List PartView) → group_names (joined_with part parts) ≡ group_names (part ∷ parts)
group_names_first part [] = refl
group_names_first part (next ∷ parts) = group_names_pair (is_plain part && is_plain next) part next parts (both_fixed part next)

-- Joining changes no group's name.
pub joined_group_names : (parts : List PartView) → group_names (joined parts) ≡ group_names parts
joined_group_names [] = refl
joined_group_names (part ∷ parts) = group_names_first part (joined parts) ∙ more_names part.kind part (joined parts) parts (joined_group_names parts)

pub joined_pattern_parts : (options : OptionsView) (parts : List PartView) → ArePatternParts options parts → ArePatternParts options (joined parts)
joined_pattern_parts options parts h = record {
  fields = joined_fields options parts h.fields;
  names = joined_names 0 parts h.names;
  distinct = subst (AllPairs (λ name other. (name ≡ other) → ⊥)) (sym (joined_group_names parts)) h.distinct;
}

-- ---- texts

unskipped-append : (text more : List ℕ) → IsUnskipped text → IsUnskipped more → IsUnskipped (text ++ more)
unskipped-append text more h g =
    list_all-append (λ c. not (is_ignored c)) text more ∙ and_from (list_all (λ c. not (is_ignored c)) text) (list_all (λ c. not (is_ignored c)) more) h g

value_unskipped : (kind : PartType) (part : PartView) → kind ≡ FixedText → HasUnskipped kind part → IsUnskipped part.value
value_unskipped FixedText part e h = h
value_unskipped kind part e h = absurd (cc e)

unskipped_value : (kind : PartType) (part : PartView) → kind ≡ FixedText → IsUnskipped part.value → HasUnskipped kind part
unskipped_value FixedText part e h = h
unskipped_value kind part e h = absurd (cc e)

unskipped_pair : (both : Bool) (part next : PartView) (parts : List PartView) → BothFixed both part next → AreUnskipped (part ∷ next ∷ parts) → AreUnskipped (pair both part next parts)
unskipped_pair true part next parts fixed h = (
  unskipped_value part.kind (with_value part (part.value ++ next.value)) (fixed.first refl)
      (unskipped-append part.value next.value (value_unskipped part.kind part (fixed.first refl) h.0) (value_unskipped next.kind next (fixed.second refl) h.1.0)),
  h.1.1,
)
unskipped_pair false part next parts fixed h = h

unskipped_first : (part : PartView) (parts : List PartView) → HasUnskipped part.kind part → AreUnskipped parts → AreUnskipped (joined_with part parts)
unskipped_first part [] h more = (h, more)
unskipped_first part (next ∷ parts) h more = unskipped_pair (is_plain part && is_plain next) part next parts (both_fixed part next) (h, more)

pub joined_unskipped : (parts : List PartView) → AreUnskipped parts → AreUnskipped (joined parts)
joined_unskipped [] h = h
joined_unskipped (part ∷ parts) h = unskipped_first part (joined parts) h.0 (joined_unskipped parts h.1)

-- ---- neighbours

-- A part made of two is apart from the next where the second part is.
apart_one : (part next : PartView) (parts : List PartView) → IsTrue (is_plain part) → IsTrue (is_plain next) → AreApart (next ∷ parts) → AreApart (with_value part (part.value ++ next.value) ∷ parts)
apart_one part next [] plain plain_next h = tt
apart_one part next (third ∷ parts) plain plain_next h = (ap (λ b. b && is_plain third) (plain ∙ sym plain_next) ∙ h.0, h.1)

apart_pair : (both : Bool) (part next : PartView) (parts : List PartView) → is_plain part && is_plain next ≡ both → AreApart (next ∷ parts) → AreApart (pair both part next parts)
apart_pair true part next parts e h = let plain = and_parts (is_plain part) (is_plain next) e in apart_one part next parts plain.0 plain.1 h
apart_pair false part next parts e h = (e, h)

apart_first : (part : PartView) (parts : List PartView) → AreApart parts → AreApart (joined_with part parts)
apart_first part [] h = tt
apart_first part (next ∷ parts) h = apart_pair (is_plain part && is_plain next) part next parts refl h

-- No two neighbours among joined parts are plain fixed texts.
pub joined_apart : (parts : List PartView) → AreApart (joined parts)
joined_apart [] = tt
joined_apart (part ∷ parts) = apart_first part (joined parts) (joined_apart parts)
