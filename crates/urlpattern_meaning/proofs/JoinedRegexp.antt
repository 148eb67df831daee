-- Neighbouring plain fixed texts have the same regular expression, and the same names, as one.
use Rattle.std.proofs.Common.{◌≡◌, ℕ, List, [], ◌∷◌, ◌++◌, refl, sym, ap, Bool, true, false, append_assoc, ◌∙◌}
use Rattle.std.specs.List.{flat_map}
use Rattle.std.specs.Prelude.{IsTrue, ◌&&◌, codes, filter, if◌then◌else◌, map, not}
use Rattle.urlpattern_meaning.specs.Printing.{joined, joined_with}
use Rattle.urlpattern_syntax.specs.declared.parser.PartModifier.{PartModifier}
use Rattle.urlpattern_syntax.specs.declared.parser.PartModifier.TheVariants as modifiers
use Rattle.urlpattern_syntax.specs.declared.parser.PartType.{PartType}
use Rattle.urlpattern_syntax.specs.declared.parser.PartType.TheVariants.{FixedText}
use Rattle.urlpattern_syntax.specs.Options.{OptionsView}
use Rattle.urlpattern_syntax.specs.Parts.{PartView}
use Rattle.urlpattern_syntax.specs.RegexpText.{escaped_marks, escaped_regexp, group_names, is_fixed_text, is_plain, is_unmodified, part_regexp, regexp_text}
use Rattle.urlpattern_meaning.proofs.MatchingLaws.{part_of}
use Rattle.urlpattern_meaning.proofs.MeaningLaws.{with_value}
use Rattle.urlpattern_syntax.proofs.Escaped.{escaped-append}
use Rattle.urlpattern_syntax.proofs.TokenExamples.{no}

-- ---- the regular expression

regexp_by : (options : OptionsView) (kind : PartType) (modifier : PartModifier) (value name prefix suffix : List ℕ) → IsTrue (is_fixed_text kind && is_unmodified modifier) →
    part_regexp options (part_of kind modifier value name prefix suffix) ≡ escaped_regexp options value
unfolding part_regexp
regexp_by options FixedText modifiers.None value name prefix suffix h = refl
regexp_by options kind modifier value name prefix suffix h = absurd (no h)

plain_regexp : (options : OptionsView) (part : PartView) → IsTrue (is_plain part) → part_regexp options part ≡ escaped_regexp options part.value
plain_regexp options part h = regexp_by options part.kind part.modifier part.value part.name part.prefix part.suffix h

-- Two plain fixed texts as one.
two_regexps : (options : OptionsView) (part next : PartView) → IsTrue (is_plain part) → IsTrue (is_plain next) →
    part_regexp options (with_value part (part.value ++ next.value)) ≡ part_regexp options part ++ part_regexp options next
two_regexps options part next plain plain_next =
    plain_regexp options (with_value part (part.value ++ next.value)) plain
    ∙ escaped-append (escaped_marks options.syntax) part.value next.value
    ∙ ap (λ t. t ++ escaped_regexp options next.value) (sym (plain_regexp options part plain))
    ∙ ap (λ t. part_regexp options part ++ t) (sym (plain_regexp options next plain_next))

regexp_pair : (options : OptionsView) (part next : PartView) (parts : List PartView) (plain plain_next : Bool) → is_plain part ≡ plain → is_plain next ≡ plain_next →
    flat_map (part_regexp options) (if plain && plain_next then with_value part (part.value ++ next.value) ∷ parts else part ∷ next ∷ parts) ≡ flat_map (part_regexp options) (part ∷ next ∷ parts)
regexp_pair options part next parts true true e f =
    ap (λ t. t ++ flat_map (part_regexp options) parts) (two_regexps options part next e f) ∙ append_assoc (part_regexp options part) (part_regexp options next) (flat_map (part_regexp options) parts)
regexp_pair options part next parts plain plain_next e f = refl

regexp_first : (options : OptionsView) (part : PartView) (parts : List PartView) → flat_map (part_regexp options) (joined_with part parts) ≡ flat_map (part_regexp options) (part ∷ parts)
regexp_first options part [] = refl
regexp_first options part (next ∷ parts) = regexp_pair options part next parts (is_plain part) (is_plain next) refl refl

regexps_joined : (options : OptionsView) (parts : List PartView) → flat_map (part_regexp options) (joined parts) ≡ flat_map (part_regexp options) parts
regexps_joined options [] = refl
regexps_joined options (part ∷ parts) = regexp_first options part (joined parts) ∙ ap (λ t. part_regexp options part ++ t) (regexps_joined options parts)

pub regexp_joined : (options : OptionsView) (parts : List PartView) → regexp_text options (joined parts) ≡ regexp_text options parts
regexp_joined options parts = ap (λ t. codes "^" ++ t ++ codes "$") (regexps_joined options parts)

-- ---- the names

plain_fixed : (kind : PartType) (modifier : PartModifier) → IsTrue (is_fixed_text kind && is_unmodified modifier) → is_fixed_text kind ≡ true
plain_fixed FixedText modifier h = refl
plain_fixed kind modifier h = absurd (no h)

names_pair : (part next : PartView) (parts : List PartView) (plain plain_next : Bool) → is_plain part ≡ plain → is_plain next ≡ plain_next →
    group_names (if plain && plain_next then with_value part (part.value ++ next.value) ∷ parts else part ∷ next ∷ parts) ≡ group_names (part ∷ next ∷ parts)
names_pair part next parts true true e f = rw (plain_fixed part.kind part.modifier e, plain_fixed next.kind next.modifier f)
names_pair part next parts plain plain_next e f = refl

names_first : (part : PartView) (parts : List PartView) → group_names (joined_with part parts) ≡ group_names (part ∷ parts)
names_first part [] = refl
names_first part (next ∷ parts) = names_pair part next parts (is_plain part) (is_plain next) refl refl

pub same_names_after : (part : PartView) (parts others : List PartView) → group_names parts ≡ group_names others → group_names (part ∷ parts) ≡ group_names (part ∷ others)
same_names_after part parts others e = go (is_fixed_text part.kind)
  where
    go : (is_fixed : Bool) →
        map (λ (p : PartView). p.name) (if not is_fixed then part ∷ filter (λ (p : PartView). not (is_fixed_text p.kind)) parts else filter (λ (p : PartView). not (is_fixed_text p.kind)) parts)
        ≡ map (λ (p : PartView). p.name) (if not is_fixed then part ∷ filter (λ (p : PartView). not (is_fixed_text p.kind)) others else filter (λ (p : PartView). not (is_fixed_text p.kind)) others)
    go true = e
    go false = ap (λ names. part.name ∷ names) e

pub names_joined : (parts : List PartView) → group_names (joined parts) ≡ group_names parts
names_joined [] = refl
names_joined (part ∷ parts) = names_first part (joined parts) ∙ same_names_after part (joined parts) parts (names_joined parts)
