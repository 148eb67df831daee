-- The captures that groups are to have are unique. Captures of a match that are given for the
-- groups are the captures to have.
use Rattle.std.proofs.Common.{◌≡◌, ℕ, List, [], ◌∷◌, ap, arith, inl, inr, refl, sym, subst, ◌∙◌, Option, Some, None, map}
use Rattle.std.proofs.lemmas.List.Elements.{All-head, All-tail}
use Rattle.std.specs.Prelude.{filter, not, if◌then◌else◌}
use Rattle.url.specs.Parser.{Parsed}
use Rattle.urlpattern_generate.specs.Requested.{AreRequested, IsRequested, IsRequestedBy, capture_by_modifier}
use Rattle.urlpattern_generate.specs.WriteSettings.{WriteSettings}
use Rattle.urlpattern_laws.specs.LinkLaws.{AreCanonical, IsCanonicalCapture}
use Rattle.urlpattern_generate.specs.Links.{MayCapture, MayCaptureAll, OfFirst, captures_after}
use Rattle.urlpattern_meaning.specs.PartMeaning.{Allows, Captures, capture_of_no_copies}
use Rattle.urlpattern_syntax.specs.declared.parser.PartModifier.{PartModifier}
use Rattle.urlpattern_syntax.specs.declared.parser.PartModifier.TheVariants as modifiers
use Rattle.urlpattern_syntax.specs.declared.parser.PartType.{PartType}
use Rattle.urlpattern_syntax.specs.declared.parser.PartType.TheVariants.{FixedText, FullWildcard, Regexp, SegmentWildcard}
use Rattle.urlpattern_syntax.specs.Options.{OptionsView}
use Rattle.urlpattern_syntax.specs.Parts.{PartView}
use Rattle.urlpattern_syntax.specs.RegexpText.{group_names, is_fixed_text}
use Rattle.urlpattern_pattern.proofs.GivenCaptures.{names_first}

-- ---- captures are unique

asked_once : (canonical : List ℕ → Parsed (List ℕ)) (given : Option (List ℕ)) (part : PartView) (capture other : Option (List ℕ)) →
    IsRequestedBy canonical given part capture → IsRequestedBy canonical given part other → capture ≡ other
asked_once canonical None part capture other is also = is ∙ sym also
asked_once canonical (Some text) part capture other (value, is, e) (another, also, f) = cc (is, e, also, f)

first_once : (settings : WriteSettings) (kind : PartType) (part : PartView) (captures others : Captures) → OfFirst (IsRequested settings) kind part captures → OfFirst (IsRequested settings) kind part others →
    captures_after kind captures ≡ captures_after kind others → captures ≡ others
first_once settings FixedText part captures others is also e = e
first_once settings Regexp part [] others is also e = absurd is
first_once settings Regexp part (capture ∷ captures) [] is also e = absurd also
first_once settings Regexp part (capture ∷ captures) (other ∷ others) is also e = λ i. asked_once settings.canonical (settings.given part.name) part capture other is also i ∷ e i
first_once settings SegmentWildcard part [] others is also e = absurd is
first_once settings SegmentWildcard part (capture ∷ captures) [] is also e = absurd also
first_once settings SegmentWildcard part (capture ∷ captures) (other ∷ others) is also e = λ i. asked_once settings.canonical (settings.given part.name) part capture other is also i ∷ e i
first_once settings FullWildcard part [] others is also e = absurd is
first_once settings FullWildcard part (capture ∷ captures) [] is also e = absurd also
first_once settings FullWildcard part (capture ∷ captures) (other ∷ others) is also e = λ i. asked_once settings.canonical (settings.given part.name) part capture other is also i ∷ e i

-- The captures that the groups of parts are to have are unique.
pub asked_one : (settings : WriteSettings) (parts : List PartView) (captures others : Captures) → AreRequested settings parts captures → AreRequested settings parts others → captures ≡ others
asked_one settings [] captures others are also = are ∙ sym also
asked_one settings (part ∷ parts) captures others are also =
    first_once settings part.kind part captures others are.0 also.0
    (asked_one settings parts (captures_after part.kind captures) (captures_after part.kind others) are.1 also.1)

-- ---- the captures of a match, given again

none_again : (modifier : PartModifier) (part : PartView) → Allows modifier 0 → None ≡ capture_of_no_copies part → None ≡ capture_by_modifier modifier part
none_again modifiers.None part allowed e = absurd (omega (arith, allowed))
none_again modifiers.Optional part allowed e = refl
none_again modifiers.ZeroOrMore part allowed e = e
none_again modifiers.OneOrMore part allowed e = absurd (omega (arith, allowed))

capture_again : (canonical : List ℕ → Parsed (List ℕ)) (options : OptionsView) (part : PartView) (capture : Option (List ℕ)) → MayCapture options part capture →
    IsCanonicalCapture canonical capture → IsRequestedBy canonical capture part capture
capture_again canonical options part None (inl (allowed, e)) is = none_again part.modifier part allowed e
capture_again canonical options part None (inr never) is = absurd never
capture_again canonical options part (Some text) may is = (text, is, refl)

-- The first part and the parts after it are to have the captures found.
record AreAgain (settings : WriteSettings) (kind : PartType) (part : PartView) (names : List (List ℕ)) (found : Captures) : Type 0 where
  first : OfFirst (IsRequested settings) kind part found
  given : map settings.given names ≡ captures_after kind found
  canonical : AreCanonical settings.canonical (captures_after kind found)

group_again : (settings : WriteSettings) (options : OptionsView) (part : PartView) (capture given : Option (List ℕ)) → given ≡ capture → MayCapture options part capture →
    IsCanonicalCapture settings.canonical capture → IsRequestedBy settings.canonical given part capture
group_again settings options part capture given e may is =
    subst (λ g. IsRequestedBy settings.canonical g part capture) (sym e) (capture_again settings.canonical options part capture may is)

head_of : (given capture : Option (List ℕ)) (others captures : Captures) → given ∷ others ≡ capture ∷ captures → given ≡ capture
head_of given capture others captures e = cc e

tail_of : (given capture : Option (List ℕ)) (others captures : Captures) → given ∷ others ≡ capture ∷ captures → others ≡ captures
tail_of given capture others captures e = cc e

-- If the first part is a group, the group and the parts after it are to have the captures found.
first_again : (settings : WriteSettings) (options : OptionsView) (kind : PartType) (part : PartView) (names : List (List ℕ)) (found : Captures) →
    map settings.given (if not (is_fixed_text kind) then part.name ∷ names else names) ≡ found → OfFirst (MayCapture options) kind part found → AreCanonical settings.canonical found →
    AreAgain settings kind part names found
first_again settings options FixedText part names found e may are = record { first = tt; given = e; canonical = are }
first_again settings options Regexp part names [] e may are = absurd may
first_again settings options Regexp part names (capture ∷ captures) e may are = record {
  first = group_again settings options part capture (settings.given part.name) (head_of (settings.given part.name) capture (map settings.given names) captures e) may (All-head (IsCanonicalCapture settings.canonical) capture captures are);
  given = tail_of (settings.given part.name) capture (map settings.given names) captures e;
  canonical = All-tail (IsCanonicalCapture settings.canonical) capture captures are;
}
first_again settings options SegmentWildcard part names [] e may are = absurd may
first_again settings options SegmentWildcard part names (capture ∷ captures) e may are = record {
  first = group_again settings options part capture (settings.given part.name) (head_of (settings.given part.name) capture (map settings.given names) captures e) may (All-head (IsCanonicalCapture settings.canonical) capture captures are);
  given = tail_of (settings.given part.name) capture (map settings.given names) captures e;
  canonical = All-tail (IsCanonicalCapture settings.canonical) capture captures are;
}
first_again settings options FullWildcard part names [] e may are = absurd may
first_again settings options FullWildcard part names (capture ∷ captures) e may are = record {
  first = group_again settings options part capture (settings.given part.name) (head_of (settings.given part.name) capture (map settings.given names) captures e) may (All-head (IsCanonicalCapture settings.canonical) capture captures are);
  given = tail_of (settings.given part.name) capture (map settings.given names) captures e;
  canonical = All-tail (IsCanonicalCapture settings.canonical) capture captures are;
}

-- Captures that groups may have are those that they are to have, if they are given for the groups.
pub given_again : (settings : WriteSettings) (options : OptionsView) (parts : List PartView) (found : Captures) → map settings.given (group_names parts) ≡ found →
    MayCaptureAll options parts found → AreCanonical settings.canonical found → AreRequested settings parts found
given_again settings options [] found e may are = may
given_again settings options (part ∷ parts) found e may are =
    let again = first_again settings options part.kind part (group_names parts) found
    (ap (map settings.given) (sym (names_first (not (is_fixed_text part.kind)) part (filter (λ (p : PartView). not (is_fixed_text p.kind)) parts))) ∙ e) may.0 are in
    (again.first, given_again settings options parts (captures_after part.kind found) again.given may.1 again.canonical)
