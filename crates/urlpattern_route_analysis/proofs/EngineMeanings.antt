-- What automata may mean: what an engine matches of patterns that it made of their parts.
use Rattle.std.proofs.Common.{◌≡◌, ◌∙◌, ◌↔◌, ℕ, zero, suc, Bool, true, false, true≢false, List, [], ◌∷◌, ◌++◌, None, Option, Some, ap, inl, inr, map, refl, slice_get, subst, sym}
use Rattle.std.proofs.lemmas.List.{append-nil}
use Rattle.std.proofs.lemmas.List.Elements.{All-cons, All-head, All-nil, All-tail, All-weaker}
use Rattle.std.proofs.lemmas.Option.{none-some, same_Some}
use Rattle.std.specs.Prelude.{All, IsTrue, is_some}
use Rattle.urlpattern_compare.proofs.SameParts.{known_or_not, same_flips, same_within}
use Rattle.urlpattern_compare.specs.CommonTexts.{AreMeanings, MeanAlike, MeansByParts, PatternMeaning, parts_of}
use Rattle.urlpattern_compare.specs.Comparing.{AreSame, IsKnown}
use Rattle.urlpattern_compare.specs.TextSearch.{IsLine}
use Rattle.urlpattern_compare.specs.declared.common_texts.PatternAutomata.{PatternAutomata}
use Rattle.urlpattern_compare.specs.declared.pattern_parts.PatternParts.{PatternParts}
use Rattle.urlpattern_components.specs.Eight.{at}
use Rattle.urlpattern_components.specs.declared.eight.ComponentName.{ComponentName}
use Rattle.urlpattern_init.specs.UrlTexts.{IsLine as IsPlain}
use Rattle.urlpattern_laws.specs.PartReadings.{OwnPartsMean, SameAreMatched}
use Rattle.urlpattern_matcher.specs.declared.regexp.RegExp.{Ghosts as Engine}
use Rattle.urlpattern_meaning.specs.Matching.{IsMatched, MatcherView, Returns}
use Rattle.urlpattern_meaning.specs.PartMeaning.{Captures}
use Rattle.urlpattern_pattern.proofs.MatchersDecide.{answered}
use Rattle.urlpattern_pattern.specs.Patterns.{PatternView}
use Rattle.urlpattern_pattern.specs.UrlPatterns.{AreMadeOfParts}
use Rattle.urlpattern_route_analysis.specs.Making.{IsOfEngine}

bools_equal : (a b : Bool) → (IsTrue a → IsTrue b) → (IsTrue b → IsTrue a) → a ≡ b
bools_equal true true to from = refl
bools_equal false false to from = refl
bools_equal true false to from = sym (to refl)
bools_equal false true to from = from refl

plain_line : (text : List ℕ) → IsLine text → IsPlain text
plain_line text line = record { characters = line.scalars; no_line_feed = line.plain }

module _ {E : Type 0} (engine : Engine E) where
  -- Patterns that the engine made of the same parts match alike where the parts are not known.
  abbrev pub SameMatch : Type 0
  SameMatch =
      (pattern asked : PatternView E) (parts asked_parts : PatternParts) → AreMadeOfParts engine parts pattern → AreMadeOfParts engine asked_parts asked →
      SameAreMatched engine.answer pattern asked parts asked_parts

  abbrev pub matches : PatternView E → ComponentName → List ℕ → Bool
  matches view name text = is_some (answered engine.answer (view name).matcher text).0

  by_result : (matcher : MatcherView E) (text : List ℕ) (found : Option Captures) → Returns engine.answer matcher text found → IsTrue (is_some found) ↔ IsMatched engine.answer matcher text
  by_result matcher text None none = (λ never. absurd (true≢false (sym never)), λ matched. absurd (none matched.0 matched.1))
  by_result matcher text (Some captures) is = (λ yes. (captures, is), λ matched. refl)

  pub matches_are : (view : PatternView E) (name : ComponentName) (text : List ℕ) → IsTrue (matches view name text) ↔ IsMatched engine.answer (view name).matcher text
  matches_are view name text = let all = answered engine.answer (view name).matcher text in by_result (view name).matcher text all.0 all.1

  -- The meaning is what a pattern matches that the engine made of the parts.
  abbrev pub IsMade : PatternMeaning → Type 0
  IsMade it = (view : PatternView E) × AreMadeOfParts engine it.parts view × ((name : ComponentName) (text : List ℕ) → it.means name text ≡ matches view name text)

  -- What the pattern matches, as a meaning of its parts.
  abbrev pub meaning : PatternView E → PatternParts → PatternMeaning
  meaning view parts = record { parts = parts; means = matches view }

  pub is_made : (view : PatternView E) (parts : PatternParts) → AreMadeOfParts engine parts view → IsMade (meaning view parts)
  is_made view parts made = (view, made, λ name text. refl)

  module _ (mean : OwnPartsMean engine) (same_match : SameMatch) where
    by_parts : (it : PatternMeaning) → IsMade it → MeansByParts it
    by_parts it (view, made, means) name known text line =
        let matched = matches_are view name text in
        let meant = mean view it.parts made name known text (plain_line text line) in (
          λ is. meant.0 (matched.0 (sym (means name text) ∙ is)),
          λ is. means name text ∙ matched.1 (meant.1 is),
        )

    known_alike : (it other : PatternMeaning) → MeansByParts it → MeansByParts other → (name : ComponentName) → IsKnown (at it.parts.components name)
        → AreSame (at it.parts.components name) (at other.parts.components name) → (text : List ℕ) → IsLine text → it.means name text ≡ other.means name text
    known_alike it other own also name known same text line =
        let there = same_within (at it.parts.components name) (at other.parts.components name) same known in
        let back = same_within (at other.parts.components name) (at it.parts.components name) (same_flips (at it.parts.components name) (at other.parts.components name) same) there.asked_known in
        let mine = own name known text line in
        let others = also name there.asked_known text line in
        bools_equal (it.means name text) (other.means name text)
        (λ is. others.1 (back.within text line (mine.0 is)))
        (λ is. mine.1 (there.within text line (others.0 is)))

    unknown_alike : (it other : PatternMeaning) → IsMade it → IsMade other → (name : ComponentName) → ¬ IsKnown (at it.parts.components name)
        → AreSame (at it.parts.components name) (at other.parts.components name) → (text : List ℕ) → IsLine text → it.means name text ≡ other.means name text
    unknown_alike it other (view, made, means) (another, also_made, also_means) name unknown same text line =
        let flipped = same_flips (at it.parts.components name) (at other.parts.components name) same in
        let unknown_too : ¬ IsKnown (at other.parts.components name) = λ known. unknown (same_within (at other.parts.components name) (at it.parts.components name) flipped known).asked_known in
        let here = matches_are view name text in
        let there = matches_are another name text in
        means name text
        ∙ bools_equal (matches view name text) (matches another name text)
        (λ is. there.1 (same_match another view other.parts it.parts also_made made name unknown_too flipped text (plain_line text line) (here.0 is)))
        (λ is. here.1 (same_match view another it.parts other.parts made also_made name unknown same text (plain_line text line) (there.0 is)))
        ∙ sym (also_means name text)

    -- What the engine matches of the same parts is alike.
    pub mean_alike : (it other : PatternMeaning) → IsMade it → IsMade other → MeanAlike it other
    mean_alike it other own also name same text line = elim (known_or_not (at it.parts.components name)) [
      | inl known ↦ known_alike it other (by_parts it own) (by_parts other also) name known same text line
      | inr unknown ↦ unknown_alike it other own also name unknown same text line
    ]

    are_meanings : (meant : List PatternMeaning) (patterns : List PatternAutomata) → map (λ it. it.parts) meant ≡ parts_of patterns → All IsMade meant → AreMeanings (parts_of patterns) [] meant []
    are_meanings meant patterns same made =
        let all : All IsMade (meant ++ []) = subst (All IsMade) (sym (append-nil meant)) made in
        record {
          all_parts = same;
          none_parts = refl;
          known = All-weaker IsMade MeansByParts (λ it is. by_parts it is) (meant ++ []) all;
          same = All-weaker IsMade (λ it. All (MeanAlike it) (meant ++ [])) (λ it is. All-weaker IsMade (MeanAlike it) (λ other also. mean_alike it other is also) (meant ++ []) all) (meant ++ []) all;
        }

    -- ---- the patterns of an analysis

    -- Meanings of patterns that the engine made: what it matches.
    pub record AreMeant (patterns : List PatternAutomata) : Type 0 where
      pub meant : List PatternMeaning
      pub same : map (λ it. it.parts) meant ≡ parts_of patterns
      pub made : All IsMade meant
      pub at_each : (k : ℕ) (it : PatternAutomata) → slice_get patterns k ≡ Some it → (own : PatternMeaning) × (slice_get meant k ≡ Some own) × IsMade own × (own.parts ≡ it.parts)

    pub meant_of : (patterns : List PatternAutomata) → All (IsOfEngine engine) patterns → AreMeant patterns
    meant_of [] are = record { meant = []; same = refl; made = All-nil IsMade; at_each = λ k it there. absurd (none-some it there) }
    meant_of (first ∷ rest) are =
        let (view, made) = All-head (IsOfEngine engine) first rest are in
        let others = meant_of rest (All-tail (IsOfEngine engine) first rest are) in
        let own = meaning view first.parts in
        record {
          meant = own ∷ others.meant;
          same = ap (λ (l : List PatternParts). first.parts ∷ l) others.same;
          made = All-cons IsMade own others.meant (is_made view first.parts made) others.made;
          at_each = at_place view made others;
        }
      where
        at_place : (view : PatternView E) → AreMadeOfParts engine first.parts view → (others : AreMeant rest) → (k : ℕ) (it : PatternAutomata) → slice_get (first ∷ rest) k ≡ Some it
            → (own : PatternMeaning) × (slice_get (meaning view first.parts ∷ others.meant) k ≡ Some own) × IsMade own × (own.parts ≡ it.parts)
        at_place view made others zero it there = (meaning view first.parts, refl, is_made view first.parts made, ap (λ (p : PatternAutomata). p.parts) (same_Some first it there))
        at_place view made others (suc k) it there = others.at_each k it there

    pub meanings : (patterns : List PatternAutomata) → (are : AreMeant patterns) → AreMeanings (parts_of patterns) [] are.meant []
    meanings patterns are = are_meanings are.meant patterns are.same are.made
