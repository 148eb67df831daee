-- What the automata of rules may mean: what an engine matches, or what parts mean.
use Rattle.std.proofs.Common.{◌≡◌, ◌∙◌, ◌⊎◌, ◌↔◌, ℕ, zero, suc, All, Bool, true, false, true≢false, List, [], ◌∷◌, ◌++◌, None, Option, Some, ap, inl, inr, map, refl, slice_get, subst, sym, take}
use Rattle.std.proofs.lemmas.List.Elements.{All-append, All-cons, All-head, All-nil, All-tail, All-weaker}
use Rattle.std.specs.Prelude.{IsTrue, is_some}
use Rattle.urlpattern.specs.FirstMatch.{patterns_view}
use Rattle.urlpattern.specs.Reached.{HaveAllAutomata}
use Rattle.urlpattern_compare.proofs.SameParts.{known_or_not, same_flips, same_within}
use Rattle.urlpattern_compare.specs.Candidates.{TextAt}
use Rattle.urlpattern_compare.specs.CommonTexts.{AreMeanings, MeanAlike, MeansByParts, MeansEach, PatternMeaning, parts_of}
use Rattle.urlpattern_compare.specs.Comparing.{AreSame, IsKnown}
use Rattle.urlpattern_compare.specs.TextSearch.{IsLine}
use Rattle.urlpattern_compare.specs.declared.common_texts.PatternAutomata.{PatternAutomata}
use Rattle.urlpattern_compare.specs.declared.pattern_parts.PatternParts.{PatternParts}
use Rattle.urlpattern_components.specs.Eight.{at}
use Rattle.urlpattern_components.specs.declared.eight.ComponentName.{ComponentName}
use Rattle.urlpattern_init.specs.UrlTexts.{IsLine as IsPlain}
use Rattle.urlpattern_laws.specs.PartReadings.{OwnPartsMean, SameAreMatched}
use Rattle.urlpattern_matcher.specs.declared.regexp.RegExp.{Ghosts as Engine}
use Rattle.urlpattern_meaning.specs.Matching.{IsMatched, MatcherView, Returns}
use Rattle.urlpattern_meaning.specs.PartMeaning.{Captures}
use Rattle.urlpattern_pattern.proofs.MatchersDecide.{answered}
use Rattle.urlpattern_pattern.specs.Patterns.{PatternView, pattern_view}
use Rattle.urlpattern_pattern.specs.UrlPatterns.{AreMadeOfParts, UrlPattern}

bools_equal : (a b : Bool) → (IsTrue a → IsTrue b) → (IsTrue b → IsTrue a) → a ≡ b
bools_equal true true to from = refl
bools_equal false false to from = refl
bools_equal true false to from = sym (to refl)
bools_equal false true to from = from refl

plain_line : (text : List ℕ) → IsLine text → IsPlain text
plain_line text line = record { characters = line.scalars; no_line_feed = line.plain }

-- The parts tell all that is meant.
pub record IsTold (it : PatternMeaning) : Type 0 where
  pub known : (name : ComponentName) → IsKnown (at it.parts.components name)
  pub by_parts : MeansByParts it

module _ {E : Type 0} (engine : Engine E) where
  -- Patterns that the engine made of the same parts match alike where the parts are not known.
  abbrev pub SameMatch : Type 0
  SameMatch =
      (pattern asked : PatternView E) (parts asked_parts : PatternParts) → AreMadeOfParts engine parts pattern → AreMadeOfParts engine asked_parts asked →
      SameAreMatched engine.answer pattern asked parts asked_parts

  abbrev pub matches : PatternView E → ComponentName → List ℕ → Bool
  matches view name text = is_some (answered engine.answer (view name).matcher text).0

  by_result : (matcher : MatcherView E) (text : List ℕ) (found : Option Captures) → Returns engine.answer matcher text found → IsTrue (is_some found) ↔ IsMatched engine.answer matcher text
  by_result matcher text None none = (λ never. absurd (true≢false (sym never)), λ matched. absurd (none matched.0 matched.1))
  by_result matcher text (Some captures) is = (λ yes. (captures, is), λ matched. refl)

  pub matches_are : (view : PatternView E) (name : ComponentName) (text : List ℕ) → IsTrue (matches view name text) ↔ IsMatched engine.answer (view name).matcher text
  matches_are view name text = let all = answered engine.answer (view name).matcher text in by_result (view name).matcher text all.0 all.1

  -- The meaning is what a pattern matches that the engine made of the parts.
  abbrev pub IsMade : PatternMeaning → Type 0
  IsMade it = (view : PatternView E) × AreMadeOfParts engine it.parts view × ((name : ComponentName) (text : List ℕ) → it.means name text ≡ matches view name text)

  abbrev pub IsMeant : PatternMeaning → Type 0
  IsMeant it = IsMade it ⊎ IsTold it

  module _ (mean : OwnPartsMean engine) (same_match : SameMatch) where
    made_by_parts : (it : PatternMeaning) → IsMade it → MeansByParts it
    made_by_parts it (view, made, means) name known text line =
        let matched = matches_are view name text in
        let meant = mean view it.parts made name known text (plain_line text line) in (
          λ is. meant.0 (matched.0 (sym (means name text) ∙ is)),
          λ is. means name text ∙ matched.1 (meant.1 is),
        )

    pub by_parts : (it : PatternMeaning) → IsMeant it → MeansByParts it
    by_parts it (inl made) = made_by_parts it made
    by_parts it (inr told) = told.by_parts

    known_alike : (it other : PatternMeaning) → MeansByParts it → MeansByParts other → (name : ComponentName) → IsKnown (at it.parts.components name)
        → AreSame (at it.parts.components name) (at other.parts.components name) → (text : List ℕ) → IsLine text → it.means name text ≡ other.means name text
    known_alike it other own also name known same text line =
        let there = same_within (at it.parts.components name) (at other.parts.components name) same known in
        let back = same_within (at other.parts.components name) (at it.parts.components name) (same_flips (at it.parts.components name) (at other.parts.components name) same) there.asked_known in
        let mine = own name known text line in
        let others = also name there.asked_known text line in
        bools_equal (it.means name text) (other.means name text)
        (λ is. others.1 (back.within text line (mine.0 is)))
        (λ is. mine.1 (there.within text line (others.0 is)))

    unknown_alike : (it other : PatternMeaning) → IsMade it → IsMade other → (name : ComponentName) → ¬ IsKnown (at it.parts.components name)
        → AreSame (at it.parts.components name) (at other.parts.components name) → (text : List ℕ) → IsLine text → it.means name text ≡ other.means name text
    unknown_alike it other (view, made, means) (another, also_made, also_means) name unknown same text line =
        let flipped = same_flips (at it.parts.components name) (at other.parts.components name) same in
        let unknown_too : ¬ IsKnown (at other.parts.components name) = λ known. unknown (same_within (at other.parts.components name) (at it.parts.components name) flipped known).asked_known in
        let here = matches_are view name text in
        let there = matches_are another name text in
        means name text
        ∙ bools_equal (matches view name text) (matches another name text)
        (λ is. there.1 (same_match another view other.parts it.parts also_made made name unknown_too flipped text (plain_line text line) (here.0 is)))
        (λ is. here.1 (same_match view another it.parts other.parts made also_made name unknown same text (plain_line text line) (there.0 is)))
        ∙ sym (also_means name text)

    not_known_alike : (it other : PatternMeaning) → IsMeant it → IsMeant other → (name : ComponentName) → ¬ IsKnown (at it.parts.components name)
        → AreSame (at it.parts.components name) (at other.parts.components name) → (text : List ℕ) → IsLine text → it.means name text ≡ other.means name text
    not_known_alike it other (inr told) also name unknown same text line = absurd (unknown (told.known name))
    not_known_alike it other (inl made) (inr told) name unknown same text line =
        absurd (unknown (same_within (at other.parts.components name) (at it.parts.components name) (same_flips (at it.parts.components name) (at other.parts.components name) same) (told.known name)).asked_known)
    not_known_alike it other (inl made) (inl also) name unknown same text line = unknown_alike it other made also name unknown same text line

    mean_alike : (it other : PatternMeaning) → IsMeant it → IsMeant other → MeanAlike it other
    mean_alike it other own also name same text line = elim (known_or_not (at it.parts.components name)) [
      | inl known ↦ known_alike it other (by_parts it own) (by_parts other also) name known same text line
      | inr unknown ↦ not_known_alike it other own also name unknown same text line
    ]

    -- Meanings of this kind are meanings of the automata.
    pub are_meanings : (ones others : List PatternMeaning) (one other : List PatternAutomata) → map (λ it. it.parts) ones ≡ parts_of one → map (λ it. it.parts) others ≡ parts_of other
        → All IsMeant ones → All IsMeant others → AreMeanings (parts_of one) (parts_of other) ones others
    are_meanings ones others one other one_parts other_parts own also =
        let each = All-append IsMeant ones others own also in
        record {
          all_parts = one_parts;
          none_parts = other_parts;
          known = All-weaker IsMeant MeansByParts (λ it is. by_parts it is) (ones ++ others) each;
          same = All-weaker IsMeant (λ it. All (MeanAlike it) (ones ++ others))
              (λ it is. All-weaker IsMeant (MeanAlike it) (λ other also_is. mean_alike it other is also_is) (ones ++ others) each) (ones ++ others) each;
        }

  -- ---- the rules of a policy

  abbrev pub meant_by : List (UrlPattern E) → List PatternAutomata → List PatternMeaning
  meant_by [] all = []
  meant_by (pattern ∷ patterns) [] = []
  meant_by (pattern ∷ patterns) (it ∷ all) = record { parts = it.parts; means = matches (pattern_view pattern) } ∷ meant_by patterns all

  pub meant_parts : (patterns : List (UrlPattern E)) (all : List PatternAutomata) → HaveAllAutomata engine patterns all → map (λ it. it.parts) (meant_by patterns all) ≡ parts_of all
  meant_parts [] [] have = refl
  meant_parts [] (it ∷ all) have = absurd have
  meant_parts (pattern ∷ patterns) [] have = absurd have
  meant_parts (pattern ∷ patterns) (it ∷ all) have = ap (λ l. it.parts ∷ l) (meant_parts patterns all have.1)

  pub meant_are : (patterns : List (UrlPattern E)) (all : List PatternAutomata) → HaveAllAutomata engine patterns all → All IsMeant (meant_by patterns all)
  meant_are [] all have = All-nil IsMeant
  meant_are (pattern ∷ patterns) [] have = All-nil IsMeant
  meant_are (pattern ∷ patterns) (it ∷ all) have =
      All-cons IsMeant (record { parts = it.parts; means = matches (pattern_view pattern) }) (meant_by patterns all)
      (inl (pattern_view pattern, have.0.made, λ name text. refl)) (meant_are patterns all have.1)

  module _ (texts : TextAt) where
    abbrev Matches : PatternView E → Type 0
    Matches view = (name : ComponentName) → IsMatched engine.answer (view name).matcher (texts name)

    abbrev Fails : PatternView E → Type 0
    Fails view = (name : ComponentName) × Returns engine.answer (view name).matcher (texts name) None

    meant_each : (view : PatternView E) (parts : PatternParts) → Matches view → MeansEach (record { parts = parts; means = matches view }) texts
    meant_each view parts each name = (matches_are view name (texts name)).1 (each name)

    not_meant : (view : PatternView E) (parts : PatternParts) → Fails view → ¬ MeansEach (record { parts = parts; means = matches view }) texts
    not_meant view parts fails each = let matched = (matches_are view fails.0 (texts fails.0)).0 (each fails.0) in fails.1 matched.0 matched.1

    -- What the pattern at an index matches.
    pub meant_at : (patterns : List (UrlPattern E)) (all : List PatternAutomata) → HaveAllAutomata engine patterns all → (i : ℕ) (view : PatternView E)
        → slice_get (patterns_view patterns) i ≡ Some view → Matches view → (it : PatternMeaning) × (slice_get (meant_by patterns all) i ≡ Some it) × MeansEach it texts
    meant_at [] all have i view there each = absurd cc
    meant_at (pattern ∷ patterns) [] have i view there each = absurd have
    meant_at (pattern ∷ patterns) (it ∷ all) have zero view there each =
        let same : pattern_view pattern ≡ view = cc in
        (record { parts = it.parts; means = matches (pattern_view pattern) }, refl, meant_each (pattern_view pattern) it.parts (subst Matches (sym same) each))
    meant_at (pattern ∷ patterns) (it ∷ all) have (suc i) view there each = meant_at patterns all have.1 i view there each

    pub none_meant : (patterns : List (UrlPattern E)) (all : List PatternAutomata) → HaveAllAutomata engine patterns all → (i : ℕ)
        → All Fails (take i (patterns_view patterns)) → All (λ it. ¬ MeansEach it texts) (take i (meant_by patterns all))
    none_meant patterns all have zero fails = All-nil (λ it. ¬ MeansEach it texts)
    none_meant [] all have (suc i) fails = All-nil (λ it. ¬ MeansEach it texts)
    none_meant (pattern ∷ patterns) [] have (suc i) fails = absurd have
    none_meant (pattern ∷ patterns) (it ∷ all) have (suc i) fails =
        let views = take i (patterns_view patterns) in
        All-cons (λ it. ¬ MeansEach it texts) (record { parts = it.parts; means = matches (pattern_view pattern) }) (take i (meant_by patterns all))
        (not_meant (pattern_view pattern) it.parts (All-head Fails (pattern_view pattern) views fails))
        (none_meant patterns all have.1 i (All-tail Fails (pattern_view pattern) views fails))

    pub none_meant_at_all : (patterns : List (UrlPattern E)) (all : List PatternAutomata) → HaveAllAutomata engine patterns all
        → All Fails (patterns_view patterns) → All (λ it. ¬ MeansEach it texts) (meant_by patterns all)
    none_meant_at_all [] all have fails = All-nil (λ it. ¬ MeansEach it texts)
    none_meant_at_all (pattern ∷ patterns) [] have fails = absurd have
    none_meant_at_all (pattern ∷ patterns) (it ∷ all) have fails =
        All-cons (λ it. ¬ MeansEach it texts) (record { parts = it.parts; means = matches (pattern_view pattern) }) (meant_by patterns all)
        (not_meant (pattern_view pattern) it.parts (All-head Fails (pattern_view pattern) (patterns_view patterns) fails))
        (none_meant_at_all patterns all have.1 (All-tail Fails (pattern_view pattern) (patterns_view patterns) fails))
