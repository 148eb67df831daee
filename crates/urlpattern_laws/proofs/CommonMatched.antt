-- Texts that some patterns match and others do not, by the parts of the patterns.
use Rattle.std.proofs.Common.{◌≡◌, ◌∙◌, ◌⊎◌, ◌↔◌, ℕ, Bool, true, false, List, [], ◌∷◌, ◌++◌, Option, Some, None, ap, get_or, inl, inr, map, refl, subst, sym}
use Rattle.std.proofs.lemmas.Bool.{false≢true}
use Rattle.std.proofs.lemmas.List.{map-append}
use Rattle.std.proofs.lemmas.List.Elements.{All-cons, All-map, All-nil, All-weaker}
use Rattle.std.specs.List.{All}
use Rattle.std.specs.Option.{is_some}
use Rattle.std.specs.Prelude.{IsTrue}
use Rattle.urlpattern_compare.proofs.CommonLemmas.{all_unmap}
use Rattle.urlpattern_compare.proofs.SameParts.{known_or_not, same_flips, same_within}
use Rattle.urlpattern_compare.proofs.StateSets.{contains_head, contains_tail}
use Rattle.urlpattern_compare.specs.Candidates.{TextAt}
use Rattle.urlpattern_compare.specs.CommonTexts.{AreMeanings, MeanAlike, MeansByParts, MeansEach, PatternMeaning, parts_of, string_at}
use Rattle.urlpattern_compare.specs.Comparing.{AreSame}
use Rattle.urlpattern_compare.specs.declared.common_texts.PatternAutomata.{PatternAutomata}
use Rattle.urlpattern_components.proofs.EightLemmas.{of_each}
use Rattle.urlpattern_components.specs.Eight.{Texts, at, components}
use Rattle.urlpattern_components.specs.declared.eight.ComponentName.{ComponentName}
use Rattle.urlpattern_init.specs.UrlTexts.{IsLine}
use Rattle.urlpattern_laws.specs.CommonReadings.{AreTheirParts, CoveringMatch, FoundAreMatched, HaveAutomata, NoneMatches, NothingIsLeft, OneMatches, PatternOfParts}
use Rattle.urlpattern_laws.specs.PartReadings.{AreItsParts, SameAreMatched}
use Rattle.urlpattern_meaning.specs.Matching.{IsMatched, MatcherView, Returns}
use Rattle.urlpattern_meaning.specs.PartMeaning.{Captures}
use Rattle.urlpattern_pattern.proofs.MatchersDecide.{answered}
use Rattle.urlpattern_pattern.specs.Match.{AreMatched}

true_alike : (one other : Bool) → (IsTrue one → IsTrue other) → (IsTrue other → IsTrue one) → one ≡ other
true_alike true other to from = sym (to refl)
true_alike false true to from = from refl
true_alike false false to from = refl

module _ {E : Type 0} (answer : E → List ℕ → Option Captures) where
  -- ---- what a pattern matches

  abbrev matches : MatcherView E → List ℕ → Bool
  matches matcher text = is_some (answered answer matcher text).0

  by_result : (matcher : MatcherView E) (text : List ℕ) (found : Option Captures) → Returns answer matcher text found → IsTrue (is_some found) ↔ IsMatched answer matcher text
  by_result matcher text None returns = (λ is. absurd (false≢true is), λ (captures, matched). absurd (returns captures matched))
  by_result matcher text (Some captures) returns = (λ is. (captures, returns), λ matched. refl)

  matches_is : (matcher : MatcherView E) (text : List ℕ) → IsTrue (matches matcher text) ↔ IsMatched answer matcher text
  matches_is matcher text = let found = answered answer matcher text in by_result matcher text found.0 found.1

  abbrev meaning : PatternOfParts E → PatternMeaning
  meaning it = record { parts = it.parts; means = λ name text. matches (it.pattern name).matcher text }

  abbrev text_of_each : Texts → TextAt
  text_of_each texts = λ name. at texts name

  means_matched : (it : PatternOfParts E) (texts : Texts) → MeansEach (meaning it) (text_of_each texts) ↔ AreMatched answer it.pattern texts
  means_matched it texts = (
    λ each name. (matches_is (it.pattern name).matcher (at texts name)).0 (each name),
    λ matched name. (matches_is (it.pattern name).matcher (at texts name)).1 (matched name),
  )

  each_decided : (it : PatternOfParts E) (texts : Texts) → AreMatched answer it.pattern texts ⊎ ¬ AreMatched answer it.pattern texts
  each_decided it texts = by components (λ all. of_each (λ name. IsMatched answer (it.pattern name).matcher (at texts name)) all)
    where
      one : (name : ComponentName) (found : Option Captures) → Returns answer (it.pattern name).matcher (at texts name) found →
          IsMatched answer (it.pattern name).matcher (at texts name) ⊎ ¬ IsMatched answer (it.pattern name).matcher (at texts name)
      one name None returns = inr (λ (captures, matched). returns captures matched)
      one name (Some captures) returns = inl (captures, returns)

      by : (names : List ComponentName) → (All (λ name. IsMatched answer (it.pattern name).matcher (at texts name)) names → AreMatched answer it.pattern texts) →
          AreMatched answer it.pattern texts ⊎ ¬ AreMatched answer it.pattern texts
      by [] whole = inl (whole (All-nil (λ name. IsMatched answer (it.pattern name).matcher (at texts name))))
      by (name ∷ names) whole = let found = answered answer (it.pattern name).matcher (at texts name) in elim (one name found.0 found.1) [
        | inl matched ↦ by names (λ all. whole (All-cons (λ n. IsMatched answer (it.pattern n).matcher (at texts n)) name names matched all))
        | inr never ↦ inr (λ are. never (are name))
      ]

  one_or_none : (patterns : List (PatternOfParts E)) (texts : Texts) → OneMatches answer patterns texts ⊎ NoneMatches answer patterns texts
  one_or_none [] texts = inr (All-nil (λ it. ¬ AreMatched answer it.pattern texts))
  one_or_none (it ∷ patterns) texts = elim (each_decided it texts) [
    | inl matched ↦ inl (it, contains_head it patterns, matched)
    | inr never ↦ elim (one_or_none patterns texts) [
      | inl (one, has, matched) ↦ inl (one, contains_tail it one patterns has, matched)
      | inr none ↦ inr (All-cons (λ p. ¬ AreMatched answer p.pattern texts) it patterns never none)
    ]
  ]

  -- ---- meanings

  by_parts : (it : PatternOfParts E) → AreItsParts answer it.pattern it.parts → MeansByParts (meaning it)
  by_parts it own = λ name known text line.
      let found = matches_is (it.pattern name).matcher text in
      let means = own name known text (record { characters = line.scalars; no_line_feed = line.plain }) in
      (λ is. means.0 (found.0 is), λ meant. found.1 (means.1 meant))

  one_way : (it other : PatternOfParts E) → AreItsParts answer it.pattern it.parts → AreItsParts answer other.pattern other.parts → SameAreMatched answer other.pattern it.pattern other.parts it.parts →
      (name : ComponentName) → AreSame (at it.parts.components name) (at other.parts.components name) → (text : List ℕ) → IsLine text →
      IsMatched answer (it.pattern name).matcher text → IsMatched answer (other.pattern name).matcher text
  one_way it other own other_own alike name same text line matched =
      let flipped = same_flips (at it.parts.components name) (at other.parts.components name) same in
      elim (known_or_not (at other.parts.components name)) [
        | inl known ↦
            let within = same_within (at other.parts.components name) (at it.parts.components name) flipped known in
            (other_own name known text line).1 (within.within text (record { scalars = line.characters; plain = line.no_line_feed }) ((own name within.asked_known text line).0 matched))
        | inr unknown ↦ alike name unknown flipped text line matched
      ]

  mean_alike : (it other : PatternOfParts E) → AreItsParts answer it.pattern it.parts → AreItsParts answer other.pattern other.parts →
      SameAreMatched answer it.pattern other.pattern it.parts other.parts → SameAreMatched answer other.pattern it.pattern other.parts it.parts → MeanAlike (meaning it) (meaning other)
  mean_alike it other own other_own to from = λ name same text plain.
      let line : IsLine text = record { characters = plain.scalars; no_line_feed = plain.plain } in
      let here = matches_is (it.pattern name).matcher text in
      let there = matches_is (other.pattern name).matcher text in
      true_alike (matches (it.pattern name).matcher text) (matches (other.pattern name).matcher text)
      (λ is. there.1 (one_way it other own other_own from name same text line (here.0 is)))
      (λ is. here.1 (one_way other it other_own own to name (same_flips (at it.parts.components name) (at other.parts.components name) same) text line (there.0 is)))

  parts_kept : (patterns : List (PatternOfParts E)) → map (λ (it : PatternMeaning). it.parts) (map meaning patterns) ≡ map (λ (it : PatternOfParts E). it.parts) patterns
  parts_kept [] = refl
  parts_kept (it ∷ patterns) = ap (λ l. it.parts ∷ l) (parts_kept patterns)

  are_meanings : (all none : List (PatternOfParts E)) (all_of none_of : List PatternAutomata) → AreTheirParts answer (all ++ none) → HaveAutomata all all_of → HaveAutomata none none_of →
      AreMeanings (parts_of all_of) (parts_of none_of) (map meaning all) (map meaning none)
  are_meanings all none all_of none_of are all_are none_are =
      let every = all ++ none in
      record {
        all_parts = parts_kept all ∙ all_are;
        none_parts = parts_kept none ∙ none_are;
        known = subst (All MeansByParts) (map-append meaning all none) (All-map MeansByParts meaning every (λ k d lt. by_parts (get_or every k d) (are.own k d lt)));
        same = subst (λ l. All (λ it. All (MeanAlike it) l) l) (map-append meaning all none)
            (All-map (λ it. All (MeanAlike it) (map meaning every)) meaning every (λ k d lt.
            All-map (MeanAlike (meaning (get_or every k d))) meaning every (λ j e below.
            mean_alike (get_or every k d) (get_or every j e) (are.own k d lt) (are.own j e below) (are.same k d lt j e below) (are.same j e below k d lt))));
      }

  -- ---- laws

  pub found_matched : FoundAreMatched answer
  found_matched all none all_of none_of limits found are all_are none_are is texts same =
      let common = is (map meaning all) (map meaning none) (are_meanings all none all_of none_of are all_are none_are) in (
        All-weaker (λ it. MeansEach (meaning it) (text_of_each texts)) (λ it. AreMatched answer it.pattern texts) (λ it. (means_matched it texts).0) all
            (all_unmap (λ it. MeansEach it (text_of_each texts)) meaning all
            (All-weaker (λ it. MeansEach it (string_at found)) (λ it. MeansEach it (text_of_each texts)) (λ it meant name. subst (λ t. IsTrue (it.means name t)) (sym (same name)) (meant name)) (map meaning all) common.meant)),
        All-weaker (λ it. ¬ MeansEach (meaning it) (text_of_each texts)) (λ it. ¬ AreMatched answer it.pattern texts) (λ it never matched. never ((means_matched it texts).1 matched)) none
            (all_unmap (λ it. ¬ MeansEach it (text_of_each texts)) meaning none
            (All-weaker (λ it. ¬ MeansEach it (string_at found)) (λ it. ¬ MeansEach it (text_of_each texts)) (λ it never meant. never (λ name. subst (λ t. IsTrue (it.means name t)) (same name) (meant name))) (map meaning none) common.unmeant)),
      )

  pub nothing_left : NothingIsLeft answer
  nothing_left all none all_of none_of limits are all_are none_are nothing texts lines matched = elim (one_or_none none texts) [
    | inl one ↦ one
    | inr never ↦ absurd (nothing (map meaning all) (map meaning none) (are_meanings all none all_of none_of are all_are none_are) (text_of_each texts) (record {
      lines = λ name. record { scalars = (lines name).characters; plain = (lines name).no_line_feed };
      meant = All-map (λ it. MeansEach it (text_of_each texts)) meaning all
          (All-weaker (λ it. AreMatched answer it.pattern texts) (λ it. MeansEach (meaning it) (text_of_each texts)) (λ it. (means_matched it texts).1) all matched);
      unmeant = All-map (λ it. ¬ MeansEach it (text_of_each texts)) meaning none
          (All-weaker (λ it. ¬ AreMatched answer it.pattern texts) (λ it. ¬ MeansEach (meaning it) (text_of_each texts)) (λ it refused each. refused ((means_matched it texts).0 each)) none never);
    }))
  ]

  pub covering_match : CoveringMatch answer
  covering_match patterns asked automata asked_automata are have same covering texts lines matched =
      nothing_left (asked ∷ []) patterns (asked_automata ∷ []) automata (record { sets = 0; texts = 0 }) are (ap (λ p. p ∷ []) same) have covering texts lines
      (All-cons (λ it. AreMatched answer it.pattern texts) asked [] matched (All-nil (λ it. AreMatched answer it.pattern texts)))
