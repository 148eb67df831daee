-- Worked examples of common texts.
use Rattle.std.proofs.Common.{◌≡◌, ℕ, Bool, true, false, List, [], ◌∷◌, arith, codes, refl, subst, sym}
use Rattle.std.proofs.lemmas.Bool.{false≢true}
use Rattle.std.proofs.lemmas.List.Elements.{All-cons, All-head, All-nil}
use Rattle.std.specs.List.{All, filter}
use Rattle.urlpattern_compare.proofs.ComponentLemmas.{wildcard_means}
use Rattle.urlpattern_compare.specs.Candidates.{AreLines, TextAt}
use Rattle.urlpattern_compare.specs.CommonLaws.{MatchesAnything}
use Rattle.urlpattern_compare.specs.CommonTexts.{AcceptsAlike, AreCommon, AreMeanings, MayBeCommon, MayBeNothing, MeanAlike, MeansByParts, MeansEach, NeedsManyTexts, PatternMeaning, TakeAlike}
use Rattle.urlpattern_compare.specs.Comparing.{IsKnown, anything_part}
use Rattle.urlpattern_compare.specs.Conditions.{states_by}
use Rattle.urlpattern_compare.specs.MeantTexts.{MeansText}
use Rattle.urlpattern_compare.specs.Searching.{is_in}
use Rattle.urlpattern_compare.specs.TextSearch.{AreUnlike}
use Rattle.urlpattern_compare.specs.declared.common_texts.PatternAutomata.{PatternAutomata}
use Rattle.urlpattern_compare.specs.declared.parts_automaton.Edge.{Edge}
use Rattle.urlpattern_compare.specs.declared.parts_automaton.Test.TheVariants.{AnyBut, Only}
use Rattle.urlpattern_compare.specs.declared.pattern_parts.PatternParts.{PatternParts}
use Rattle.urlpattern_components.specs.Eight.{at}
use Rattle.urlpattern_components.specs.declared.eight.ComponentName.{ComponentName}
use Rattle.urlpattern_syntax.specs.Options.{options_view}
use Rattle.urlpattern_syntax.specs.Parts.{parts_view}
use Rattle.urlpattern_syntax.specs.declared.parts.ComponentParts.{ComponentParts}

-- ---- sets of states

-- The automaton of `a*`: from state 2 by an `a` to state 1 or to the end, and from state 1 by any
-- character but a line feed to itself or to the end.
abbrev edges : List Edge
edges =
    record { from = 1; test = AnyBut 10; to = 0 } ∷ record { from = 1; test = AnyBut 10; to = 1 }
    ∷ record { from = 2; test = Only 97; to = 0 } ∷ record { from = 2; test = Only 97; to = 1 } ∷ []

abbrev start : List Bool
start = false ∷ false ∷ true ∷ []

after_text : states_by edges start (codes "ab") ≡ true ∷ true ∷ false ∷ []
after_text = refl

after_another : states_by edges start (codes "b") ≡ false ∷ false ∷ false ∷ []
after_another = refl

ends : is_in (states_by edges start (codes "a")) 0 ≡ true
ends = refl

-- At the start, the edges of state 2 alone leave the set.
at_the_start : filter (λ (edge : Edge). is_in start edge.from) edges ≡ record { from = 2; test = Only 97; to = 0 } ∷ record { from = 2; test = Only 97; to = 1 } ∷ []
at_the_start = refl

-- ---- values that are unlike

two_are_unlike : AreUnlike (λ (x y : ℕ). x ≡ y) (1 ∷ 2 ∷ [])
two_are_unlike = (All-cons (λ (m : ℕ). ¬ (1 ≡ m)) 2 [] (λ e. omega (arith, e)) (All-nil (λ (m : ℕ). ¬ (1 ≡ m))), (All-nil (λ (m : ℕ). ¬ (2 ≡ m)), tt))

one_is_not_unlike_itself : (n : ℕ) → ¬ AreUnlike (λ (x y : ℕ). x ≡ y) (n ∷ n ∷ [])
one_is_not_unlike_itself n apart = All-head (λ (m : ℕ). ¬ (n ≡ m)) n [] apart.0 refl

-- ---- how many texts are tried

-- If no pattern must not match, all texts are taken alike, and one try decides.
one_try_decides : (all_of : List PatternAutomata) → ¬ NeedsManyTexts all_of [] 1
one_try_decides all_of ([], many, lines, taken, apart) = absurd (omega arith)
one_try_decides all_of (texts ∷ [], many, lines, taken, apart) = absurd (omega arith)
one_try_decides all_of (texts ∷ others ∷ more, many, lines, taken, apart) =
    All-head (λ other. ¬ TakeAlike [] texts other) others more apart.0 (All-nil (λ automata. (name : ComponentName) → AcceptsAlike (texts name) (others name) (at automata name)))

-- A full wildcard without prefix, suffix and modifier matches anything.
a_wildcard_matches_anything : (component : ComponentParts) → parts_view component.parts.items ≡ anything_part ∷ [] → MatchesAnything component
a_wildcard_matches_anything component are known text line =
    subst (λ parts. MeansText (options_view component.options) parts text) (sym are) (wildcard_means (options_view component.options) text line.plain)

-- ---- common texts

-- All eight texts without line feed are common to no patterns.
of_no_patterns : (texts : TextAt) → AreLines texts → AreCommon [] [] texts
of_no_patterns texts lines = record { lines = lines; meant = All-nil (λ it. MeansEach it texts); unmeant = All-nil (λ it. ¬ MeansEach it texts) }

-- No text is matched by a pattern and not by the same.
of_one_alone : (it : PatternMeaning) (texts : TextAt) → ¬ AreCommon (it ∷ []) (it ∷ []) texts
of_one_alone it texts common =
    All-head (λ one. ¬ MeansEach one texts) it [] common.unmeant (All-head (λ one. MeansEach one texts) it [] common.meant)

-- ---- meanings

-- A pattern of which nothing is known, which matches any texts or none.
module _ (parts : PatternParts) (unknown : (name : ComponentName) → ¬ IsKnown (at parts.components name)) where
  abbrev free : Bool → PatternMeaning
  free matches = record { parts = parts; means = λ name text. matches }

  alone : (matches : Bool) → AreMeanings (parts ∷ []) [] (free matches ∷ []) []
  alone matches =
      let itself : MeanAlike (free matches) (free matches) = λ name same text line. refl in
      record {
        all_parts = refl;
        none_parts = refl;
        known = All-cons MeansByParts (free matches) [] (λ name known. absurd (unknown name known)) (All-nil MeansByParts);
        same = All-cons (λ it. All (MeanAlike it) (free matches ∷ [])) (free matches) []
            (All-cons (MeanAlike (free matches)) (free matches) [] itself (All-nil (MeanAlike (free matches))))
            (All-nil (λ it. All (MeanAlike it) (free matches ∷ [])));
      }

  may_match : (texts : TextAt) → AreLines texts → MayBeCommon (parts ∷ []) []
  may_match texts lines = (
    free true ∷ [],
    [],
    alone true,
    (texts, record { lines = lines; meant = All-cons (λ it. MeansEach it texts) (free true) [] (λ name. refl) (All-nil (λ it. MeansEach it texts)); unmeant = All-nil (λ it. ¬ MeansEach it texts) }),
  )

  may_match_nothing : MayBeNothing (parts ∷ []) []
  may_match_nothing = (
    free false ∷ [],
    [],
    alone false,
    λ texts common. false≢true (All-head (λ it. MeansEach it texts) (free false) [] common.meant ComponentName.Protocol),
  )
