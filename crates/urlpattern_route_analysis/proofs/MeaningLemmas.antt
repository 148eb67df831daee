-- Requests of a case are those whose URL is common to the patterns of the case, with its names.
use Rattle.std.proofs.Common.{◌≡◌, ◌∙◌, ℕ, zero, suc, Bool, true, false, true≢false, List, [], ◌∷◌, ◌++◌, None, Option, Some, ap, arith, get_or, map, option_map, refl, slice_get, subst, sym}
use Rattle.std.proofs.lemmas.List.{append-nil}
use Rattle.std.proofs.lemmas.List.Elements.{All-append, All-head, All-tail, All-weaker}
use Rattle.std.proofs.lemmas.List.Sums.{AllPass-from_list_all, list_all-from_AllPass}
use Rattle.std.proofs.lemmas.Option.{same_Some, slice_get-map}
use Rattle.std.specs.Bool.{beq}
use Rattle.std.specs.List.{filter_map, list_all}
use Rattle.std.specs.Prelude.{All, unwrap_or, if◌then◌else◌}
use Rattle.urlpattern_compare.specs.Candidates.{AreLines, TextAt}
use Rattle.urlpattern_compare.specs.CommonTexts.{AreCommon, AreMeanings, MeanAlike, MeansByParts, MeansEach, PatternMeaning, parts_of}
use Rattle.urlpattern_compare.specs.declared.common_texts.PatternAutomata.{PatternAutomata}
use Rattle.urlpattern_compare.specs.declared.pattern_parts.PatternParts.{PatternParts}
use Rattle.urlpattern_components.specs.Eight.{components}
use Rattle.urlpattern_components.specs.declared.eight.ComponentName.{ComponentName}
use Rattle.urlpattern_components.specs.declared.eight.ComponentName.TheVariants.{Hash, Hostname, Password, Pathname, Port, Protocol, Search, Username}
use Rattle.urlpattern_route_analysis.specs.Cases.{AreSo, LiteralView}
use Rattle.urlpattern_route_analysis.proofs.FilterLemmas.{All-filter_map, map-filter_map}
use Rattle.urlpattern_route_analysis.specs.CasePatterns.{pattern_of, patterns_in, url_pattern}
use Rattle.urlpattern_route_analysis.specs.Deciding.{is_matched}
use Rattle.urlpattern_route_analysis.specs.Naming.{is_so}
use Rattle.urlpattern_route_analysis.specs.Formulas.{AtomView, of_name, of_url}

-- ---- eight components

each_name : (passes : ComponentName → Bool) → list_all passes components ≡ true → (name : ComponentName) → passes name ≡ true
each_name passes all name = by name (AllPass-from_list_all passes components all)
  where
    by : (name : ComponentName) → All (λ n. passes n ≡ true) components → passes name ≡ true
    by Protocol each = each 0 Protocol (omega arith)
    by Username each = each 1 Protocol (omega arith)
    by Password each = each 2 Protocol (omega arith)
    by Hostname each = each 3 Protocol (omega arith)
    by Port each = each 4 Protocol (omega arith)
    by Pathname each = each 5 Protocol (omega arith)
    by Search each = each 6 Protocol (omega arith)
    by Hash each = each 7 Protocol (omega arith)

every_name : (passes : ComponentName → Bool) → ((name : ComponentName) → passes name ≡ true) → list_all passes components ≡ true
every_name passes each = list_all-from_AllPass passes components (λ k d lt. each _)

-- Whether the pattern with this meaning matches the texts.
abbrev pub meets : PatternMeaning → TextAt → Bool
meets it texts = list_all (λ name. it.means name (texts name)) components

pub meant_each : (it : PatternMeaning) (texts : TextAt) → meets it texts ≡ true → MeansEach it texts
meant_each it texts is name = each_name (λ n. it.means n (texts n)) is name

pub each_meant : (it : PatternMeaning) (texts : TextAt) → MeansEach it texts → meets it texts ≡ true
each_meant it texts each = every_name (λ n. it.means n (texts n)) each

-- ---- the meanings of the patterns of a case

abbrev pub url_meaning : List PatternMeaning → AtomView → Option PatternMeaning
url_meaning meant (of_url pattern) = slice_get meant pattern
url_meaning meant (of_name attribute name) = None

abbrev pub meaning_of : List PatternMeaning → (holds : Bool) → LiteralView → Option PatternMeaning
meaning_of meant holds it = if beq it.holds holds then url_meaning meant it.atom else None

-- The meanings of the patterns that match in the case of the literals, or of those that do not.
abbrev pub meanings_in : List PatternMeaning → (holds : Bool) → List LiteralView → List PatternMeaning
meanings_in meant holds literals = filter_map (meaning_of meant holds) literals

abbrev own_parts : PatternMeaning → PatternParts
own_parts it = it.parts

abbrev parts : PatternAutomata → PatternParts
parts it = it.parts

module _ (patterns : List PatternAutomata) (meant : List PatternMeaning) (same : map (λ it. it.parts) meant ≡ parts_of patterns) where
  at_same : (k : ℕ) → option_map own_parts (slice_get meant k) ≡ option_map parts (slice_get patterns k)
  at_same k = sym (slice_get-map own_parts meant k) ∙ ap (λ (l : List PatternParts). slice_get l k) same ∙ slice_get-map parts patterns k

  atom_same : (atom : AtomView) → option_map own_parts (url_meaning meant atom) ≡ option_map parts (url_pattern patterns atom)
  atom_same (of_url pattern) = at_same pattern
  atom_same (of_name attribute name) = refl

  one_same : (holds : Bool) (it : LiteralView) → option_map own_parts (meaning_of meant holds it) ≡ option_map parts (pattern_of patterns holds it)
  one_same holds it = by (beq it.holds holds)
    where
      by : (test : Bool) → option_map own_parts (if test then url_meaning meant it.atom else None) ≡ option_map parts (if test then url_pattern patterns it.atom else None)
      by true = atom_same it.atom
      by false = refl

  pub parts_same : (holds : Bool) (literals : List LiteralView) → map (λ it. it.parts) (meanings_in meant holds literals) ≡ parts_of (patterns_in patterns holds literals)
  parts_same holds literals = map-filter_map own_parts parts (meaning_of meant holds) (pattern_of patterns holds) (one_same holds) literals

-- ---- what holds of all meanings holds of those of a case

module _ (P : PatternMeaning → Type 0) (meant : List PatternMeaning) (all : All P meant) where
  at_place : (k : ℕ) (it : PatternMeaning) → slice_get meant k ≡ Some it → P it
  at_place k it there = nth meant k it there all
    where
      nth : (l : List PatternMeaning) (k : ℕ) (it : PatternMeaning) → slice_get l k ≡ Some it → All P l → P it
      nth [] k it there each = absurd cc
      nth (x ∷ l) zero it there each = subst P (same_Some x it there) (All-head P x l each)
      nth (x ∷ l) (suc k) it there each = nth l k it there (All-tail P x l each)

  of_literal : (holds : Bool) (literal : LiteralView) (it : PatternMeaning) → meaning_of meant holds literal ≡ Some it → P it
  of_literal holds literal it is = by (beq literal.holds holds) literal.atom is
    where
      by : (test : Bool) (atom : AtomView) → (if test then url_meaning meant atom else None) ≡ Some it → P it
      by true (of_url pattern) is = at_place pattern it is
      by true (of_name attribute name) is = absurd cc
      by false atom is = absurd cc

  pub all_in : (holds : Bool) (literals : List LiteralView) → All P (meanings_in meant holds literals)
  all_in holds literals = All-filter_map P (meaning_of meant holds) literals (λ k d lt it is. of_literal holds (get_or literals k d) it is)

both_in : (P : PatternMeaning → Type 0) (meant : List PatternMeaning) (literals : List LiteralView) → All P meant → All P (meanings_in meant true literals ++ meanings_in meant false literals)
both_in P meant literals all = All-append P (meanings_in meant true literals) (meanings_in meant false literals) (all_in P meant all true literals) (all_in P meant all false literals)

-- What the patterns are said to match may be said of those of a case.
pub meanings_are : (patterns : List PatternAutomata) (meant : List PatternMeaning) (literals : List LiteralView) → AreMeanings (parts_of patterns) [] meant []
    → AreMeanings (parts_of (patterns_in patterns true literals)) (parts_of (patterns_in patterns false literals)) (meanings_in meant true literals) (meanings_in meant false literals)
meanings_are patterns meant literals are =
    let all = meanings_in meant true literals ++ meanings_in meant false literals in
    let known : All MeansByParts meant = subst (All MeansByParts) (append-nil meant) are.known in
    let same : All (λ it. All (MeanAlike it) meant) meant = subst (λ (l : List PatternMeaning). All (λ it. All (MeanAlike it) l) l) (append-nil meant) are.same in
    record {
      all_parts = parts_same patterns meant are.all_parts true literals;
      none_parts = parts_same patterns meant are.all_parts false literals;
      known = both_in MeansByParts meant literals known;
      same = both_in (λ it. All (MeanAlike it) all) meant literals
          (All-weaker (λ it. All (MeanAlike it) meant) (λ it. All (MeanAlike it) all) (λ it each. both_in (MeanAlike it) meant literals each) meant same);
    }

-- ---- requests of a case

module _ (meant : List PatternMeaning) (texts : TextAt) (names : List (List ℕ)) where
  pub at_url : (k : ℕ) (it : PatternMeaning) → slice_get meant k ≡ Some it → is_matched meant texts k ≡ meets it texts
  at_url k it there = ap (λ (found : Option PatternMeaning). unwrap_or (option_map (λ (one : PatternMeaning). meets one texts) found) false) there

  matched_one : (literal : LiteralView) (it : PatternMeaning) → is_so (is_matched meant texts) names literal.atom ≡ literal.holds → meaning_of meant true literal ≡ Some it → MeansEach it texts
  matched_one literal it so is = by literal.holds literal.atom so is
    where
      by : (holds : Bool) (atom : AtomView) → is_so (is_matched meant texts) names atom ≡ holds → (if beq holds true then url_meaning meant atom else None) ≡ Some it → MeansEach it texts
      by true (of_url pattern) so is = meant_each it texts (sym (at_url pattern it is) ∙ so)
      by true (of_name attribute name) so is = absurd cc
      by false atom so is = absurd cc

  unmatched_one : (literal : LiteralView) (it : PatternMeaning) → is_so (is_matched meant texts) names literal.atom ≡ literal.holds → meaning_of meant false literal ≡ Some it → ¬ MeansEach it texts
  unmatched_one literal it so is each = by literal.holds literal.atom so is
    where
      by : (holds : Bool) (atom : AtomView) → is_so (is_matched meant texts) names atom ≡ holds → (if beq holds false then url_meaning meant atom else None) ≡ Some it → ⊥
      by false (of_url pattern) so is = true≢false (sym (each_meant it texts each) ∙ sym (at_url pattern it is) ∙ so)
      by false (of_name attribute name) so is = absurd cc
      by true atom so is = absurd cc

  all_matched : (literals : List LiteralView) → AreSo (is_so (is_matched meant texts) names) literals → All (λ it. MeansEach it texts) (meanings_in meant true literals)
  all_matched literals so = All-filter_map (λ it. MeansEach it texts) (meaning_of meant true) literals (λ k d lt it is. matched_one (get_or literals k d) it (so k d lt) is)

  none_matched : (literals : List LiteralView) → AreSo (is_so (is_matched meant texts) names) literals → All (λ it. ¬ MeansEach it texts) (meanings_in meant false literals)
  none_matched literals so = All-filter_map (λ it. ¬ MeansEach it texts) (meaning_of meant false) literals (λ k d lt it is. unmatched_one (get_or literals k d) it (so k d lt) is)

  -- The texts of a request of the case are common to its patterns.
  pub so_common : (literals : List LiteralView) → AreLines texts → AreSo (is_so (is_matched meant texts) names) literals → AreCommon (meanings_in meant true literals) (meanings_in meant false literals) texts
  so_common literals lines so = record { lines = lines; meant = all_matched literals so; unmeant = none_matched literals so }
