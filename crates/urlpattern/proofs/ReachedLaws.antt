-- The patterns of a list that are the first match of some texts, and those that never are.
use Rattle.std.proofs.Common.{◌≡◌, ◌≢◌, ◌∙◌, ◌↔◌, ◌++◌, ℕ, Bool, true, false, true≢false, zero, suc, List, [], ◌∷◌, ap, inl, inr, map, refl, subst, sym, take}
use Rattle.std.proofs.lemmas.List.{take-map}
use Rattle.std.proofs.lemmas.List.Elements.{All-append, All-cons, All-head, All-nil, All-tail, All-weaker}
use Rattle.std.proofs.lemmas.Option.{slice_get-map}
use Rattle.std.specs.Prelude.{All, Ok, Option, None, Some, IsTrue, String, Vec, is_some, option_map, slice_get}
use Rattle.std.specs.declared.alloc.Global.{Global}
use Rattle.urlpattern.specs.FirstMatch.{patterns_view}
use Rattle.urlpattern.specs.Reached.{AreReachedBy, HasAutomata, HaveAllAutomata, MatchesStrings, ReachedAreFirst, UnreachedAreNeverFirst}
use Rattle.urlpattern_compare.proofs.SameParts.{known_or_not, same_flips, same_within}
use Rattle.urlpattern_compare.proofs.TogetherLemmas.{all_each}
use Rattle.urlpattern_compare.specs.Candidates.{AreLines, TextAt}
use Rattle.urlpattern_compare.specs.CommonTexts.{AreMeanings, MeanAlike, MeansByParts, MeansEach, PatternMeaning, parts_of, string_at}
use Rattle.urlpattern_compare.specs.Comparing.{AreSame}
use Rattle.urlpattern_compare.specs.CoveringTogether.{AreCovering, at_each}
use Rattle.urlpattern_compare.specs.Reaching.{AreReached, IsReach}
use Rattle.urlpattern_compare.specs.TextSearch.{IsLine}
use Rattle.urlpattern_compare.specs.declared.candidates.Limits.{Limits}
use Rattle.urlpattern_compare.specs.declared.common_texts.PatternAutomata.{PatternAutomata}
use Rattle.urlpattern_compare.specs.declared.pattern_parts.PatternParts.{PatternParts}
use Rattle.urlpattern_compare.specs.declared.reaching.Reach.{Reach}
use Rattle.urlpattern_compare.specs.declared.reaching.Reach.TheVariants.{First, Never}
use Rattle.urlpattern_components.specs.declared.eight.ComponentName.{ComponentName}
use Rattle.urlpattern_components.specs.declared.eight.Eight.{Eight}
use Rattle.urlpattern_components.specs.Eight.{Texts, at}
use Rattle.urlpattern_init.proofs.UrlTexts.{texts_of_urls}
use Rattle.urlpattern_init.specs.Inheritance.{texts_of_url}
use Rattle.urlpattern_init.specs.UrlTexts.{IsLine as IsPlain}
use Rattle.urlpattern_init.specs.declared.init.UrlPatternMatchInput.TheVariants.{Url as UrlInput}
use Rattle.urlpattern_laws.specs.PartReadings.{OwnPartsMean, SameAreMatched}
use Rattle.urlpattern_matcher.specs.declared.regexp.RegExp.{Ghosts as Engine}
use Rattle.urlpattern_meaning.specs.Matching.{IsMatched, MatcherView, Returns}
use Rattle.urlpattern_meaning.specs.PartMeaning.{Captures}
use Rattle.urlpattern_pattern.proofs.MatchersDecide.{answered}
use Rattle.urlpattern_pattern.specs.Match.{HasMatch}
use Rattle.urlpattern_pattern.specs.Patterns.{PatternView, pattern_view}
use Rattle.urlpattern_pattern.specs.UrlPatterns.{AreMadeOfParts, UrlPattern}

bools_equal : (a b : Bool) → (IsTrue a → IsTrue b) → (IsTrue b → IsTrue a) → a ≡ b
bools_equal true true to from = refl
bools_equal false false to from = refl
bools_equal true false to from = sym (to refl)
bools_equal false true to from = from refl

-- ---- what an engine's patterns mean

module _ {E : Type 0} (engine : Engine E) where
  -- Two patterns that the engine made of parts match alike where the parts are the same, and not
  -- known.
  abbrev pub SameMatch : Type 0
  SameMatch =
      (pattern asked : PatternView E) (parts asked_parts : PatternParts) → AreMadeOfParts engine parts pattern → AreMadeOfParts engine asked_parts asked →
      SameAreMatched engine.answer pattern asked parts asked_parts

  abbrev pub matches : PatternView E → ComponentName → List ℕ → Bool
  matches view name text = is_some (answered engine.answer (view name).matcher text).0

  -- The meaning is that of a pattern, made of its parts, for which `Holds` is.
  abbrev pub IsMeaningOf : (Holds : PatternView E → Type 0) → PatternMeaning → Type 0
  IsMeaningOf Holds it = (view : PatternView E) × AreMadeOfParts engine it.parts view × ((name : ComponentName) (text : List ℕ) → it.means name text ≡ matches view name text) × Holds view

  -- A pattern for which `Holds` is was made of the parts.
  abbrev pub HasView : (Holds : PatternView E → Type 0) → PatternAutomata → Type 0
  HasView Holds it = (view : PatternView E) × AreMadeOfParts engine it.parts view × Holds view

  by_result : (matcher : MatcherView E) (text : List ℕ) (found : Option Captures) → Returns engine.answer matcher text found → IsTrue (is_some found) ↔ IsMatched engine.answer matcher text
  by_result matcher text None none = (λ never. absurd (true≢false (sym never)), λ matched. absurd (none matched.0 matched.1))
  by_result matcher text (Some captures) is = (λ yes. (captures, is), λ matched. refl)

  pub matches_are : (view : PatternView E) (name : ComponentName) (text : List ℕ) → IsTrue (matches view name text) ↔ IsMatched engine.answer (view name).matcher text
  matches_are view name text = let all = answered engine.answer (view name).matcher text in by_result (view name).matcher text all.0 all.1

  module _ (mean : OwnPartsMean engine) (same_match : SameMatch) where
    plain : (text : List ℕ) → IsLine text → IsPlain text
    plain text line = record { characters = line.scalars; no_line_feed = line.plain }

    by_parts : (Holds : PatternView E → Type 0) (it : PatternMeaning) → IsMeaningOf Holds it → MeansByParts it
    by_parts Holds it (view, made, means, holds) name known text line =
        let matched = matches_are view name text in
        let meant = mean view it.parts made name known text (plain text line) in (
          λ is. meant.0 (matched.0 (sym (means name text) ∙ is)),
          λ is. means name text ∙ matched.1 (meant.1 is),
        )

    -- A pattern matches what another one does where the parts are the same.
    one_way : (view other : PatternView E) (parts others : PatternParts) → AreMadeOfParts engine parts view → AreMadeOfParts engine others other → (name : ComponentName)
        → AreSame (at parts.components name) (at others.components name) → (text : List ℕ) → IsLine text
        → IsMatched engine.answer (other name).matcher text → IsMatched engine.answer (view name).matcher text
    one_way view other parts others made also name same text line matched = elim (known_or_not (at parts.components name)) [
      | inl known ↦
          let within = same_within (at parts.components name) (at others.components name) same known in
          (mean view parts made name known text (plain text line)).1
          (within.within text line ((mean other others also name within.asked_known text (plain text line)).0 matched))
      | inr unknown ↦ same_match view other parts others made also name unknown same text (plain text line) matched
    ]

    alike : (Holds Also : PatternView E → Type 0) (it other : PatternMeaning) → IsMeaningOf Holds it → IsMeaningOf Also other → MeanAlike it other
    alike Holds Also it other (view, made, means, holds) (another, also_made, also_means, also) name same text line =
        let here = matches_are view name text in
        let there = matches_are another name text in
        means name text
        ∙ bools_equal (matches view name text) (matches another name text)
        (λ is. there.1 (one_way another view other.parts it.parts also_made made name (same_flips (at it.parts.components name) (at other.parts.components name) same) text line (here.0 is)))
        (λ is. here.1 (one_way view another it.parts other.parts made also_made name same text line (there.0 is)))
        ∙ sym (also_means name text)

    -- The meaning of each pattern.
    meanings : (Holds : PatternView E → Type 0) (automata : List PatternAutomata) → All (HasView Holds) automata
        → (all : List PatternMeaning) × (map (λ it. it.parts) all ≡ parts_of automata) × All (IsMeaningOf Holds) all
    meanings Holds [] are = ([], refl, All-nil (IsMeaningOf Holds))
    meanings Holds (it ∷ automata) are =
        let (view, made, holds) = All-head (HasView Holds) it automata are in
        let one : PatternMeaning = record { parts = it.parts; means = matches view } in
        let (others, parts, each) = meanings Holds automata (All-tail (HasView Holds) it automata are) in
        (one ∷ others, ap (λ l. it.parts ∷ l) parts, All-cons (IsMeaningOf Holds) one others (view, made, λ name text. refl, holds) each)

    weaker : (Holds Also : PatternView E → Type 0) → ((view : PatternView E) → Holds view → Also view) → (all : List PatternMeaning) → All (IsMeaningOf Holds) all → All (IsMeaningOf Also) all
    weaker Holds Also to all each = All-weaker (IsMeaningOf Holds) (IsMeaningOf Also) (λ it is. (is.0, is.1, is.2, to is.0 is.3)) all each

    -- Meanings of patterns that the engine made.
    pub are_meanings : (Holds Also : PatternView E → Type 0) (all none : List PatternMeaning) (all_of none_of : List PatternAutomata) → map (λ it. it.parts) all ≡ parts_of all_of → map (λ it. it.parts) none ≡ parts_of none_of
        → All (IsMeaningOf Holds) all → All (IsMeaningOf Also) none → AreMeanings (parts_of all_of) (parts_of none_of) all none
    are_meanings Holds Also all none all_of none_of all_parts none_parts are also =
        let Any : PatternView E → Type 0 = λ view. Unit {0} in
        let each = All-append (IsMeaningOf Any) all none (weaker Holds Any (λ view holds. tt) all are) (weaker Also Any (λ view holds. tt) none also) in
        record {
          all_parts = all_parts;
          none_parts = none_parts;
          known = All-weaker (IsMeaningOf Any) MeansByParts (λ it is. by_parts Any it is) (all ++ none) each;
          same = All-weaker (IsMeaningOf Any) (λ it. All (MeanAlike it) (all ++ none))
              (λ it is. All-weaker (IsMeaningOf Any) (MeanAlike it) (λ other also_is. alike Any Any it other is also_is) (all ++ none) each) (all ++ none) each;
        }

    -- ---- texts

    abbrev pub Matches : TextAt → PatternView E → Type 0
    Matches texts view = (name : ComponentName) → IsMatched engine.answer (view name).matcher (texts name)

    matched_each : (texts : TextAt) (all : List PatternMeaning) → All (IsMeaningOf (Matches texts)) all → All (λ it. MeansEach it texts) all
    matched_each texts all are =
        All-weaker (IsMeaningOf (Matches texts)) (λ it. MeansEach it texts) (λ it is name. is.2 name (texts name) ∙ (matches_are is.0 name (texts name)).1 (is.3 name)) all are

    refused_each : (texts : TextAt) (none : List PatternMeaning) → All (IsMeaningOf (λ view. ¬ Matches texts view)) none → All (λ it. ¬ MeansEach it texts) none
    refused_each texts none are =
        All-weaker (IsMeaningOf (λ view. ¬ Matches texts view)) (λ it. ¬ MeansEach it texts)
        (λ it is each. is.3 (λ name. (matches_are is.0 name (texts name)).0 (sym (is.2 name (texts name)) ∙ each name))) none are

    -- Of patterns that cover another one, not all fail to match what it matches.
    pub some_match : (some : List PatternAutomata) (asked : PatternAutomata) (texts : TextAt) → AreCovering some asked → AreLines texts → HasView (Matches texts) asked
        → ¬ All (HasView (λ view. ¬ Matches texts view)) some
    some_match some asked texts cover lines has fail =
        let Own : PatternView E → Type 0 = Matches texts in
        let Others : PatternView E → Type 0 = λ view. ¬ Matches texts view in
        let (all, all_parts, are) = meanings Own (asked ∷ []) (All-cons (HasView Own) asked [] has (All-nil (HasView Own))) in
        let (none, none_parts, are_none) = meanings Others some fail in
        cover all none (are_meanings Own Others all none (asked ∷ []) some all_parts none_parts are are_none) texts
        (record { lines = lines; meant = matched_each texts all are; unmeant = refused_each texts none are_none })

    -- ---- patterns at an index

    pub there : (patterns : List (UrlPattern E)) (all : List PatternAutomata) → HaveAllAutomata engine patterns all → (i : ℕ) (it : PatternAutomata) → slice_get all i ≡ Some it
        → (pattern : UrlPattern E) × (slice_get patterns i ≡ Some pattern) × HasAutomata engine pattern it
    there [] [] have i it at_i = absurd cc
    there [] (other ∷ all) have i it at_i = absurd have
    there (pattern ∷ patterns) [] have i it at_i = absurd have
    there (pattern ∷ patterns) (other ∷ all) have zero it at_i = let same : other ≡ it = cc in (pattern, refl, subst (HasAutomata engine pattern) same have.0)
    there (pattern ∷ patterns) (other ∷ all) have (suc i) it at_i = there patterns all have.1 i it at_i

    pub there_also : (patterns : List (UrlPattern E)) (all : List PatternAutomata) → HaveAllAutomata engine patterns all → (i : ℕ) (pattern : UrlPattern E) → slice_get patterns i ≡ Some pattern
        → (it : PatternAutomata) × (slice_get all i ≡ Some it)
    there_also [] all have i pattern at_i = absurd cc
    there_also (other ∷ patterns) [] have i pattern at_i = absurd have
    there_also (other ∷ patterns) (it ∷ all) have zero pattern at_i = (it, refl)
    there_also (other ∷ patterns) (it ∷ all) have (suc i) pattern at_i = there_also patterns all have.1 i pattern at_i

    all_views : (Holds : PatternView E → Type 0) (patterns : List (UrlPattern E)) (all : List PatternAutomata) → HaveAllAutomata engine patterns all → (i : ℕ)
        → All Holds (take i (patterns_view patterns)) → All (HasView Holds) (take i all)
    all_views Holds [] [] have zero are = All-nil (HasView Holds)
    all_views Holds [] [] have (suc i) are = All-nil (HasView Holds)
    all_views Holds [] (other ∷ all) have i are = absurd have
    all_views Holds (pattern ∷ patterns) [] have i are = absurd have
    all_views Holds (pattern ∷ patterns) (it ∷ all) have zero are = All-nil (HasView Holds)
    all_views Holds (pattern ∷ patterns) (it ∷ all) have (suc i) are =
        let views = take i (patterns_view patterns) in
        All-cons (HasView Holds) it (take i all) (pattern_view pattern, have.0.made, All-head Holds (pattern_view pattern) views are)
        (all_views Holds patterns all have.1 i (All-tail Holds (pattern_view pattern) views are))

    by_option : (i : ℕ) (view : PatternView E) (patterns : List (UrlPattern E)) (found : Option (UrlPattern E)) → slice_get patterns i ≡ found → option_map (λ one. pattern_view one) found ≡ Some view
        → (pattern : UrlPattern E) × (slice_get patterns i ≡ Some pattern) × (pattern_view pattern ≡ view)
    by_option i view patterns None e is = absurd cc
    by_option i view patterns (Some pattern) e is = (pattern, e, cc)

    by_view : (patterns : List (UrlPattern E)) (i : ℕ) (view : PatternView E) → slice_get (patterns_view patterns) i ≡ Some view → (pattern : UrlPattern E) × (slice_get patterns i ≡ Some pattern) × (pattern_view pattern ≡ view)
    by_view patterns i view at_i = by_option i view patterns (slice_get patterns i) refl (sym (slice_get-map (λ one. pattern_view one) patterns i) ∙ at_i)

    -- ---- laws

    never : (patterns : List (UrlPattern E)) (limits : Limits) (found : List Reach) (all : List PatternAutomata) → HaveAllAutomata engine patterns all → AreReached limits all found → (index : ℕ) (by : Vec ℕ Global) → slice_get found index ≡ Some (Never by)
        → (pattern : UrlPattern E) → slice_get patterns index ≡ Some pattern → (texts : TextAt) → AreLines texts → Matches texts (pattern_view pattern)
        → ¬ All (λ view. ¬ Matches texts view) (take index (patterns_view patterns))
    never patterns limits found all have reached index by unreached pattern pattern_there texts lines matched refused =
        let (asked, asked_there) = there_also patterns all have index pattern pattern_there in
        let (again, again_there, has) = there patterns all have index asked asked_there in
        let (reach, reach_there, is_reach) = reached.each index asked asked_there in
        let is_never : reach ≡ Never by = (let both : Some reach ≡ Some (Never by) = sym reach_there ∙ unreached in cc) in
        let least = subst (IsReach limits (take index all) asked) is_never is_reach in
        let same_pattern : again ≡ pattern = (let both : Some again ≡ Some pattern = sym again_there ∙ pattern_there in cc) in
        let made = subst (λ (p : UrlPattern E). AreMadeOfParts engine asked.parts (pattern_view p)) same_pattern has.made in
        some_match (at_each (take index all) by.items) asked texts least.cover lines (pattern_view pattern, made, matched)
        (all_each (HasView (λ view. ¬ Matches texts view)) (take index all) by.items (all_views (λ view. ¬ Matches texts view) patterns all have index refused))

    -- A pattern that others cover does not match texts that none before it does.
    pub never_alone : (patterns : List (UrlPattern E)) (limits : Limits) (found : List Reach) → AreReachedBy engine limits patterns found → (index : ℕ) (by : Vec ℕ Global) → slice_get found index ≡ Some (Never by)
        → (pattern : UrlPattern E) → slice_get patterns index ≡ Some pattern → (texts : TextAt) → AreLines texts → Matches texts (pattern_view pattern)
        → ¬ All (λ view. ¬ Matches texts view) (take index (patterns_view patterns))
    never_alone patterns limits found reached index by unreached pattern pattern_there texts lines matched refused =
        never patterns limits found reached.0 reached.1 reached.2 index by unreached pattern pattern_there texts lines matched refused

    pub never_first : UnreachedAreNeverFirst engine
    never_first patterns limits found reached index by unreached url valid first is same =
        let texts : TextAt = λ name. at (texts_of_url url) name in
        let lines : AreLines texts = λ name. record { scalars = (texts_of_urls url valid name).characters; plain = (texts_of_urls url valid name).no_line_feed } in
        let (view, view_there, view_matches) = is.0 in
        let (own, are_own, match) = view_matches in
        let (pattern, pattern_there, is_view) = by_view patterns index view (subst (λ (i : ℕ). slice_get (patterns_view patterns) i ≡ Some view) same view_there) in
        let are_texts : own ≡ texts_of_url url = (let both : Ok (texts_of_url url) ≡ Ok own = are_own in cc) in
        let matched : Matches texts (pattern_view pattern) =
        λ name. subst (λ (v : PatternView E). IsMatched engine.answer (v name).matcher (texts name)) (sym is_view)
        (subst (λ (t : Texts). IsMatched engine.answer (view name).matcher (at t name)) are_texts (match.captures name, match.are_answers name)) in
        never_alone patterns limits found reached index by unreached pattern pattern_there texts lines matched
        (All-weaker (λ (it : PatternView E). ¬ HasMatch engine.answer it (UrlInput url)) (λ it. ¬ Matches texts it)
        (λ it none each. none (texts_of_url url, refl, each)) (take index (patterns_view patterns)) (subst (λ (i : ℕ). All (λ (it : PatternView E). ¬ HasMatch engine.answer it (UrlInput url)) (take i (patterns_view patterns))) same is.1))

    -- ---- patterns that are reached

    abbrev Any : PatternView E → Type 0
    Any view = Unit {0}

    abbrev meant_by : List (UrlPattern E) → List PatternAutomata → List PatternMeaning
    meant_by [] all = []
    meant_by (pattern ∷ patterns) [] = []
    meant_by (pattern ∷ patterns) (it ∷ all) = record { parts = it.parts; means = matches (pattern_view pattern) } ∷ meant_by patterns all

    meant_parts : (patterns : List (UrlPattern E)) (all : List PatternAutomata) → HaveAllAutomata engine patterns all → map (λ it. it.parts) (meant_by patterns all) ≡ parts_of all
    meant_parts [] [] have = refl
    meant_parts [] (it ∷ all) have = absurd have
    meant_parts (pattern ∷ patterns) [] have = absurd have
    meant_parts (pattern ∷ patterns) (it ∷ all) have = ap (λ l. it.parts ∷ l) (meant_parts patterns all have.1)

    meant_are : (patterns : List (UrlPattern E)) (all : List PatternAutomata) → HaveAllAutomata engine patterns all → All (IsMeaningOf Any) (meant_by patterns all)
    meant_are [] all have = All-nil (IsMeaningOf Any)
    meant_are (pattern ∷ patterns) [] have = All-nil (IsMeaningOf Any)
    meant_are (pattern ∷ patterns) (it ∷ all) have =
        All-cons (IsMeaningOf Any) (record { parts = it.parts; means = matches (pattern_view pattern) }) (meant_by patterns all)
        (pattern_view pattern, have.0.made, λ name text. refl, tt) (meant_are patterns all have.1)

    meant_refused : (texts : TextAt) (patterns : List (UrlPattern E)) (all : List PatternAutomata) → HaveAllAutomata engine patterns all → All (λ it. ¬ MeansEach it texts) (meant_by patterns all)
        → All (λ view. ¬ Matches texts view) (patterns_view patterns)
    meant_refused texts [] all have refused = All-nil (λ view. ¬ Matches texts view)
    meant_refused texts (pattern ∷ patterns) [] have refused = absurd have
    meant_refused texts (pattern ∷ patterns) (it ∷ all) have refused =
        let one : PatternMeaning = record { parts = it.parts; means = matches (pattern_view pattern) } in
        let others = meant_by patterns all in
        All-cons (λ view. ¬ Matches texts view) (pattern_view pattern) (patterns_view patterns)
        (λ each. All-head (λ it. ¬ MeansEach it texts) one others refused (λ name. (matches_are (pattern_view pattern) name (texts name)).1 (each name)))
        (meant_refused texts patterns all have.1 (All-tail (λ it. ¬ MeansEach it texts) one others refused))

    take_have : (patterns : List (UrlPattern E)) (all : List PatternAutomata) (i : ℕ) → HaveAllAutomata engine patterns all → HaveAllAutomata engine (take i patterns) (take i all)
    take_have patterns all zero have = tt
    take_have [] [] (suc i) have = tt
    take_have [] (it ∷ all) (suc i) have = absurd have
    take_have (pattern ∷ patterns) [] (suc i) have = absurd have
    take_have (pattern ∷ patterns) (it ∷ all) (suc i) have = (have.0, take_have patterns all i have.1)

    is_first : (patterns : List (UrlPattern E)) (limits : Limits) (found : List Reach) (all : List PatternAutomata) → HaveAllAutomata engine patterns all → AreReached limits all found
        → (index : ℕ) (texts : Eight (String Global)) → slice_get found index ≡ Some (First texts) → (pattern : UrlPattern E) → slice_get patterns index ≡ Some pattern
        → MatchesStrings engine.answer texts (pattern_view pattern) × All (λ earlier. ¬ MatchesStrings engine.answer texts earlier) (take index (patterns_view patterns))
    is_first patterns limits found all have reached index texts has_texts pattern pattern_there =
        let (asked, asked_there) = there_also patterns all have index pattern pattern_there in
        let (again, again_there, has) = there patterns all have index asked asked_there in
        let same_pattern : again ≡ pattern = (let both : Some again ≡ Some pattern = sym again_there ∙ pattern_there in cc) in
        let own = subst (λ (p : UrlPattern E). HasAutomata engine p asked) same_pattern has in
        let (reach, reach_there, is_reach) = reached.each index asked asked_there in
        let is_texts : reach ≡ First texts = (let both : Some reach ≡ Some (First texts) = sym reach_there ∙ has_texts in cc) in
        let certain = subst (IsReach limits (take index all) asked) is_texts is_reach in
        let before = take_have patterns all index have in
        let one : PatternMeaning = record { parts = asked.parts; means = matches (pattern_view pattern) } in
        let none = meant_by (take index patterns) (take index all) in
        let common = certain (one ∷ []) none
        (are_meanings Any Any (one ∷ []) none (asked ∷ []) (take index all) refl (meant_parts (take index patterns) (take index all) before)
        (All-cons (IsMeaningOf Any) one [] (pattern_view pattern, own.made, λ name text. refl, tt) (All-nil (IsMeaningOf Any))) (meant_are (take index patterns) (take index all) before)) in (
          λ name. (matches_are (pattern_view pattern) name (string_at texts name)).0 (All-head (λ it. MeansEach it (string_at texts)) one [] common.meant name),
          subst (λ (views : List (PatternView E)). All (λ view. ¬ Matches (string_at texts) view) views) (sym (take-map (λ one. pattern_view one) index patterns))
              (meant_refused (string_at texts) (take index patterns) (take index all) before common.unmeant),
        )

    pub reached_first : ReachedAreFirst engine
    reached_first patterns limits found reached index texts has_texts pattern pattern_there =
        is_first patterns limits found reached.0 reached.1 reached.2 index texts has_texts pattern pattern_there
