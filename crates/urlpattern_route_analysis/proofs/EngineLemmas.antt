-- Formulas hold of the requests of which the conditions hold, as an engine matches.
use Rattle.std.proofs.Common.{◌≡◌, ◌∙◌, ◌↔◌, ◌⊎◌, ◌||◌, ℕ, zero, suc, Bool, true, false, true≢false, List, [], ◌∷◌, None, Option, Some, ap, get_or, inl, inr, map, not, option_map, refl, slice_get, string_bytes, subst, sym, take}
use Rattle.std.proofs.lemmas.List.Elements.{All-cons, All-get_or, All-head, All-nil, All-tail}
use Rattle.std.proofs.lemmas.Option.{get_or_from_slice_get, none-some, same_Some, slice_get_within}
use Rattle.std.specs.List.{AllZip}
use Rattle.std.specs.Prelude.{All, IsTrue, if◌then◌else◌}
use Rattle.url.specs.Parts.{Parts}
use Rattle.urlpattern_compare.specs.Candidates.{AreLines}
use Rattle.urlpattern_compare.specs.CommonTexts.{PatternMeaning}
use Rattle.urlpattern_compare.specs.Comparing.{AreSame}
use Rattle.urlpattern_compare.specs.declared.common_texts.PatternAutomata.{PatternAutomata}
use Rattle.urlpattern_compare.specs.declared.pattern_parts.PatternParts.{PatternParts}
use Rattle.urlpattern_components.proofs.EightLemmas.{at-each}
use Rattle.urlpattern_components.specs.Eight.{at}
use Rattle.urlpattern_components.specs.declared.eight.ComponentName.{ComponentName}
use Rattle.urlpattern_conditions.specs.Conditions as conditions
use Rattle.urlpattern_conditions.specs.Conditions.{ConditionView, ConditionViews, EachHolds, Holds, SomeHolds}
use Rattle.urlpattern_conditions.specs.Requests.{RequestView}
use Rattle.urlpattern_init.specs.Inheritance.{url_text}
use Rattle.urlpattern_laws.specs.PartReadings.{OwnPartsMean}
use Rattle.urlpattern_matcher.specs.declared.regexp.RegExp.{Ghosts as Engine}
use Rattle.urlpattern_meaning.specs.Matching.{IsMatched}
use Rattle.urlpattern_pattern.specs.Match.{AreMatched}
use Rattle.urlpattern_pattern.specs.Patterns.{PatternView}
use Rattle.urlpattern_pattern.specs.UrlPatterns.{AreMadeOfParts}
use Rattle.urlpattern_route_analysis.proofs.DecisionLemmas.{url_lines}
use Rattle.urlpattern_route_analysis.proofs.EngineMeanings.{AreMeant, IsMade, SameMatch, is_made, matches, matches_are, mean_alike, meaning, meanings, meant_of}
use Rattle.urlpattern_route_analysis.proofs.LawLemmas.{found_are_decided}
use Rattle.urlpattern_route_analysis.proofs.MeaningLemmas.{at_url, each_meant, meanings_are, meanings_in, meant_each}
use Rattle.urlpattern_route_analysis.proofs.NamingLemmas.{has_name, own_name}
use Rattle.urlpattern_route_analysis.specs.Deciding.{IsFoundIn, IsUrlIn, is_matched}
use Rattle.urlpattern_route_analysis.specs.EngineDecisions.{FoundDecide, IsDecidedBy, KeepsCase, MissingDecideNone, request_of}
use Rattle.urlpattern_route_analysis.specs.Formulas.{AtomView, FormulaView, FormulaViews, first_to_hold, holds, opposites_if, some_holds}
use Rattle.urlpattern_route_analysis.specs.Making.{AreFormulasOf, IsFormulaOf, IsPatternAt}
use Rattle.urlpattern_route_analysis.specs.Naming.{is_named, is_so}
use Rattle.urlpattern_route_analysis.specs.declared.decisions.JointDecision.{JointDecision}
use Rattle.urlpattern_urls.specs.CommonUrls.{url_at}

-- ---- tests and facts

-- The test says whether the fact holds.
abbrev Says : Bool → Type 0 → Type 0
Says test Fact = IsTrue test ↔ Fact

opposed : (test : Bool) {Fact : Type 0} → Says test Fact → Says (not (test || false)) (¬ Fact)
opposed true says = (λ never. absurd (true≢false (sym never)), λ fails. absurd (fails (says.0 refl)))
opposed false says = (λ yes fact. true≢false (sym (says.1 fact)), λ fails. refl)

twice : (test : Bool) → not (not test || false) ≡ test
twice true = refl
twice false = refl

-- A fact holds and no other one does: neither its opposite nor any of the others hold.
both : (test others : Bool) {Fact Rest : Type 0} → Says test Fact → Says (not others) Rest → Says (not (not (test || false) || others)) (Fact × Rest)
both true others own rest = (λ yes. (own.0 refl, rest.0 yes), λ facts. rest.1 facts.1)
both false others own rest = (λ never. absurd (true≢false (sym never)), λ facts. absurd (true≢false (sym (own.1 facts.0))))

either : (test others : Bool) {Fact Rest : Type 0} → Says test Fact → Says others Rest → Says (test || others) (Fact ⊎ Rest)
either true others own rest = (λ yes. inl (own.0 refl), λ facts. refl)
either false others own rest = (λ yes. inr (rest.0 yes), λ facts. elim facts [ inl fact ↦ absurd (true≢false (sym (own.1 fact))) | inr fact ↦ rest.1 fact ])

not_so : (test : Bool) {Fact : Type 0} → Says test Fact → ¬ Fact → test ≡ false
not_so true says fails = absurd (fails (says.0 refl))
not_so false says fails = refl

-- ---- conditions

module _ {E : Type 0} (engine : Engine E) (mean : OwnPartsMean engine) (same_match : SameMatch engine) where
  module _ (patterns : List PatternAutomata) (case : All KeepsCase patterns) (are : AreMeant engine mean same_match patterns) (url : Parts) (lines : AreLines (url_at url)) (names : List (List ℕ)) where
    abbrev so : AtomView → Bool
    so = is_so (is_matched are.meant (url_at url)) names

    abbrev request : RequestView
    request = request_of url names

    abbrev Fails : ConditionView E → Type 0
    Fails one = ¬ Holds engine.answer request one

    -- A component of the pattern is matched if and only if what is meant at its index means it.
    component_alike : (pattern : PatternView E) (k : ℕ) (it : PatternAutomata) → slice_get patterns k ≡ Some it → AreMadeOfParts engine it.parts pattern → (own : PatternMeaning) → IsMade engine own → own.parts ≡ it.parts
        → (name : ComponentName) → own.means name (url_text name url) ≡ matches engine pattern name (url_text name url)
    component_alike pattern k it there made own is_own same name =
        let kept : KeepsCase it = subst KeepsCase (get_or_from_slice_get patterns k it it there) (All-get_or KeepsCase patterns k it (slice_get_within patterns k it there) case) in
        let alike : AreSame (at own.parts.components name) (at it.parts.components name) =
        subst (λ (p : PatternParts). AreSame (at p.components name) (at it.parts.components name)) (sym same) (record { options = refl; parts = refl; case = refl; kept_or_generated = kept name }) in
        mean_alike engine mean same_match own (meaning engine pattern it.parts) is_own (is_made engine pattern it.parts made) name alike (url_text name url) (lines name)

    text_at : (name : ComponentName) → at request.texts name ≡ url_text name url
    text_at name = at-each (λ n. url_text n url) name

    pattern_says : (pattern : PatternView E) (k : ℕ) → IsPatternAt engine patterns pattern k → Says (is_matched are.meant (url_at url) k) (AreMatched engine.answer pattern request.texts)
    pattern_says pattern k (it, there, made) =
        let (own, at_k, is_own, same) = are.at_each k it there in
        let meets = at_url are.meant (url_at url) names k own at_k in
        let alike = component_alike pattern k it there made own is_own same in (
          λ is name.
              subst (λ (text : List ℕ). IsMatched engine.answer (pattern name).matcher text) (sym (text_at name))
              ((matches_are engine pattern name (url_text name url)).0 (sym (alike name) ∙ meant_each own (url_at url) (sym meets ∙ is) name)),
          λ matched.
              meets ∙ each_meant own (url_at url)
              (λ name. alike name ∙ (matches_are engine pattern name (url_text name url)).1 (subst (λ (text : List ℕ). IsMatched engine.answer (pattern name).matcher text) (text_at name) (matched name))),
        )

    named_says : (attribute : ℕ) (name : List ℕ) → Says (is_named names attribute name) (slice_get names attribute ≡ Some name)
    named_says attribute name = (
      λ is. own_name (is_matched are.meant (url_at url)) names (slice_get names attribute) attribute name refl is,
      λ there. has_name (is_matched are.meant (url_at url)) names attribute name there,
    )

    mutual
      says : (own : ConditionView E) (it : FormulaView) → IsFormulaOf engine patterns own it → Says (holds so it) (Holds engine.answer request own)
      says (conditions.of_url pattern) it (index, same, there) =
          subst (λ (f : FormulaView). Says (holds so f) (AreMatched engine.answer pattern request.texts)) (sym same) (pattern_says pattern index there)
      says (conditions.of_name attribute name) it is = subst (λ (f : FormulaView). Says (holds so f) (slice_get names attribute ≡ Some name)) (sym is) (named_says attribute name)
      says (conditions.of_all given) it (each, same, are_each) = subst (λ (f : FormulaView). Says (holds so f) (EachHolds engine.answer request given)) (sym same) (says_all given each are_each)
      says (conditions.of_any given) it (each, same, are_each) =
          subst (λ (f : FormulaView). Says (holds so f) (SomeHolds engine.answer request given)) (sym same)
          (subst (λ (test : Bool). Says test (SomeHolds engine.answer request given)) (sym (twice (some_holds so each))) (says_any given each are_each))
      says (conditions.of_not one) it (inner, same, is) =
          subst (λ (f : FormulaView). Says (holds so f) (¬ Holds engine.answer request one)) (sym same) (opposed (holds so inner) (says one inner is))

      says_all : (given : ConditionViews E) (each : FormulaViews) → AreFormulasOf engine patterns given each → Says (not (some_holds so (opposites_if true each))) (EachHolds engine.answer request given)
      says_all conditions.no_conditions each is = subst (λ (e : FormulaViews). Says (not (some_holds so (opposites_if true e))) (Unit {0})) (sym is) (λ yes. tt, λ facts. refl)
      says_all (conditions.condition one rest) each (first, others, same, is, more) =
          subst (λ (e : FormulaViews). Says (not (some_holds so (opposites_if true e))) (Holds engine.answer request one × EachHolds engine.answer request rest)) (sym same)
          (both (holds so first) (some_holds so (opposites_if true others)) (says one first is) (says_all rest others more))

      says_any : (given : ConditionViews E) (each : FormulaViews) → AreFormulasOf engine patterns given each → Says (some_holds so each) (SomeHolds engine.answer request given)
      says_any conditions.no_conditions each is = subst (λ (e : FormulaViews). Says (some_holds so e) ⊥) (sym is) (λ never. true≢false (sym never), λ never. absurd never)
      says_any (conditions.condition one rest) each (first, others, same, is, more) =
          subst (λ (e : FormulaViews). Says (some_holds so e) (Holds engine.answer request one ⊎ SomeHolds engine.answer request rest)) (sym same)
          (either (holds so first) (some_holds so others) (says one first is) (says_any rest others more))

    -- ---- the first condition that holds

    later : (own : ConditionView E) (rest : List (ConditionView E)) (found : Option ℕ) → Fails own → IsDecidedBy engine.answer request rest found → IsDecidedBy engine.answer request (own ∷ rest) (option_map (λ index. suc index) found)
    later own rest None fails all = All-cons Fails own rest fails all
    later own rest (Some k) fails is = record { holds = is.holds; first = All-cons Fails own (take k rest) fails is.first }

    decided : (own : List (ConditionView E)) (formulas : List FormulaView) → AllZip (IsFormulaOf engine patterns) own formulas → IsDecidedBy engine.answer request own (first_to_hold so formulas)
    decided [] [] all = All-nil Fails
    decided [] (it ∷ formulas) all = absurd all
    decided (one ∷ own) [] all = absurd all
    decided (one ∷ own) (it ∷ formulas) all = by (holds so it) (says one it all.0) (decided own formulas all.1)
      where
        by : (test : Bool) → Says test (Holds engine.answer request one) → IsDecidedBy engine.answer request own (first_to_hold so formulas)
            → IsDecidedBy engine.answer request (one ∷ own) (if test then Some 0 else option_map (λ index. suc index) (first_to_hold so formulas))
        by true own_says rest = record { holds = (one, refl, own_says.0 refl); first = All-nil Fails }
        by false own_says rest = later one own (first_to_hold so formulas) (λ fact. true≢false (sym (own_says.1 fact))) rest

    next_first : (it : FormulaView) (formulas : List FormulaView) (found : Option ℕ) → holds so it ≡ false → first_to_hold so formulas ≡ found → first_to_hold so (it ∷ formulas) ≡ option_map (λ index. suc index) found
    next_first it formulas found fails rest =
        ap (λ (test : Bool). if test then Some 0 else option_map (λ index. suc index) (first_to_hold so formulas)) fails ∙ ap (λ (o : Option ℕ). option_map (λ index. suc index) o) rest

    first_is : (own : List (ConditionView E)) (formulas : List FormulaView) → AllZip (IsFormulaOf engine patterns) own formulas → (found : Option ℕ) → IsDecidedBy engine.answer request own found → first_to_hold so formulas ≡ found
    first_is [] [] all None is = refl
    first_is [] [] all (Some k) is = absurd (none-some is.holds.0 is.holds.1)
    first_is [] (it ∷ formulas) all found is = absurd all
    first_is (one ∷ own) [] all found is = absurd all
    first_is (one ∷ own) (it ∷ formulas) all None is =
        next_first it formulas None (not_so (holds so it) (says one it all.0) (All-head Fails one own is)) (first_is own formulas all.1 None (All-tail Fails one own is))
    first_is (one ∷ own) (it ∷ formulas) all (Some zero) is =
        let yes = (says one it all.0).1 (subst (λ (c : ConditionView E). Holds engine.answer request c) (sym (same_Some one is.holds.0 is.holds.1)) is.holds.2) in
        ap (λ (test : Bool). if test then Some 0 else option_map (λ index. suc index) (first_to_hold so formulas)) yes
    first_is (one ∷ own) (it ∷ formulas) all (Some (suc k)) is =
        next_first it formulas (Some k) (not_so (holds so it) (says one it all.0) (All-head Fails one (take k own) is.first))
        (first_is own formulas all.1 (Some k) (record { holds = is.holds; first = All-tail Fails one (take k own) is.first }))

  -- ---- laws

  pub missing_decide_none : MissingDecideNone engine
  missing_decide_none analysis ones others first second it of_ones of_others are complete one other absent url valid names have (by_one, by_other) =
      let patterns = analysis.patterns.items in
      let meant = meant_of engine mean same_match patterns of_ones.made in
      let lines = url_lines url valid in
      let first_one = first_is patterns of_ones.case meant url lines names ones first of_ones.are one by_one in
      let first_other = first_is patterns of_others.case meant url lines names others second of_others.are other by_other in
      elim (are.missing complete one other) [
        | inl pair ↦ absent pair
        | inr none ↦ none meant.meant (meanings engine mean same_match patterns meant) url valid names have (first_one, first_other)
      ]

  pub found_decide : FoundDecide engine
  found_decide analysis ones others first second it of_ones of_others are k d lt url has_url =
      let patterns = analysis.patterns.items in
      let each : JointDecision = get_or it.found.items k d in
      let is : IsFoundIn analysis first second each = are.found k d lt in
      let meant = meant_of engine mean same_match patterns of_ones.made in
      let known = meanings engine mean same_match patterns meant in
      let common = subst (IsUrlIn analysis is.literals) has_url is.url (meanings_in meant.meant true is.literals) (meanings_in meant.meant false is.literals) (meanings_are patterns meant.meant is.literals known) in
      let decides = found_are_decided analysis first second each url is has_url meant.meant known in
      let names = map string_bytes each.names.items in (
        subst (IsDecidedBy engine.answer (request_of url names) ones) decides.0 (decided patterns of_ones.case meant url common.lines names ones first of_ones.are),
        subst (IsDecidedBy engine.answer (request_of url names) others) decides.1 (decided patterns of_others.case meant url common.lines names others second of_others.are),
      )
