-- Lemmas on what is found of static routes.
use Rattle.std.proofs.Common.{◌≡◌, ◌≢◌, ◌<◌, ◌⊎◌, ◌++◌, ◌∷◌, ◌+◌, ◌∙◌, ℕ, suc, zero, List, [], None, Option, Some, Result, Ok, String, ap, arith, eq-eqb, get_or, inl, inr, length, refl, string_bytes, subst, sym, true≢false}
use Rattle.std.proofs.lemmas.List.{get_or-map, length-append, length-map, take-map}
use Rattle.std.proofs.lemmas.List.Elements.{All-cons, All-head, All-nil, All-tail, All-take}
use Rattle.std.proofs.lemmas.List.Folds.{list_any_at}
use Rattle.std.proofs.lemmas.Option.{none-some, same_Some, slice_get-get_or}
use Rattle.std.specs.Global.{Global}
use Rattle.std.specs.Io.KnownBytes.{Appends}
use Rattle.std.specs.Option.{option_eq}
use Rattle.std.specs.Prelude.{◌&&◌, All, Any, Bool, IfOk, IsTrue, nat_eq, slice_get, take, true}
use Rattle.std.specs.declared.alloc.AllocError.{AllocError}
use Rattle.urlpat_routes.specs.RouteCommands.{Shows}
use Rattle.urlpat_routes.specs.RouteUses.{AreUnusedRight, AreUsesBy, IsOfRoutes, IsUnused, IsUse, case_limits, is_noted, is_noted_one, is_unused}
use Rattle.urlpat_routes.specs.declared.rule_use.RuleUse.{RuleUse}
use Rattle.urlpat_routes.specs.declared.rule_use.RuleUse.TheVariants as uses
use Rattle.urlpattern_compare.specs.CommonTexts.{AreAutomata}
use Rattle.urlpattern_compare.specs.declared.common_texts.PatternAutomata.{PatternAutomata}
use Rattle.urlpattern_route_analysis.proofs.WithinLemmas.{within_longer}
use Rattle.urlpattern_route_analysis.specs.CasePatterns.{AreWithin}
use Rattle.urlpattern_route_analysis.specs.Cases.{IsWithin}
use Rattle.urlpattern_route_analysis.specs.Deciding.{AreDecisions, IsReady, NoneDecidedBy}
use Rattle.urlpattern_route_analysis.specs.Formulas.{FormulaView, formula_view, formula_views}
use Rattle.urlpattern_route_analysis.specs.Making.{IsEmpty, Keeps}
use Rattle.urlpattern_route_analysis.specs.Scopes.{AreRouteAttributes}
use Rattle.urlpattern_route_analysis.specs.declared.analysis.Analysis.{Analysis}
use Rattle.urlpattern_route_analysis.specs.declared.decisions.Decisions.{Decisions}
use Rattle.urlpattern_route_analysis.specs.declared.decisions.JointDecision.{JointDecision}
use Rattle.urlpattern_route_analysis.specs.declared.formula.Formula.{Formula}
use Rattle.urlpattern_route_analysis.specs.declared.names.Attribute.{Attribute}

-- A text that is printed, and its status.
pub shows : (Prints : List ℕ → Type 0) (printed : Result (String Global) AllocError) (given wanted status : ℕ) (old new : Option (List ℕ))
    → IfOk printed (λ text. Prints (string_bytes text)) → given ≡ wanted → (status ≡ given) ⊎ (status ≡ 2) → status ≢ 2
    → (text : String Global) × (printed ≡ Ok text) × Appends old new (string_bytes text) → Shows Prints wanted status old new
shows Prints printed given wanted status old new are meant (inl is) answered (text, same, grown) =
    (string_bytes text, subst (λ it. IfOk it (λ text. Prints (string_bytes text))) same are, is ∙ meant, grown)
shows Prints printed given wanted status old new are meant (inr failed) answered (text, same, grown) = absurd (answered failed)

-- ---- lists

-- What holds of each item of a list, and of one more.
pub each_more : {A : Type 0} (P : ℕ → A → Type 0) (old : List A) (one : A) → ((index : ℕ) (it : A) → slice_get old index ≡ Some it → P index it) → P (length old) one
    → (index : ℕ) (it : A) → slice_get (old ++ one ∷ []) index ≡ Some it → P index it
each_more P [] one each own zero it is = subst (P zero) (same_Some one it is) own
each_more P [] one each own (suc index) it is = absurd (none-some it is)
each_more P (x ∷ old) one each own zero it is = each zero it is
each_more P (x ∷ old) one each own (suc index) it is = each_more (λ index it. P (suc index) it) old one (λ index it is. each (suc index) it is) own index it is

-- What holds of each item holds of the one at an index.
pub all_at : {A : Type 0} (P : A → Type 0) (items : List A) (index : ℕ) (one : A) → slice_get items index ≡ Some one → All P items → All P (one ∷ [])
all_at P [] index one is all = absurd (none-some one is)
all_at P (x ∷ items) zero one is all = All-cons P one [] (subst P (same_Some x one is) (All-head P x items all)) (All-nil P)
all_at P (x ∷ items) (suc index) one is all = all_at P items index one is (All-tail P x items all)

-- ---- uses

-- The use of each of the first rules.
abbrev pub AreUsesTo : Analysis → List FormulaView → Decisions → (count : ℕ) → List RuleUse → Type 0
AreUsesTo analysis formulas reach count found = (length found ≡ count) × ((index : ℕ) (it : RuleUse) → slice_get found index ≡ Some it → IsUse analysis formulas reach index it)

module _ (analysis : Analysis) (formulas : List FormulaView) (reach : Decisions) where
  pub no_uses : (found : List RuleUse) → found ≡ [] → AreUsesTo analysis formulas reach 0 found
  no_uses found none = subst (AreUsesTo analysis formulas reach 0) (sym none) (refl, λ index it is. absurd (none-some it is))

  pub uses_more : (count : ℕ) (old new : List RuleUse) (one : RuleUse) → new ≡ old ++ one ∷ [] → AreUsesTo analysis formulas reach count old → IsUse analysis formulas reach count one → AreUsesTo analysis formulas reach (count + 1) new
  uses_more count old new one grown (same, each) own =
      subst (AreUsesTo analysis formulas reach (count + 1)) (sym grown)
      (length-append old (one ∷ []) ∙ ap (λ (size : ℕ). size + 1) same, each_more (IsUse analysis formulas reach) old one each (subst (λ (index : ℕ). IsUse analysis formulas reach index one) (sym same) own))

-- ---- analyses

-- An analysis is of requests of service workers if it keeps what one of these has.
pub of_routes : (attributes : List Attribute) (empty kept more : Analysis) → AreRouteAttributes attributes → IsEmpty attributes case_limits empty → Keeps empty kept → Keeps kept more → IsReady more → IsOfRoutes more
of_routes attributes empty kept more are own first second ready = record {
  attributes = subst AreRouteAttributes (sym (second.attributes ∙ first.attributes ∙ own.attributes_are)) are;
  limits = second.limits ∙ first.limits ∙ own.limits_are;
  ready = ready;
}

-- Formulas over the patterns of an analysis are over those of one that keeps them.
pub still_within : (old new : Analysis) (formulas : List FormulaView) → Keeps old new → AreWithin old.patterns.items formulas → AreWithin new.patterns.items formulas
still_within old new formulas keeps within = by keeps.patterns
  where
    by : (more : List PatternAutomata) × (new.patterns.items ≡ old.patterns.items ++ more) × All AreAutomata more → AreWithin new.patterns.items formulas
    by (more, same, are) =
        let count : length new.patterns.items ≡ length old.patterns.items + length more = ap length same ∙ length-append old.patterns.items more in
        within_longer (length old.patterns.items) (length new.patterns.items) (omega (arith, count)) formulas within

-- The first formulas are over the patterns that all of them are over.
pub first_within : (patterns : List PatternAutomata) (formulas : List Formula) (index : ℕ) → AreWithin patterns (formula_views formulas) → AreWithin patterns (formula_views (take index formulas))
first_within patterns formulas index within = subst (AreWithin patterns) (take-map formula_view index formulas) (All-take (IsWithin (length patterns)) index (formula_views formulas) within)

-- The view of the formula at an index.
pub view_at : (formulas : List Formula) (index : ℕ) (one : Formula) → index < length formulas → one ≡ get_or formulas index one → slice_get (formula_views formulas) index ≡ Some (formula_view one)
view_at formulas index one lt is =
    slice_get-get_or (formula_views formulas) index (formula_view one) (subst (λ (count : ℕ). index < count) (sym (length-map formulas formula_view)) lt)
    ∙ ap (λ (it : FormulaView). Some it) (get_or-map formula_view formulas index one (formula_view one) lt ∙ ap formula_view (sym is))

-- A formula at an index is over the patterns that all of them are over.
pub one_within : (patterns : List PatternAutomata) (formulas them : List Formula) (index : ℕ) (one : Formula) → index < length formulas → one ≡ get_or formulas index one → them ≡ one ∷ [] → AreWithin patterns (formula_views formulas)
    → AreWithin patterns (formula_views them)
one_within patterns formulas them index one lt is same within =
    subst (λ (them : List Formula). AreWithin patterns (formula_views them)) (sym same)
    (all_at (IsWithin (length patterns)) (formula_views formulas) index (formula_view one) (view_at formulas index one lt is) within)

-- ---- rules of no use

same_option : (one other : Option ℕ) → one ≡ other → option_eq nat_eq one other ≡ true
same_option None None is = refl
same_option None (Some other) is = absurd (none-some other is)
same_option (Some one) None is = absurd (none-some one (sym is))
same_option (Some one) (Some other) is = eq-eqb one other (same_Some one other is)

-- What is found of two rules is noted.
noted : (found : List JointDecision) (one other : Option ℕ) → Any (λ each. (each.one ≡ one) × (each.other ≡ other)) found → is_noted found one other ≡ true
noted found one other (index, it, within, there, same) =
    list_any_at (is_noted_one one other) found index it within
    (ap (is_noted_one one other) there ∙ ap (λ (first : Bool). first && option_eq nat_eq it.other other) (same_option it.one one same.0) ∙ same_option it.other other same.1)

module _ (analysis : Analysis) (formulas : List FormulaView) (reach : Decisions) (outside : FormulaView) (are : AreDecisions analysis formulas (outside ∷ []) reach) where
  none_decided : (index : ℕ) → IsUnused reach index → NoneDecidedBy analysis.patterns.items analysis.attributes.now formulas (outside ∷ []) (Some index) None
  none_decided index (complete, none) = elim (are.missing complete (Some index) None) [
    | inl some ↦ absurd (true≢false (sym (noted reach.found.items (Some index) None some) ∙ none))
    | inr never ↦ never
  ]

  -- A rule of no use decides about no request that the worker gets.
  pub unused_right : (found : List RuleUse) → AreUsesBy analysis formulas reach found → AreUnusedRight analysis formulas outside found
  unused_right found (count, each) index it there is = by it (each index it there) is
    where
      by : (it : RuleUse) → IsUse analysis formulas reach index it → IsTrue (is_unused it) → NoneDecidedBy analysis.patterns.items analysis.attributes.now formulas (outside ∷ []) (Some index) None
      by uses.Decides own is = absurd (true≢false (sym is))
      by uses.Outside own is = none_decided index own.0
      by (uses.Never takers) own is = none_decided index own.0
      by uses.Unknown own is = absurd (true≢false (sym is))
