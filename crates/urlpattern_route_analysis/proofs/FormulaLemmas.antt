-- Formulas of conditions, which stay theirs while patterns are added.
use Rattle.std.proofs.Common.{◌≡◌, ◌∙◌, ◌+◌, ◌<◌, ◌≤◌, ℕ, zero, suc, Bool, Global, List, [], ◌∷◌, ◌++◌, Some, Vec, ap, append_assoc, get_or, length, map, refl, rules, slice_get, subst, sym, take, take_all}
use Rattle.std.proofs.lemmas.List.{append-nil, map-append, take_more}
use Rattle.std.proofs.lemmas.List.Elements.{All-append, All-cons, All-nil}
use Rattle.std.proofs.lemmas.Option.{none-some, slice_get_read, slice_get_within}
use Rattle.std.specs.List.{AllZip}
use Rattle.std.specs.Prelude.{IfSome}
use Rattle.urlpattern_compare.specs.EqualParts.{AreEqualParts}
use Rattle.urlpattern_compare.specs.declared.common_texts.PatternAutomata.{PatternAutomata}
use Rattle.urlpattern_compare.specs.declared.pattern_parts.PatternParts.{PatternParts}
use Rattle.urlpattern_components.specs.Eight.{at}
use Rattle.urlpattern_conditions.specs.ConditionViews.{condition_view, conditions_view, listed as listed_conditions}
use Rattle.urlpattern_conditions.specs.Conditions as conditions
use Rattle.urlpattern_conditions.specs.Conditions.{ConditionView, ConditionViews}
use Rattle.urlpattern_conditions.specs.Tables.{rule_conditions}
use Rattle.urlpattern_conditions.specs.declared.condition.Condition.{Condition}
use Rattle.urlpattern_conditions.specs.declared.table.Rule.{Rule}
use Rattle.urlpattern_matcher.specs.Components.{IsComponentOf}
use Rattle.urlpattern_matcher.specs.declared.regexp.RegExp.{Ghosts as Engine}
use Rattle.urlpattern_pattern.specs.Patterns.{PatternView, pattern_view}
use Rattle.urlpattern_pattern.specs.UrlPatterns.{AreMadeOfParts, HasOwnParts, UrlPattern}
use Rattle.urlpattern_route_analysis.proofs.NamingLemmas.{zip_push}
use Rattle.urlpattern_route_analysis.proofs.WithinLemmas.{opposites_within}
use Rattle.urlpattern_route_analysis.specs.CasePatterns.{AreWithin}
use Rattle.urlpattern_route_analysis.specs.Cases.{AllWithin, IsWithin}
use Rattle.urlpattern_route_analysis.specs.Formulas.{FormulaView, FormulaViews, atom_view, formula, formula_view, formula_views, listed, no_formulas, of_atom, of_none, opposite_if, opposites_if}
use Rattle.urlpattern_route_analysis.specs.Making.{AddsPattern, AreFormulasOf, Extends, Formulates, FormulatesEach, FormulatesTable, IsFormulaOf, IsOfEngine}
use Rattle.urlpattern_route_analysis.specs.declared.formula.Atom.{Atom}
use Rattle.urlpattern_route_analysis.specs.declared.formula.Formula.{Atom as OfAtom, Formula, NoneOf, the_lemmas}
use Rattle.urlpattern_syntax.specs.ComponentParts.{kept_options, kept_parts}

-- ---- lists

front_at : {X : Type 0} (xs ys : List X) (k : ℕ) (x : X) → slice_get xs k ≡ Some x → slice_get (xs ++ ys) k ≡ Some x
front_at [] ys k x there = absurd (none-some x there)
front_at (z ∷ xs) ys zero x there = there
front_at (z ∷ xs) ys (suc k) x there = front_at xs ys k x there

end_at : {X : Type 0} (xs : List X) (x : X) → slice_get (xs ++ x ∷ []) (length xs) ≡ Some x
end_at [] x = refl
end_at (z ∷ xs) x = end_at xs x

zip_weaker : {A B : Type 0} (R S : A → B → Type 0) → ((a : A) (b : B) → R a b → S a b) → (xs : List A) (ys : List B) → AllZip R xs ys → AllZip S xs ys
zip_weaker R S gives [] [] all = tt
zip_weaker R S gives [] (b ∷ ys) all = absurd all
zip_weaker R S gives (a ∷ xs) [] all = absurd all
zip_weaker R S gives (a ∷ xs) (b ∷ ys) all = (gives a b all.0, zip_weaker R S gives xs ys all.1)

map_next : {X Y : Type 0} (f : X → Y) (xs : List X) (i : ℕ) (x : X) → i < length xs → x ≡ get_or xs i x → map f (take (i + 1) xs) ≡ map f (take i xs) ++ f x ∷ []
map_next {X} f xs i x lt is = ap (map f) (take_more xs i x lt ∙ ap (λ (y : X). take i xs ++ y ∷ []) (sym is)) ∙ map-append f (take i xs) (x ∷ [])

-- ---- parts of patterns

-- Parts that are equal to those of which the engine made a pattern are such parts too.
copy_made : {E : Type 0} (engine : Engine E) (parts others : PatternParts) (view : PatternView E) → AreEqualParts parts others → AreMadeOfParts engine parts view → AreMadeOfParts engine others view
copy_made engine parts others view equal made name =
    let own = at parts.components name in
    let other = at others.components name in
    record {
      is_component = subst (λ options. IsComponentOf engine options (kept_parts other) (view name)) (equal name).options
          (subst (λ them. IsComponentOf engine (kept_options own) them (view name)) (equal name).parts (made name).is_component);
      has_engine = (made name).has_engine;
      case = sym (equal name).case ∙ (made name).case;
    }

made_of : {E : Type 0} (engine : Engine E) (pattern : UrlPattern E) (parts others : PatternParts) → pattern.parts ≡ Some parts → HasOwnParts engine pattern → AreEqualParts parts others → AreMadeOfParts engine others (pattern_view pattern)
made_of engine pattern parts others has own equal =
    copy_made engine parts others (pattern_view pattern) equal (subst (λ found. IfSome found (λ them. AreMadeOfParts engine them (pattern_view pattern))) has own)

-- ---- views of formulas

pub atom-formula : (atom : Atom) → formula_view (OfAtom atom) ≡ of_atom (atom_view atom)
atom-formula atom = search (rules, the_lemmas)

pub none-formula : (formulas : Vec Formula Global) → formula_view (NoneOf formulas) ≡ of_none (listed (formula_views formulas.items))
none-formula formulas = search (rules, the_lemmas)

-- ---- one more formula

abbrev push_formula : FormulaViews → FormulaView → FormulaViews
push_formula no_formulas one = formula one no_formulas
push_formula (formula first rest) one = formula first (push_formula rest one)

listed-push : (formulas : List FormulaView) (one : FormulaView) → listed (formulas ++ one ∷ []) ≡ push_formula (listed formulas) one
listed-push [] one = refl
listed-push (first ∷ rest) one = ap (λ (l : FormulaViews). formula first l) (listed-push rest one)

opposites-push : (is_opposite : Bool) (each : FormulaViews) (one : FormulaView) → opposites_if is_opposite (push_formula each one) ≡ push_formula (opposites_if is_opposite each) (opposite_if is_opposite one)
opposites-push is_opposite no_formulas one = refl
opposites-push is_opposite (formula first rest) one = ap (λ (l : FormulaViews). formula (opposite_if is_opposite first) l) (opposites-push is_opposite rest one)

-- A formula is appended.
pushed_view : (formulas now : List Formula) (it : Formula) (one : FormulaView) → now ≡ formulas ++ it ∷ [] → formula_view it ≡ one → formula_views now ≡ formula_views formulas ++ one ∷ []
pushed_view formulas now it one is same =
    ap (λ (l : List Formula). formula_views l) is ∙ map-append formula_view formulas (it ∷ []) ∙ ap (λ (v : FormulaView). formula_views formulas ++ v ∷ []) same

module _ {E : Type 0} (engine : Engine E) where
  each-push : (patterns : List PatternAutomata) (some : List (ConditionView E)) (own : ConditionView E) (each : FormulaViews) (one : FormulaView) → AreFormulasOf engine patterns (listed_conditions some) each
      → IsFormulaOf engine patterns own one → AreFormulasOf engine patterns (listed_conditions (some ++ own ∷ [])) (push_formula each one)
  each-push patterns [] own each one are is = (one, no_formulas, ap (λ (e : FormulaViews). push_formula e one) are, is, refl)
  each-push patterns (other ∷ rest) own each one (first, others, same, its, more) is =
      (first, push_formula others one, ap (λ (e : FormulaViews). push_formula e one) same, its, each-push patterns rest own others one more is)

  -- ---- more patterns

  module _ (patterns more : List PatternAutomata) where
    mutual
      stays : (own : ConditionView E) (it : FormulaView) → IsFormulaOf engine patterns own it → IsFormulaOf engine (patterns ++ more) own it
      stays (conditions.of_url pattern) it (index, same, (one, there, made)) = (index, same, (one, front_at patterns more index one there, made))
      stays (conditions.of_name attribute name) it is = is
      stays (conditions.of_all given) it (each, same, are) = (each, same, stay given each are)
      stays (conditions.of_any given) it (each, same, are) = (each, same, stay given each are)
      stays (conditions.of_not one) it (inner, same, is) = (inner, same, stays one inner is)

      stay : (some : ConditionViews E) (each : FormulaViews) → AreFormulasOf engine patterns some each → AreFormulasOf engine (patterns ++ more) some each
      stay conditions.no_conditions each is = is
      stay (conditions.condition one rest) each (first, others, same, is, are) = (first, others, same, stays one first is, stay rest others are)

  still : (old new : List PatternAutomata) (own : ConditionView E) (it : FormulaView) → Extends engine old new → IsFormulaOf engine old own it → IsFormulaOf engine new own it
  still old new own it (more, same, added) is = subst (λ (l : List PatternAutomata). IsFormulaOf engine l own it) (sym same) (stays old more own it is)

  all_still : (old new : List PatternAutomata) (some : ConditionViews E) (each : FormulaViews) → Extends engine old new → AreFormulasOf engine old some each → AreFormulasOf engine new some each
  all_still old new some each (more, same, added) are = subst (λ (l : List PatternAutomata). AreFormulasOf engine l some each) (sym same) (stay old more some each are)

  pub no_more : (old : List PatternAutomata) → Extends engine old old
  no_more old = ([], sym (append-nil old), All-nil (IsOfEngine engine))

  further : (old mid new : List PatternAutomata) → Extends engine old mid → Extends engine mid new → Extends engine old new
  further old mid new (more, same, are) (others, also, others_are) = (
    more ++ others,
    also ∙ ap (λ (l : List PatternAutomata). l ++ others) same ∙ append_assoc old more others,
    All-append (IsOfEngine engine) more others are others_are,
  )

  -- ---- the index of a pattern

  -- A pattern with equal parts is there.
  pub index_found : (patterns : List PatternAutomata) (pattern : UrlPattern E) (parts : PatternParts) (index : ℕ) (one : PatternAutomata) → pattern.parts ≡ Some parts → HasOwnParts engine pattern
      → index < length patterns → one ≡ get_or patterns index one → AreEqualParts parts one.parts → AddsPattern engine patterns patterns (pattern_view pattern) index
  index_found patterns pattern parts index one has own lt is equal =
      (no_more patterns, (one, slice_get_read patterns (length patterns) index one refl lt is, made_of engine pattern parts one.parts has own equal))

  -- The automata of a pattern are appended.
  pub index_added : (old new : List PatternAutomata) (pattern : UrlPattern E) (parts : PatternParts) (one : PatternAutomata) (index : ℕ) → pattern.parts ≡ Some parts → HasOwnParts engine pattern
      → AreEqualParts parts one.parts → index ≡ length old → new ≡ old ++ one ∷ [] → AddsPattern engine old new (pattern_view pattern) index
  index_added old new pattern parts one index has own equal at_end now =
      let made = made_of engine pattern parts one.parts has own equal in
      subst (λ (l : List PatternAutomata). AddsPattern engine old l (pattern_view pattern) index) (sym now)
      (subst (λ (k : ℕ). AddsPattern engine old (old ++ one ∷ []) (pattern_view pattern) k) (sym at_end)
      ((one ∷ [], refl, All-cons (IsOfEngine engine) one [] (pattern_view pattern, made) (All-nil (IsOfEngine engine))), (one, end_at old one, made)))

  -- ---- formulas are within the patterns

  module _ (patterns : List PatternAutomata) where
    mutual
      formula_within : (own : ConditionView E) (it : FormulaView) → IsFormulaOf engine patterns own it → IsWithin (length patterns) it
      formula_within (conditions.of_url pattern) it (index, same, (one, there, made)) = subst (IsWithin (length patterns)) (sym same) (slice_get_within patterns index one there)
      formula_within (conditions.of_name attribute name) it is = subst (IsWithin (length patterns)) (sym is) tt
      formula_within (conditions.of_all given) it (each, same, are) = subst (IsWithin (length patterns)) (sym same) (opposites_within (length patterns) each (each_within given each are))
      formula_within (conditions.of_any given) it (each, same, are) = subst (IsWithin (length patterns)) (sym same) (each_within given each are, tt)
      formula_within (conditions.of_not one) it (inner, same, is) = subst (IsWithin (length patterns)) (sym same) (formula_within one inner is, tt)

      each_within : (some : ConditionViews E) (each : FormulaViews) → AreFormulasOf engine patterns some each → AllWithin (length patterns) each
      each_within conditions.no_conditions each is = subst (AllWithin (length patterns)) (sym is) tt
      each_within (conditions.condition one rest) each (first, others, same, is, are) = subst (AllWithin (length patterns)) (sym same) (formula_within one first is, each_within rest others are)

    table_within : (some : List (ConditionView E)) (formulas : List FormulaView) → AllZip (IsFormulaOf engine patterns) some formulas → AreWithin patterns formulas
    table_within [] [] are = All-nil (IsWithin (length patterns))
    table_within [] (one ∷ formulas) are = absurd are
    table_within (own ∷ some) [] are = absurd are
    table_within (own ∷ some) (one ∷ formulas) are = All-cons (IsWithin (length patterns)) one formulas (formula_within own one are.0) (table_within some formulas are.1)

  -- ---- steps of going over conditions and rules

  pub no_each : (old : List PatternAutomata) (is_opposite : Bool) (formulas : List Formula) → formulas ≡ [] → FormulatesEach engine old old (conditions_view []) is_opposite (formula_views formulas)
  no_each old is_opposite formulas none = (no_more old, (no_formulas, ap (λ (l : List Formula). listed (formula_views l)) none, refl))

  -- A further condition.
  pub each_next : (old mid new : List PatternAutomata) (given : List (Condition E)) (i : ℕ) (own : Condition E) (is_opposite : Bool) (formulas now : List Formula) (it : Formula) (one : FormulaView)
      → i < length given → own ≡ get_or given i own → now ≡ formulas ++ it ∷ [] → formula_view it ≡ opposite_if is_opposite one → FormulatesEach engine old mid (conditions_view (take i given)) is_opposite (formula_views formulas)
      → Formulates engine mid new (condition_view own) one → FormulatesEach engine old new (conditions_view (take (i + 1) given)) is_opposite (formula_views now)
  each_next old mid new given i own is_opposite formulas now it one lt is appended seen (before, (each, same, are)) (after, made) =
      let some = map condition_view (take i given) in
      let other = opposite_if is_opposite one in (
        further old mid new before after,
        (
          push_formula each one,
          ap (λ (l : List FormulaView). listed l) (pushed_view formulas now it other appended seen) ∙ listed-push (formula_views formulas) other ∙ ap (λ (l : FormulaViews). push_formula l other) same ∙ sym (opposites-push is_opposite each one),
          subst (λ (l : List (ConditionView E)). AreFormulasOf engine new (listed_conditions l) (push_formula each one)) (sym (map_next condition_view given i own lt is))
              (each-push new some (condition_view own) each one (all_still mid new (listed_conditions some) each after are) made),
        ),
      )

  pub no_table : {V : Type 0} (old : List PatternAutomata) (rules : List (Rule V E)) (formulas : List Formula) → rules ≡ [] → formulas ≡ [] → FormulatesTable engine old old rules (formula_views formulas)
  no_table {V} old rules formulas none empty =
      subst (λ (l : List (Rule V E)). FormulatesTable engine old old l (formula_views formulas)) (sym none)
      (subst (λ (l : List Formula). FormulatesTable {V = V} engine old old [] (formula_views l)) (sym empty) (no_more old, tt))

  -- A further rule.
  pub table_next : {V : Type 0} (old mid new : List PatternAutomata) (rules : List (Rule V E)) (i : ℕ) (rule : Rule V E) (formulas now : List Formula) (it : Formula)
      → i < length rules → rule ≡ get_or rules i rule → now ≡ formulas ++ it ∷ [] → FormulatesTable engine old mid (take i rules) (formula_views formulas)
      → Formulates engine mid new (condition_view rule.condition) (formula_view it) → FormulatesTable engine old new (take (i + 1) rules) (formula_views now)
  table_next {V} old mid new rules i rule formulas now it lt is appended (before, are) (after, made) =
      let some = rule_conditions (take i rules) in (
        further old mid new before after,
        subst (λ (l : List FormulaView). AllZip (IsFormulaOf engine new) (rule_conditions (take (i + 1) rules)) l) (sym (pushed_view formulas now it (formula_view it) appended refl))
            (subst (λ (l : List (ConditionView E)). AllZip (IsFormulaOf engine new) l (formula_views formulas ++ formula_view it ∷ [])) (sym (map_next (λ (r : Rule V E). condition_view r.condition) rules i rule lt is))
            (zip_push (IsFormulaOf engine new) some (formula_views formulas) (condition_view rule.condition) (formula_view it)
            (zip_weaker (IsFormulaOf engine mid) (IsFormulaOf engine new) (λ own one has. still mid new own one after has) some (formula_views formulas) are) made)),
      )

  -- ---- all conditions and rules

  pub all_each : (old new : List PatternAutomata) (given items : List (Condition E)) (i : ℕ) (is_opposite : Bool) (formulas : List FormulaView) → length items ≤ i → items ≡ given
      → FormulatesEach engine old new (conditions_view (take i items)) is_opposite formulas → FormulatesEach engine old new (conditions_view given) is_opposite formulas
  all_each old new given items i is_opposite formulas past same made =
      subst (λ (l : List (Condition E)). FormulatesEach engine old new (conditions_view l) is_opposite formulas) (take_all i items past ∙ same) made

  pub all_table : {V : Type 0} (old new : List PatternAutomata) (rules items : List (Rule V E)) (i : ℕ) (formulas : List FormulaView) → length items ≤ i → items ≡ rules
      → FormulatesTable engine old new (take i items) formulas → FormulatesTable engine old new rules formulas
  all_table {V} old new rules items i formulas past same made = subst (λ (l : List (Rule V E)). FormulatesTable engine old new l formulas) (take_all i items past ∙ same) made

  pub made_within : {V : Type 0} (old new : List PatternAutomata) (rules : List (Rule V E)) (formulas : List FormulaView) → FormulatesTable engine old new rules formulas → AreWithin new formulas
  made_within old new rules formulas (before, are) = table_within new (rule_conditions rules) formulas are
