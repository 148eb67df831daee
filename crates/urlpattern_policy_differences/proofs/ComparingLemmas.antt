-- The automata of the rules of policies.
use Rattle.std.proofs.Common.{Bor, ◌≡◌, ◌≢◌, ◌∙◌, ◌<◌, ◌+◌, ◌++◌, ◌⊎◌, ℕ, zero, suc, Bool, true, false, true≢false, List, [], ◌∷◌, All, Contains, MatchBool, MatchOption, None, Option, Some, ap, append_assoc, append-nil, arith, inl, inr, length, map, option_map, refl, slice_get, subst, sym, take}
use Rattle.std.proofs.lemmas.List.{map-append, take_more}
use Rattle.std.proofs.lemmas.List.Elements.{All-append, All-cons, All-contains, All-head, All-nil, All-same, All-tail, All-weaker, Contains-append_left, Contains-append_right, Contains-push}
use Rattle.std.proofs.lemmas.Option.{get_or_from_slice_get, slice_get-map, slice_get_within}
use Rattle.std.specs.Map.{keys_of, values_of}
use Rattle.std.specs.Prelude.{IfSome, IsTrue, is_none, is_some, not, option_copied, unwrap_or}
use Rattle.urlpattern.proofs.ListedParts.{HasParts, all_automata, has_none, have_more, parts_of, zip_push}
use Rattle.urlpattern.specs.Reached.{HasAutomata, HaveAllAutomata, LacksParts}
use Rattle.urlpattern_compare.specs.CommonTexts.{AreAutomata}
use Rattle.urlpattern_compare.specs.CoveringTogether.{AreAscending}
use Rattle.urlpattern_compare.specs.EqualParts.{AreEqualParts}
use Rattle.urlpattern_compare.specs.declared.common_texts.PatternAutomata.{PatternAutomata}
use Rattle.urlpattern_compare.specs.declared.pattern_parts.PatternParts.{PatternParts}
use Rattle.urlpattern_compare.specs.declared.reaching.Reach.{Reach}
use Rattle.urlpattern_components.specs.Eight.{at}
use Rattle.urlpattern_differences.specs.Credentials.{DeniesCredentials}
use Rattle.urlpattern_differences.specs.declared.rules.Effect.{Effect}
use Rattle.urlpattern_differences.specs.declared.rules.PolicyAutomata.{PolicyAutomata}
use Rattle.urlpattern_matcher.specs.Components.{IsComponentOf}
use Rattle.urlpattern_matcher.specs.declared.regexp.RegExp.{Ghosts as Engine}
use Rattle.urlpattern_pattern.specs.Patterns.{PatternView, pattern_view}
use Rattle.urlpattern_pattern.specs.UrlPatterns.{AreMadeOfParts, HasOwnParts, UrlPattern}
use Rattle.urlpattern_pattern.specs.declared.pattern.compare.CompareError.{CompareError}
use Rattle.urlpattern_pattern.specs.declared.pattern.compare.CompareError.TheVariants.{NoParts, OutOfMemory}
use Rattle.urlpattern_policy_differences.specs.Comparing.{AppendsAt, AppendsPattern, AppendsRules, AreNever, IsEmpty, IsMadeOf, IsOpening, IsWhole, first_error, is_never, lacks_parts_at}
use Rattle.urlpattern_policy.specs.Decisions.{Rules}
use Rattle.urlpattern_policy.specs.declared.policy.PolicyOptions.{PolicyOptions}
use Rattle.urlpattern_policy.specs.declared.policy.UrlPolicy.{UrlPolicy}
use Rattle.urlpattern_syntax.specs.ComponentParts.{kept_options, kept_parts}

none_within : {X : Type 0} (xs : List X) (k : ℕ) → k < length xs → slice_get xs k ≡ None → ⊥
none_within [] k lt there = absurd (omega arith)
none_within (x ∷ xs) zero lt there = absurd cc
none_within (x ∷ xs) (suc k) lt there = none_within xs k (omega arith) there

-- ---- one pattern

-- Copies of parts are those of which the engine made a pattern.
copy_made : {E : Type 0} (engine : Engine E) (parts others : PatternParts) (view : PatternView E) → AreEqualParts parts others → AreMadeOfParts engine parts view → AreMadeOfParts engine others view
copy_made engine parts others view equal made name =
    let own = at parts.components name in
    let other = at others.components name in
    record {
      is_component = subst (λ options. IsComponentOf engine options (kept_parts other) (view name)) (equal name).options
          (subst (λ them. IsComponentOf engine (kept_options own) them (view name)) (equal name).parts (made name).is_component);
      has_engine = (made name).has_engine;
      case = sym (equal name).case ∙ (made name).case;
    }

pub has_automata : {E : Type 0} (engine : Engine E) (pattern : UrlPattern E) (parts : PatternParts) (one : PatternAutomata) → pattern.parts ≡ Some parts → HasOwnParts engine pattern → AreAutomata one → AreEqualParts parts one.parts → HasAutomata engine pattern one
has_automata engine pattern parts one has own automata equal =
    let made : AreMadeOfParts engine parts (pattern_view pattern) = subst (λ found. IfSome found (λ them. AreMadeOfParts engine them (pattern_view pattern))) has own in
    record { are_automata = automata; made = copy_made engine parts one.parts (pattern_view pattern) equal made }

-- ---- lists

-- ---- errors

on_none : {A : Type 0} (found : Option A) → is_none found ≡ true → found ≡ None
on_none None is = refl
on_none (Some a) is = absurd (true≢false (sym is))

not_none : {A : Type 0} (found : Option A) → is_none found ≡ false → found ≢ None
not_none None is none = absurd (true≢false is)
not_none (Some a) is none = absurd cc

module _ {E : Type 0} (engine : Engine E) (patterns : List (UrlPattern E)) (index : ℕ) where
  -- A pattern without parts is among the patterns.
  pub lacking : lacks_parts_at patterns index ≡ true → Contains (map parts_of patterns) None
  lacking is = by (slice_get patterns index) refl is
    where
      by : (found : Option (UrlPattern E)) → slice_get patterns index ≡ found → unwrap_or (option_map (λ pattern. is_none pattern.parts) found) false ≡ true → Contains (map parts_of patterns) None
      by None there is = absurd (true≢false (sym is))
      by (Some pattern) there is =
          has_none engine patterns index pattern (slice_get_within patterns index pattern there) (sym (get_or_from_slice_get patterns index pattern pattern there)) (on_none pattern.parts is)

  -- A further pattern has parts.
  pub one_more : index < length patterns → lacks_parts_at patterns index ≡ false → All HasParts (take index patterns) → All HasParts (take (index + 1) patterns)
  one_more within is before = by (slice_get patterns index) refl is
    where
      by : (found : Option (UrlPattern E)) → slice_get patterns index ≡ found → unwrap_or (option_map (λ pattern. is_none pattern.parts) found) false ≡ false → All HasParts (take (index + 1) patterns)
      by None there is = absurd (none_within patterns index within there)
      by (Some pattern) there is = have_more engine patterns index pattern within (sym (get_or_from_slice_get patterns index pattern pattern there)) before (not_none pattern.parts is)

none_is : (found : Option (Bor PatternParts)) (is : Bool) (own : Option PatternParts) → option_copied found ≡ own → is_some found ≡ not is → is ≡ is_none own
none_is None true own same test = ap is_none same
none_is None false own same test = absurd (true≢false (sym test))
none_is (Some parts) true own same test = absurd (true≢false test)
none_is (Some parts) false own same test = ap is_none same

tested_at : {E : Type 0} (rules : Rules E) (index : ℕ) (found : Option (UrlPattern E × Effect)) → slice_get rules index ≡ found
    → unwrap_or (option_map (λ pattern. is_none pattern.parts) (option_map (λ entry. entry.0) found)) false ≡ lacks_parts_at (keys_of rules) index
tested_at rules index found there =
    sym (ap (λ one. unwrap_or (option_map (λ pattern. is_none pattern.parts) one) false) (slice_get-map (λ entry. entry.0) rules index ∙ ap (option_map (λ entry. entry.0)) there))

-- The test of the pattern that a map has at an index.
pub tested : {E : Type 0} (rules : Rules E) (index : ℕ) (pattern : UrlPattern E) (effect : Effect) (is : Bool) (found : Option (Bor PatternParts)) → slice_get rules index ≡ Some (pattern, effect) → option_copied found ≡ pattern.parts
    → is_some found ≡ not is → is ≡ lacks_parts_at (keys_of rules) index
tested rules index pattern effect is found there same test = none_is found is pattern.parts same test ∙ tested_at rules index (Some (pattern, effect)) there

pub not_tested : {E : Type 0} (rules : Rules E) (index : ℕ) → slice_get rules index ≡ None → false ≡ lacks_parts_at (keys_of rules) index
not_tested rules index there = tested_at rules index None there

-- The error of two lists of patterns.
pub first_lacks : {E : Type 0} (xs ys : List (UrlPattern E)) (error other : CompareError) → LacksParts xs error → LacksParts ys other → LacksParts (xs ++ ys) (first_error error other)
first_lacks xs ys NoParts other lacks also =
    subst (λ all. Contains all None) (sym (map-append parts_of xs ys)) (Contains-append_left (map parts_of xs) (map parts_of ys) None lacks)
first_lacks xs ys OutOfMemory NoParts lacks also =
    subst (λ all. Contains all None) (sym (map-append parts_of xs ys)) (Contains-append_right (map parts_of xs) (map parts_of ys) None also)
first_lacks xs ys OutOfMemory OutOfMemory lacks also = All-append HasParts xs ys lacks also

pub alone_lacks : {E : Type 0} (pattern : UrlPattern E) → pattern.parts ≡ None → Contains (map parts_of (pattern ∷ [])) None
alone_lacks pattern none = subst (Contains (pattern.parts ∷ [])) none (Contains-push [] pattern.parts)

-- ---- one rule

-- What a map has at an index is appended.
pub pushed_at : {E : Type 0} (engine : Engine E) (rules : Rules E) (index : ℕ) (rule : UrlPattern E × Effect) (old new : PolicyAutomata) → slice_get rules index ≡ Some rule → AppendsPattern engine rule.0 rule.1 old new
    → AppendsAt engine rules index old new
pushed_at engine rules index rule old new there appended =
    subst (λ found. MatchOption found (new ≡ old) (λ one. AppendsPattern engine one.0 one.1 old new)) (sym there) appended

pub not_pushed_at : {E : Type 0} (engine : Engine E) (rules : Rules E) (index : ℕ) (old : PolicyAutomata) → slice_get rules index ≡ None → AppendsAt engine rules index old old
not_pushed_at engine rules index old there =
    subst (λ found. MatchOption found (old ≡ old) (λ one. AppendsPattern engine one.0 one.1 old old)) (sym there) refl

-- ---- rules

module _ {E : Type 0} (engine : Engine E) where
  pub none_appended : (rules : Rules E) (old : PolicyAutomata) → AppendsRules engine (take 0 rules) old old
  none_appended rules old = record {
    own = [];
    have = tt;
    patterns = sym (append-nil old.patterns.items);
    effects = sym (append-nil old.effects.items);
    default = refl;
  }

  pub more_appended : (front : Rules E) (rule : UrlPattern E × Effect) (old mid new : PolicyAutomata) → AppendsRules engine front old mid → AppendsPattern engine rule.0 rule.1 mid new → AppendsRules engine (front ++ rule ∷ []) old new
  more_appended front rule old mid new before (one, has, appended) = record {
    own = before.own ++ one ∷ [];
    have = subst (λ (them : List (UrlPattern E)). HaveAllAutomata engine them (before.own ++ one ∷ [])) (sym (map-append (λ entry. entry.0) front (rule ∷ [])))
        (zip_push (HasAutomata engine) (keys_of front) before.own rule.0 one before.have has);
    patterns = appended.patterns ∙ ap (λ l. l ++ one ∷ []) before.patterns ∙ append_assoc old.patterns.items before.own (one ∷ []);
    effects = appended.effects ∙ ap (λ l. l ++ rule.1 ∷ []) before.effects ∙ append_assoc old.effects.items (values_of front) (rule.1 ∷ [])
        ∙ ap (λ l. old.effects.items ++ l) (sym (map-append (λ entry. entry.1) front (rule ∷ [])));
    default = appended.default ∙ before.default;
  }

  pub rule_appended : (rules : Rules E) (i : ℕ) (old mid new : PolicyAutomata) → i < length rules → AppendsRules engine (take i rules) old mid → AppendsAt engine rules i mid new → AppendsRules engine (take (i + 1) rules) old new
  rule_appended rules i old mid new within before appended = by (slice_get rules i) refl appended
    where
      by : (found : Option _) → slice_get rules i ≡ found → MatchOption found (new ≡ mid) (λ rule. AppendsPattern engine rule.0 rule.1 mid new) → AppendsRules engine (take (i + 1) rules) old new
      by None there kept = absurd (none_within rules i within there)
      by (Some rule) there more =
          let seen : take (i + 1) rules ≡ take i rules ++ rule ∷ [] = take_more rules i rule within ∙ ap (λ r. take i rules ++ r ∷ []) (get_or_from_slice_get rules i rule rule there) in
          subst (λ them. AppendsRules engine them old new) (sym seen) (more_appended (take i rules) rule old mid new before more)

  -- ---- automata

  credentials_automata : (old new : PolicyAutomata) → All AreAutomata old.patterns.items → DeniesCredentials old new → All AreAutomata new.patterns.items
  credentials_automata old new all (username, password, between, a, username_made, b, password_made, first, second) =
      All-same AreAutomata new.patterns.items (between.patterns.items ++ password ∷ []) second.patterns
      (All-append AreAutomata between.patterns.items (password ∷ [])
      (All-same AreAutomata between.patterns.items (old.patterns.items ++ username ∷ []) first.patterns
      (All-append AreAutomata old.patterns.items (username ∷ []) all (All-cons AreAutomata username [] username_made (All-nil AreAutomata))))
      (All-cons AreAutomata password [] password_made (All-nil AreAutomata)))

  empty_automata : (default : Effect) (empty : PolicyAutomata) → IsEmpty default empty → All AreAutomata empty.patterns.items
  empty_automata default empty is = All-same AreAutomata empty.patterns.items [] is.patterns (All-nil AreAutomata)

  opening_automata : (options : PolicyOptions) (opening : PolicyAutomata) → IsOpening options opening → All AreAutomata opening.patterns.items
  opening_automata options opening (empty, is, by_option) = by options.denies_credentials by_option
    where
      by : (denies : Bool) → MatchBool denies (DeniesCredentials empty opening) (opening ≡ empty) → All AreAutomata opening.patterns.items
      by true denied = credentials_automata empty opening (empty_automata options.default empty is) denied
      by false same = subst (λ (it : PolicyAutomata). All AreAutomata it.patterns.items) (sym same) (empty_automata options.default empty is)

  pub made_automata : (policy : UrlPolicy E) (it : PolicyAutomata) → IsMadeOf engine policy it → All AreAutomata it.patterns.items
  made_automata policy it (opening, opens, appended) =
      All-same AreAutomata it.patterns.items (opening.patterns.items ++ appended.own) appended.patterns
      (All-append AreAutomata opening.patterns.items appended.own (opening_automata policy.options opening opens) (all_automata engine (keys_of policy.rules) appended.own appended.have))

  pub whole_automata : (pattern : UrlPattern E) (it : PolicyAutomata) → IsWhole engine pattern it → All AreAutomata it.patterns.items
  whole_automata pattern it (empty, is, (one, has, appended)) =
      All-same AreAutomata it.patterns.items (empty.patterns.items ++ one ∷ []) appended.patterns
      (All-append AreAutomata empty.patterns.items (one ∷ []) (empty_automata _ empty is) (All-cons AreAutomata one [] has.are_automata (All-nil AreAutomata)))

-- ---- dead rules

-- The indices below `i` of the patterns that are never reached.
pub record AreNeverBelow (found : List Reach) (dead : List ℕ) (i : ℕ) : Type 0 where
  pub ascending : AreAscending dead
  pub below : All (λ index. index < i) dead
  pub never : All (λ index. (reach : Reach) × (slice_get found index ≡ Some reach) × IsTrue (is_never reach)) dead
  pub each : (index : ℕ) (reach : Reach) → index < i → slice_get found index ≡ Some reach → IsTrue (is_never reach) → Contains dead index

ascending_push : (xs : List ℕ) (n : ℕ) → AreAscending xs → All (λ index. index < n) xs → AreAscending (xs ++ n ∷ [])
ascending_push [] n up below = (All-nil (λ (other : ℕ). n < other), tt)
ascending_push (x ∷ xs) n up below = (
  All-append (λ other. x < other) xs (n ∷ []) up.0 (All-cons (λ other. x < other) n [] (All-head (λ index. index < n) x xs below) (All-nil (λ other. x < other))),
  ascending_push xs n up.1 (All-tail (λ index. index < n) x xs below),
)

module _ (found : List Reach) where
  abbrev IsNeverAt : ℕ → Type 0
  IsNeverAt index = (reach : Reach) × (slice_get found index ≡ Some reach) × IsTrue (is_never reach)

  none_never : AreNeverBelow found [] 0
  none_never = record {
    ascending = tt;
    below = All-nil (λ (index : ℕ). index < 0);
    never = All-nil IsNeverAt;
    each = λ index reach lt there never. absurd (omega arith);
  }

  below_more : (i : ℕ) (dead : List ℕ) → All (λ index. index < i) dead → All (λ index. index < i + 1) dead
  below_more i dead below = All-weaker (λ (index : ℕ). index < i) (λ (index : ℕ). index < i + 1) (λ index lt. omega (arith, lt)) dead below

  last_or_before : (index i : ℕ) → index < i + 1 → (index < i) ⊎ (index ≡ i)
  last_or_before index zero lt = inr (omega (arith, lt))
  last_or_before zero (suc i) lt = inl (omega arith)
  last_or_before (suc index) (suc i) lt = elim (last_or_before index i (omega (arith, lt))) [
    | inl less ↦ inl (omega (arith, less))
    | inr same ↦ inr (ap suc same)
  ]

  never_more : (dead : List ℕ) (i : ℕ) (reach : Reach) → slice_get found i ≡ Some reach → IsTrue (is_never reach) → AreNeverBelow found dead i → AreNeverBelow found (dead ++ i ∷ []) (i + 1)
  never_more dead i reach there never before = record {
    ascending = ascending_push dead i before.ascending before.below;
    below = All-append (λ index. index < i + 1) dead (i ∷ []) (below_more i dead before.below) (All-cons (λ index. index < i + 1) i [] (omega arith) (All-nil (λ index. index < i + 1)));
    never = All-append IsNeverAt dead (i ∷ []) before.never (All-cons IsNeverAt i [] (reach, there, never) (All-nil IsNeverAt));
    each = λ index other lt here is. elim (last_or_before index i lt) [
      | inl less ↦ Contains-append_left dead (i ∷ []) index (before.each index other less here is)
      | inr same ↦ subst (Contains (dead ++ i ∷ [])) (sym same) (Contains-push dead i)
    ];
  }

  reached_more : (dead : List ℕ) (i : ℕ) (reach : Reach) → slice_get found i ≡ Some reach → is_never reach ≡ false → AreNeverBelow found dead i → AreNeverBelow found dead (i + 1)
  reached_more dead i reach there reached before = record {
    ascending = before.ascending;
    below = below_more i dead before.below;
    never = before.never;
    each = λ index other lt here is. elim (last_or_before index i lt) [
      | inl less ↦ before.each index other less here is
      | inr same ↦
          let both : Some other ≡ Some reach = sym here ∙ ap (slice_get found) same ∙ there in
          let one : other ≡ reach = cc in
          absurd (true≢false (sym is ∙ ap is_never one ∙ reached))
    ];
  }

  pub never_step : (dead new : List ℕ) (i : ℕ) (reach : Reach) → slice_get found i ≡ Some reach → MatchBool (is_never reach) (new ≡ dead ++ i ∷ []) (new ≡ dead) → AreNeverBelow found dead i → AreNeverBelow found new (i + 1)
  never_step dead new i reach there pushed before = by (is_never reach) refl pushed
    where
      by : (is : Bool) → is_never reach ≡ is → MatchBool is (new ≡ dead ++ i ∷ []) (new ≡ dead) → AreNeverBelow found new (i + 1)
      by true e grown = subst (λ them. AreNeverBelow found them (i + 1)) (sym grown) (never_more dead i reach there e before)
      by false e same = subst (λ them. AreNeverBelow found them (i + 1)) (sym same) (reached_more dead i reach there e before)

  pub none_never_in : (dead : List ℕ) → dead ≡ [] → AreNeverBelow found dead 0
  none_never_in dead none = subst (λ them. AreNeverBelow found them 0) (sym none) none_never

  pub all_never : (dead : List ℕ) (i : ℕ) → i ≡ length found → AreNeverBelow found dead i → AreNever found dead
  all_never dead i whole before = record {
    ascending = before.ascending;
    each = λ index. (
      λ listed. All-contains IsNeverAt dead index before.never listed,
      λ (reach, there, never). let lt = slice_get_within found index reach there in before.each index reach (omega (arith, whole, lt)) there never,
    );
  }
