-- All rules of a list, one after the other.
use Rattle.std.proofs.Common.{◌≡◌, ◌<◌, ◌≤◌, ◌+◌, ◌⊎◌, ℕ, zero, suc, List, Option, None, Some, ap, arith, if◌then◌else◌, inl, inr, le-ltb, length, lt-ltb, refl, subst, sym}
use Rattle.urlpattern_compare.specs.declared.candidates.Limits.{Limits}
use Rattle.urlpattern_differences.proofs.DecidedLemmas.{past_first, past_second}
use Rattle.urlpattern_differences.specs.Deciding.{IsRule, effect_of, rule_at}
use Rattle.urlpattern_differences.specs.Excess.{AllowsAllOf, IsDoubtOfTwo, IsExcess, IsExcessOf, NoneDecided, NoneKnown, found_or}
use Rattle.urlpattern_differences.specs.declared.excess.PairDoubt.{PairDoubt}
use Rattle.urlpattern_differences.specs.declared.rules.Effect.{Effect}
use Rattle.urlpattern_differences.specs.declared.rules.Effect.TheVariants.{Allow, Deny}
use Rattle.urlpattern_differences.specs.declared.rules.PolicyAutomata.{PolicyAutomata}
use borrow.Author.Count

-- ---- places

pub rule_within : (count place : ℕ) → place < count → rule_at count place ≡ Some place
rule_within count place lt = ap (λ is. if is then Some place else None) (lt-ltb place count lt)

pub rule_past : (count place : ℕ) → count ≤ place → rule_at count place ≡ None
rule_past count place le = ap (λ is. if is then Some place else None) (le-ltb place count le)

before_or_not : (i n : ℕ) → (i < n) ⊎ (n ≤ i)
before_or_not i zero = inr (omega arith)
before_or_not zero (suc n) = inl (omega arith)
before_or_not (suc i) (suc n) = elim (before_or_not i n) [
  | inl lt ↦ inl (omega (arith, lt))
  | inr le ↦ inr (omega (arith, le))
]

pub is_rule : {X : Type 0} (xs : List X) (count place : ℕ) → count ≡ length xs → IsRule xs (rule_at count place)
is_rule xs count place same = elim (before_or_not place count) [
  | inl lt ↦ subst (IsRule xs) (sym (rule_within count place lt)) (omega (arith, same, lt))
  | inr le ↦ subst (IsRule xs) (sym (rule_past count place le)) tt
]

-- What holds of the rules at all places holds of each rule, if it does of those past the end.
pub each_rule : (Q : Option ℕ → Type 0) (count places : ℕ) → count < places → ((k : ℕ) → k < places → Q (rule_at count k)) → ((i : ℕ) → count ≤ i → Q (Some i)) → (rule : Option ℕ) → Q rule
each_rule Q count places all each past None = subst Q (rule_past count count (omega arith)) (each count all)
each_rule Q count places all each past (Some i) = elim (before_or_not i count) [
  | inl lt ↦ subst Q (rule_within count i lt) (each i (omega (arith, lt, all)))
  | inr le ↦ past i le
]

-- ---- rules so far

module _ (limits : Limits) (one other : PolicyAutomata) (Lacks Doubtful : ℕ → Type 0) where
  -- What is known of the rules at the places before `place`.
  abbrev pub SoFar : (place : ℕ) → Option PairDoubt → Type 0
  SoFar place None = (k : ℕ) → k < place → Lacks k
  SoFar place (Some doubt) = IsDoubtOfTwo limits one other doubt × ((k : ℕ) → k < place → Doubtful k)

  pub none_so_far : SoFar 0 None
  none_so_far k lt = absurd (omega arith)

  module _ (weaker : (k : ℕ) → Lacks k → Doubtful k) where
    pub lacking_more : (place : ℕ) (doubt : Option PairDoubt) → SoFar place doubt → Lacks place → SoFar (place + 1) doubt
    lacking_more place None so_far lacks = Count.below_more Lacks place so_far lacks
    lacking_more place (Some doubt) so_far lacks = (so_far.0, Count.below_more Doubtful place so_far.1 (weaker place lacks))

    doubtful_so_far : (place : ℕ) (doubt : Option PairDoubt) → SoFar place doubt → (k : ℕ) → k < place → Doubtful k
    doubtful_so_far place None so_far k lt = weaker k (so_far k lt)
    doubtful_so_far place (Some doubt) so_far k lt = so_far.1 k lt

    pub doubtful_more : (place : ℕ) (doubt : Option PairDoubt) (another : PairDoubt) → SoFar place doubt → IsDoubtOfTwo limits one other another → Doubtful place → SoFar (place + 1) (Some another)
    doubtful_more place doubt another so_far is doubtful = (is, Count.below_more Doubtful place (doubtful_so_far place doubt so_far) doubtful)

-- ---- the rules of the other list

module _ (limits : Limits) (one other : PolicyAutomata) (first : Option ℕ) (count : ℕ) where
  -- Nothing is decided by the first rule and that at the place, if it denies.
  abbrev pub LacksAt : (place : ℕ) → Type 0
  LacksAt place = effect_of other (rule_at count place) ≡ Deny → NoneDecided one other first (rule_at count place)

  abbrev pub DoubtfulAt : (place : ℕ) → Type 0
  DoubtfulAt place = effect_of other (rule_at count place) ≡ Deny → NoneKnown limits one other first (rule_at count place)

  pub at_weaker : (k : ℕ) → LacksAt k → DoubtfulAt k
  at_weaker k lacks denies = inl (lacks denies)

  pub all_others : (places : ℕ) (doubt : Option PairDoubt) → count ≡ length other.patterns.items → count < places → SoFar limits one other LacksAt DoubtfulAt places doubt
      → IsExcessOf limits one other first (found_or doubt)
  all_others places None same all so_far = λ second allows denies.
      each_rule (λ rule. effect_of other rule ≡ Deny → NoneDecided one other first rule) count places all so_far
      (λ i le denied. past_second one other first i (omega (arith, same, le))) second denies
  all_others places (Some doubt) same all so_far = (
    so_far.0,
    λ second allows denies.
        each_rule (λ rule. effect_of other rule ≡ Deny → NoneKnown limits one other first rule) count places all so_far.1
        (λ i le denied. inl (past_second one other first i (omega (arith, same, le)))) second denies,
  )

-- ---- the rules of the one list

deny_or_allow : (effect : Effect) → (effect ≡ Deny) ⊎ (effect ≡ Allow)
deny_or_allow Deny = inl refl
deny_or_allow Allow = inr refl

-- Where no two rules decide texts that the one list allows and the other denies, the other allows
-- all.
pub allows_all : (one other : PolicyAutomata) → ((first second : Option ℕ) → effect_of one first ≡ Allow → effect_of other second ≡ Deny → NoneDecided one other first second) → AllowsAllOf other one
allows_all one other none ones others are texts first second is allows = elim (deny_or_allow (effect_of other second)) [
  | inl denies ↦ absurd (none first second allows denies ones others are texts is)
  | inr allowed ↦ allowed
]

module _ (limits : Limits) (one other : PolicyAutomata) (count : ℕ) where
  -- Nothing is decided by the rule at the place, if it allows, and one that denies.
  abbrev pub RuleLacks : (place : ℕ) → Type 0
  RuleLacks place = (second : Option ℕ) → effect_of one (rule_at count place) ≡ Allow → effect_of other second ≡ Deny → NoneDecided one other (rule_at count place) second

  abbrev pub RuleDoubtful : (place : ℕ) → Type 0
  RuleDoubtful place = (second : Option ℕ) → effect_of one (rule_at count place) ≡ Allow → effect_of other second ≡ Deny → NoneKnown limits one other (rule_at count place) second

  pub rule_weaker : (k : ℕ) → RuleLacks k → RuleDoubtful k
  rule_weaker k lacks second allows denies = inl (lacks second allows denies)

  pub all_ones : (places : ℕ) (doubt : Option PairDoubt) → count ≡ length one.patterns.items → count < places → SoFar limits one other RuleLacks RuleDoubtful places doubt
      → IsExcess limits one other (found_or doubt)
  all_ones places None same all so_far =
      allows_all one other
      (λ first second. each_rule (λ rule. effect_of one rule ≡ Allow → effect_of other second ≡ Deny → NoneDecided one other rule second) count places all (λ k lt. so_far k lt second)
      (λ i le allowed denied. past_first one other i second (omega (arith, same, le))) first)
  all_ones places (Some doubt) same all so_far = (
    so_far.0,
    λ first second. each_rule (λ rule. effect_of one rule ≡ Allow → effect_of other second ≡ Deny → NoneKnown limits one other rule second) count places all (λ k lt. so_far.1 k lt second)
        (λ i le allowed denied. inl (past_first one other i second (omega (arith, same, le)))) first,
  )
