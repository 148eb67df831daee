-- Pairs of patterns of a list that contend, as far as they are found.
use Rattle.std.proofs.Common.{◌≡◌, ◌∙◌, ◌<◌, ◌≤◌, ◌+◌, ℕ, List, [], ◌∷◌, ◌++◌, ap, arith, inl, inr, length, refl, subst, sym}
use Rattle.std.proofs.lemmas.Bool.{cases_lt}
use Rattle.std.proofs.lemmas.List.Elements.{All-append, Contains-append_left, Contains-append_right, All-cons, All-head, All-nil, All-tail, All-weaker}
use Rattle.std.proofs.lemmas.Option.{slice_get_within}
use Rattle.std.specs.Prelude.{◌≢◌, ◌⊎◌, All, Contains, MatchOption, None, Option, Some, String, Vec, slice_get}
use Rattle.std.specs.declared.alloc.Global.{Global}
use Rattle.urlpattern.specs.Contending.{AreContentions, AreInOrder, HasPair, IsAlone, IsAnswer, IsBefore, IsContended, IsContention, IsDoubtOf, MayHaveTexts}
use Rattle.urlpattern.specs.declared.contention.Alone.{Alone}
use Rattle.urlpattern.specs.declared.contention.Alone.TheVariants as alone
use Rattle.urlpattern.specs.declared.contention.Contended.{Contended}
use Rattle.urlpattern.specs.declared.contention.Contended.TheVariants.{Unknown}
use Rattle.urlpattern.specs.declared.contention.Contention.{Contention}
use Rattle.urlpattern.specs.declared.contention.ContentionDoubt.{ContentionDoubt}
use Rattle.urlpattern_compare.specs.declared.candidates.Limits.{Limits}
use Rattle.urlpattern_compare.specs.declared.common_texts.Common.{Common}
use Rattle.urlpattern_compare.specs.declared.common_texts.Common.TheVariants as answers
use Rattle.urlpattern_compare.specs.declared.common_texts.Doubt.{Doubt}
use Rattle.urlpattern_compare.specs.declared.common_texts.PatternAutomata.{PatternAutomata}
use Rattle.urlpattern_components.specs.declared.eight.Eight.{Eight}

-- ---- order

in_order-nil : AreInOrder []
unfolding AreInOrder
in_order-nil = tt

in_order-cons : (pair : Contention) (found : List Contention) → AreInOrder (pair ∷ found) ≡ (All (IsBefore pair) found × AreInOrder found)
unfolding AreInOrder
in_order-cons pair found = refl

-- A pair that all others are before may follow them.
in_order-last : (found : List Contention) (last : Contention) → AreInOrder found → All (λ pair. IsBefore pair last) found → AreInOrder (found ++ last ∷ [])
in_order-last [] last order before = subst (λ (T : Type 0). T) (sym (in_order-cons last [])) (All-nil (IsBefore last), in_order-nil)
in_order-last (pair ∷ found) last order before =
    let (own, rest) = subst (λ (T : Type 0). T) (in_order-cons pair found) order in
    subst (λ (T : Type 0). T) (sym (in_order-cons pair (found ++ last ∷ []))) (
      All-append (IsBefore pair) found (last ∷ []) own (All-cons (IsBefore pair) last [] (All-head (λ it. IsBefore it last) pair found before) (All-nil (IsBefore pair))),
      in_order-last found last rest (All-tail (λ it. IsBefore it last) pair found before),
    )

-- ---- two patterns

module _ (limits : Limits) where
  may_by : (all_of none_of : List PatternAutomata) (answer : Common) → IsAnswer limits all_of none_of answer → answer ≢ answers.Nothing → MayHaveTexts limits all_of none_of
  may_by all_of none_of answer is some = (answer, is, some)

  pub texts_may : (all_of none_of : List PatternAutomata) (texts : Eight (String Global)) → IsAnswer limits all_of none_of (answers.Texts texts) → MayHaveTexts limits all_of none_of
  texts_may all_of none_of texts is = may_by all_of none_of (answers.Texts texts) is (λ same. cc)

  pub doubt_may : (all_of none_of : List PatternAutomata) (doubt : Doubt) → IsAnswer limits all_of none_of (answers.Unknown doubt) → MayHaveTexts limits all_of none_of
  doubt_may all_of none_of doubt is = may_by all_of none_of (answers.Unknown doubt) is (λ same. cc)

  -- Texts may exist that one pattern matches alone, unless there are none.
  pub alone_may : (one other : PatternAutomata) (found : Alone) → IsAlone limits one other found → found ≢ alone.Nothing → MayHaveTexts limits (one ∷ []) (other ∷ [])
  alone_may one other alone.Nothing is some = absurd (some refl)
  alone_may one other alone.Texts is some = texts_may (one ∷ []) (other ∷ []) is.0 is.1
  alone_may one other (alone.Unknown doubt) is some = doubt_may (one ∷ []) (other ∷ []) doubt is

  pub alone_doubt : (one other : PatternAutomata) (found : Alone) (doubt : Doubt) → found ≡ alone.Unknown doubt → IsAlone limits one other found → IsAnswer limits (one ∷ []) (other ∷ []) (answers.Unknown doubt)
  alone_doubt one other found doubt is so = subst (IsAlone limits one other) is so

  -- Two patterns may contend, for a doubt, unless the second matches no texts alone.
  pub unless : (first second : PatternAutomata) (found : Alone) (doubt : ContentionDoubt) (result : Option Contended) → MatchOption result (found ≡ alone.Nothing) (λ it. (it ≡ Unknown doubt) × (found ≢ alone.Nothing))
      → IsAlone limits second first found → MayHaveTexts limits (first ∷ second ∷ []) [] → MayHaveTexts limits (first ∷ []) (second ∷ []) → IsDoubtOf limits first second doubt → IsContended limits first second result
  unless first second found doubt None nothing is both first_may so = inr (inr (subst (IsAlone limits second first) nothing is))
  unless first second found doubt (Some it) (same, some) is both first_may so =
      subst (λ (it : Contended). IsContended limits first second (Some it)) (sym same) (both, first_may, alone_may second first found is some, so)

-- ---- what is found so far

module _ (limits : Limits) (patterns : List PatternAutomata) where
  -- The pair of indices is one of those that are asked: the first index is less than `first`, or it
  -- is the same and the second index is less than `second`.
  abbrev pub IsAsked : (first second : ℕ) → (i j : ℕ) → Type 0
  IsAsked first second i j = (i < first) ⊎ ((i ≡ first) × (j < second))

  -- The pairs that are found of those that are asked.
  pub record AreContentionsBelow (first second : ℕ) (found : List Contention) : Type 0 where
    pub contend : All (IsContention limits patterns) found
    pub others : (i j : ℕ) (one other : PatternAutomata) → IsAsked first second i j → i < j → slice_get patterns i ≡ Some one → slice_get patterns j ≡ Some other → HasPair found i j ⊎ IsContended limits one other None
    pub order : AreInOrder found
    pub asked : All (λ pair. IsAsked first second pair.first pair.second) found

  pub none_asked : AreContentionsBelow 0 0 []
  none_asked = record {
    contend = All-nil (IsContention limits patterns);
    others = λ i j one other asked lt at_i at_j. absurd (elim asked [ inl less ↦ omega (arith, less) | inr (same, less) ↦ omega (arith, less) ]);
    order = in_order-nil;
    asked = All-nil (λ pair. IsAsked 0 0 pair.first pair.second);
  }

  more_asked : (first second third i j : ℕ) → second ≤ third → IsAsked first second i j → IsAsked first third i j
  more_asked first second third i j le (inl less) = inl less
  more_asked first second third i j le (inr (same, less)) = inr (same, omega (arith, le, less))

  -- No pair of a pattern has an index that is not greater.
  pub row_begins : (first : ℕ) (found : List Contention) → AreContentionsBelow first 0 found → AreContentionsBelow first (first + 1) found
  row_begins first found so = record {
    contend = so.contend;
    others = λ i j one other asked lt at_i at_j. elim asked [
      | inl less ↦ so.others i j one other (inl less) lt at_i at_j
      | inr (same, less) ↦ absurd (omega (arith, same, less, lt))
    ];
    order = so.order;
    asked = All-weaker (λ pair. IsAsked first 0 pair.first pair.second) (λ pair. IsAsked first (first + 1) pair.first pair.second)
        (λ pair is. more_asked first 0 (first + 1) pair.first pair.second (omega arith) is) found so.asked;
  }

  in_row : (first second i j : ℕ) → j < second → IsAsked (first + 1) 0 i j → IsAsked first second i j
  in_row first second i j lt (inl less) = elim (cases_lt i first) [ inl is ↦ inl is | inr ge ↦ inr (omega (arith, less, ge), lt) ]
  in_row first second i j lt (inr (same, less)) = absurd (omega (arith, less))

  -- All pairs of a pattern are asked.
  pub row_ends : (first second : ℕ) (found : List Contention) → length patterns ≤ second → AreContentionsBelow first second found → AreContentionsBelow (first + 1) 0 found
  row_ends first second found all so = record {
    contend = so.contend;
    others = λ i j one other asked lt at_i at_j.
        let within = slice_get_within patterns j other at_j in
        so.others i j one other (in_row first second i j (omega (arith, all, within)) asked) lt at_i at_j;
    order = so.order;
    asked = All-weaker (λ pair. IsAsked first second pair.first pair.second) (λ pair. IsAsked (first + 1) 0 pair.first pair.second)
        (λ pair is. elim is [ inl less ↦ inl (omega (arith, less)) | inr (same, less) ↦ inl (omega (arith, same)) ]) found so.asked;
  }

  pub all_asked : (first : ℕ) (found : List Contention) → length patterns ≤ first → AreContentionsBelow first 0 found → AreContentions limits patterns found
  all_asked first found all so = record {
    contend = so.contend;
    others = λ i j one other lt at_i at_j. let within = slice_get_within patterns i one at_i in so.others i j one other (inl (omega (arith, all, within))) lt at_i at_j;
    order = so.order;
  }

  -- ---- a further pair

  -- What a pair of indices that is asked is, after a further one.
  last_or_asked : (first second i j : ℕ) → IsAsked first (second + 1) i j → IsAsked first second i j ⊎ ((i ≡ first) × (j ≡ second))
  last_or_asked first second i j (inl less) = inl (inl less)
  last_or_asked first second i j (inr (same, less)) = elim (cases_lt j second) [ inl lt ↦ inl (inr (same, lt)) | inr ge ↦ inr (same, omega (arith, less, ge)) ]

  same_at : (i k : ℕ) (one other : PatternAutomata) → i ≡ k → slice_get patterns i ≡ Some one → slice_get patterns k ≡ Some other → one ≡ other
  same_at i k one other same at_i at_k = (let both : Some one ≡ Some other = sym at_i ∙ ap (slice_get patterns) same ∙ at_k in cc)

  none_found : (i j : ℕ) (one other : PatternAutomata) (found : List Contention) → slice_get patterns i ≡ Some one → slice_get patterns j ≡ Some other
      → IsContended limits one other None → AreContentionsBelow i j found → AreContentionsBelow i (j + 1) found
  none_found i j one other found at_i at_j none so = record {
    contend = so.contend;
    others = λ k l a b asked lt at_k at_l. elim (last_or_asked i j k l asked) [
      | inl before ↦ so.others k l a b before lt at_k at_l
      | inr (same, same_too) ↦ inr (
          let first : one ≡ a = sym (same_at k i a one same at_k at_i) in
          let second : other ≡ b = sym (same_at l j b other same_too at_l at_j) in
          subst (λ (it : PatternAutomata). IsContended limits it b None) first (subst (λ (it : PatternAutomata). IsContended limits one it None) second none))
    ];
    order = so.order;
    asked = All-weaker (λ pair. IsAsked i j pair.first pair.second) (λ pair. IsAsked i (j + 1) pair.first pair.second) (λ pair is. more_asked i j (j + 1) pair.first pair.second (omega arith) is) found so.asked;
  }

  pair_found : (i j : ℕ) (one other : PatternAutomata) (found : List Contention) (contended : Contended) → i < j → slice_get patterns i ≡ Some one → slice_get patterns j ≡ Some other
      → IsContended limits one other (Some contended) → AreContentionsBelow i j found → AreContentionsBelow i (j + 1) (found ++ record { first = i; second = j; found = contended } ∷ [])
  pair_found i j one other found contended lt at_i at_j is so =
      let pair : Contention = record { first = i; second = j; found = contended } in
      let Asked : Contention → Type 0 = λ it. IsAsked i (j + 1) it.first it.second in
      let Earlier : Contention → Type 0 = λ it. IsAsked i j it.first it.second in
      record {
        contend = All-append (IsContention limits patterns) found (pair ∷ []) so.contend
            (All-cons (IsContention limits patterns) pair [] (one, other, lt, at_i, at_j, is) (All-nil (IsContention limits patterns)));
        others = λ k l a b asked less at_k at_l. elim (last_or_asked i j k l asked) [
          | inl before ↦ elim (so.others k l a b before less at_k at_l) [
            | inl (it, contains, first, second) ↦ inl (it, Contains-append_left found (pair ∷ []) it contains, first, second)
            | inr none ↦ inr none
          ]
          | inr (same, same_too) ↦ inl (pair, Contains-append_right found (pair ∷ []) pair (0, omega arith, refl), sym same, sym same_too)
        ];
        order = in_order-last found pair so.order (All-weaker Earlier (λ it. IsBefore it pair) (λ it before. before) found so.asked);
        asked = All-append Asked found (pair ∷ []) (All-weaker Earlier Asked (λ it before. more_asked i j (j + 1) it.first it.second (omega arith) before) found so.asked)
            (All-cons Asked pair [] (inr (refl, omega arith)) (All-nil Asked));
      }

  -- A further pair is asked.
  pub pair_asked : (i j : ℕ) (one other : PatternAutomata) (found new : List Contention) (contended : Option Contended) → i < j → slice_get patterns i ≡ Some one → slice_get patterns j ≡ Some other
      → IsContended limits one other contended → MatchOption contended (new ≡ found) (λ it. new ≡ found ++ record { first = i; second = j; found = it } ∷ [])
      → AreContentionsBelow i j found → AreContentionsBelow i (j + 1) new
  pair_asked i j one other found new None lt at_i at_j is kept so = subst (AreContentionsBelow i (j + 1)) (sym kept) (none_found i j one other found at_i at_j is so)
  pair_asked i j one other found new (Some it) lt at_i at_j is pushed so = subst (AreContentionsBelow i (j + 1)) (sym pushed) (pair_found i j one other found it lt at_i at_j is so)

-- What a push leaves, as lists.
pub pushed_items : (contended : Option Contended) (old new : Vec Contention Global) (i j : ℕ) → MatchOption contended (new ≡ old) (λ it. new.items ≡ old.items ++ record { first = i; second = j; found = it } ∷ [])
    → MatchOption contended (new.items ≡ old.items) (λ it. new.items ≡ old.items ++ record { first = i; second = j; found = it } ∷ [])
pushed_items None old new i j kept = ap (λ it. it.items) kept
pushed_items (Some it) old new i j pushed = pushed
