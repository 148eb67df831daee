-- Lemmas on the numbers that an index lists.
use Rattle.std.proofs.Common.{◌≡◌, ℕ, zero, suc, ◌+◌, ◌<◌, ◌≤◌, List, [], ◌∷◌, ◌++◌, length, get_or, refl, sym, ap, subst, ◌∙◌, cond, inl, inr, arith, ◌-◌, Bool, eqb, ltb, true, false, add-zero, zero-add, ◌⊎◌}
use Rattle.std.proofs.Math.Nat.{min-eq_left, min-eq_right, min-le_left, min-le_right}
use Rattle.std.proofs.lemmas.Bool.{cases_lt}
use Rattle.std.proofs.lemmas.Bool.Decides.{nat_tests}
use Rattle.std.proofs.lemmas.List.{get_or_default}
use Rattle.std.proofs.lemmas.List.Elements.{Contains-append_cases, Contains-append_left, Contains-append_right, Contains-push, Contains-push_cases}
use Rattle.std.proofs.lemmas.Option.{slice_get-get_or, slice_get_cases, slice_get_past, same_Some}
use Rattle.std.specs.List.Sorted.{IsNonDecreasingBy}
use Rattle.std.specs.Borrow.{Bor}
use Rattle.std.specs.Prelude.{Contains, Option, Some, None, Vec, option_copied, option_map, slice_get, unwrap_or}
use Rattle.std.specs.List.{remove}
use Rattle.std.specs.Map.Calls.{RetainsPairs}
use Rattle.std.specs.Map.{lookup}
use Rattle.std.specs.Slice.{IsItemAt}
use Rattle.urlpattern_index.specs.Keys.{Fits, FormView, Hashes, form_key}
use Rattle.urlpattern_index.specs.Listed.{AreMarked, FindsBy, LosesNumber, NumbersByKey, without, IsFirstFrom, IsLeast, lesser, numbers_of}

-- ---- ascending lists

nondecreasing_cons : (x : ℕ) (xs : List ℕ) → ((k d : ℕ) → k < length xs → x ≤ get_or xs k d) → IsNonDecreasingBy (λ y. y) xs → IsNonDecreasingBy (λ y. y) (x ∷ xs)
nondecreasing_cons x xs above sorted zero zero d le lt = omega arith
nondecreasing_cons x xs above sorted zero (suc j) d le lt = above j d (omega arith)
nondecreasing_cons x xs above sorted (suc i) zero d le lt = absurd (omega arith)
nondecreasing_cons x xs above sorted (suc i) (suc j) d le lt = sorted i j d (omega arith) (omega arith)

above_cons : (x : ℕ) (xs : List ℕ) → ((k d : ℕ) → k < length xs → x ≤ get_or xs k d) → (k d : ℕ) → k < length (x ∷ xs) → x ≤ get_or (x ∷ xs) k d
above_cons x xs above zero d lt = omega arith
above_cons x xs above (suc k) d lt = above k d (omega arith)

-- The first number at or above `from`, if the numbers before an index are below and those from the
-- index on are not.
pub is_first_from : (from i : ℕ) (xs : List ℕ) → IsNonDecreasingBy (λ y. y) xs → ((k d : ℕ) → k < i → k < length xs → get_or xs k d < from)
    → ((k d : ℕ) → i ≤ k → k < length xs → from ≤ get_or xs k d) → IsFirstFrom from xs (slice_get xs i)
is_first_from from i xs sorted below above =
    elim (slice_get_cases xs i).1 [
      | inl (x, within, is_x, read) ↦ subst (IsFirstFrom from xs) (sym is_x) (
        (
          (let at : from ≤ get_or xs i x = above i x (omega arith) within in omega arith),
          (i, within, read),
        ),
        λ m h. (
            let k = h.1.0 in
            let within-k : k < length xs = h.1.1 in
            let read-k : get_or xs k m ≡ m = h.1.2 in
            let from_m : from ≤ m = h.0 in
            let late : i ≤ k = elim (cases_lt k i) [ inl lt ↦ absurd (let b : get_or xs k m < from = below k m lt within-k in omega arith) | inr le ↦ le ] in
            let ordered : get_or xs i m ≤ get_or xs k m = sorted i k m late within-k in
            let same : get_or xs i m ≡ get_or xs i x = get_or_default xs i m x within in
            omega arith
            ),
      )
      | inr (past, is_none) ↦ subst (IsFirstFrom from xs) (sym is_none) (λ m h.
          let b : get_or xs h.1.0 m < from = below h.1.0 m (let w : h.1.0 < length xs = h.1.1 in omega arith) h.1.1 in
          let read : get_or xs h.1.0 m ≡ m = h.1.2 in
          let from_m : from ≤ m = h.0 in
          omega arith)
    ]

-- ---- numbers by key

module _ (key : ℕ) where
  numbers_above : (first : ℕ) (keys : List ℕ) (k d : ℕ) → k < length (numbers_of key first keys) → first ≤ get_or (numbers_of key first keys) k d
  numbers_above first [] = λ k d lt. absurd (omega arith)
  numbers_above first (x ∷ keys) =
      let rest = numbers_of key (first + 1) keys in
      let later : (k d : ℕ) → k < length rest → first ≤ get_or rest k d =
      λ k d lt. let h : first + 1 ≤ get_or rest k d = numbers_above (first + 1) keys k d lt in omega arith in
      elim (eqb key x) as (λ b. (k d : ℕ) → k < length (cond b (first ∷ rest) rest) → first ≤ get_or (cond b (first ∷ rest) rest) k d) [
        | true ↦ above_cons first rest later
        | false ↦ later
      ]

  pub numbers-nondecreasing : (first : ℕ) (keys : List ℕ) → IsNonDecreasingBy (λ y. y) (numbers_of key first keys)
  numbers-nondecreasing first [] = λ i j d le lt. absurd (omega arith)
  numbers-nondecreasing first (x ∷ keys) =
      let rest = numbers_of key (first + 1) keys in
      let sorted : IsNonDecreasingBy (λ y. y) rest = numbers-nondecreasing (first + 1) keys in
      let later : (k d : ℕ) → k < length rest → first ≤ get_or rest k d =
      λ k d lt. let h : first + 1 ≤ get_or rest k d = numbers_above (first + 1) keys k d lt in omega arith in
      elim (eqb key x) as (λ b. IsNonDecreasingBy (λ y. y) (cond b (first ∷ rest) rest)) [
        | true ↦ nondecreasing_cons first rest later sorted
        | false ↦ sorted
      ]

  -- Appending a key.
  pub numbers-push : (first : ℕ) (keys : List ℕ) (x : ℕ) → numbers_of key first (keys ++ x ∷ []) ≡ numbers_of key first keys ++ cond (eqb key x) ((first + length keys) ∷ []) []
  numbers-push first [] x = rw add-zero refl
  numbers-push first (y ∷ keys) x =
      let rest = numbers_of key (first + 1) keys in
      let last = cond (eqb key x) ((first + suc (length keys)) ∷ []) [] in
      let same : (first + 1) + length keys ≡ first + suc (length keys) = omega arith in
      let step : numbers_of key (first + 1) (keys ++ x ∷ []) ≡ rest ++ last = numbers-push (first + 1) keys x ∙ ap (λ n. rest ++ cond (eqb key x) (n ∷ []) []) same in
      elim (eqb key y) as (λ b. cond b (first ∷ numbers_of key (first + 1) (keys ++ x ∷ [])) (numbers_of key (first + 1) (keys ++ x ∷ [])) ≡ cond b (first ∷ rest) rest ++ last) [
        | true ↦ ap (λ numbers. first ∷ numbers) step
        | false ↦ step
      ]

  -- The number of a key is listed.
  pub numbers-found : (first : ℕ) (keys : List ℕ) (n : ℕ) → slice_get keys n ≡ Some key → Contains (numbers_of key first keys) (first + n)
  numbers-found first [] n h = absurd (cc)
  numbers-found first (x ∷ keys) zero h =
      let same : x ≡ key = same_Some x key h in
      let test : eqb key x ≡ true = grind (arith, nat_tests) in
      rw test (0, omega arith, omega arith)
  numbers-found first (x ∷ keys) (suc n) h =
      let rest = numbers_of key (first + 1) keys in
      let found : Contains rest (first + suc n) = subst (Contains rest) (omega arith) (numbers-found (first + 1) keys n h) in
      elim (eqb key x) as (λ b. Contains (cond b (first ∷ rest) rest) (first + suc n)) [
        | true ↦ (suc found.0, (let lt : found.0 < length rest = found.1 in omega arith), found.2)
        | false ↦ found
      ]

  abbrev Listed : (first number x : ℕ) (keys : List ℕ) → Type 0
  Listed first number x keys = (n : ℕ) × (number ≡ first + n) × (slice_get (x ∷ keys) n ≡ Some key)

  listed_cons : (first : ℕ) (rest : List ℕ) (number x : ℕ) (keys : List ℕ) → (Contains rest number → Listed first number x keys)
      → (b : Bool) → eqb key x ≡ b → Contains (cond b (first ∷ rest) rest) number → Listed first number x keys
  listed_cons first rest number x keys later false test h = later h
  listed_cons first rest number x keys later true test (zero, lt, is) =
      let same : x ≡ key = grind (arith, nat_tests) in
      (0, (let e : first ≡ number = is in omega arith), ap (λ y. Some y) same)
  listed_cons first rest number x keys later true test (suc k, lt, is) = later (k, (let l : suc k < suc (length rest) = lt in omega arith), is)

  -- A listed number is that of a key.
  pub numbers-listed : (first : ℕ) (keys : List ℕ) (number : ℕ) → Contains (numbers_of key first keys) number → (n : ℕ) × (number ≡ first + n) × (slice_get keys n ≡ Some key)
  numbers-listed first [] number = λ h. absurd (let lt : h.0 < 0 = h.1 in omega arith)
  numbers-listed first (x ∷ keys) number =
      let rest = numbers_of key (first + 1) keys in
      let later : Contains rest number → Listed first number x keys =
      λ h. let r = numbers-listed (first + 1) keys number h in (suc r.0, (let e : number ≡ (first + 1) + r.0 = r.1 in omega arith), r.2) in
      listed_cons first rest number x keys later (eqb key x) refl

-- ---- marks

-- The mark of a key whose numbers were removed may stay.
pub marked-remove : (marks : List Bool) (old new : NumbersByKey) (number : ℕ) → AreMarked marks old → LosesNumber old new number → AreMarked marks new
marked-remove marks old new number marked loses = λ key unmarked. loses key ∙ ap (without number) (marked key unmarked)

-- ---- borrowed numbers

-- The number borrowed from an index of a list.
pub copied_at : (xs : List ℕ) (i : ℕ) (r : Option (Bor ℕ)) → IsItemAt xs i r → option_copied r ≡ slice_get xs i
copied_at xs i None h = sym (slice_get_past xs i h.3)
copied_at xs i (Some x) h = sym (slice_get-get_or xs i x.now h.3.0 ∙ ap (λ y. Some y) (sym h.1))

-- What forms find, more forms find.
pub finds-more : (forms more : List FormView) (keys : List ℕ) (hashes : Hashes) (number : ℕ) → FindsBy forms keys hashes number → FindsBy (forms ++ more) keys hashes number
finds-more forms more keys hashes number (form, has, fits, is) = (form, Contains-append_left forms more form has, fits, is)

-- ---- least numbers

-- The least number of equivalent properties.
least-same : (P Q : ℕ → Type 0) → ((n : ℕ) → P n → Q n) → ((n : ℕ) → Q n → P n) → (least : Option ℕ) → IsLeast P least → IsLeast Q least
least-same P Q to back (Some least) is = (to least is.0, λ n h. is.1 n (back n h))
least-same P Q to back None is = λ n h. is n (back n h)

-- The least number of either property.
pub least-either : (P Q R : ℕ → Type 0) → ((n : ℕ) → P n → R n) → ((n : ℕ) → Q n → R n) → ((n : ℕ) → R n → P n ⊎ Q n) → (a b : Option ℕ) → IsLeast P a → IsLeast Q b → IsLeast R (lesser a b)
least-either P Q R left right cases None None none-left none-right = λ n h. elim (cases n h) [ inl l ↦ none-left n l | inr r ↦ none-right n r ]
least-either P Q R left right cases None (Some b) none-left is = (right b is.0, λ n h. elim (cases n h) [ inl l ↦ absurd (none-left n l) | inr r ↦ is.1 n r ])
least-either P Q R left right cases (Some a) None is none-right = (left a is.0, λ n h. elim (cases n h) [ inl l ↦ is.1 n l | inr r ↦ absurd (none-right n r) ])
least-either P Q R left right cases (Some a) (Some b) is-left is-right = (
  elim (cases_lt a b) [
    | inl lt ↦ (let le : a ≤ b = omega arith in subst R (sym (min-eq_left le)) (left a is-left.0))
    | inr le ↦ subst R (sym (min-eq_right le)) (right b is-right.0)
  ],
  λ n h. elim (cases n h) [
    | inl l ↦ (let le : a ≤ n = is-left.1 n l in omega (arith, min-le_left a b))
    | inr r ↦ (let le : b ≤ n = is-right.1 n r in omega (arith, min-le_right a b))
  ],
)

module _ (form : FormView) (hashes : Hashes) (fits : Fits form hashes) (from key : ℕ) (is_key : key ≡ form_key form hashes) (keys listed_keys : List ℕ) (same_keys : keys ≡ listed_keys) where
  abbrev IsFound : ℕ → Type 0
  IsFound number = (from ≤ number) × Fits form hashes × (slice_get listed_keys number ≡ Some (form_key form hashes))

  found-listed : (number : ℕ) → slice_get keys number ≡ Some key → slice_get listed_keys number ≡ Some (form_key form hashes)
  found-listed number is = subst (λ k. slice_get k number ≡ Some (form_key form hashes)) same_keys (is ∙ ap (λ k. Some k) is_key)

  listed-found : (number : ℕ) → slice_get listed_keys number ≡ Some (form_key form hashes) → slice_get keys number ≡ Some key
  listed-found number is = subst (λ k. slice_get k number ≡ Some key) (sym same_keys) (is ∙ ap (λ k. Some k) (sym is_key))

  -- The least number that is listed under the key.
  pub least_by : (list : List ℕ) (least : Option ℕ) → list ≡ numbers_of key 0 keys → IsFirstFrom from list least → IsLeast IsFound least
  least_by list least is first =
      least-same (λ number. (from ≤ number) × Contains (numbers_of key 0 keys) number) IsFound
      (λ n h. (
        h.0,
        fits,
        (
            let r = numbers-listed key 0 keys n h.1 in
            let same : r.0 ≡ n = omega (arith, r.1) in
            found-listed n (subst (λ i. slice_get keys i ≡ Some key) same r.2)),
      ))
      (λ n h. (h.0, subst (λ i. Contains (numbers_of key 0 keys) i) (zero-add n) (numbers-found key 0 keys n (listed-found n h.2))))
      least (subst (λ l. IsFirstFrom from l least) is first)

-- The least number that the forms or a further form finds.
pub least_by_forms : (forms : List FormView) (form : FormView) (keys : List ℕ) (hashes : Hashes) (from : ℕ) (a b : Option ℕ)
    → IsLeast (λ number. (from ≤ number) × FindsBy forms keys hashes number) a
    → IsLeast (λ number. (from ≤ number) × Fits form hashes × (slice_get keys number ≡ Some (form_key form hashes))) b
    → IsLeast (λ number. (from ≤ number) × FindsBy (forms ++ form ∷ []) keys hashes number) (lesser a b)
least_by_forms forms form keys hashes from a b is-a is-b =
    least-either (λ number. (from ≤ number) × FindsBy forms keys hashes number) (λ number. (from ≤ number) × Fits form hashes × (slice_get keys number ≡ Some (form_key form hashes)))
    (λ number. (from ≤ number) × FindsBy (forms ++ form ∷ []) keys hashes number)
    (λ n h. (h.0, finds-more forms (form ∷ []) keys hashes n h.1))
    (λ n h. (h.0, (form, Contains-push forms form, h.1, h.2)))
    (λ n h. elim (Contains-push_cases forms form h.1.0 h.1.1) [
      | inl earlier ↦ inl (h.0, (h.1.0, earlier, h.1.2, h.1.3))
      | inr same ↦ inr (h.0, subst (λ f. Fits f hashes) (sym same) h.1.2, h.1.3 ∙ ap (λ f. Some (form_key f hashes)) (sym same))
    ])
    a b is-a is-b

-- The least number that the forms of two groups find.
pub least_by_groups : (forms others : List FormView) (keys : List ℕ) (hashes : Hashes) (from : ℕ) (a b : Option ℕ)
    → IsLeast (λ number. (from ≤ number) × FindsBy forms keys hashes number) a → IsLeast (λ number. (from ≤ number) × FindsBy others keys hashes number) b
    → IsLeast (λ number. (from ≤ number) × FindsBy (forms ++ others) keys hashes number) (lesser a b)
least_by_groups forms others keys hashes from a b is-a is-b =
    least-either (λ number. (from ≤ number) × FindsBy forms keys hashes number) (λ number. (from ≤ number) × FindsBy others keys hashes number)
    (λ number. (from ≤ number) × FindsBy (forms ++ others) keys hashes number)
    (λ n h. (h.0, finds-more forms others keys hashes n h.1))
    (λ n h. (h.0, (h.1.0, Contains-append_right forms others h.1.0 h.1.1, h.1.2, h.1.3)))
    (λ n h. elim (Contains-append_cases forms others h.1.0 h.1.1) [
      | inl one ↦ inl (h.0, (h.1.0, one, h.1.2, h.1.3))
      | inr other ↦ inr (h.0, (h.1.0, other, h.1.2, h.1.3))
    ])
    a b is-a is-b

-- ---- removing a pattern

module _ (number x : ℕ) (list : List ℕ) where
  without-above : number < x → without number (x ∷ list) ≡ (x - 1) ∷ without number list
  without-above above =
      let other : eqb x number ≡ false = grind (arith, nat_tests) in
      let less : ltb number x ≡ true = grind (arith, nat_tests) in
      rw other (rw less refl)

  without-below : x < number → without number (x ∷ list) ≡ x ∷ without number list
  without-below below =
      let other : eqb x number ≡ false = grind (arith, nat_tests) in
      let less : ltb number x ≡ false = grind (arith, nat_tests) in
      rw other (rw less refl)

  without-same : x ≡ number → without number (x ∷ list) ≡ without number list
  without-same same = let is : eqb x number ≡ true = grind (arith, nat_tests) in rw is refl

module _ (key : ℕ) where
  numbers-lowered : (number first : ℕ) (keys : List ℕ) → number ≤ first → without number (numbers_of key (first + 1) keys) ≡ numbers_of key first keys
  numbers-lowered number first [] le = refl
  numbers-lowered number first (x ∷ keys) le =
      let rest = numbers_of key ((first + 1) + 1) keys in
      let step : without number rest ≡ numbers_of key (first + 1) keys = numbers-lowered number (first + 1) keys (omega arith) in
      let head : without number ((first + 1) ∷ rest) ≡ first ∷ numbers_of key (first + 1) keys =
      without-above number (first + 1) rest (omega arith) ∙ ap (λ n. n ∷ without number rest) (let less : (first + 1) - 1 ≡ first = omega arith in less) ∙ ap (λ l. first ∷ l) step in
      elim (eqb key x) as (λ b. without number (cond b ((first + 1) ∷ rest) rest) ≡ cond b (first ∷ numbers_of key (first + 1) keys) (numbers_of key (first + 1) keys)) [ true ↦ head | false ↦ step ]

  pub numbers-remove : (first : ℕ) (keys : List ℕ) (k : ℕ) → k < length keys → numbers_of key first (remove keys k) ≡ without (first + k) (numbers_of key first keys)
  numbers-remove first [] k lt = absurd (omega arith)
  numbers-remove first (x ∷ keys) zero lt =
      let rest = numbers_of key (first + 1) keys in
      let step : without (first + 0) rest ≡ numbers_of key first keys = numbers-lowered (first + 0) first keys (omega arith) in
      sym (elim (eqb key x) as (λ b. without (first + 0) (cond b (first ∷ rest) rest) ≡ numbers_of key first keys) [ true ↦ without-same (first + 0) first rest (omega arith) ∙ step | false ↦ step ])
  numbers-remove first (x ∷ keys) (suc k) lt =
      let rest = numbers_of key (first + 1) keys in
      let fewer = numbers_of key (first + 1) (remove keys k) in
      let same : (first + 1) + k ≡ first + suc k = omega arith in
      let step : fewer ≡ without (first + suc k) rest = numbers-remove (first + 1) keys k (omega arith) ∙ ap (λ n. without n rest) same in
      let head : first ∷ fewer ≡ without (first + suc k) (first ∷ rest) = ap (λ l. first ∷ l) step ∙ sym (without-below (first + suc k) first rest (omega arith)) in
      elim (eqb key x) as (λ b. cond b (first ∷ fewer) fewer ≡ without (first + suc k) (cond b (first ∷ rest) rest)) [ true ↦ head | false ↦ step ]

-- The numbers of a key in a map, after each list lost a number.
module _ {F A : Type 0} (T : F → ℕ → Vec ℕ A → Bool → Vec ℕ A → F → Type 0) (number : ℕ) (f : F)
    (says : (k : ℕ) (v : Vec ℕ A) (b : Bool) (w : Vec ℕ A) (f' : F) → T f k v b w f' → (b ≡ true) × (w.items ≡ without number v.items) × (f' ≡ f)) (test : ℕ → Bool) where
  abbrev listed_at : List (ℕ × Vec ℕ A) → List ℕ
  listed_at es = unwrap_or (option_map (λ listed. listed.items) (lookup test es)) []

  pub retained-listed : (es kept : List (ℕ × Vec ℕ A)) → RetainsPairs T f es kept → listed_at kept ≡ without number (listed_at es)
  retained-listed [] kept h = ap listed_at h
  retained-listed (e ∷ es) kept h =
      let s = says e.0 e.1 h.0 h.1 h.2 h.4 in
      let rest = retained-listed es h.3 (subst (λ g. RetainsPairs T g es h.3) s.2 h.5) in
      let is : kept ≡ (e.0, h.1) ∷ h.3 = h.6 ∙ ap (λ b. cond b ((e.0, h.1) ∷ h.3) h.3) s.0 in
      ap listed_at is ∙ elim (test e.0) as (λ b. unwrap_or (option_map (λ listed. listed.items) (cond b (Some h.1) (lookup test h.3))) []
      ≡ without number (unwrap_or (option_map (λ listed. listed.items) (cond b (Some e.1) (lookup test es))) [])) [ true ↦ s.1 | false ↦ rest ]
