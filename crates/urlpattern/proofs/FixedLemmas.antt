-- Lemmas on the patterns that a list does not try.
use Rattle.std.proofs.Common.{◌≡◌, ℕ, zero, suc, ◌+◌, ◌<◌, ◌≤◌, ◌⊎◌, Bool, true, false, List, [], ◌∷◌, ◌++◌, ap, arith, get_or, inl, inr, length, refl, replicate, subst, sym, take, ◌∙◌}
use Rattle.std.proofs.lemmas.Bool.{cases_lt}
use Rattle.std.proofs.lemmas.List.{get_or-take, length_push}
use Rattle.std.proofs.lemmas.List.Edits.{length-remove}
use Rattle.std.proofs.lemmas.Option.{same_Some, slice_get-get_or, slice_get_within}
use Rattle.std.proofs.lemmas.Slice.Eq.{bytes_eq-Decides}
use Rattle.std.specs.Borrow.{Bor}
use Rattle.std.specs.List.{remove}
use Rattle.std.specs.Prelude.{All, Err, IfOk, IfSome, Ok, Option, None, Result, Some, bytes_eq, option_copied, slice_get}
use Rattle.urlpattern_index.specs.FixedTexts.{FixedTexts, HasTexts, IsText}
use Rattle.urlpattern_index.specs.Keys.{Hashes, form_key, hashes_of}
use Rattle.urlpattern_index.specs.Listed.{AppendsPattern, Finds, Listing}
use Rattle.urlpattern_components.specs.declared.eight.ComponentName.TheVariants.{Hostname, Pathname, Protocol}
use Rattle.urlpattern_meaning.specs.Matching.{Returns, IsMatched, MatcherView}
use Rattle.urlpattern_meaning.specs.PartMeaning.{Captures}
use Rattle.urlpattern_pattern.specs.Match.{DoesNotMatch}
use Rattle.urlpattern_pattern.specs.Patterns.{PatternView, pattern_view}
use Rattle.urlpattern_pattern.specs.UrlPatterns.{UrlPattern}
use Rattle.urlpattern_paths.specs.PathsAlone.{IsReadBy}
use Rattle.urlpattern_paths.specs.declared.template.PathTemplate.{PathTemplate}
use Rattle.urlpattern.specs.PatternKeys.{AreFixed, AreIndexed, AreTemplates, IsTemplateAt, address_of}
use Rattle.urlpattern_components.specs.Eight.{Texts}

-- ---- texts

same_cases : (xs ys : List ℕ) (test : Bool) → bytes_eq xs ys ≡ test → (xs ≡ ys) ⊎ ¬ (xs ≡ ys)
same_cases xs ys true is = inl ((bytes_eq-Decides xs ys).0 is)
same_cases xs ys false is = inr (λ same. let test : bytes_eq xs ys ≡ true = (bytes_eq-Decides xs ys).1 same in let never : ⊥ = cc in never)

same_or_not : (xs ys : List ℕ) → (xs ≡ ys) ⊎ ¬ (xs ≡ ys)
same_or_not xs ys = same_cases xs ys (bytes_eq xs ys) refl

module _ {E : Type 0} (answer : E → List ℕ → Option Captures) where
  -- A text is the fixed text, if there is one, or the matcher does not match it.
  text-cases : (matcher : MatcherView E) (fixed : Option (List ℕ)) (given : List ℕ) → ((text : List ℕ) → IsMatched answer matcher text → IsText fixed text)
      → IsText fixed given ⊎ Returns answer matcher given None
  text-cases matcher None given are = inl tt
  text-cases matcher (Some text) given are =
      elim (same_or_not given text) [ inl same ↦ inl same | inr other ↦ inr (λ captures matches. other (are given (captures, matches))) ]

  -- A pattern does not match texts that lack its fixed texts.
  fixed-refused : (pattern : PatternView E) (fixed : FixedTexts) (texts : Texts) → AreFixed answer pattern fixed → ¬ HasTexts fixed (address_of texts) → DoesNotMatch answer pattern texts
  fixed-refused pattern fixed texts are other =
      elim (text-cases (pattern Protocol).matcher fixed.protocol texts.protocol are.protocol) [
        | inr refused ↦ (Protocol, refused)
        | inl protocol ↦ elim (text-cases (pattern Hostname).matcher fixed.hostname texts.hostname are.hostname) [
          | inr refused ↦ (Hostname, refused)
          | inl hostname ↦ (
            Pathname,
            λ captures matched.
                other record { protocol = protocol; hostname = hostname; pathname = are.pathname texts.pathname (captures, matched) },
          )
        ]
      ]

-- ---- elements at an index

got_more : {X : Type 0} (xs : List X) (x y : X) (n : ℕ) → slice_get (xs ++ x ∷ []) n ≡ Some y → (slice_get xs n ≡ Some y) ⊎ ((n ≡ length xs) × (x ≡ y))
got_more [] x y zero is = inr (refl, same_Some x y is)
got_more [] x y (suc n) is = absurd (cc)
got_more (z ∷ xs) x y zero is = inl is
got_more (z ∷ xs) x y (suc n) is = elim (got_more xs x y n is) [ inl earlier ↦ inl earlier | inr last ↦ inr ((let e : n ≡ length xs = last.0 in omega arith), last.1) ]

got_below : {X : Type 0} (xs : List X) (i n : ℕ) → n < i → slice_get (remove xs i) n ≡ slice_get xs n
got_below xs zero n lt = absurd (omega arith)
got_below [] (suc i) n lt = refl
got_below (x ∷ xs) (suc i) zero lt = refl
got_below (x ∷ xs) (suc i) (suc n) lt = got_below xs i n (omega arith)

got_above : {X : Type 0} (xs : List X) (i n : ℕ) → i ≤ n → i < length xs → slice_get (remove xs i) n ≡ slice_get xs (suc n)
got_above [] i n le lt = absurd (omega arith)
got_above (x ∷ xs) zero n le lt = refl
got_above (x ∷ xs) (suc i) zero le lt = absurd (omega arith)
got_above (x ∷ xs) (suc i) (suc n) le lt = got_above xs i n (omega arith) (omega arith)

-- An index that is out of range removes nothing.
pub remove-past : {X : Type 0} (xs : List X) (i : ℕ) → length xs ≤ i → remove xs i ≡ xs
remove-past [] zero le = refl
remove-past [] (suc i) le = refl
remove-past (x ∷ xs) zero le = absurd (omega arith)
remove-past (x ∷ xs) (suc i) le = ap (λ ys. x ∷ ys) (remove-past xs i (omega arith))

-- ---- patterns in an index

-- An empty list.
pub indexed-none : {E : Type 0} (answer : E → List ℕ → Option Captures) (patterns : List (UrlPattern E)) (index : Listing) → patterns ≡ [] → ◌≡◌ {A = Listing} index (record { keys = []; forms = replicate 13 [] })
    → AreIndexed answer patterns index
indexed-none answer patterns index none empty = rw (none, empty) record { as_many = refl; refuses = λ number pattern is texts missed. absurd (cc) }

module _ {E : Type 0} (answer : E → List ℕ → Option Captures) (patterns : List (UrlPattern E)) (index : Listing) (are : AreIndexed answer patterns index) where
  -- A pattern is appended.
  pub indexed-push : (pattern : UrlPattern E) (new : Listing) (fixed : FixedTexts) → AppendsPattern index new fixed → AreFixed answer (pattern_view pattern) fixed
      → AreIndexed answer (patterns ++ pattern ∷ []) new
  indexed-push pattern new fixed appends is_fixed = record {
    as_many = appends.one_more ∙ ap (λ n. n + 1) are.as_many ∙ sym (length_push patterns pattern);
    refuses = λ number other is texts missed. elim (got_more patterns pattern other number is) [
      | inl earlier ↦ are.refuses number other earlier texts (λ finds. missed (appends.others (hashes_of (address_of texts)) number finds))
      | inr last ↦ subst (λ (p : UrlPattern E). DoesNotMatch answer (pattern_view p) texts) last.1 (fixed-refused answer (pattern_view pattern) fixed texts is_fixed
          (λ has. missed (subst (λ n. Finds new (hashes_of (address_of texts)) n) (are.as_many ∙ sym last.0) (appends.found (address_of texts) has))))
    ];
  }

  -- A pattern is removed.
  pub indexed-remove : (i : ℕ) → i < length patterns → AreIndexed answer (remove patterns i) (record { keys = remove index.keys i; forms = index.forms })
  indexed-remove i within =
      let within_keys : i < length index.keys = omega (arith, are.as_many) in
      record {
        as_many = (let a = length-remove index.keys i within_keys in let b = length-remove patterns i within in omega (arith, are.as_many));
        refuses = λ number pattern is texts missed. elim (cases_lt number i) [
          | inl below ↦ are.refuses number pattern (sym (got_below patterns i number below) ∙ is) texts
              (λ (form, has, fits, key). missed (form, has, fits, got_below index.keys i number below ∙ key))
          | inr above ↦ are.refuses (suc number) pattern (sym (got_above patterns i number above within) ∙ is) texts
              (λ (form, has, fits, key). missed (form, has, fits, got_above index.keys i number above within_keys ∙ key))
        ];
      }

  -- A number that is found is the index of a pattern.
  pub found_within : (hashes : Hashes) (number : ℕ) → Finds index hashes number → number < length patterns
  found_within hashes number (form, has, fits, key) = let within = slice_get_within index.keys number (form_key form hashes) key in omega (arith, are.as_many)

-- ---- templates

module _ {E : Type 0} (answer : E → List ℕ → Option Captures) (patterns : List (UrlPattern E)) (templates : List (Option PathTemplate)) where
  -- An empty list.
  pub templates-none : patterns ≡ [] → templates ≡ [] → AreTemplates answer patterns templates
  templates-none none empty = rw (none, empty) record { as_many = refl; templates_at = λ index template there. absurd (cc) }

  module _ (are : AreTemplates answer patterns templates) where
    -- A pattern is appended.
    pub templates-push : (pattern : UrlPattern E) (found : Option PathTemplate) → IfSome found (IsReadBy answer (pattern_view pattern))
        → AreTemplates answer (patterns ++ pattern ∷ []) (templates ++ found ∷ [])
    templates-push pattern found is_read = record {
      as_many = length_push templates found ∙ ap (λ n. n + 1) are.as_many ∙ sym (length_push patterns pattern);
      templates_at = λ index template there other at. elim (got_more patterns pattern other index at) [
        | inl earlier ↦ elim (got_more templates found (Some template) index there) [
          | inl old ↦ are.templates_at index template old other earlier
          | inr last ↦ absurd (let within = slice_get_within patterns index other earlier in let past : index ≡ length templates = last.0 in omega (arith, are.as_many))
        ]
        | inr is_last ↦ elim (got_more templates found (Some template) index there) [
          | inl old ↦ absurd (let within = slice_get_within templates index (Some template) old in let past : index ≡ length patterns = is_last.0 in omega (arith, are.as_many))
          | inr last ↦ subst (λ (p : UrlPattern E). IsReadBy answer (pattern_view p) template) is_last.1 (subst (λ (one : Option PathTemplate). IfSome one (IsReadBy answer (pattern_view pattern))) last.1 is_read)
        ]
      ];
    }

    -- A template that is found at an index.
    pub template-found : (index : ℕ) (found : Option (Bor PathTemplate)) (own : Option PathTemplate) → option_copied found ≡ own → slice_get templates index ≡ Some own
        → IfSome found (λ template. IsTemplateAt answer patterns index template.now)
    template-found index (Some template) own is there = are.templates_at index template.now (there ∙ ap (λ (one : Option PathTemplate). Some one) (sym is))
    template-found index None own is there = tt

    -- A pattern is removed.
    pub templates-remove : (i : ℕ) → i < length patterns → AreTemplates answer (remove patterns i) (remove templates i)
    templates-remove i within =
        let within_templates : i < length templates = omega (arith, are.as_many) in
        record {
          as_many = (let a = length-remove templates i within_templates in let b = length-remove patterns i within in omega (arith, are.as_many));
          templates_at = λ index template there pattern at. elim (cases_lt index i) [
            | inl below ↦ are.templates_at index template (sym (got_below templates i index below) ∙ there) pattern (sym (got_below patterns i index below) ∙ at)
            | inr above ↦ are.templates_at (suc index) template (sym (got_above templates i index above within_templates) ∙ there) pattern (sym (got_above patterns i index above within) ∙ at)
          ];
        }

-- ---- elements that are skipped

take_inside : {X : Type 0} (xs : List X) (n k : ℕ) → k < length (take n xs) → (k < n) × (k < length xs)
take_inside xs zero k lt = absurd (omega arith)
take_inside [] (suc n) k lt = absurd (omega arith)
take_inside (x ∷ xs) (suc n) zero lt = (omega arith, omega arith)
take_inside (x ∷ xs) (suc n) (suc k) lt =
    let l : suc k < suc (length (take n xs)) = lt in
    let h = take_inside xs n k (omega arith) in
    let a : k < n = h.0 in
    let b : k < length xs = h.1 in
    (omega arith, omega arith)

take_within : {X : Type 0} (xs : List X) (n k : ℕ) → k < n → k < length xs → k < length (take n xs)
take_within xs zero k lt within = absurd (omega arith)
take_within [] (suc n) k lt within = absurd (omega arith)
take_within (x ∷ xs) (suc n) zero lt within = omega arith
take_within (x ∷ xs) (suc n) (suc k) lt within =
    let h : k < length (take n xs) = take_within xs n k (omega arith) (let l : suc k < suc (length xs) = within in omega arith) in
    omega arith

pub All-passed : {X : Type 0} (P : X → Type 0) (xs : List X) (from n : ℕ) → All P (take from xs)
    → ((k : ℕ) (x : X) → from ≤ k → k < n → slice_get xs k ≡ Some x → P x) → All P (take n xs)
All-passed P xs from n before passed = λ k d within.
    let inside : (k < n) × (k < length xs) = take_inside xs n k within in
    let read : get_or (take n xs) k d ≡ get_or xs k d = get_or-take n xs k d inside.0 in
    subst P (sym read) (elim (cases_lt k from) [
      | inl lt ↦ subst P (get_or-take from xs k d lt) (before k d (take_within xs from k lt inside.1))
      | inr le ↦ passed k (get_or xs k d) le inside.0 (slice_get-get_or xs k d inside.1)
    ])

-- ---- results

-- A clause on a result implies a weaker clause.
pub ok-weaker : {X F : Type 0} (P Q : X → Type 0) → (result : Result X F) → IfOk result P → ((x : X) → P x → Q x) → IfOk result Q
ok-weaker P Q (Ok x) is to = to x is
ok-weaker P Q (Err error) is to = tt
