-- Names that literals allow.
use Rattle.std.proofs.Common.{Bor, Global, String, map, string_bytes, ◌≡◌, ◌∙◌, ◌↔◌, ◌⊎◌, ◌+◌, ◌≤◌, ◌<◌, ◌&&◌, ◌==◌, ℕ, zero, suc, Bool, true, false, true≢false, List, [], ◌∷◌, ◌++◌, None, Option, Some, ap, arith, bytes_eq, eq-eqb, get_or, inl, inr, length, option_map, refl, slice_get, subst, sym, take, take_all}
use Rattle.std.proofs.lemmas.Bool.{and_parts, cases_Bool, eqb-true, false_from_ne_true, leb-false, leb-true, or_parts}
use Rattle.std.proofs.lemmas.List.{get_or_default, length-append, length-map, length-take-le, map-append, take_more}
use Rattle.std.proofs.lemmas.List.Elements.{All-cons, All-contains, All-nil, All-weaker}
use Rattle.std.proofs.lemmas.List.Folds.{Any-from_list_any}
use Rattle.std.proofs.lemmas.List.Sums.{AllPass-from_list_all, list_all-from_AllPass}
use Rattle.std.proofs.lemmas.Option.{get_or_from_slice_get, none-some, same_Some, slice_get-get_or, slice_get-map, slice_get_within}
use Rattle.std.proofs.lemmas.Slice.Eq.{bytes_eq-Decides}
use Rattle.std.specs.Bool.{beq}
use Rattle.std.specs.List.{AllZip}
use Rattle.std.specs.Prelude.{All, Contains, IsTrue, nat_le, unwrap_or, if◌then◌else◌}
use Rattle.urlpattern_route_analysis.proofs.CaseSteps.{all_next}
use Rattle.urlpattern_route_analysis.specs.Cases.{AreSo, HasOneName, LiteralView}
use Rattle.urlpattern_route_analysis.specs.Formulas.{AtomView, of_name, of_url}
use Rattle.urlpattern_route_analysis.specs.Naming.{AreNamed, AreNamesOf, GivesName, IsNameOf, IsNamed, IsOther, allows, allows_one, is_named, is_so, lacks, some_lack}
use Rattle.urlpattern_route_analysis.specs.declared.names.Attribute.{Attribute}

module _ (matches : ℕ → Bool) (names : List (List ℕ)) where
  named_at : (found : Option (List ℕ)) (attribute : ℕ) (name : List ℕ) → slice_get names attribute ≡ found → is_named names attribute name ≡ unwrap_or (option_map (λ own. bytes_eq own name) found) false
  named_at found attribute name there = ap (λ (o : Option (List ℕ)). unwrap_or (option_map (λ own. bytes_eq own name) o) false) there

  pub own_name : (found : Option (List ℕ)) (attribute : ℕ) (name : List ℕ) → slice_get names attribute ≡ found → is_named names attribute name ≡ true → found ≡ Some name
  own_name None attribute name there is = absurd (true≢false (sym is ∙ named_at None attribute name there))
  own_name (Some own) attribute name there is = ap (λ (n : List ℕ). Some n) ((bytes_eq-Decides own name).0 (sym (named_at (Some own) attribute name there) ∙ is))

  pub has_name : (attribute : ℕ) (name : List ℕ) → slice_get names attribute ≡ Some name → is_named names attribute name ≡ true
  has_name attribute name there = named_at (Some name) attribute name there ∙ (bytes_eq-Decides name name).1 refl

  -- A request has at most one name for an attribute.
  pub one_name : HasOneName (is_so matches names)
  one_name attribute name other is also =
      same_Some name other (sym (own_name (slice_get names attribute) attribute name refl is) ∙ own_name (slice_get names attribute) attribute other refl also)

  named_one : (it : LiteralView) → is_so matches names it.atom ≡ it.holds → IsNamed names it
  named_one it so attribute name of_it =
      let told : is_named names attribute name ≡ it.holds = ap (λ a. is_so matches names a) (sym of_it) ∙ so in (
        λ holds. own_name (slice_get names attribute) attribute name refl (told ∙ holds),
        λ there. sym told ∙ has_name attribute name there,
      )

  -- A request of a case has the names of the case.
  pub so_named : (literals : List LiteralView) → AreSo (is_so matches names) literals → AreNamed literals names
  so_named literals so = All-weaker (λ it. is_so matches names it.atom ≡ it.holds) (IsNamed names) named_one literals so

  -- A request with the names of a literal is as the literal says.
  pub named_so : (it : LiteralView) → IsNamed names it → (attribute : ℕ) (name : List ℕ) → it.atom ≡ of_name attribute name → is_so matches names it.atom ≡ it.holds
  named_so it named attribute name of_it =
      ap (λ a. is_so matches names a) of_it ∙ by it.holds (named attribute name of_it)
    where
      by : (so : Bool) → (so ≡ true) ↔ (slice_get names attribute ≡ Some name) → is_named names attribute name ≡ so
      by true says = has_name attribute name (says.0 refl)
      by false says = elim (cases_Bool (is_named names attribute name)) [
        | inl is ↦ absurd (true≢false (sym (says.1 (own_name (slice_get names attribute) attribute name refl is))))
        | inr is ↦ is
      ]

-- ---- two lists side by side

pub zip_push : {A B : Type 0} (R : A → B → Type 0) (xs : List A) (ys : List B) (x : A) (y : B) → AllZip R xs ys → R x y → AllZip R (xs ++ x ∷ []) (ys ++ y ∷ [])
zip_push R [] [] x y all own = (own, tt)
zip_push R [] (b ∷ ys) x y all own = absurd all
zip_push R (a ∷ xs) [] x y all own = absurd all
zip_push R (a ∷ xs) (b ∷ ys) x y all own = (all.0, zip_push R xs ys x y all.1 own)

pub zip_length : {A B : Type 0} (R : A → B → Type 0) (xs : List A) (ys : List B) → AllZip R xs ys → length ys ≡ length xs
zip_length R [] [] all = refl
zip_length R [] (b ∷ ys) all = absurd all
zip_length R (a ∷ xs) [] all = absurd all
zip_length R (a ∷ xs) (b ∷ ys) all = ap (λ (n : ℕ). suc n) (zip_length R xs ys all.1)

zip_at : {A B : Type 0} (R : A → B → Type 0) (xs : List A) (ys : List B) (k : ℕ) (x : A) → AllZip R xs ys → slice_get xs k ≡ Some x → (y : B) × (slice_get ys k ≡ Some y) × R x y
zip_at R [] ys k x all there = absurd (none-some x there)
zip_at R (a ∷ xs) [] k x all there = absurd all
zip_at R (a ∷ xs) (b ∷ ys) zero x all there = (b, refl, subst (λ z. R z b) (same_Some a x there) all.0)
zip_at R (a ∷ xs) (b ∷ ys) (suc k) x all there = zip_at R xs ys k x all.1 there

push_cases : {A : Type 0} (xs : List A) (x : A) (k : ℕ) (y : A) → slice_get (xs ++ x ∷ []) k ≡ Some y → (slice_get xs k ≡ Some y) ⊎ ((k ≡ length xs) × (x ≡ y))
push_cases [] x zero y is = inr (refl, same_Some x y is)
push_cases [] x (suc k) y is = absurd (none-some y is)
push_cases (z ∷ xs) x zero y is = inl is
push_cases (z ∷ xs) x (suc k) y is = elim (push_cases xs x k y is) [ inl there ↦ inl there | inr own ↦ inr (ap (λ (n : ℕ). suc n) own.0, own.1) ]

-- ---- what one literal allows

-- Whether a literal of the attribute allows a name for it.
itself : (index : ℕ) (told name : List ℕ) (holds : Bool) → allows_one index name holds (of_name index told) ≡ beq (bytes_eq told name) holds
itself index told name holds = ap (λ (test : Bool). if test then beq (bytes_eq told name) holds else true) (eq-eqb index index refl)

same_tests : (a b : Bool) → beq a b ≡ true → a ≡ b
same_tests true true is = refl
same_tests true false is = absurd (true≢false (sym is))
same_tests false true is = absurd (true≢false (sym is))
same_tests false false is = refl

tests_same : (a b : Bool) → a ≡ b → beq a b ≡ true
tests_same true true is = refl
tests_same true false is = absurd (true≢false is)
tests_same false true is = absurd (true≢false (sym is))
tests_same false false is = refl

-- A name that is allowed is the one that the attribute has, or another than one it does not have.
allowed_own : (index : ℕ) (told name : List ℕ) (holds : Bool) → IsTrue (allows_one index name holds (of_name index told)) → bytes_eq told name ≡ holds
allowed_own index told name holds is = same_tests (bytes_eq told name) holds (sym (itself index told name holds) ∙ is)

allow_own : (index own : ℕ) (told name : List ℕ) (holds : Bool) → (own ≡ index → bytes_eq told name ≡ holds) → IsTrue (allows_one index name holds (of_name own told))
allow_own index own told name holds same = by (own == index) refl
  where
    by : (test : Bool) → (own == index) ≡ test → (if test then beq (bytes_eq told name) holds else true) ≡ true
    by true is = tests_same (bytes_eq told name) holds (same (eqb-true own index is))
    by false is = refl

pub item_within : {A : Type 0} (xs : List A) (k : ℕ) → k < length xs → (x : A) × (slice_get xs k ≡ Some x)
item_within [] k lt = absurd (omega (arith, lt))
item_within (x ∷ xs) zero lt = (x, refl)
item_within (x ∷ xs) (suc k) lt = item_within xs k (omega (arith, lt))

module _ (names : List (List ℕ)) where
  -- A name of a request is allowed by a literal that holds of it.
  named_allows_one : (atom : AtomView) (holds : Bool) (index : ℕ) (name : List ℕ)
      → ((attribute : ℕ) (told : List ℕ) → atom ≡ of_name attribute told → (holds ≡ true) ↔ (slice_get names attribute ≡ Some told))
      → slice_get names index ≡ Some name → IsTrue (allows_one index name holds atom)
  named_allows_one (of_url pattern) holds index name named there = refl
  named_allows_one (of_name own told) true index name named there =
      allow_own index own told name true (λ same. (bytes_eq-Decides told name).1 (same_Some told name (sym ((named own told refl).0 refl) ∙ ap (λ (k : ℕ). slice_get names k) same ∙ there)))
  named_allows_one (of_name own told) false index name named there =
      allow_own index own told name false
      (λ same. false_from_ne_true (bytes_eq told name)
      (λ equal. true≢false (sym ((named own told refl).1 (ap (λ (k : ℕ). slice_get names k) same ∙ there ∙ ap (λ (n : List ℕ). Some n) (sym ((bytes_eq-Decides told name).0 equal)))))))

  -- A literal holds of a request with names that it allows, one for its attribute.
  allows_named_one : (atom : AtomView) (holds : Bool) → lacks (length names) holds atom ≡ false
      → ((index : ℕ) (name : List ℕ) → slice_get names index ≡ Some name → IsTrue (allows_one index name holds atom))
      → (attribute : ℕ) (told : List ℕ) → atom ≡ of_name attribute told → (holds ≡ true) ↔ (slice_get names attribute ≡ Some told)
  allows_named_one atom holds has allowed attribute told of_it =
      by holds (subst (λ a. lacks (length names) holds a ≡ false) of_it has)
      (λ name there. allowed_own attribute told name holds (subst (λ a. IsTrue (allows_one attribute name holds a)) of_it (allowed attribute name there)))
    where
      by : (holds : Bool) → (holds && nat_le (length names) attribute) ≡ false → ((name : List ℕ) → slice_get names attribute ≡ Some name → bytes_eq told name ≡ holds)
          → (holds ≡ true) ↔ (slice_get names attribute ≡ Some told)
      by true has own =
          let (name, there) = item_within names attribute (leb-false (length names) attribute has) in (
            λ is. there ∙ ap (λ (n : List ℕ). Some n) (sym ((bytes_eq-Decides told name).0 (own name there))),
            λ is. refl,
          )
      by false has own = (λ is. absurd (true≢false (sym is)), λ there. absurd (true≢false (sym ((bytes_eq-Decides told told).1 refl) ∙ own told there)))

  -- A literal that says that an attribute past the names has one, holds of no request with them.
  lacking_one : (atom : AtomView) (holds : Bool) (count : ℕ) → length names ≡ count → lacks count holds atom ≡ true
      → ((attribute : ℕ) (told : List ℕ) → atom ≡ of_name attribute told → (holds ≡ true) ↔ (slice_get names attribute ≡ Some told)) → ⊥
  lacking_one (of_url pattern) holds count same is named = true≢false (sym is)
  lacking_one (of_name own told) holds count same is named =
      let parts = and_parts holds (nat_le count own) is in
      let lt : own < length names = slice_get_within names own told ((named own told refl).0 parts.0) in
      let past : count ≤ own = leb-true count own parts.1 in
      omega (arith, lt, past, same)

  -- ---- what literals allow

  pub named_allows : (literals : List LiteralView) (index : ℕ) (name : List ℕ) → AreNamed literals names → slice_get names index ≡ Some name → IsTrue (allows literals index name)
  named_allows literals index name named there =
      list_all-from_AllPass (λ it. allows_one index name it.holds it.atom) literals
      (λ k d lt. let it = get_or literals k d in named_allows_one it.atom it.holds index name (named k d lt) there)

  none_lack : (literals : List LiteralView) (count : ℕ) → some_lack literals count ≡ false → All (λ it. lacks count it.holds it.atom ≡ false) literals
  none_lack [] count is = All-nil (λ it. lacks count it.holds it.atom ≡ false)
  none_lack (it ∷ rest) count is =
      let parts = or_parts (lacks count it.holds it.atom) (some_lack rest count) is in
      All-cons (λ l. lacks count l.holds l.atom ≡ false) it rest parts.0 (none_lack rest count parts.1)

  pub allows_named : (literals : List LiteralView) (count : ℕ) → length names ≡ count → some_lack literals count ≡ false
      → ((index : ℕ) (name : List ℕ) → slice_get names index ≡ Some name → IsTrue (allows literals index name)) → AreNamed literals names
  allows_named literals count same has allowed k d lt =
      let it = get_or literals k d in
      allows_named_one it.atom it.holds (subst (λ (n : ℕ). lacks n it.holds it.atom ≡ false) (sym same) (none_lack literals count has k d lt))
      (λ index name there. AllPass-from_list_all (λ it. allows_one index name it.holds it.atom) literals (allowed index name there) k d lt)

  pub lacking : (literals : List LiteralView) (count : ℕ) → length names ≡ count → some_lack literals count ≡ true → ¬ AreNamed literals names
  lacking literals count same is named =
      let (k, it, lt, there, lack) = Any-from_list_any (λ l. lacks count l.holds l.atom) literals is in
      lacking_one it.atom it.holds count same lack (subst (λ l. IsNamed names l) there (named k it lt))

-- ---- names so far

module _ (attributes : List Attribute) (literals : List LiteralView) where
  -- Names for the first attributes, which the literals allow.
  pub record AreNamesSoFar (count : ℕ) (names : List (List ℕ)) : Type 0 where
    pub are : AreNamesOf (take count attributes) names
    pub allowed : (index : ℕ) (name : List ℕ) → slice_get names index ≡ Some name → IsTrue (allows literals index name)

  pub no_names : AreNamesSoFar 0 []
  no_names = record { are = tt; allowed = λ index name there. absurd (none-some name there) }

  pub one_more : (i : ℕ) (attribute : Attribute) (names : List (List ℕ)) (name : List ℕ) → i < length attributes → attribute ≡ get_or attributes i attribute → AreNamesSoFar i names
      → IsNameOf attribute name → IsTrue (allows literals i name) → AreNamesSoFar (i + 1) (names ++ name ∷ [])
  one_more i attribute names name lt is far has allowed = record {
    are = subst (λ some. AreNamesOf some (names ++ name ∷ [])) (sym (take_more attributes i attribute lt ∙ ap (λ (a : Attribute). take i attributes ++ a ∷ []) (sym is)))
        (zip_push IsNameOf (take i attributes) names attribute name far.are has);
    allowed = λ index other there. elim (push_cases names name index other there) [
      | inl before ↦ far.allowed index other before
      | inr own ↦
          let place : i ≡ index = sym (zip_length IsNameOf (take i attributes) names far.are ∙ length-take-le i attributes (omega arith)) ∙ sym own.0 in
          subst (λ k. IsTrue (allows literals k other)) place (subst (λ n. IsTrue (allows literals i n)) own.1 allowed)
    ];
  }

  pub all_names : (i : ℕ) (names : List (List ℕ)) → length attributes ≤ i → AreNamesSoFar i names → AreNamesOf attributes names
  all_names i names past far = subst (λ some. AreNamesOf some names) (take_all i attributes past) far.are

  -- An attribute has a name that the literals allow.
  pub one_given : (i : ℕ) (d : Attribute) (given : Option (String Global)) (name : String Global) (old new : List (String Global)) → i < length attributes → GivesName literals i (get_or attributes i d) given → given ≡ Some name
      → new ≡ old ++ name ∷ [] → AreNamesSoFar i (map string_bytes old) → AreNamesSoFar (i + 1) (map string_bytes new)
  one_given i d given name old new lt gives is now far =
      let parts : IsNameOf (get_or attributes i d) (string_bytes name) × IsTrue (allows literals i (string_bytes name)) = subst (GivesName literals i (get_or attributes i d)) is gives in
      let bytes : List (String Global) → List (List ℕ) = map string_bytes in
      subst (AreNamesSoFar (i + 1)) (sym (ap bytes now ∙ map-append string_bytes old (name ∷ [])))
      (one_more i (get_or attributes i d) (map string_bytes old) (string_bytes name) lt (sym (get_or_default attributes i (get_or attributes i d) d lt)) far parts.0 parts.1)

  -- Where an attribute may have no name that the literals allow, there are no names.
  pub none_given : (i : ℕ) (d : Attribute) (given : Option (String Global)) → i < length attributes → GivesName literals i (get_or attributes i d) given → given ≡ None → (names : List (List ℕ))
      → AreNamesOf attributes names → ¬ AreNamed literals names
  none_given i d given lt gives is names have named =
      let none : (name : List ℕ) → IsNameOf (get_or attributes i d) name → ¬ IsTrue (allows literals i name) = subst (GivesName literals i (get_or attributes i d)) is gives in
      let (name, there, has) = zip_at IsNameOf attributes names i (get_or attributes i d) have (slice_get-get_or attributes i d lt) in
      none name has (named_allows names literals i name named there)

-- ---- the names of an attribute

pub name_next : (P : List ℕ → Type 0) (names : List (Bor (List ℕ))) (i : ℕ) (d : Bor (List ℕ)) → i < length names → All P (take i (map (λ own. own.now) names)) → P (get_or names i d).now
    → All P (take (i + 1) (map (λ own. own.now) names))
name_next P names i d lt all own =
    all_next P (map (λ own. own.now) names) i (get_or names i d).now (slice_get-map (λ (n : Bor (List ℕ)). n.now) names i ∙ ap (option_map (λ (n : Bor (List ℕ)). n.now)) (slice_get-get_or names i d lt)) all own

module _ (literals : List LiteralView) (index : ℕ) (attribute : Attribute) where
  abbrev pub IsRefused : List ℕ → Type 0
  IsRefused name = allows literals index name ≡ false

  -- None of the names is allowed.
  none_listed : (i : ℕ) → length attribute.names.now ≤ i → All IsRefused (take i (map (λ own. own.now) attribute.names.now)) → (name : List ℕ) → Contains (map (λ own. own.now) attribute.names.now) name
      → ¬ IsTrue (allows literals index name)
  none_listed i past all name has allowed =
      let texts = map (λ (own : Bor (List ℕ)). own.now) attribute.names.now in
      let none : All IsRefused texts = subst (All IsRefused) (take_all i texts (omega (arith, length-map attribute.names.now (λ (own : Bor (List ℕ)). own.now)))) all in
      true≢false (sym allowed ∙ All-contains IsRefused texts name none has)

  pub none_of_closed : (i : ℕ) → attribute.is_open ≡ false → length attribute.names.now ≤ i → All IsRefused (take i (map (λ own. own.now) attribute.names.now)) → (name : List ℕ) → IsNameOf attribute name
      → ¬ IsTrue (allows literals index name)
  none_of_closed i closed past all name (inl open_to) allowed = true≢false (sym open_to ∙ closed)
  none_of_closed i closed past all name (inr has) allowed = none_listed i past all name has allowed

  -- Where another text is not allowed, none is.
  pub none_of_open : (other : List ℕ) → IsOther literals index other → allows literals index other ≡ false → (name : List ℕ) → IsNameOf attribute name → ¬ IsTrue (allows literals index name)
  none_of_open other is refused name has allowed = true≢false (sym (is name allowed) ∙ refused)

-- ---- any other name

-- Each of the literals that is of the attribute says that it does not have a name, which is not
-- longer than the text.
abbrev pub IsLongerSoFar : (index : ℕ) → (other : List ℕ) → List LiteralView → Type 0
IsLongerSoFar index other literals =
    All (λ it. (name : List ℕ) → it.atom ≡ of_name index name → (it.holds ≡ false) × (length name ≤ length other)) literals

-- A further literal.
pub longer_next : (literals : List LiteralView) (index : ℕ) (other new : List ℕ) (i : ℕ) (it : LiteralView) → slice_get literals i ≡ Some it → length other ≤ length new → IsLongerSoFar index other (take i literals)
    → ((name : List ℕ) → it.atom ≡ of_name index name → (it.holds ≡ false) × (length name ≤ length new)) → IsLongerSoFar index new (take (i + 1) literals)
longer_next literals index other new i it there most far own =
    all_next (λ (l : LiteralView). (name : List ℕ) → l.atom ≡ of_name index name → (l.holds ≡ false) × (length name ≤ length new)) literals i it there
    (λ k d lt name is. let parts = far k d lt name is in (parts.0, omega (arith, parts.1, most))) own

longer_differs : (name other : List ℕ) → length name < length other → bytes_eq name other ≡ false
longer_differs name other longer =
    false_from_ne_true (bytes_eq name other)
    (λ equal. let same : length name ≡ length other = ap (λ (n : List ℕ). length n) ((bytes_eq-Decides name other).0 equal) in omega (arith, same, longer))

longer_one : (index : ℕ) (other : List ℕ) (atom : AtomView) (holds : Bool) → ((name : List ℕ) → atom ≡ of_name index name → (holds ≡ false) × (length name < length other))
    → IsTrue (allows_one index other holds atom)
longer_one index other (of_url pattern) holds shorter = refl
longer_one index other (of_name own told) holds shorter =
    allow_own index own told other holds
    (λ same. let parts = shorter told (ap (λ (k : ℕ). of_name k told) same) in longer_differs told other parts.1 ∙ sym parts.0)

-- A text that is longer than each name that the attribute does not have is another one.
pub longer_other : (literals : List LiteralView) (index : ℕ) (other : List ℕ) (last : ℕ) → IsLongerSoFar index other literals → IsOther literals index (other ++ last ∷ [])
longer_other literals index other last longer some allowed =
    list_all-from_AllPass (λ it. allows_one index (other ++ last ∷ []) it.holds it.atom) literals
    (λ k d lt.
    let it = get_or literals k d in
    longer_one index (other ++ last ∷ []) it.atom it.holds (λ name is. let parts = longer k d lt name is in (parts.0, omega (arith, parts.1, length-append other (last ∷ [])))))

-- A name that the attribute has is allowed, if any is.
pub own_other : (literals : List LiteralView) (index : ℕ) (name : List ℕ) (k : ℕ) (it : LiteralView) → slice_get literals k ≡ Some it → it.atom ≡ of_name index name → it.holds ≡ true → IsOther literals index name
own_other literals index name k it there of_it holds some allowed =
    let lt = slice_get_within literals k it there in
    let one = AllPass-from_list_all (λ l. allows_one index some l.holds l.atom) literals allowed k it lt in
    let own = subst (λ l. IsTrue (allows_one index some l.holds l.atom)) (get_or_from_slice_get literals k it it there) one in
    let equal : bytes_eq name some ≡ it.holds = allowed_own index name some it.holds (subst (λ a. IsTrue (allows_one index some it.holds a)) of_it own) in
    subst (λ n. IsTrue (allows literals index n)) (sym ((bytes_eq-Decides name some).0 (equal ∙ holds))) allowed
