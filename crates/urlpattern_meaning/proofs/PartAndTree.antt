-- A part and its tree mean the same.
use Rattle.std.proofs.Common.{◌≡◌, ℕ, zero, suc, ◌+◌, ◌≤◌, List, [], ◌∷◌, refl, sym, subst, ap, arith, Bool, true, false, Some, None, ◌∙◌, ◌↔◌, ◌⊎◌, inl, inr}
use Rattle.std.proofs.lemmas.List.{append-nil}
use Rattle.std.specs.Prelude.{◌&&◌, IsTrue, replicate}
use Rattle.urlpattern_meaning.specs.Dialect.{AtomMeans, Captured, Grouped, Items, Nothing, IsQuantified, Means, OneOrMore, ZeroOrMore, atom_group_count, group_count}
use Rattle.urlpattern_meaning.specs.PartMeaning.{Allows, Captures}
use Rattle.urlpattern_syntax.specs.declared.parser.PartModifier.{PartModifier}
use Rattle.urlpattern_syntax.specs.declared.parser.PartModifier.TheVariants as modifiers
use Rattle.urlpattern_syntax.specs.RegexpText.{is_empty}
use Rattle.urlpattern_syntax.specs.Text.{IsRepeated}
use Rattle.urlpattern_meaning.proofs.Copies.{GroupMeans, IsCore, IsFurther, TakesCopies, TakesNone, core_one, one_core, repeated_map}
use Rattle.urlpattern_meaning.proofs.PartTreeAllowed.{copies_groups, put_groups}
use Rattle.urlpattern_meaning.proofs.MatchingLaws.{and_left, and_right}
use Rattle.urlpattern_meaning.proofs.PartTrees.{affixed_core, affixed_quantifier, bare_core, bare_quantifier, between, copies, group_atom, group_quantifier, put}
use Rattle.urlpattern_meaning.proofs.TreeMeaning.{StandsFor, alone_means, between_means, copies_means, piece_means}
use Rattle.urlpattern_syntax.proofs.TokenExamples.{no}

-- ---- captures between prefix and suffix

-- A single copy, where the modifier allows no more.
one_allowed : (IsPiece : List ℕ → Type 0) (prefix suffix : List ℕ) (n : ℕ) (text : List ℕ) → suc n ≤ 1 → IsCore IsPiece prefix suffix n text → IsPiece text
one_allowed IsPiece prefix suffix zero text few is = one_core IsPiece prefix suffix text is
one_allowed IsPiece prefix suffix (suc n) text few is = absurd (omega (arith, few))

-- Some copies that the modifier allows, without the first prefix and the last suffix.
abbrev pub IsAllowedCore : (List ℕ → Type 0) → PartModifier → (prefix suffix text : List ℕ) → Type 0
IsAllowedCore IsPiece modifier prefix suffix text = (n : ℕ) × Allows modifier (suc n) × IsCore IsPiece prefix suffix n text

core_means : (modifier : PartModifier) (marks prefix : List ℕ) (piece : Items) (suffix : List ℕ) (IsPiece : List ℕ → Type 0) → StandsFor piece IsPiece → (text : List ℕ) (captures : Captures) →
    Means (affixed_core modifier marks prefix piece suffix) text captures ↔ (IsAllowedCore IsPiece modifier prefix suffix text × (captures ≡ []))
core_means modifiers.None marks prefix piece suffix IsPiece stands text captures = (
  λ means. let is = (stands.means text captures).0 means in ((0, refl, core_one IsPiece prefix suffix text is.0), is.1),
  λ ((n, e, is), f). (stands.means text captures).1 (one_allowed IsPiece prefix suffix n text (omega (arith, e)) is, f),
)
core_means modifiers.Optional marks prefix piece suffix IsPiece stands text captures = (
  λ means. let is = (stands.means text captures).0 means in ((0, omega arith, core_one IsPiece prefix suffix text is.0), is.1),
  λ ((n, few, is), f). (stands.means text captures).1 (one_allowed IsPiece prefix suffix n text few is, f),
)
core_means modifiers.ZeroOrMore marks prefix piece suffix IsPiece stands text captures = (
  λ means. let is = (copies_means marks prefix piece suffix IsPiece stands text captures).0 means in ((is.0, tt, is.1), is.2),
  λ ((n, some, is), f). (copies_means marks prefix piece suffix IsPiece stands text captures).1 (n, is, f),
)
core_means modifiers.OneOrMore marks prefix piece suffix IsPiece stands text captures = (
  λ means. let is = (copies_means marks prefix piece suffix IsPiece stands text captures).0 means in ((is.0, omega arith, is.1), is.2),
  λ ((n, some, is), f). (copies_means marks prefix piece suffix IsPiece stands text captures).1 (n, is, f),
)

-- ---- a group with a prefix or a suffix

takes_means : (modifier : PartModifier) (marks prefix : List ℕ) (piece : Items) (suffix : List ℕ) (IsPiece : List ℕ → Type 0) → StandsFor piece IsPiece → (text : List ℕ) (captures : Captures) →
    Means (between marks prefix (affixed_core modifier marks prefix piece suffix) suffix) text captures ↔ TakesCopies IsPiece modifier prefix suffix text captures
takes_means modifier marks prefix piece suffix IsPiece stands text captures = (
  λ means.
      let found = (between_means marks prefix (affixed_core modifier marks prefix piece suffix) suffix text captures).0 means in
      let is = (core_means modifier marks prefix piece suffix IsPiece stands found.0 found.1).0 found.4 in
      (is.0.0, found.0, is.0.1, found.2, is.0.2, found.3 ∙ ap (λ c. Some found.0 ∷ c) is.1),
  λ (n, core, allowed, e, is, f).
      (between_means marks prefix (affixed_core modifier marks prefix piece suffix) suffix text captures).1
      (core, [], e, f, (core_means modifier marks prefix piece suffix IsPiece stands core []).1 ((n, allowed, is), refl)),
)

between_groups : (marks prefix : List ℕ) (core : Items) (suffix : List ℕ) → group_count core ≡ 0 → group_count (between marks prefix core suffix) ≡ 1
between_groups marks prefix core suffix e = put_groups marks prefix _ ∙ ap (λ n. suc n + group_count (put marks suffix Nothing)) e ∙ ap (λ n. suc 0 + n) (put_groups marks suffix Nothing)

-- The group of an atom that is skipped leaves a single None.
left_none : (groups : ℕ) (captures : Captures) → groups ≡ 1 → (captures ≡ replicate groups None) ↔ (captures ≡ None ∷ [])
left_none groups captures e = let same : replicate groups None ≡ None ∷ [] = ap (λ n. replicate n None) e in (λ f. f ∙ same, λ f. f ∙ sym same)

-- An atom that cannot be skipped.
always : (A B C : Type 0) → B ↔ A → ¬ C → B ↔ (C ⊎ A)
always A B C same never = (λ b. inr (same.0 b), λ either. elim either [ inl c ↦ absurd (never c) | inr a ↦ same.1 a ])

-- An atom that can be skipped.
sometimes : (A B C D : Type 0) → B ↔ A → D ↔ C → (B ⊎ D) ↔ (C ⊎ A)
sometimes A B C D same same_none = (
  λ either. elim either [ inl b ↦ inr (same.0 b) | inr d ↦ inl (same_none.0 d) ],
  λ either. elim either [ inl c ↦ inr (same_none.1 c) | inr a ↦ inl (same.1 a) ],
)

affixed_means : (modifier : PartModifier) (marks prefix : List ℕ) (piece : Items) (suffix : List ℕ) (IsPiece : List ℕ → Type 0) → StandsFor piece IsPiece → group_count piece ≡ 0 → (text : List ℕ) (captures : Captures) →
    IsQuantified (affixed_quantifier modifier) (group_count (between marks prefix (affixed_core modifier marks prefix piece suffix) suffix)) (Means (between marks prefix (affixed_core modifier marks prefix piece suffix) suffix)) text captures
    ↔ GroupMeans IsPiece false modifier prefix suffix text captures
affixed_means modifiers.None marks prefix piece suffix IsPiece stands e text captures =
    always (TakesCopies IsPiece modifiers.None prefix suffix text captures) _ (TakesNone false modifiers.None text captures)
    (takes_means modifiers.None marks prefix piece suffix IsPiece stands text captures) (λ none. omega (arith, none.0))
affixed_means modifiers.OneOrMore marks prefix piece suffix IsPiece stands e text captures =
    always (TakesCopies IsPiece modifiers.OneOrMore prefix suffix text captures) _ (TakesNone false modifiers.OneOrMore text captures)
    (takes_means modifiers.OneOrMore marks prefix piece suffix IsPiece stands text captures) (λ none. omega (arith, none.0))
affixed_means modifiers.Optional marks prefix piece suffix IsPiece stands e text captures =
    let none = left_none (group_count (between marks prefix piece suffix)) captures (between_groups marks prefix piece suffix e) in
    sometimes (TakesCopies IsPiece modifiers.Optional prefix suffix text captures) _ (TakesNone false modifiers.Optional text captures) _
    (takes_means modifiers.Optional marks prefix piece suffix IsPiece stands text captures)
    (λ is. (omega arith, is.0, none.0 is.1), λ is. (is.1, none.1 is.2))
affixed_means modifiers.ZeroOrMore marks prefix piece suffix IsPiece stands e text captures =
    let none = left_none (group_count (between marks prefix (copies marks prefix piece suffix) suffix)) captures
    (between_groups marks prefix (copies marks prefix piece suffix) suffix (copies_groups marks prefix piece suffix e)) in
    sometimes (TakesCopies IsPiece modifiers.ZeroOrMore prefix suffix text captures) _ (TakesNone false modifiers.ZeroOrMore text captures) _
    (takes_means modifiers.ZeroOrMore marks prefix piece suffix IsPiece stands text captures)
    (λ is. (tt, is.0, none.0 is.1), λ is. (is.1, none.1 is.2))

-- ---- a group with neither prefix nor suffix

-- Copies with nothing between them are the pieces.
pieces_core : (IsPiece : List ℕ → Type 0) (n : ℕ) (text : List ℕ) → IsRepeated IsPiece (suc n) text → IsCore IsPiece [] [] n text
pieces_core IsPiece n text (first, rest, e, is, more) = (first, rest, e, is, repeated_map IsPiece (IsFurther IsPiece [] []) (λ t is. (t, refl, is)) n rest more)

core_pieces : (IsPiece : List ℕ → Type 0) (n : ℕ) (text : List ℕ) → IsCore IsPiece [] [] n text → IsRepeated IsPiece (suc n) text
core_pieces IsPiece n text (first, rest, e, is, more) = (first, rest, e, is, repeated_map (IsFurther IsPiece [] []) IsPiece (λ t found. subst IsPiece (sym found.1) found.2) n rest more)

-- A single piece is captured whole.
captured_means : (modifier : PartModifier) (piece : Items) (IsPiece : List ℕ → Type 0) → StandsFor piece IsPiece → ((n : ℕ) → Allows modifier (suc n) → suc n ≤ 1) → Allows modifier 1 → (text : List ℕ) (captures : Captures) →
    AtomMeans (Captured piece) text captures ↔ TakesCopies IsPiece modifier [] [] text captures
captured_means modifier piece IsPiece stands few one text captures = (
  λ (inner, e, means).
      let is = (stands.means text inner).0 means in
      (0, text, one, sym (append-nil text), core_one IsPiece [] [] text is.0, e ∙ ap (λ c. Some text ∷ c) is.1),
  λ (n, core, allowed, e, is, f).
      let same : core ≡ text = sym (e ∙ append-nil core) in
      ([], f ∙ ap (λ t. Some t ∷ []) same, (stands.means text []).1 (subst IsPiece same (one_allowed IsPiece [] [] n core (few n allowed) is), refl)),
)

-- Pieces that are captured together.
several : (IsPiece : List ℕ → Type 0) (modifier : PartModifier) (n : ℕ) (text : List ℕ) (captures : Captures) → Allows modifier (suc n) → IsRepeated IsPiece (suc n) text → captures ≡ Some text ∷ [] →
    TakesCopies IsPiece modifier [] [] text captures
several IsPiece modifier n text captures allowed are e = (n, text, allowed, sym (append-nil text), pieces_core IsPiece n text are, e)

at_once : (IsPiece : List ℕ → Type 0) (modifier : PartModifier) (text : List ℕ) (captures : Captures) → TakesCopies IsPiece modifier [] [] text captures → (n : ℕ) × IsRepeated IsPiece (suc n) text × (captures ≡ Some text ∷ [])
at_once IsPiece modifier text captures (n, core, allowed, e, is, f) =
    let same : core ≡ text = sym (e ∙ append-nil core) in
    (n, subst (λ t. IsRepeated IsPiece (suc n) t) same (core_pieces IsPiece n core is), f ∙ ap (λ t. Some t ∷ []) same)

any_pieces : (IsPiece : List ℕ → Type 0) (n : ℕ) (text : List ℕ) (captures : Captures) → IsRepeated IsPiece n text → captures ≡ Some text ∷ [] → GroupMeans IsPiece true modifiers.ZeroOrMore [] [] text captures
any_pieces IsPiece zero text captures are e = inl (tt, are, e ∙ ap (λ t. Some t ∷ []) are)
any_pieces IsPiece (suc n) text captures are e = inr (several IsPiece modifiers.ZeroOrMore n text captures tt are e)

to_pieces : (piece : Items) (IsPiece : List ℕ → Type 0) → StandsFor piece IsPiece → (n : ℕ) (text : List ℕ) → IsRepeated (λ substring. Means piece substring []) n text → IsRepeated IsPiece n text
to_pieces piece IsPiece stands = repeated_map (λ t. Means piece t []) IsPiece (λ t. (piece_means piece IsPiece stands t).0)

of_pieces : (piece : Items) (IsPiece : List ℕ → Type 0) → StandsFor piece IsPiece → (n : ℕ) (text : List ℕ) → IsRepeated IsPiece n text → IsRepeated (λ substring. Means piece substring []) n text
of_pieces piece IsPiece stands = repeated_map IsPiece (λ t. Means piece t []) (λ t. (piece_means piece IsPiece stands t).1)

bare_means : (modifier : PartModifier) (piece : Items) (IsPiece : List ℕ → Type 0) → StandsFor piece IsPiece → group_count piece ≡ 0 → (text : List ℕ) (captures : Captures) →
    IsQuantified (bare_quantifier modifier) (suc (group_count (bare_core modifier piece))) (AtomMeans (Captured (bare_core modifier piece))) text captures
    ↔ GroupMeans IsPiece true modifier [] [] text captures
bare_means modifiers.None piece IsPiece stands e text captures =
    always (TakesCopies IsPiece modifiers.None [] [] text captures) _ (TakesNone true modifiers.None text captures)
    (captured_means modifiers.None piece IsPiece stands (λ n one. omega (arith, one)) refl text captures) (λ none. omega (arith, none.0))
bare_means modifiers.Optional piece IsPiece stands e text captures =
    let none = left_none (suc (group_count piece)) captures (ap (λ n. suc n) e) in
    sometimes (TakesCopies IsPiece modifiers.Optional [] [] text captures) _ (TakesNone true modifiers.Optional text captures) _
    (captured_means modifiers.Optional piece IsPiece stands (λ n few. few) (omega arith) text captures)
    (λ is. (omega arith, is.0, none.0 is.1), λ is. (is.1, none.1 is.2))
bare_means modifiers.ZeroOrMore piece IsPiece stands e text captures = (
  λ (inner, f, means).
      let found = (alone_means (Grouped piece) ZeroOrMore text inner).0 means in
      any_pieces IsPiece found.0 text captures (to_pieces piece IsPiece stands found.0 text found.1) (f ∙ ap (λ c. Some text ∷ c) found.2),
  λ either. elim either [
    | inl none ↦ ([], none.2 ∙ ap (λ t. Some t ∷ []) (sym none.1), (alone_means (Grouped piece) ZeroOrMore text []).1 (0, none.1, refl))
    | inr some ↦
        let found = at_once IsPiece modifiers.ZeroOrMore text captures some in
        ([], found.2, (alone_means (Grouped piece) ZeroOrMore text []).1 (suc found.0, of_pieces piece IsPiece stands (suc found.0) text found.1, refl))
  ],
)
bare_means modifiers.OneOrMore piece IsPiece stands e text captures = (
  λ (inner, f, means).
      let found = (alone_means (Grouped piece) OneOrMore text inner).0 means in
      inr (several IsPiece modifiers.OneOrMore found.0 text captures (omega arith) (to_pieces piece IsPiece stands (suc found.0) text found.1) (f ∙ ap (λ c. Some text ∷ c) found.2)),
  λ either. elim either [
    | inl none ↦ absurd (omega (arith, none.0))
    | inr some ↦
        let found = at_once IsPiece modifiers.OneOrMore text captures some in
        ([], found.2, (alone_means (Grouped piece) OneOrMore text []).1 (found.0, of_pieces piece IsPiece stands (suc found.0) text found.1, refl))
  ],
)

-- ---- a group

empty_by : (text : List ℕ) → IsTrue (is_empty text) → text ≡ []
empty_by [] h = refl
empty_by (c ∷ text) h = absurd (no h)

pub group_by : (is_bare : Bool) (modifier : PartModifier) (marks prefix : List ℕ) (piece : Items) (suffix : List ℕ) (IsPiece : List ℕ → Type 0) → is_empty prefix && is_empty suffix ≡ is_bare → StandsFor piece IsPiece → group_count piece ≡ 0 → (text : List ℕ) (captures : Captures) →
    IsQuantified (group_quantifier is_bare modifier) (atom_group_count (group_atom is_bare modifier marks prefix piece suffix)) (AtomMeans (group_atom is_bare modifier marks prefix piece suffix)) text captures
    ↔ GroupMeans IsPiece is_bare modifier prefix suffix text captures
group_by true modifier marks prefix piece suffix IsPiece h stands e text captures =
    let no_prefix : prefix ≡ [] = empty_by prefix (and_left (is_empty prefix) (is_empty suffix) h) in
    let no_suffix : suffix ≡ [] = empty_by suffix (and_right (is_empty prefix) (is_empty suffix) h) in
    rw (no_prefix, no_suffix) (bare_means modifier piece IsPiece stands e text captures)
group_by false modifier marks prefix piece suffix IsPiece h stands e text captures = affixed_means modifier marks prefix piece suffix IsPiece stands e text captures
