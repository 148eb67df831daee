-- Copies of a wildcard between prefix and suffix, by the text between the first prefix and the last
-- suffix.
use Rattle.std.proofs.Common.{◌≡◌, ℕ, zero, suc, List, [], ◌∷◌, ◌++◌, refl, sym, subst, ap, Bool, Some, Option, append_assoc, ◌∙◌, ◌↔◌, ◌⊎◌, inl, inr}
use Rattle.std.proofs.lemmas.List.{append-nil}
use Rattle.std.specs.Prelude.{◌&&◌}
use Rattle.urlpattern_meaning.specs.PartMeaning.{Allows, Captures, IsCapture, IsWildcardText, PartMeans, capture_of_none}
use Rattle.urlpattern_syntax.specs.declared.parser.PartModifier.{PartModifier}
use Rattle.urlpattern_syntax.specs.declared.parser.PartType.{PartType}
use Rattle.urlpattern_syntax.specs.Options.{OptionsView}
use Rattle.urlpattern_syntax.specs.RegexpText.{IsWildcard, is_empty}
use Rattle.urlpattern_syntax.specs.Text.{IsRepeated}
use Rattle.urlpattern_meaning.proofs.MatchingLaws.{middle_cancel, part_of, wildcard_copies}

-- ---- repeated texts

pub repeated_map : (A B : List ℕ → Type 0) → ((text : List ℕ) → A text → B text) → (n : ℕ) (text : List ℕ) → IsRepeated A n text → IsRepeated B n text
repeated_map A B weaker zero text ended = ended
repeated_map A B weaker (suc n) text (first, rest, cut, is, more) = (first, rest, cut, weaker first is, repeated_map A B weaker n rest more)

-- ---- copies

-- A copy: a piece between prefix and suffix.
abbrev pub IsBetween : (List ℕ → Type 0) → (prefix suffix text : List ℕ) → Type 0
IsBetween IsPiece prefix suffix text = (piece : List ℕ) × (text ≡ prefix ++ piece ++ suffix) × IsPiece piece

-- The text that a further copy adds between the first prefix and the last suffix.
abbrev pub IsFurther : (List ℕ → Type 0) → (prefix suffix text : List ℕ) → Type 0
IsFurther IsPiece prefix suffix text = (piece : List ℕ) × (text ≡ suffix ++ prefix ++ piece) × IsPiece piece

-- The text between the first prefix and the last suffix of a copy and n more.
abbrev pub IsCore : (List ℕ → Type 0) → (prefix suffix : List ℕ) → ℕ → (text : List ℕ) → Type 0
IsCore IsPiece prefix suffix n text = (first rest : List ℕ) × (text ≡ first ++ rest) × IsPiece first × IsRepeated (IsFurther IsPiece prefix suffix) n rest

-- A single copy.
pub core_one : (IsPiece : List ℕ → Type 0) (prefix suffix text : List ℕ) → IsPiece text → IsCore IsPiece prefix suffix 0 text
core_one IsPiece prefix suffix text is = (text, [], sym (append-nil text), is, refl)

pub one_core : (IsPiece : List ℕ → Type 0) (prefix suffix text : List ℕ) → IsCore IsPiece prefix suffix 0 text → IsPiece text
one_core IsPiece prefix suffix text (first, rest, cut, is, ended) = subst IsPiece (sym (cut ∙ ap (λ t. first ++ t) ended ∙ append-nil first)) is

-- The first copy and the others, as one core between prefix and suffix.
first_in : (prefix first suffix core : List ℕ) → (prefix ++ first ++ suffix) ++ (prefix ++ core ++ suffix) ≡ prefix ++ (first ++ (suffix ++ (prefix ++ core))) ++ suffix
first_in prefix first suffix core = simp append_assoc

second_in : (prefix suffix first rest : List ℕ) → suffix ++ (prefix ++ (first ++ rest)) ≡ (suffix ++ prefix ++ first) ++ rest
second_in prefix suffix first rest = simp append_assoc

pub copies_core : (IsPiece : List ℕ → Type 0) (prefix suffix : List ℕ) (n : ℕ) (text : List ℕ) → IsRepeated (IsBetween IsPiece prefix suffix) (suc n) text →
    (core : List ℕ) × (text ≡ prefix ++ core ++ suffix) × IsCore IsPiece prefix suffix n core
copies_core IsPiece prefix suffix zero text (first, rest, cut, (piece, e, is), ended) =
    (piece, cut ∙ ap (λ t. first ++ t) ended ∙ append-nil first ∙ e, core_one IsPiece prefix suffix piece is)
copies_core IsPiece prefix suffix (suc n) text (first, rest, cut, (piece, e, is), more) =
    let others = copies_core IsPiece prefix suffix n rest more in
    let core = others.2 in (
      piece ++ (suffix ++ (prefix ++ others.0)),
      cut ∙ ap (λ t. t ++ rest) e ∙ ap (λ t. (prefix ++ piece ++ suffix) ++ t) others.1 ∙ first_in prefix piece suffix others.0,
      (
        piece,
        suffix ++ (prefix ++ others.0),
        refl,
        is,
        (
          suffix ++ prefix ++ core.0,
          core.1,
          ap (λ t. suffix ++ (prefix ++ t)) core.2 ∙ second_in prefix suffix core.0 core.1,
          (core.0, refl, core.3),
          core.4,
        ),
      ),
    )

pub core_copies : (IsPiece : List ℕ → Type 0) (prefix suffix : List ℕ) (n : ℕ) (core text : List ℕ) → text ≡ prefix ++ core ++ suffix → IsCore IsPiece prefix suffix n core →
    IsRepeated (IsBetween IsPiece prefix suffix) (suc n) text
core_copies IsPiece prefix suffix zero core text e is = (text, [], sym (append-nil text), (core, e, one_core IsPiece prefix suffix core is), refl)
core_copies IsPiece prefix suffix (suc n) core text e (first, rest, cut, is, (substring, behind, next_cut, (piece, f, next), more)) = (
  prefix ++ first ++ suffix,
  prefix ++ (piece ++ behind) ++ suffix,
  e
      ∙ ap (λ t. prefix ++ t ++ suffix) (cut ∙ ap (λ t. first ++ t) (next_cut ∙ ap (λ t. t ++ behind) f ∙ sym (second_in prefix suffix piece behind)))
      ∙ sym (first_in prefix first suffix (piece ++ behind)),
  (first, refl, is),
  core_copies IsPiece prefix suffix n (piece ++ behind) (prefix ++ (piece ++ behind) ++ suffix) refl (piece, behind, refl, next, more),
)

-- ---- one wildcard

-- At least one copy, which captures all but the first prefix and the last suffix.
abbrev pub TakesCopies : (List ℕ → Type 0) → PartModifier → (prefix suffix text : List ℕ) → Captures → Type 0
TakesCopies IsPiece modifier prefix suffix text captures =
    (n : ℕ) × (core : List ℕ) × Allows modifier (suc n) × (text ≡ prefix ++ core ++ suffix) × IsCore IsPiece prefix suffix n core × (captures ≡ Some core ∷ [])

-- No copies.
abbrev pub TakesNone : (is_bare : Bool) → PartModifier → (text : List ℕ) → Captures → Type 0
TakesNone is_bare modifier text captures = Allows modifier 0 × (text ≡ []) × (captures ≡ capture_of_none modifier is_bare ∷ [])

abbrev pub GroupMeans : (List ℕ → Type 0) → (is_bare : Bool) → PartModifier → (prefix suffix text : List ℕ) → Captures → Type 0
GroupMeans IsPiece is_bare modifier prefix suffix text captures = TakesNone is_bare modifier text captures ⊎ TakesCopies IsPiece modifier prefix suffix text captures

counted : (IsPiece : List ℕ → Type 0) (kind : PartType) (modifier : PartModifier) (value name prefix suffix text : List ℕ) (captures : Captures) (n : ℕ) → Allows modifier n →
    IsRepeated (IsBetween IsPiece prefix suffix) n text →
    (capture : Option (List ℕ)) × IsCapture (part_of kind modifier value name prefix suffix) n text capture × (captures ≡ capture ∷ []) →
    GroupMeans IsPiece (is_empty prefix && is_empty suffix) modifier prefix suffix text captures
counted IsPiece kind modifier value name prefix suffix text captures zero allowed are (capture, e, f) = inl (allowed, are, f ∙ ap (λ c. c ∷ []) e)
counted IsPiece kind modifier value name prefix suffix text captures (suc n) allowed are (capture, (inner, e, g), f) =
    let found = copies_core IsPiece prefix suffix n text are in
    let same : inner ≡ found.0 = middle_cancel prefix inner found.0 suffix (sym e ∙ found.1) in
    inr (n, found.0, allowed, found.1, found.2, f ∙ ap (λ c. c ∷ []) (g ∙ ap Some same))

-- A wildcard matches no copies, or at least one.
pub wildcard_means : (options : OptionsView) (kind : PartType) (modifier : PartModifier) (value name prefix suffix text : List ℕ) (captures : Captures) → IsWildcard kind →
    PartMeans options (part_of kind modifier value name prefix suffix) text captures ↔ GroupMeans (IsWildcardText options kind) (is_empty prefix && is_empty suffix) modifier prefix suffix text captures
wildcard_means options kind modifier value name prefix suffix text captures h =
    let same = wildcard_copies options kind modifier value name prefix suffix text captures h in (
      λ means.
          let found = same.0 means in
          counted (IsWildcardText options kind) kind modifier value name prefix suffix text captures found.0 found.1 found.2 found.3,
      λ means. elim means [
        | inl none ↦ same.1 (0, none.0, none.1, (capture_of_none modifier (is_empty prefix && is_empty suffix), refl, none.2))
        | inr some ↦ same.1 (
          suc some.0,
          some.2,
          core_copies (IsWildcardText options kind) prefix suffix some.0 some.1 text some.3 some.4,
          (Some some.1, (some.1, some.3, refl), some.5),
        )
      ],
    )
