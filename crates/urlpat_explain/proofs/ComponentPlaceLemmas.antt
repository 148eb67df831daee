-- The place of a component's text, by its bytes.
use Rattle.std.proofs.Common.{◌≡◌, ◌<◌, ◌==◌, ◌∙◌, ℕ, List, [], ◌∷◌, Bool, arith, encode_utf8_all, false, true, ap, length, refl, subst, sym}
use Rattle.std.proofs.lemmas.Bool.{false≢true}
use Rattle.std.proofs.lemmas.Bool.Decides.{nat_tests}
use Rattle.std.proofs.lemmas.Str.{chars-nil, encodes-chars}
use Rattle.std.specs.Prelude.{Option, None, Some, if◌then◌else◌}
use Rattle.std.specs.Str.{IsUtf8, chars}
use Rattle.urlpat_explain.specs.ComponentPlaces.{text_place}
use Rattle.urlpattern_compile.specs.Diagnoses.{span_from}
use Rattle.urlpattern_diagnosis.specs.declared.span.Span.{Span}

not_zero : (n : ℕ) → 0 < n → (n == 0) ≡ false
not_zero n less = grind (arith, nat_tests)

some_characters : (characters text : List ℕ) → encode_utf8_all characters ≡ text → (length text == 0) ≡ false → (length characters == 0) ≡ false
some_characters [] text same some = subst (λ (bytes : List ℕ). (length bytes == 0) ≡ false) (sym same) some
some_characters (c ∷ characters) text same some = not_zero (length (c ∷ characters)) (omega arith)

-- A text that has bytes has characters.
full : (text : List ℕ) → IsUtf8 text → (length text == 0) ≡ false → (length (chars text) == 0) ≡ false
full text utf8 some = some_characters (chars text) text (encodes-chars text utf8) some

-- A text without bytes has no characters.
empty : (text : List ℕ) → (length text == 0) ≡ true → (length (chars text) == 0) ≡ true
empty [] none = subst (λ (characters : List ℕ). (length characters == 0) ≡ true) (sym chars-nil) refl
empty (b ∷ text) none = absurd (false≢true (sym (not_zero (length (b ∷ text)) (omega arith)) ∙ none))

module _ (text : List ℕ) (given : Option (List ℕ)) (start : Option ℕ) (is : Some (chars text) ≡ given) where
  by_length : (none : Bool) → (length (chars text) == 0) ≡ none → (if none then None else span_from start (chars text)) ≡ text_place given start
  by_length none e = ap (λ (b : Bool). if b then None else span_from start (chars text)) (sym e) ∙ ap (λ (value : Option (List ℕ)). text_place value start) is

  -- An empty text has no place.
  pub place-empty : (length text == 0) ≡ true → None ≡ text_place given start
  place-empty none = by_length true (empty text none)

  -- The place of any other text is a span from its start on.
  pub place-from : IsUtf8 text → (length text == 0) ≡ false → (place : Option Span) → place ≡ span_from start (chars text) → place ≡ text_place given start
  place-from utf8 some place from = from ∙ by_length false (full text utf8 some)
