-- Lemmas on the last bracket of a text.
use Rattle.std.proofs.Common.{◌≡◌, ℕ, ◌+◌, ◌<◌, List, [], ◌∷◌, ◌||◌, length, get_or, drop, false, sym, ap, ◌∙◌, add-one, drop-cons}
use Rattle.std.specs.List.{list_any}
use Rattle.urlpattern_diagnosis.specs.Faults.{IsLastBracket, is_bracket}

module _ (bytes : List ℕ) (i n d : ℕ) (lt : i < length bytes) (next : n ≡ i + 1) (after : list_any is_bracket (drop n bytes) ≡ false) where
  begins : drop i bytes ≡ get_or bytes i d ∷ drop n bytes
  begins = drop-cons bytes i d lt ∙ ap (λ k. get_or bytes i d ∷ drop k bytes) (sym (next ∙ add-one i))

  -- The last bracket is at the index.
  pub last_bracket : (bracket : ℕ) → get_or bytes i d ≡ bracket → IsLastBracket (bracket ∷ []) bytes i
  last_bracket bracket e = (drop n bytes, begins ∙ ap (λ c. c ∷ drop n bytes) e, after)

  -- No bracket is at or after the index.
  pub no_bracket : is_bracket (get_or bytes i d) ≡ false → list_any is_bracket (drop i bytes) ≡ false
  no_bracket e = ap (list_any is_bracket) begins ∙ ap (λ b. b || list_any is_bracket (drop n bytes)) e ∙ after
