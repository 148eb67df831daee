-- States of a match, and their bits.
use Rattle.std.proofs.Common.{Bool, ◌≡◌, ◌≢◌, ℕ, ◌+◌, ◌*◌, ◌/◌, ◌%◌, ◌^◌, ◌<◌, ◌⊎◌, List, [], ◌∷◌, ◌++◌, length, get_or, set, None, refl, sym, ap, ◌∙◌, subst, inl, inr, arith, append_assoc, length-append, drop, take, bit_and, bit_or, w64, replicate, zero, suc}
use Rattle.std.specs.Int.{bit_at}
use Rattle.std.proofs.lemmas.Nat.Bits.{bit_at-zero, shr_and_one, bit_at_set_other}
use Rattle.std.proofs.lemmas.Bool.{cases_eq}
use Rattle.std.proofs.lemmas.List.{get_or-set_same, get_or-set_other, take-append-le, take-append-drop}
use Rattle.std.proofs.Math.Seq.{drop-append_seam, take-length}
use Rattle.std.proofs.lemmas.Nat.{div-mul-add}
use Rattle.urlpattern_steps.specs.declared.step.Step.{Step}
use Rattle.urlpattern_steps.specs.FailedStates.{AreFailed, EndsWith, HasBit, IsStateOf, Whole, bit_of}
use Rattle.urlpattern_steps.specs.Walk.{walk}
use Rattle.urlpattern_syntax.proofs.TextLemmas.{byte_len-append, length-le-byte_len}
use Rattle.urlpattern_syntax.specs.Text.{byte_len}

-- ---- suffixes

pub ends_longer : {A : Type 0} (whole more end : List A) → EndsWith whole more → EndsWith more end → EndsWith whole end
ends_longer whole more end first second = (first.0 ++ second.0, first.1 ∙ ap (λ l. first.0 ++ l) second.1 ∙ sym (append_assoc first.0 second.0 end))

pub ends_same : {A : Type 0} (whole : List A) → EndsWith whole whole
ends_same whole = ([], refl)

pub ends_drop : {A : Type 0} (n : ℕ) (whole : List A) → EndsWith whole (drop n whole)
ends_drop n whole = (take n whole, sym (take-append-drop n whole))

-- A suffix of the steps and one of the text are a state too.
pub place_within : (ignore_case : Bool) (whole now : Whole) (steps others : List Step) (text rest : List ℕ) → now ≡ whole → IsStateOf ignore_case whole steps text → EndsWith steps others → EndsWith text rest → IsStateOf ignore_case now others rest
place_within ignore_case whole now steps others text rest same place first second = subst (λ w. IsStateOf ignore_case w others rest) (sym same) (record {
  of_case = place.of_case;
  of_steps = ends_longer whole.steps steps others place.of_steps first;
  of_text = ends_longer whole.text text rest place.of_text second;
})

-- Suffixes of equal length are equal.
same_end : {A : Type 0} (front other end also : List A) → front ++ end ≡ other ++ also → length end ≡ length also → end ≡ also
same_end front other end also e l =
    let fronts : length front ≡ length other = omega (arith, ap length e, length-append front end, length-append other also) in
    sym (drop-append_seam front end) ∙ ap (λ n. drop n (front ++ end)) fronts ∙ ap (drop (length other)) e ∙ drop-append_seam other also

-- Suffixes of equal length in bytes are equal.
same_text : (front other end also : List ℕ) → front ++ end ≡ other ++ also → byte_len end ≡ byte_len also → end ≡ also
same_text [] [] end also e l = e
same_text [] (c ∷ other) end also e l = absurd (omega (arith, ap byte_len e, byte_len-append (c ∷ other) also, length-le-byte_len (c ∷ other)))
same_text (c ∷ front) [] end also e l = absurd (omega (arith, ap byte_len e, byte_len-append (c ∷ front) end, length-le-byte_len (c ∷ front)))
same_text (c ∷ front) (d ∷ other) end also e l = let f : front ++ end ≡ other ++ also = cc in same_text front other end also f l

-- ---- bits

no_bit : (bits : List ℕ) → ((k : ℕ) → get_or bits k 0 ≡ 0) → (bit : ℕ) → ¬ (HasBit bits bit)
unfolding HasBit
no_bit bits zeros bit has = absurd (omega (arith, ap (λ n. bit_at n (bit % 64)) (zeros (bit / 64)), bit_at-zero (bit % 64)))

pub dead_without : (whole : Whole) (bits : List ℕ) → ((k : ℕ) → get_or bits k 0 ≡ 0) → AreFailed whole bits
dead_without whole bits zeros = λ steps text place has. absurd (no_bit bits zeros (bit_of whole.text steps text) has)

short_text : (whole text : List ℕ) → EndsWith whole text → byte_len text < byte_len whole + 1
short_text whole text end = omega (arith, ap byte_len end.1, byte_len-append end.0 text)

-- A bit belongs to one state.
same_place : (ignore_case also_ignored : Bool) (whole : Whole) (steps others : List Step) (text other : List ℕ) → IsStateOf ignore_case whole steps text → IsStateOf also_ignored whole others other → bit_of whole.text steps text ≡ bit_of whole.text others other → (steps ≡ others) × (text ≡ other)
same_place ignore_case also_ignored whole steps others text other place also e =
    let width : ℕ = byte_len whole.text + 1 in
    let rows : length steps ≡ length others =
    sym (div-mul-add (length steps) width (byte_len text) (short_text whole.text text place.of_text))
    ∙ ap (λ n. n / width) e ∙ div-mul-add (length others) width (byte_len other) (short_text whole.text other also.of_text) in
    let row : length steps * width ≡ length others * width = ap (λ n. n * width) rows in (
      same_end place.of_steps.0 also.of_steps.0 steps others (sym place.of_steps.1 ∙ also.of_steps.1) rows,
      same_text place.of_text.0 also.of_text.0 text other (sym place.of_text.1 ∙ also.of_text.1) (omega arith),
    )

-- A failed state is added to the bits.
pub dead_more : (ignore_case : Bool) (whole : Whole) (old new : List ℕ) (bit : ℕ) (steps : List Step) (text : List ℕ) → IsStateOf ignore_case whole steps text → walk ignore_case steps text ≡ None → bit ≡ bit_of whole.text steps text
    → ((other : ℕ) → HasBit new other → HasBit old other ⊎ (other ≡ bit)) → AreFailed whole old → AreFailed whole new
dead_more ignore_case whole old new bit steps text place none is more dead = λ others other also has.
    elim (more (bit_of whole.text others other) has) [
      | inl was ↦ dead others other also was
      | inr same ↦
          let one = same_place whole.ignore_case ignore_case whole others steps other text also place (same ∙ is) in
          ap (λ i. walk i others other) place.of_case ∙ ap (λ s. walk ignore_case s other) one.0 ∙ ap (walk ignore_case steps) one.1 ∙ none
    ]

-- A bit of a word.
pub bit_by_shift : (bits : List ℕ) (bit : ℕ) → bit_and (get_or bits (bit / 64) 0 / 2 ^ (bit % 64)) 1 ≡ 1 → HasBit bits bit
unfolding HasBit
bit_by_shift bits bit e = sym (shr_and_one (get_or bits (bit / 64) 0) (bit % 64)) ∙ e

-- The bits after one was set.
pub bit_set : (old : List ℕ) (bit word : ℕ) → bit / 64 < length old → get_or old (bit / 64) 0 ≡ word → (other : ℕ) → HasBit (set old (bit / 64) (bit_or word (1 * 2 ^ (bit % 64) % 2 ^ 64))) other → HasBit old other ⊎ (other ≡ bit)
unfolding HasBit
bit_set old bit word within is other has =
    elim (cases_eq other bit) [
      | inl same ↦ inr same
      | inr differs ↦ inl (elim (cases_eq (other / 64) (bit / 64)) [
        | inl at ↦
            let bits : other % 64 ≢ bit % 64 = λ e. differs (omega arith) in
            let now = get_or-set_same old (bit / 64) (bit_or word (1 * 2 ^ (bit % 64) % 2 ^ 64)) 0 within in
            sym (bit_at_set_other w64 word (bit % 64) (omega arith) (other % 64) bits
            ∙ ap (λ n. bit_at n (other % 64)) (sym is ∙ ap (λ n. get_or old n 0) (sym at)))
            ∙ ap (λ n. bit_at n (other % 64)) (sym now ∙ ap (λ n. get_or (set old (bit / 64) (bit_or word (1 * 2 ^ (bit % 64) % 2 ^ 64))) n 0) (sym at)) ∙ has
        | inr away ↦
            ap (λ n. bit_at n (other % 64)) (sym (get_or-set_other old (bit / 64) (other / 64) (bit_or word (1 * 2 ^ (bit % 64) % 2 ^ 64)) 0 away)) ∙ has
      ])
    ]

pub zeros : (n k : ℕ) → get_or (replicate {A = ℕ} n 0) k 0 ≡ 0
zeros zero k = refl
zeros (suc n) zero = refl
zeros (suc n) (suc k) = zeros n k

-- A slice that was overwritten.
pub whole_written : (n : ℕ) (old new : List ℕ) → length new ≡ n → take n (new ++ drop (length new) old) ≡ new
whole_written n old new e =
    take-append-le n new (drop (length new) old) (omega arith) ∙ ap (λ k. take k new) (sym e) ∙ take-length new
