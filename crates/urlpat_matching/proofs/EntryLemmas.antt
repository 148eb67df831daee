-- Lemmas on the entries of lines.
use Rattle.std.proofs.Common.{get_or, ◌≡◌, ◌≤◌, ◌∙◌, ◌+◌, ◌++◌, ◌∷◌, ℕ, List, [], All, Some, length, append_assoc, append-nil, sym, ap, subst, arith, refl, length-append}
use Rattle.std.proofs.Math.Seq.{get_or-append_seam}
use Rattle.std.proofs.lemmas.Option.{slice_get_read}
use Rattle.std.specs.List.{slice_get}
use Rattle.std.specs.Prelude.{Bool, false, if◌then◌else◌, true}
use Rattle.urlpat_matching.specs.Tables.{entries_from, is_mark, line_entries, without_mark}

-- The entries of a line are appended.
pub entries-more : (number at : ℕ) (before : List (List ℕ)) (line : List ℕ) → at ≡ number + length before
    → entries_from number (before ++ line ∷ []) ≡ entries_from number before ++ line_entries at line
entries-more number at [] line is = ap (λ n. line_entries n line ++ []) (omega (arith, is)) ∙ append-nil _
entries-more number at (first ∷ before) line is =
    ap (λ entries. line_entries number first ++ entries) (entries-more (number + 1) at before line (omega (arith, is)))
    ∙ sym (append_assoc (line_entries number first) (entries_from (number + 1) before) (line_entries at line))

-- The line after the first lines of a list.
pub line-there : (before : List (List ℕ)) (line : List ℕ) (rest lines : List (List ℕ)) → lines ≡ before ++ line ∷ rest → slice_get lines (length before) ≡ Some line
line-there before line rest lines are =
    slice_get_read lines (length lines) (length before) line refl (omega (arith, ap length are, length-append before (line ∷ rest)))
    (sym (ap (λ l. get_or l (length before) line) are ∙ get_or-append_seam before line rest line))

-- A property of an element is one of all elements of its singleton list.
pub All-one : {X : Type 0} (P : X → Type 0) (x : X) → P x → All P (x ∷ [])
All-one P x is = λ k d less. let e : k ≡ 0 = omega (arith, less) in subst (λ n. P (get_or (x ∷ []) n d)) (sym e) is

shorter-if : (mark : Bool) (a b c : ℕ) (text : List ℕ) → length (if mark then text else a ∷ b ∷ c ∷ text) ≤ length (a ∷ b ∷ c ∷ text)
shorter-if true a b c text = omega arith
shorter-if false a b c text = omega arith

-- A text without a byte order mark is not longer.
pub mark-shorter : (text : List ℕ) → length (without_mark text) ≤ length text
mark-shorter [] = omega arith
mark-shorter (a ∷ []) = omega arith
mark-shorter (a ∷ b ∷ []) = omega arith
mark-shorter (a ∷ b ∷ c ∷ text) = shorter-if (is_mark a b c) a b c text
