-- The shapes of patterns that repeat.
use Rattle.std.proofs.Common.{◌≡◌, ℕ, zero, suc, ◌+◌, ◌-◌, add-one, Bool, true, false, Option, Some, None, refl, ap, ◌∙◌}
use Rattle.std.proofs.lemmas.Bool.{and_from}
use Rattle.regex_hir.specs.Meaning as meaning
use Rattle.regex_hir.specs.Re.{Re, plus}
use Rattle.urlpattern_expressions.specs.Shapes.{Shape, copied, optional, pattern_shape, reads_characters, repeated, sequence, up_to}

-- Copies, one more of them.
pub copied_more : (count : ℕ) (one last : Shape) → copied (count + 1) one last ≡ sequence one (copied count one last)
copied_more count one last = rw add-one refl

pub up_to_more : (greedy : Bool) (count : ℕ) (one : Shape) → up_to greedy (count + 1) one ≡ optional greedy (sequence one (up_to greedy count one))
up_to_more greedy count one = rw add-one refl

optional_shape : (greedy : Bool) (a : Re) → pattern_shape (meaning.optional greedy a) ≡ optional greedy (pattern_shape a)
optional_shape true a = refl
optional_shape false a = refl

copied_shape : (count : ℕ) (a b : Re) → pattern_shape (meaning.copies count a b) ≡ copied count (pattern_shape a) (pattern_shape b)
copied_shape zero a b = refl
copied_shape (suc count) a b = ap (λ (it : Shape). sequence (pattern_shape a) it) (copied_shape count a b)

up_to_shape : (greedy : Bool) (count : ℕ) (a : Re) → pattern_shape (meaning.up_to greedy count a) ≡ up_to greedy count (pattern_shape a)
up_to_shape greedy zero a = refl
up_to_shape true (suc count) a = ap (λ (it : Shape). optional true (sequence (pattern_shape a) it)) (up_to_shape true count a)
up_to_shape false (suc count) a = ap (λ (it : Shape). optional false (sequence (pattern_shape a) it)) (up_to_shape false count a)

-- The shape of a repeated pattern repeats its shape.
pub repeated_shape : (min : ℕ) (max : Option ℕ) (greedy : Bool) (a : Re) → pattern_shape (meaning.repeat min max greedy a) ≡ repeated min max greedy (pattern_shape a)
unfolding meaning.repeat
repeated_shape zero None greedy a = optional_shape greedy (plus greedy a)
repeated_shape (suc min) None greedy a = copied_shape min a (plus greedy a)
repeated_shape min (Some max) greedy a =
    copied_shape min a (meaning.up_to greedy (max - min) a) ∙ ap (copied min (pattern_shape a)) (up_to_shape greedy (max - min) a)

-- ---- steps that read characters

optional_reads : (greedy : Bool) (a : Re) → reads_characters a ≡ true → reads_characters (meaning.optional greedy a) ≡ true
optional_reads true a h = and_from (reads_characters a) true h refl
optional_reads false a h = h

copied_reads : (count : ℕ) (a b : Re) → reads_characters a ≡ true → reads_characters b ≡ true → reads_characters (meaning.copies count a b) ≡ true
copied_reads zero a b h k = k
copied_reads (suc count) a b h k = and_from (reads_characters a) (reads_characters (meaning.copies count a b)) h (copied_reads count a b h k)

up_to_reads : (greedy : Bool) (count : ℕ) (a : Re) → reads_characters a ≡ true → reads_characters (meaning.up_to greedy count a) ≡ true
up_to_reads greedy zero a h = refl
up_to_reads greedy (suc count) a h =
    optional_reads greedy _ (and_from (reads_characters a) (reads_characters (meaning.up_to greedy count a)) h (up_to_reads greedy count a h))

-- A repeated pattern reads characters if the pattern does.
pub repeated_reads : (min : ℕ) (max : Option ℕ) (greedy : Bool) (a : Re) → reads_characters a ≡ true → reads_characters (meaning.repeat min max greedy a) ≡ true
unfolding meaning.repeat
repeated_reads zero None greedy a h = optional_reads greedy (plus greedy a) h
repeated_reads (suc min) None greedy a h = copied_reads min a (plus greedy a) h h
repeated_reads min (Some max) greedy a h = copied_reads min a (meaning.up_to greedy (max - min) a) h (up_to_reads greedy (max - min) a h)
