-- Patterns in which each group has the same number.
use Rattle.std.proofs.Common.{◌≡◌, ℕ, zero, suc, ◌-◌, Bool, true, false, List, [], ◌∷◌, map, Option, Some, None, refl, ap, ◌∙◌}
use Rattle.regex_hir.specs.Meaning.{cat_all, alt_all, optional, copies, up_to, at_least, repeat}
use Rattle.regex_hir.specs.Re.{Re, empty, literal, byte_in, char_in, look, cat, alt, group, plus}

-- The pattern with 0 as the number of each group. No match depends on the numbers.
abbrev pub bare : Re → Re
bare empty = empty
bare (literal bytes) = literal bytes
bare (byte_in ranges) = byte_in ranges
bare (char_in ranges) = char_in ranges
bare (look l) = look l
bare (cat a b) = cat (bare a) (bare b)
bare (alt a b) = alt (bare a) (bare b)
bare (group n a) = group 0 (bare a)
bare (plus greedy a) = plus greedy (bare a)

bare_optional : (greedy : Bool) (a : Re) → bare (optional greedy a) ≡ optional greedy (bare a)
bare_optional true a = refl
bare_optional false a = refl

bare_up_to : (greedy : Bool) (n : ℕ) (a : Re) → bare (up_to greedy n a) ≡ up_to greedy n (bare a)
bare_up_to greedy zero a = refl
bare_up_to greedy (suc n) a = bare_optional greedy (cat a (up_to greedy n a)) ∙ ap (λ b. optional greedy (cat (bare a) b)) (bare_up_to greedy n a)

bare_copies : (n : ℕ) (a b : Re) → bare (copies n a b) ≡ copies n (bare a) (bare b)
bare_copies zero a b = refl
bare_copies (suc n) a b = ap (cat (bare a)) (bare_copies n a b)

bare_at_least : (greedy : Bool) (n : ℕ) (a : Re) → bare (at_least greedy n a) ≡ at_least greedy n (bare a)
bare_at_least greedy zero a = bare_optional greedy (plus greedy a)
bare_at_least greedy (suc n) a = bare_copies n a (plus greedy a)

pub bare_repeat : (least : ℕ) (most : Option ℕ) (greedy : Bool) (a : Re) → bare (repeat least most greedy a) ≡ repeat least most greedy (bare a)
unfolding repeat
bare_repeat least None greedy a = bare_at_least greedy least a
bare_repeat least (Some most) greedy a = bare_copies least a (up_to greedy (most - least) a) ∙ ap (copies least (bare a)) (bare_up_to greedy (most - least) a)

pub bare_cat_all : (parts : List Re) → bare (cat_all parts) ≡ cat_all (map bare parts)
bare_cat_all [] = refl
bare_cat_all (a ∷ parts) = ap (cat (bare a)) (bare_cat_all parts)

pub bare_alt_all : (parts : List Re) → bare (alt_all parts) ≡ alt_all (map bare parts)
bare_alt_all [] = refl
bare_alt_all (a ∷ parts) = ap (alt (bare a)) (bare_alt_all parts)
