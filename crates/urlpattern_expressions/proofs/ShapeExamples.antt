-- Worked examples of shapes and their texts.
use Rattle.std.proofs.Common.{◌≡◌, [], ◌∷◌, codes, inr, refl}
use Rattle.urlpattern_expressions.proofs.ShapeTexts.{spelled_takes, takes_spelled}
use Rattle.urlpattern_expressions.specs.Shapes.{Takes, choice, nothing, one_of, reads_characters, repeated, sequence, several, spelled}
use Rattle.regex_hir.specs.Re.{literal}
use Rattle.std.specs.Prelude.{Some, true, false}

-- `ab` has the text `ab`, and no other.
ab_is_taken : Takes (spelled (codes "ab")) (codes "ab")
ab_is_taken = spelled_takes (codes "ab")

abc_is_not : ¬ Takes (spelled (codes "ab")) (codes "abc")
abc_is_not takes = let never = takes_spelled (codes "ab") (codes "abc") takes in cc

-- A choice takes its second text too.
second_is_taken : Takes (choice (spelled (codes "en")) (spelled (codes "fr"))) (codes "fr")
second_is_taken = inr (spelled_takes (codes "fr"))

-- The empty text is no row of texts `a`.
none_is_not_taken : ¬ Takes (several (spelled (codes "a"))) []
none_is_not_taken (n, (first, rest, cut, takes, more)) = let is = takes_spelled (codes "a") first takes in cc

-- `a{0,1}` has the empty text, `a{2}` two characters.
optional_shape : repeated 0 (Some 1) true (one_of ((97, 97) ∷ [])) ≡ choice (sequence (one_of ((97, 97) ∷ [])) nothing) nothing
optional_shape = refl

twice_shape : repeated 2 (Some 2) true (one_of ((97, 97) ∷ [])) ≡ sequence (one_of ((97, 97) ∷ [])) (sequence (one_of ((97, 97) ∷ [])) nothing)
twice_shape = refl

-- A literal is read by its bytes where these are ASCII; a byte beyond is no character.
letters_are_read : reads_characters (literal (codes "ab")) ≡ true
letters_are_read = refl

half_a_character_is_not_read : reads_characters (literal (195 ∷ [])) ≡ false
half_a_character_is_not_read = refl
