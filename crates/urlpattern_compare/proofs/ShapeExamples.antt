-- Worked examples of shapes: their texts, states and edges, and the characters that tests of ranges
-- tell apart.
use Rattle.std.proofs.Common.{◌≡◌, true, false, [], ◌∷◌, codes, refl}
use Rattle.urlpattern_compare.proofs.StateSets.{contains_head, contains_tail}
use Rattle.urlpattern_compare.specs.Automata.{passes}
use Rattle.urlpattern_compare.specs.Making.{begins, heads, shape_size, takes_empty}
use Rattle.urlpattern_compare.specs.Exits.{HasBreaks, code_after}
use Rattle.urlpattern_compare.specs.Moves.{may_pass}
use Rattle.urlpattern_compare.specs.declared.parts_automaton.Test.TheVariants.{Within}
use Rattle.urlpattern_expressions.specs.Shapes.{Shape, choice, nothing, one_of, several, spelled}

-- The shape of `(?:ab|c)+`.
abbrev pairs : Shape
pairs = several (choice (spelled (codes "ab")) (one_of ((99, 99) ∷ [])))

-- Three states, of which those for `a` and `c` begin the texts of the shape.
three_states : shape_size pairs ≡ 3
three_states = refl

two_begin : heads pairs 1 ≡ 2 ∷ 3 ∷ []
two_begin = refl

not_empty : takes_empty pairs ≡ false
not_empty = refl

-- An optional text is followed by what follows.
left_out : begins (choice (one_of ((97, 97) ∷ [])) nothing) 5 (0 ∷ []) ≡ 5 ∷ 0 ∷ []
left_out = refl

-- A range ends with its last character.
nine_is_a_digit : passes (Within 48 57) 57 ≡ true
nine_is_a_digit = refl

colon_is_no_digit : passes (Within 48 57) 58 ≡ false
colon_is_no_digit = refl

digits_begin_and_end : HasBreaks (0 ∷ 48 ∷ 58 ∷ []) (Within 48 57)
digits_begin_and_end = (contains_head 0 (48 ∷ 58 ∷ []), contains_tail 0 48 (48 ∷ 58 ∷ []) (contains_head 48 (58 ∷ [])), contains_tail 0 58 (48 ∷ 58 ∷ []) (contains_tail 48 58 (58 ∷ []) (contains_head 58 [])))

-- No character from `:` to `@` is a digit.
digits_are_far : may_pass (Within 48 57) 58 64 ≡ false
digits_are_far = refl

-- No code is after that of the last character.
nothing_is_after_the_last : code_after 0x10_FFFF ≡ 0
nothing_is_after_the_last = refl
