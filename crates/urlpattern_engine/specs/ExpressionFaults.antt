-- Why the engine rejects a text.
use Rattle.std.specs.Prelude.{◌⊎◌, ℕ, ◌+◌, ◌*◌, ◌^◌, ◌<◌, ◌==◌, Bool, List, [], ◌∷◌, map, max, sum, IfSome, if◌then◌else◌, codes}
use Rattle.std.specs.Char.{digit_value, is_digit}
use Rattle.regex_syntax.specs.Grammar.{read}
use Rattle.urlpattern_expressions.specs.Expressions.{config_for}
use Rattle.urlpattern_syntax.specs.Text.{is_among}

-- The grammar of `regex` does not read the expression, or reads a pattern that is nested too deep.
abbrev pub IsUnreadable : (ignore_case : Bool) → List ℕ → Type 0
IsUnreadable ignore_case regexp =
    let config = config_for ignore_case in
    IfSome (read config regexp) (λ (pattern, names). config.nest_limit < pattern.depth)

-- `number`, continued by the decimal digits that the text begins with.
abbrev pub number_from : ℕ → List ℕ → ℕ
number_from number [] = number
number_from number (c ∷ text) =
    if is_digit c 10 then number_from (number * 10 + digit_value c) text else number

-- A bound for the copies of a piece of an expression: the product of the numbers after each `{` and
-- each comma, as in `{2,30}`, where 0 or no number counts as 1.
abbrev pub copies_in : List ℕ → ℕ
copies_in [] = 1
copies_in (c ∷ text) =
    (if is_among (codes "{,") c then max 1 (number_from 0 text) else 1) * copies_in text

-- A bound in bytes for what one character adds to an automaton. A backslash may begin a Unicode
-- class.
abbrev pub room_of : ℕ → ℕ
room_of c = if c == 0x5C then 2 ^ 14 else 2 ^ 8

-- The automaton of the expression may take more than 10 MiB, the engine's limit, by the bounds
-- `copies_in` and `room_of`.
abbrev pub IsLarge : List ℕ → Type 0
IsLarge regexp = 10 * 2 ^ 20 < copies_in regexp * sum (map room_of regexp)

-- A fault of an expression, for which the engine may reject it unless it is generated from parts
-- without custom ones: the grammar does not read it, or it is large.
abbrev pub HasFault : (ignore_case : Bool) → List ℕ → Type 0
HasFault ignore_case regexp = IsUnreadable ignore_case regexp ⊎ IsLarge regexp
