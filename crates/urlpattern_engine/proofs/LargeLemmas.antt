-- Lemmas on the size of an expression.
use Rattle.std.proofs.Common.{◌≡◌, ◌≤◌, ℕ, ◌+◌, ◌*◌, Bool, true, false, List, [], ◌∷◌, max, codes, le_trans, mul-le-mul_left, mul-le-mul_right, mul_assoc, sym, subst, ap, ◌∙◌, arith}
use Rattle.std.specs.Prelude.{if◌then◌else◌}
use Rattle.std.specs.Char.{digit_value, is_digit}
use Rattle.urlpattern_engine.specs.ExpressionFaults.{copies_in, number_from}
use Rattle.urlpattern_syntax.specs.Text.{is_among}

-- A conditional of lesser numbers is less.
if_less : (b : Bool) (first other second another : ℕ) → first ≤ other → second ≤ another → (if b then first else second) ≤ (if b then other else another)
if_less true first other second another h g = h
if_less false first other second another h g = g

-- A number with a lesser beginning is less.
pub number_less : (number other : ℕ) (text : List ℕ) → number ≤ other → number_from number text ≤ number_from other text
number_less number other [] less = less
number_less number other (c ∷ text) less =
    if_less (is_digit c 10) _ _ number other (number_less (number * 10 + digit_value c) (other * 10 + digit_value c) text (omega arith)) less

-- A number with one more digit.
pub number_more : (number made c : ℕ) (text rest : List ℕ) → text ≡ c ∷ rest → is_digit c 10 ≡ true → made ≤ number * 10 + digit_value c → number_from made rest ≤ number_from number text
number_more number made c text rest cut digit less =
    let more : number_from number text ≡ number_from (number * 10 + digit_value c) rest =
    ap (number_from number) cut ∙ ap (λ b. if b then number_from (number * 10 + digit_value c) rest else number) digit
    in
    subst (λ n. number_from made rest ≤ n) (sym more) (number_less made (number * 10 + digit_value c) rest less)

-- A product with one more factor.
product_less : (made copies number other most left : ℕ) → made ≤ copies * max number 1 → number ≤ other → most ≡ max 1 other * left → made * left ≤ copies * most
product_less made copies number other most left less few same =
    let factor : max number 1 ≤ max 1 other = omega arith in
    let whole : made ≤ copies * max 1 other = le_trans less (mul-le-mul_left copies factor) in
    let more : made * left ≤ copies * max 1 other * left = mul-le-mul_right left whole in
    subst (λ n. made * left ≤ n) (mul_assoc copies (max 1 other) left ∙ ap (λ n. copies * n) (sym same)) more

-- The copies with one more number.
pub copies_more : (c number made copies : ℕ) (text rest : List ℕ) → text ≡ c ∷ rest → is_among (codes "{,") c ≡ true → made ≤ copies * max number 1 → number ≤ number_from 0 rest
    → made * copies_in rest ≤ copies * copies_in text
copies_more c number made copies text rest cut mark less few =
    let more : copies_in text ≡ max 1 (number_from 0 rest) * copies_in rest =
    ap copies_in cut ∙ ap (λ b. (if b then max 1 (number_from 0 rest) else 1) * copies_in rest) mark
    in
    product_less made copies number (number_from 0 rest) (copies_in text) (copies_in rest) less few more
