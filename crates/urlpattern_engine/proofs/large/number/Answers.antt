use Rattle.std.proofs.Common.{◌≡◌, ◌≤◌, ◌+◌, ◌*◌, true, arith, rules}
use Rattle.std.proofs.lemmas.Bool.Decides.{nat_tests}
use Rattle.std.specs.Char.{digit_value, is_digit}
use Rattle.std.specs.Str.{chars}
use Rattle.urlpattern_engine.proofs.LargeLemmas.{number_more}
use Rattle.urlpattern_engine.proofs.large.number.Goals as goal

pub loop-c-preserved : goal.loop-c-preserved
loop-c-preserved c =
    let digit = c.in-Some-to_digit.ensures.value in
    let one : is_digit c.in-Some.c 10 ≡ true = grind (arith, nat_tests, digit.0) in
    let made : c.saturating_add-number.result ≤ c.loop-c.number * 10 + digit_value c.in-Some.c =
    omega (arith, digit.1, c.saturating_mul.ensures, c.saturating_add-number.ensures)
    in
    let more = number_more c.loop-c.number c.saturating_add-number.result c.in-Some.c (chars c.loop-c.rest.now) (chars c.in-Some.remaining.now) c.in-Some.ensures.cut one made in
    record {
      is_text = search rules;
      small = omega (arith, more, c.loop-c.invariant.small);
    }
