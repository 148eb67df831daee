use Rattle.std.proofs.Common.{◌≡◌, ◌+◌, ◌-◌, ◌<◌, length, drop, get_or, false, inr, ap, subst, arith}
use Rattle.std.specs.List.{list_any}
use Rattle.urlpattern_diagnosis.specs.Faults.{is_bracket}
use Rattle.urlpattern_diagnosis.proofs.BracketLemmas.{last_bracket}
use Rattle.urlpattern_diagnosis.proofs.token.open_bracket.Goals as goal

pub returns-in-93 : goal.returns-in-93
returns-in-93 c =
    let text = c.args.text.now in
    let place = c.loop-place.place in
    let same = c.as_bytes-bytes.ensures.value in
    let lt : place - 1 < length text = omega (arith, ap length same) in
    let next : place ≡ (place - 1) + 1 = omega arith in
    let after = subst (λ bytes. list_any is_bracket (drop place bytes) ≡ false) same c.loop-place.invariant.after in
    let found = subst (λ bytes. get_or bytes (place - 1) 0 ≡ 93) same c.in-93.is in
    inr (place - 1, last_bracket text (place - 1) place 0 lt next after 93 found)
