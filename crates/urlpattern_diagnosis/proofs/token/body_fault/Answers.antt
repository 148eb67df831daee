use Rattle.std.proofs.Common.{◌-◌, ◌≤◌, length, inr, rules, arith}
use Rattle.std.specs.Str.{chars, IsUtf8}
use Rattle.urlpattern_syntax.proofs.TextLemmas.{BeginsAt-bytes}
use Rattle.urlpattern_diagnosis.proofs.token.body_fault.Goals as goal

pub returns-in-Some-clause-fault : goal.returns-in-Some-clause-fault
returns-in-Some-clause-fault c =
    let text = c.args.text.now in
    let left = c.in-Some.left.now in
    let is = c.in-Some.ensures in
    let v : IsUtf8 left = search rules in
    let within : length left ≤ length text = omega (arith, is.len, c.requires.within) in
    inr (inr (chars left, length text - length left, c.in-Some.len, is.left, is.refused, BeginsAt-bytes text left c.utf8.text v within, c.at-in-Some.ensures.at, c.at-open.ensures.at))
