use Rattle.std.proofs.Common.{◌≤◌, [], length, sym, ap, subst, arith}
use Rattle.std.proofs.lemmas.Str.{encodes-chars, length-le-encodes}
use Rattle.std.specs.Str.{chars}
use Rattle.urlpattern_steps.specs.Table.{IsRow}
use Rattle.urlpattern_steps.proofs.TableLemmas.{row_none}
use Rattle.urlpattern_steps.proofs.suffix_table.row_of_none.Goals as goal

pub returns : goal.returns
returns c = λ ignore_case.
    let text = c.args.text.now in
    let few : length (chars text) ≤ length text = omega (arith, length-le-encodes (chars text), ap length (encodes-chars text c.utf8.text)) in
    let n = c.loop.counter in
    let done : length text ≤ n = omega (arith, c.loop-test.false) in
    subst (λ r. IsRow ignore_case (chars text) [] r) (sym c.loop.invariant) (row_none ignore_case (chars text) n (omega (arith, few, done)))
