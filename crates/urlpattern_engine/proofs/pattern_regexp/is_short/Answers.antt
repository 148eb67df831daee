use Rattle.std.proofs.Common.{◌≤◌, length, ap, arith}
use Rattle.std.proofs.lemmas.Bool.Decides.{nat_tests}
use Rattle.std.proofs.lemmas.Str.{encodes-chars, length-le-encodes}
use Rattle.std.specs.Str.{chars}
use Rattle.urlpattern_engine.proofs.pattern_regexp.is_short.Goals as goal

pub returns : goal.returns
returns c = λ is.
    let text = c.args.pattern.now in
    let few : length (chars text) ≤ length text = omega (arith, length-le-encodes (chars text), ap length (encodes-chars text c.utf8.pattern)) in
    grind (arith, nat_tests, is, few)
