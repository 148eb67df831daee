use Rattle.std.proofs.Common.{◌≡◌, refl, sym, ap, ◌∙◌, arith}
use Rattle.std.proofs.lemmas.Result.{IfOk-weaker}
use Rattle.std.specs.Fmt.{digits}
use Rattle.std.specs.Prelude.{codes, decimal}
use Rattle.urlpattern_parser.proofs.parser.part_list.numeric_name.Goals as goal

zero : codes "0" ≡ decimal 0
unfolding digits
zero = refl

pub returns-then-number-eq0 : goal.returns-then-number-eq0
returns-then-number-eq0 c =
    let none : c.args.number ≡ 0 = grind (arith, c.if-number-eq0.true) in
    IfOk-weaker c.from_str.result _ _ (λ name same. same ∙ zero ∙ ap decimal (sym none)) c.from_str.ensures.ok
