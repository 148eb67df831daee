use Rattle.std.proofs.Common.{◌≡◌, ◌++◌, append-nil, length, sym, ap, ◌∙◌, arith}
use Rattle.std.proofs.lemmas.Result.{IfOk-weaker}
use Rattle.std.specs.Str.{chars}
use Rattle.urlpattern_syntax.proofs.TextLemmas.{chars-empty}
use Rattle.urlpattern_matcher.proofs.component.matchers.concatenated.Goals as goal

pub returns-then-is_empty : goal.returns-then-is_empty
returns-then-is_empty c =
    let front = c.args.front.now in
    let back = c.args.back.now in
    let none : length front ≡ 0 = grind (arith, c.is_empty.ensures, c.if-is_empty.true) in
    IfOk-weaker c.from_str.result _ _ (λ text same. ap chars same ∙ ap (λ characters. characters ++ chars back) (sym (chars-empty front none))) c.from_str.ensures.ok

pub returns-then-is_empty-2 : goal.returns-then-is_empty-2
returns-then-is_empty-2 c =
    let front = c.args.front.now in
    let back = c.args.back.now in
    let none : length back ≡ 0 = grind (arith, c.is_empty-2.ensures, c.if-is_empty-2.true) in
    IfOk-weaker c.from_str-then-is_empty-2.result _ _ (λ text same. ap chars same ∙ sym (ap (λ characters. chars front ++ characters) (chars-empty back none) ∙ append-nil (chars front))) c.from_str-then-is_empty-2.ensures.ok
