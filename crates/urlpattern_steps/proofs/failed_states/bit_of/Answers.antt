use Rattle.std.proofs.Common.{◌≡◌, ◌+◌, ◌*◌, ◌∙◌, ap, length, rules, subst, IfSome}
use Rattle.std.specs.Str.{chars}
use Rattle.urlpattern_steps.specs.FailedStates.{bit_of}
use Rattle.urlpattern_syntax.proofs.TextLemmas.{byte_len-chars}
use Rattle.urlpattern_steps.proofs.failed_states.bit_of.Goals as goal

pub returns : goal.returns
returns c =
    let steps = c.args.steps.now in
    let whole = byte_len-chars c.args.whole.now c.utf8.whole in
    let text = byte_len-chars c.args.text.now c.utf8.text in
    let same : c.in_ok-row.row + length c.args.text.now ≡ bit_of (chars c.args.whole.now) steps (chars c.args.text.now) =
    rw (whole, text) (ap (λ n. n + length c.args.text.now) (c.in_ok-row.ensures.1 ∙ ap (λ n. length steps * n) c.in_ok-checked_add.ensures.1)) in
    subst (λ n. IfSome c.checked_add-2.result (λ bit. bit ≡ n)) same (search rules)
