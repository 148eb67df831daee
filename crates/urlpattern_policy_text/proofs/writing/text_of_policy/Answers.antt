use Rattle.std.proofs.Common.{◌∙◌, ◌++◌, ℕ, List, ap, arith, string_bytes}
use Rattle.std.specs.List.{flat_map}
use Rattle.urlpattern_policy_text.proofs.WritingLemmas.{all_written, none_written, rule_written, there_contained}
use Rattle.urlpattern_policy_text.proofs.writing.text_of_policy.Goals as goal

pub loop-index-init : goal.loop-index-init
loop-index-init g c = none_written g.R.RegExp (string_bytes c.in_ok-text.text)

pub loop-index-preserved : goal.loop-index-preserved
loop-index-preserved g c =
    rule_written g.R.RegExp c.args.policy.now.rules c.loop-index.index (string_bytes c.in_ok-text.text) (string_bytes c.loop-index.text) (string_bytes c.push_str.new.self) (string_bytes c.in-Some.line) c.loop-index.invariant
    (rw c.in-Some.is at c.in_ok-found.ensures) (c.in_ok-push_str-in-Some.ensures.bytes ∙ ap (λ (line : List ℕ). string_bytes c.loop-index.text ++ line) c.deref.ensures)

pub returns-in-None : goal.returns-in-None
returns-in-None g c =
    let (rule, there, is) = rw c.in-None.is at c.in_ok-found.ensures in
    (rule, there_contained c.args.policy.now.rules c.loop-index.index rule there, is)

pub returns : goal.returns
returns g c =
    let written = all_written g.R.RegExp c.args.policy.now.rules c.loop-index.index (string_bytes c.in_ok-text.text) (string_bytes c.loop-index.text) (omega (arith, c.loop-index-test.false, c.len-index-end.ensures)) c.loop-index.invariant in
    (written.own, written.are, written.whole ∙ ap (λ (front : List ℕ). front ++ flat_map (λ line. line) written.own) c.in_ok-text.ensures)
