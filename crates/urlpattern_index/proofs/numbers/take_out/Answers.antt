use Rattle.std.proofs.Common.{◌≡◌, ◌≤◌, ◌++◌, ◌∙◌, ap, arith, drop, length, map, not, rules, take_all}
use Rattle.std.specs.Prelude.{filter, ◌==◌}
use Rattle.std.proofs.lemmas.Fn.{filter_same}
use Rattle.std.proofs.lemmas.List.{append-nil, at_drop_all}
use Rattle.std.proofs.lemmas.List.Edits.{map_over_more}
use Rattle.urlpattern_index.specs.Listed.{lowered}
use Rattle.urlpattern_index.proofs.numbers.take_out.Goals as goal

pub loop-index-preserved : goal.loop-index-preserved
loop-index-preserved c =
    rw c.lowered.ensures
    (map_over_more (lowered c.args.number) c.retain.new.self.items c.loop-index.list.items c.loop-index.index c.index.result.now (omega (arith, c.len-index-end.ensures, c.loop-index-test.true)) c.loop-index.invariant c.index.ensures)

pub returns : goal.returns
returns c =
    let kept = c.retain.new.self.items in
    let filtered : kept ≡ filter (λ other. not (other == c.args.number)) c.args.list.now.items =
    filter_same _ (λ other. not (other == c.args.number)) _ (λ x b f t. search rules) c.args.list.now.items kept c.retain.ensures.filtered in
    let past : length kept ≤ c.loop-index.index = omega (arith, c.len-index-end.ensures, c.loop-index-test.false) in
    c.loop-index.invariant
    ∙ ap (λ front. map (lowered c.args.number) front ++ drop c.loop-index.index kept) (take_all c.loop-index.index kept past)
    ∙ ap (λ back. map (lowered c.args.number) kept ++ back) (at_drop_all (λ items. items) kept c.loop-index.index past)
    ∙ append-nil (map (lowered c.args.number) kept)
    ∙ ap (map (lowered c.args.number)) filtered
