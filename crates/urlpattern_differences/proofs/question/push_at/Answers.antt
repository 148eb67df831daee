use Rattle.std.proofs.Common.{length, map, refl}
use Rattle.std.proofs.lemmas.Option.{slice_get_read}
use Rattle.urlpattern_differences.proofs.DecidedLemmas.{not_pushed, pushed}
use Rattle.urlpattern_differences.proofs.question.push_at.Goals as goal

pub returns-in_ok-push : goal.returns-in_ok-push
returns-in_ok-push c =
    let patterns = c.args.patterns.now in
    let i = c.args.index in
    let there = slice_get_read patterns (length patterns) i c.index-patterns-index.result refl c.if-index-patterns.true c.index-patterns-index.is in
    pushed (λ it. it.now) c.args.all.now.items c.push.new.self.items _ patterns i c.in_ok-push.ensures.items there

pub returns-else-index-patterns : goal.returns-else-index-patterns
returns-else-index-patterns c = not_pushed (map (λ it. it.now) c.args.all.now.items) c.args.patterns.now c.args.index c.if-index-patterns.false
