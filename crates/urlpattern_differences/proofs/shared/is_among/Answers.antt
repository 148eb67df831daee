use Rattle.std.proofs.Common.{length, refl, subst, sym}
use Rattle.std.proofs.lemmas.Option.{slice_get_read}
use Rattle.urlpattern_compare.specs.declared.common_texts.PatternAutomata.{PatternAutomata}
use Rattle.urlpattern_differences.proofs.SharedLemmas.{contains_taken}
use Rattle.urlpattern_differences.specs.Shared.{AreAlike}
use Rattle.urlpattern_differences.proofs.shared.is_among.Goals as goal

pub returns-then-is_same : goal.returns-then-is_same
returns-then-is_same c =
    let patterns = c.args.patterns.now in
    let place = c.loop-place.place in
    let it = c.index-patterns-place.result in
    let there = slice_get_read patterns (length patterns) place it refl c.if-place-patterns.true c.index-patterns-place.is in
    let alike = subst (λ (one : PatternAutomata). AreAlike one.parts c.args.asked.now.parts) (sym c.index-patterns-place.is) c.if-is_same.ensures in
    (it, contains_taken patterns place c.args.end it there c.loop-place-test.true, alike)
