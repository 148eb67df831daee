use Rattle.std.proofs.Common.{◌∙◌, ap, length, refl, sym, take}
use Rattle.std.proofs.lemmas.Option.{slice_get_read}
use Rattle.urlpattern_differences.proofs.SharedLemmas.{earlier_if, whole_taken}
use Rattle.urlpattern_differences.specs.Deciding.{before}
use Rattle.urlpattern_differences.proofs.shared.is_earlier_than.Goals as goal

pub returns-in-Some : goal.returns-in-Some
returns-in-Some c =
    let patterns = c.args.patterns.now in
    let others = c.args.others.now in
    let asked = c.index-patterns-index.result in
    let there = slice_get_read patterns (length patterns) c.args.index asked refl c.if-index-patterns.false c.index-patterns-index.is in
    earlier_if c.is_among.result asked patterns others c.args.index c.args.other (take c.in-Some.end others) there (sym (ap (before others) c.in-Some.is)) c.is_among.ensures

pub returns-in-None : goal.returns-in-None
returns-in-None c =
    let patterns = c.args.patterns.now in
    let others = c.args.others.now in
    let asked = c.index-patterns-index-in-None.result in
    let there = slice_get_read patterns (length patterns) c.args.index asked refl c.if-index-patterns.false c.index-patterns-index-in-None.is in
    earlier_if c.is_among-in-None.result asked patterns others c.args.index c.args.other (take (length others) others) there (whole_taken others ∙ sym (ap (before others) c.in-None.is))
    c.is_among-in-None.ensures
