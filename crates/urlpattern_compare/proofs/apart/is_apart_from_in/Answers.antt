use Rattle.std.proofs.Common.{◌<◌, ◌∙◌, length, refl, rules, sym}
use Rattle.std.proofs.lemmas.Bool.{false≢true}
use Rattle.std.proofs.lemmas.Option.{slice_get_read}
use Rattle.urlpattern_compare.proofs.ApartLemmas.{none_of_other, of_one}
use Rattle.urlpattern_compare.specs.CommonTexts.{AreAutomata}
use Rattle.urlpattern_compare.proofs.apart.is_apart_from_in.Goals as goal

pub are_apart_in-requires-clause-one : goal.are_apart_in-requires-clause-one
are_apart_in-requires-clause-one c =
    let patterns = c.args.patterns.now in
    let one = c.index-patterns-0.result in
    let some : 0 < length patterns = search rules in
    of_one AreAutomata patterns 0 one (slice_get_read patterns (length patterns) 0 one refl some c.index-patterns-0.is) c.requires.patterns

pub returns : goal.returns
returns c = λ yes.
    let patterns = c.args.patterns.now in
    let one = c.index-patterns-0.result in
    let some : 0 < length patterns = search rules in
    none_of_other patterns one c.args.pattern.now c.args.name (slice_get_read patterns (length patterns) 0 one refl some c.index-patterns-0.is)
    (λ same. false≢true (sym c.if-is_same_in.false ∙ c.is_same_in.ensures.1 same)) (c.are_apart_in.ensures yes)
