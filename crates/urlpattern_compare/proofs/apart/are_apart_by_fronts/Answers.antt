use Rattle.std.proofs.Common.{arith, length, refl}
use Rattle.std.proofs.lemmas.Option.{slice_get_read}
use Rattle.urlpattern_compare.proofs.ApartLemmas.{none_by_all, of_one}
use Rattle.urlpattern_compare.specs.CommonTexts.{AreAutomata}
use Rattle.urlpattern_components.specs.declared.eight.ComponentName.TheVariants as names
use Rattle.urlpattern_compare.proofs.apart.are_apart_by_fronts.Goals as goal

pub are_apart_in-requires-clause-one : goal.are_apart_in-requires-clause-one
are_apart_in-requires-clause-one c =
    let patterns = c.args.patterns.now in
    let one = c.index-patterns-0.result in
    of_one AreAutomata patterns 0 one (slice_get_read patterns (length patterns) 0 one refl (omega (arith, c.if-patterns-lt2.false)) c.index-patterns-0.is) c.requires

pub are_apart_in-requires-clause-other : goal.are_apart_in-requires-clause-other
are_apart_in-requires-clause-other c =
    let patterns = c.args.patterns.now in
    let one = c.index-patterns-1.result in
    of_one AreAutomata patterns 1 one (slice_get_read patterns (length patterns) 1 one refl (omega (arith, c.if-patterns-lt2.false)) c.index-patterns-1.is) c.requires

pub are_apart_in-requires-2-clause-one : goal.are_apart_in-requires-2-clause-one
are_apart_in-requires-2-clause-one c =
    let patterns = c.args.patterns.now in
    let one = c.index-patterns-0.result in
    of_one AreAutomata patterns 0 one (slice_get_read patterns (length patterns) 0 one refl (omega (arith, c.if-patterns-lt2.false)) c.index-patterns-0.is) c.requires

pub are_apart_in-requires-2-clause-other : goal.are_apart_in-requires-2-clause-other
are_apart_in-requires-2-clause-other c =
    let patterns = c.args.patterns.now in
    let one = c.index-patterns-1.result in
    of_one AreAutomata patterns 1 one (slice_get_read patterns (length patterns) 1 one refl (omega (arith, c.if-patterns-lt2.false)) c.index-patterns-1.is) c.requires

pub returns-then-are_apart_in : goal.returns-then-are_apart_in
returns-then-are_apart_in c = λ yes.
    let patterns = c.args.patterns.now in
    let one = c.index-patterns-0.result in
    let other = c.index-patterns-1.result in
    let first = slice_get_read patterns (length patterns) 0 one refl (omega (arith, c.if-patterns-lt2.false)) c.index-patterns-0.is in
    let second = slice_get_read patterns (length patterns) 1 other refl (omega (arith, c.if-patterns-lt2.false)) c.index-patterns-1.is in
    none_by_all patterns one other names.Pathname first second (c.are_apart_in.ensures c.if-are_apart_in.true)

pub returns : goal.returns
returns c = λ yes.
    let patterns = c.args.patterns.now in
    let one = c.index-patterns-0.result in
    let other = c.index-patterns-1.result in
    let first = slice_get_read patterns (length patterns) 0 one refl (omega (arith, c.if-patterns-lt2.false)) c.index-patterns-0.is in
    let second = slice_get_read patterns (length patterns) 1 other refl (omega (arith, c.if-patterns-lt2.false)) c.index-patterns-1.is in
    none_by_all patterns one other names.Hostname first second (c.are_apart_in-2.ensures yes)
