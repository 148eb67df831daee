use Rattle.std.proofs.Common.{◌<◌, ◌∙◌, ap, arith, length, refl, sym}
use Rattle.std.proofs.lemmas.List.Edits.{length-remove}
use Rattle.std.proofs.lemmas.Option.{slice_get_read, slice_get_within}
use Rattle.std.specs.List.{remove}
use Rattle.std.specs.Prelude.{slice_get}
use Rattle.urlpattern.proofs.PatternMapLemmas.{no_pair_at, pair_at, pairs-remove, remove-none}
use Rattle.urlpattern.proofs.map.UrlPatternMap.remove.Goals as goal

pub invariant_of-self : goal.invariant_of-self
invariant_of-self g c =
    let patterns = c.self.inside.patterns in
    let values = c.self.inside.values.items in
    let index = c.args.index in
    let within : index < length patterns = slice_get_within patterns index c.in-Some.pattern (sym c.in-Some.ensures.removed) in
    let fewer = length-remove patterns index within in
    let fewer_values = length-remove values index (omega (arith, within, c.self.invariant)) in
    rw (c.remove-in-Some.ensures.items, c.remove.ensures.others) (omega (arith, fewer, fewer_values, c.self.invariant))

pub invariant_of-self-in-None : goal.invariant_of-self-in-None
invariant_of-self-in-None g c =
    rw (c.remove.ensures.others, remove-none c.self.inside.patterns c.args.index (sym c.in-None.ensures.removed)) c.self.invariant

pub returns-in-Some-clause-removed : goal.returns-in-Some-clause-removed
returns-in-Some-clause-removed g c =
    let patterns = c.self.inside.patterns in
    let values = c.self.inside.values.items in
    let index = c.args.index in
    let is_pattern = sym c.in-Some.ensures.removed in
    let within : index < length patterns = slice_get_within patterns index c.in-Some.pattern is_pattern in
    let is_value = slice_get_read values (length values) index c.remove-in-Some.result refl (omega (arith, c.self.invariant)) c.remove-in-Some.ensures.value in
    sym (pair_at patterns values index c.in-Some.pattern c.remove-in-Some.result is_pattern is_value) ∙ ap (λ entries. slice_get entries index) c.self.view_is

pub returns-in-Some-clause-others : goal.returns-in-Some-clause-others
returns-in-Some-clause-others g c =
    rw (c.remove-in-Some.ensures.items, c.remove.ensures.others)
    (pairs-remove c.self.inside.patterns c.self.inside.values.items c.args.index c.self.invariant ∙ ap (λ entries. remove entries c.args.index) c.self.view_is)

pub returns-in-None-clause-removed : goal.returns-in-None-clause-removed
returns-in-None-clause-removed g c =
    sym (no_pair_at c.self.inside.patterns c.self.inside.values.items c.args.index (sym c.in-None.ensures.removed)) ∙ ap (λ entries. slice_get entries c.args.index) c.self.view_is

pub returns-in-None-clause-others : goal.returns-in-None-clause-others
returns-in-None-clause-others g c =
    let patterns = c.self.inside.patterns in
    let none = no_pair_at patterns c.self.inside.values.items c.args.index (sym c.in-None.ensures.removed) in
    rw (c.remove.ensures.others, remove-none patterns c.args.index (sym c.in-None.ensures.removed))
    (c.self.view_is ∙ sym (remove-none c.args.self.now c.args.index (sym (ap (λ entries. slice_get entries c.args.index) c.self.view_is) ∙ none)))
