use Rattle.std.proofs.Common.{ap, arith, length, refl, sym, ◌∙◌, ◌<◌}
use Rattle.std.proofs.lemmas.Option.{slice_get_read, slice_get_within}
use Rattle.std.specs.Prelude.{slice_get}
use Rattle.urlpattern.proofs.PatternMapLemmas.{no_pair_at, pair_at}
use Rattle.urlpattern.proofs.map.UrlPatternMap.get.Goals as goal

pub index-requires : goal.index-requires
index-requires g c =
    let within : c.args.index < length c.self.inside.patterns = slice_get_within c.self.inside.patterns c.args.index c.in-Some.pattern.now (sym c.in-Some.ensures) in
    omega (arith, c.self.invariant, c.self.inside.values.ok)

pub returns-in-Some : goal.returns-in-Some
returns-in-Some g c =
    let patterns = c.self.inside.patterns in
    let values = c.self.inside.values.items in
    let index = c.args.index in
    let value = c.index.result.now in
    let within : index < length patterns = slice_get_within patterns index c.in-Some.pattern.now (sym c.in-Some.ensures) in
    let is_value = slice_get_read values (length values) index value refl (omega (arith, c.self.invariant)) c.index.ensures in
    sym (pair_at patterns values index c.in-Some.pattern.now value (sym c.in-Some.ensures) is_value) ∙ ap (λ entries. slice_get entries index) c.self.view_is

pub returns-in-None : goal.returns-in-None
returns-in-None g c =
    sym (no_pair_at c.self.inside.patterns c.self.inside.values.items c.args.index (sym c.in-None.ensures)) ∙ ap (λ entries. slice_get entries c.args.index) c.self.view_is
