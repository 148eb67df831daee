use Rattle.std.proofs.Common.{ap, arith, length, refl, sym, ◌∙◌, ◌<◌}
use Rattle.std.proofs.lemmas.Option.{slice_get_read}
use Rattle.std.proofs.lemmas.Slice.Zip.{seconds-zip}
use Rattle.std.specs.Map.{values_of}
use Rattle.std.specs.Prelude.{slice_get}
use Rattle.urlpattern.proofs.MapFinding.{as_long}
use Rattle.urlpattern.proofs.map.UrlPatternMap.with_value.Goals as goal

pub index-requires : goal.index-requires
index-requires g c =
    let long = as_long c.self.inside.patterns c.self.inside.values.items c.args.self.now c.self.invariant c.self.view_is in
    let within : c.in-Some.index < length c.args.self.now = rw c.in-Some.is at c.requires in
    omega (arith, long, within, c.self.invariant, c.self.inside.values.ok)

pub returns-in-Some-clause-value : goal.returns-in-Some-clause-value
returns-in-Some-clause-value g c =
    let patterns = c.self.inside.patterns in
    let values = c.self.inside.values.items in
    let long = as_long patterns values c.args.self.now c.self.invariant c.self.view_is in
    let within : c.in-Some.index < length c.args.self.now = rw c.in-Some.is at c.requires in
    let inside : c.in-Some.index < length values = omega (arith, long, within, c.self.invariant) in
    ap (λ them. slice_get them c.in-Some.index) (sym (sym (seconds-zip patterns values c.self.invariant) ∙ ap values_of c.self.view_is))
    ∙ slice_get_read values (length values) c.in-Some.index c.index.result.now refl inside c.index.ensures
