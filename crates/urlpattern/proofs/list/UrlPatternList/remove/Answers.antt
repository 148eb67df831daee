use Rattle.std.proofs.Common.{◌<◌, ◌≤◌, ◌∙◌, List, ap, arith, length, refl, sym}
use Rattle.std.proofs.lemmas.Option.{slice_get_past, slice_get_read}
use Rattle.std.specs.Prelude.{slice_get}
use Rattle.urlpattern.proofs.FixedLemmas.{indexed-remove, templates-remove, remove-past}
use Rattle.urlpattern_pattern.specs.UrlPatterns.{UrlPattern}
use Rattle.urlpattern.proofs.list.UrlPatternList.remove.Goals as goal

pub returns-then-index-len-clause-others : goal.returns-then-index-len-clause-others
returns-then-index-len-clause-others g c =
    let past : length c.args.self.now ≤ c.args.index = omega (arith, c.len.ensures, c.if-index-len.true, c.self.inside.patterns.ok, ap length c.self.view_is) in
    sym (remove-past c.args.self.now c.args.index past)

pub returns-then-index-len-clause-removed : goal.returns-then-index-len-clause-removed
returns-then-index-len-clause-removed g c =
    let past : length c.args.self.now ≤ c.args.index = omega (arith, c.len.ensures, c.if-index-len.true, c.self.inside.patterns.ok, ap length c.self.view_is) in
    sym (slice_get_past c.args.self.now c.args.index past)

pub remove-requires : goal.remove-requires
remove-requires g c = omega (arith, c.len.ensures, c.if-index-len.false, c.self.inside.patterns.ok, c.self.invariant.0.as_many)

pub remove-requires-2 : goal.remove-requires-2
remove-requires-2 g c =
    omega (arith, c.len.ensures, c.if-index-len.false, c.self.inside.patterns.ok, c.self.inside.templates.ok, c.self.invariant.1.as_many)

pub invariant_of-self : goal.invariant_of-self
invariant_of-self g c =
    let patterns = c.self.inside.patterns.items in
    let within : c.args.index < length patterns = omega (arith, c.len.ensures, c.if-index-len.false, c.self.inside.patterns.ok) in
    rw (c.remove-3.ensures.items, c.remove.ensures, c.remove-2.ensures.items) (
      indexed-remove g.R.RegExp.answer patterns c.self.inside.index c.self.invariant.0 c.args.index within,
      templates-remove g.R.RegExp.answer patterns c.self.inside.templates.items c.self.invariant.1 c.args.index within,
    )

pub returns-clause-removed : goal.returns-clause-removed
returns-clause-removed g c =
    let items = c.self.inside.patterns.items in
    let within : c.args.index < length items = omega (arith, c.len.ensures, c.if-index-len.false, c.self.inside.patterns.ok) in
    sym (ap (λ (patterns : List (UrlPattern g.row.R.Denot)). slice_get patterns c.args.index) (sym c.self.view_is)
    ∙ slice_get_read items (length items) c.args.index c.remove-3.result refl within c.remove-3.ensures.value)
