use Rattle.std.proofs.Common.{◌≡◌, ◌∙◌, Some, ap, rules, sym}
use Rattle.url.specs.Ascii.{slash}
use Rattle.urlpattern_matcher.specs.Components.{component_view}
use Rattle.urlpattern_paths.proofs.PathAloneLemmas.{no-engine, returns-captured}
use Rattle.urlpattern_paths.specs.PathCaptures.{are_read_once}
use Rattle.urlpattern_syntax.specs.ComponentParts.{kept_options}
use Rattle.urlpattern_syntax.specs.Parts.{parts_view}
use Rattle.urlpattern_paths.proofs.by_parts.are_read.Goals as goal

pub returns-in-RegExp : goal.returns-in-RegExp
returns-in-RegExp g c = λ agrees.
    let slashed : (kept_options c.args.kept.now).delimiter ≡ Some slash = search rules in
    returns-captured g.R.RegExp c.args.kept.now (component_view c.args.component.now).matcher c.requires c.if-kept.false slashed (ap (λ items. are_read_once (parts_view items)) (sym c.deref.ensures.value) ∙ sym c.are_read_once.ensures ∙ c.if-not-are_read_once.false)
    (λ holds. c.agrees_with_parts.ensures agrees)

pub returns-in_default : goal.returns-in_default
returns-in_default g c = λ is.
    let slashed : (kept_options c.args.kept.now).delimiter ≡ Some slash = search rules in
    returns-captured g.R.RegExp c.args.kept.now (component_view c.args.component.now).matcher c.requires c.if-kept.false slashed (ap (λ items. are_read_once (parts_view items)) (sym c.deref.ensures.value) ∙ sym c.are_read_once.ensures ∙ c.if-not-are_read_once.false)
    (λ holds. absurd (no-engine c.args.component.now.matcher.inner c.in_default.not-RegExp holds))
