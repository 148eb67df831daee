use Rattle.std.proofs.Common.{◌≡◌, ◌<◌, ◌≤◌, ◌∙◌, All, None, Some, ap, arith, get_or, length, subst, take_all}
use Rattle.std.proofs.lemmas.List.Elements.{All-more}
use Rattle.std.specs.Prelude.{IfSome}
use Rattle.std.specs.Str.{chars}
use Rattle.urlpattern_components.specs.declared.eight.ComponentName.TheVariants.{Protocol}
use Rattle.urlpattern_generate.specs.WriteSettings.{given_groups}
use Rattle.urlpattern_pattern.proofs.EncodedLinkLemmas.{first_changed, none_changed}
use Rattle.urlpattern_pattern.specs.EncodedLinks.{IsChangedIn, IsFirstChanged}
use Rattle.urlpattern_pattern.specs.Patterns.{pattern_view}
use Rattle.urlpattern_syntax.specs.Text.{option_text}
use Rattle.urlpattern_pattern.proofs.pattern.UrlPattern.changed.Goals as goal

pub returns-in-Some-2 : goal.returns-in-Some-2
returns-in-Some-2 g c =
    let pattern = pattern_view c.args.self.now in
    let groups = given_groups c.args.groups.now in
    let parts = c.in-Some.parts.now in
    let names = c.all-component-items.result in
    let i = c.loop-component.component-index in
    let component = get_or names i Protocol in
    let name = chars c.in-Some-2.name.now in
    let eight : length names ≡ 8 = ap length c.all-component-items.ensures in
    let within : i < length names = omega arith in
    subst (λ of. IfSome of (λ own. IsFirstChanged pattern own groups (Some (component, name)))) c.in-Some.ensures.parts
    (first_changed pattern parts groups names c.all-component-items.ensures i within c.loop-component.invariant name
    (subst (λ found. IsChangedIn pattern parts groups component (option_text found)) c.in-Some-2.is c.in_ok-name.ensures))

pub loop-component-preserved : goal.loop-component-preserved
loop-component-preserved g c =
    let pattern = pattern_view c.args.self.now in
    let parts = c.in-Some.parts.now in
    let groups = given_groups c.args.groups.now in
    let names = c.all-component-items.result in
    let i = c.loop-component.component-index in
    let eight : length names ≡ 8 = ap length c.all-component-items.ensures in
    let within : i < length names = omega arith in
    All-more (λ component. IsChangedIn pattern parts groups component None) names i Protocol within c.loop-component.invariant
    (subst (λ found. IsChangedIn pattern parts groups (get_or names i Protocol) (option_text found)) c.in-None.is c.in_ok-name.ensures)

pub returns : goal.returns
returns g c =
    let pattern = pattern_view c.args.self.now in
    let parts = c.in-Some.parts.now in
    let groups = given_groups c.args.groups.now in
    let names = c.all-component-items.result in
    let eight : length names ≡ 8 = ap length c.all-component-items.ensures in
    let all : length names ≤ c.loop-component.component-index = omega arith in
    subst (λ of. IfSome of (λ own. IsFirstChanged pattern own groups None)) c.in-Some.ensures.parts
    (none_changed pattern parts groups
    (subst (All (λ component. IsChangedIn pattern parts groups component None)) (take_all c.loop-component.component-index names all ∙ c.all-component-items.ensures) c.loop-component.invariant))
