use Rattle.std.proofs.Common.{◌≡◌, ◌∙◌, ap, inl, map, option_map, subst}
use Rattle.std.specs.Prelude.{IfSome}
use Rattle.std.specs.Str.{chars}
use Rattle.urlpattern_generate.specs.EncodedGroups.{cow_group, encoded_groups}
use Rattle.urlpattern_generate.specs.WriteSettings.{given_groups}
use Rattle.urlpattern_pattern.proofs.EncodedLinkLemmas.{changed_refused, decoded_returns}
use Rattle.urlpattern_pattern.specs.EncodedLinks.{IsFirstChanged, group_named}
use Rattle.urlpattern_pattern.specs.LinkedUrls.{IsLink, RejectsLink, ReturnsGiven}
use Rattle.urlpattern_pattern.specs.Patterns.{pattern_view}
use Rattle.urlpattern_pattern.proofs.pattern.UrlPattern.link_encoded.Goals as goal

pub returns-in-Err-clause-refused : goal.returns-in-Err-clause-refused
returns-in-Err-clause-refused g c =
    let pattern = c.args.self.now in
    let encoded = encoded_groups (given_groups c.args.groups.now) in
    let same : given_groups c.deref-2.result.now ≡ encoded = ap given_groups c.deref-2.ensures.value ∙ c.in_ok-encoded.ensures ∙ ap (map cow_group) c.deref.ensures.value ∙ c.in_ok-values.ensures.encoded in
    inl (subst (λ list. RejectsLink g.R.RegExp.answer pattern list c.in-Err.error) same c.in-Err.ensures.refused)

pub returns-in-None-clause-generated : goal.returns-in-None-clause-generated
returns-in-None-clause-generated g c =
    let encoded = encoded_groups (given_groups c.args.groups.now) in
    let same : given_groups c.deref-2.result.now ≡ encoded = ap given_groups c.deref-2.ensures.value ∙ c.in_ok-encoded.ensures ∙ ap (map cow_group) c.deref.ensures.value ∙ c.in_ok-values.ensures.encoded in
    subst (λ list. IsLink g.R.RegExp.answer c.args.self.now list c.in-Ok.url) same c.in-Ok.ensures.generated

pub returns-in-None-clause-returns : goal.returns-in-None-clause-returns
returns-in-None-clause-returns g c =
    let pattern = c.args.self.now in
    let encoded = encoded_groups (given_groups c.args.groups.now) in
    let listed = c.in_ok-encoded.ensures ∙ ap (map cow_group) c.deref.ensures.value ∙ c.in_ok-values.ensures.encoded in
    let linked : given_groups c.deref-2.result.now ≡ encoded = ap given_groups c.deref-2.ensures.value ∙ listed in
    let asked : given_groups c.deref-3.result.now ≡ encoded = ap given_groups c.deref-3.ensures.value ∙ listed in
    let kept =
    subst (λ list. IfSome pattern.parts (λ parts. IsFirstChanged (pattern_view pattern) parts list (option_map group_named c.in_ok-changed.field-0))) asked c.in_ok-changed.ensures in
    decoded_returns g.R.RegExp.answer pattern (given_groups c.args.groups.now) c.in-Ok.url c.in_ok-values.ensures.decoded
    (subst (λ found. IfSome pattern.parts (λ parts. IsFirstChanged (pattern_view pattern) parts encoded (option_map group_named found))) c.in-None.is kept)
    (subst (λ list. ReturnsGiven g.R.RegExp.answer pattern list c.in-Ok.url) linked c.in-Ok.ensures.returns)

pub returns-clause-refused : goal.returns-clause-refused
returns-clause-refused g c =
    let pattern = c.args.self.now in
    let encoded = encoded_groups (given_groups c.args.groups.now) in
    let listed = c.in_ok-encoded.ensures ∙ ap (map cow_group) c.deref.ensures.value ∙ c.in_ok-values.ensures.encoded in
    let linked : given_groups c.deref-2.result.now ≡ encoded = ap given_groups c.deref-2.ensures.value ∙ listed in
    let asked : given_groups c.deref-3.result.now ≡ encoded = ap given_groups c.deref-3.ensures.value ∙ listed in
    let kept =
    subst (λ list. IfSome pattern.parts (λ parts. IsFirstChanged (pattern_view pattern) parts list (option_map group_named c.in_ok-changed.field-0))) asked c.in_ok-changed.ensures in
    changed_refused g.R.RegExp.answer pattern encoded c.in-Ok.url c.in-Some.component (chars c.in-Some.name.now) _ (ap chars c.in_ok-from_str-in-Some.ensures.ok)
    (subst (λ list. IsLink g.R.RegExp.answer pattern list c.in-Ok.url) linked c.in-Ok.ensures.generated)
    (subst (λ found. IfSome pattern.parts (λ parts. IsFirstChanged (pattern_view pattern) parts encoded (option_map group_named found))) c.in-Some.is kept)
