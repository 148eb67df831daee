use Rattle.std.proofs.Common.{◌∙◌, ◌++◌, Bool, List, [], ◌∷◌, ap, subst}
use Rattle.std.specs.Prelude.{is_some}
use Rattle.std.specs.Str.{chars}
use Rattle.urlpattern_init.specs.Inheritance.{url_text}
use Rattle.urlpattern_route_analysis.proofs.ScopeLemmas.{closed_parts, copied_some, open_parts}
use Rattle.urlpattern_route_analysis.specs.Scopes.{is_open}
use Rattle.urlpattern_syntax.specs.Parts.{PartView, parts_view}
use Rattle.urlpattern_syntax.specs.declared.parser.{Part.Part, PartModifier.PartModifier, PartType.PartType}
use Rattle.urlpattern_urls.specs.Unlike.{IsMadeOf, part_of}
use Rattle.urlpattern_route_analysis.proofs.scope.component_of.Goals as goal

pub returns-then-not-is_open : goal.returns-then-not-is_open
returns-then-not-is_open c =
    let text = chars c.scope_text.result.now in
    let tests = c.is_open.ensures ∙ ap (λ (b : Bool). is_open c.args.name b) (c.is_some.ensures ∙ copied_some c.query.result ∙ ap is_some c.query.ensures.value) in
    let first = c.in_ok-push_part.ensures ∙ ap (λ (l : List Part). parts_view l ++ part_of PartType.FixedText text PartModifier.None ∷ []) c.new-parts.ensures.items in
    subst (λ (l : List PartView). IsMadeOf l c.made_of.result)
    (closed_parts c.args.name (url_text c.args.name c.args.scope.now) text (is_some c.args.scope.now.query) c.is_open.result (parts_view c.push_part.new.parts.items) c.scope_text.ensures tests first c.if-not-is_open.true) c.made_of.ensures

pub returns : goal.returns
unfolding chars
returns c =
    let text = chars c.scope_text.result.now in
    let tests = c.is_open.ensures ∙ ap (λ (b : Bool). is_open c.args.name b) (c.is_some.ensures ∙ copied_some c.query.result ∙ ap is_some c.query.ensures.value) in
    let first = c.in_ok-push_part.ensures ∙ ap (λ (l : List Part). parts_view l ++ part_of PartType.FixedText text PartModifier.None ∷ []) c.new-parts.ensures.items in
    subst (λ (l : List PartView). IsMadeOf l c.made_of-2.result)
    (open_parts c.args.name (url_text c.args.name c.args.scope.now) text (is_some c.args.scope.now.query) c.is_open.result (parts_view c.push_part.new.parts.items) c.scope_text.ensures tests first (parts_view c.push_part-2.new.parts.items)
    c.if-not-is_open.false c.in_ok-push_part-2.ensures) c.made_of-2.ensures
