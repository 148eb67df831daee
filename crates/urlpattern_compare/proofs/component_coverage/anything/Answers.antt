use Rattle.std.proofs.Common.{List, ◌∙◌, ◌++◌, ◌∷◌, [], ap}
use Rattle.urlpattern_syntax.specs.declared.parser.Part.{Part}
use Rattle.urlpattern_compare.specs.Comparing.{anything_part}
use Rattle.urlpattern_syntax.proofs.StringTexts.{text-nil}
use Rattle.urlpattern_syntax.specs.Parts.{parts_view}
use Rattle.urlpattern_compare.proofs.component_coverage.anything.Goals as goal

pub returns-clause-parts : goal.returns-clause-parts
returns-clause-parts c =
    let value = text-nil c.new.result c.new.ensures.bytes in
    let name = text-nil c.new-2.result c.new-2.ensures.bytes in
    let prefix = text-nil c.new-3.result c.new-3.ensures.bytes in
    let suffix = text-nil c.new-4.result c.new-4.ensures.bytes in
    let part : Part = record {
      kind = anything_part.kind;
      value = c.new.result;
      modifier = anything_part.modifier;
      name = c.new-2.result;
      prefix = c.new-3.result;
      suffix = c.new-4.result;
    } in
    ap parts_view (c.in_ok-push.ensures.items ∙ ap (λ (list : List Part). list ++ part ∷ []) c.new-parts.ensures.items)
    ∙ (λ i. record { kind = anything_part.kind; value = value i; modifier = anything_part.modifier; name = name i; prefix = prefix i; suffix = suffix i } ∷ [])
