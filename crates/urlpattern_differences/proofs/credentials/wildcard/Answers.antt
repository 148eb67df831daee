use Rattle.std.proofs.Common.{List, ◌∙◌, ◌++◌, ◌∷◌, [], ap, refl}
use Rattle.urlpattern_syntax.proofs.StringTexts.{text-nil}
use Rattle.urlpattern_syntax.specs.Parts.{parts_view}
use Rattle.urlpattern_syntax.specs.declared.parser.Part.{Part}
use Rattle.urlpattern_syntax.specs.declared.parser.PartModifier.{PartModifier}
use Rattle.urlpattern_differences.proofs.credentials.wildcard.Goals as goal

pub returns : goal.returns
returns c =
    let value = text-nil c.new.result c.new.ensures.bytes in
    let name = text-nil c.new-2.result c.new-2.ensures.bytes in
    let prefix = text-nil c.new-3.result c.new-3.ensures.bytes in
    let suffix = text-nil c.new-4.result c.new-4.ensures.bytes in
    let part : Part = record {
      kind = c.args.kind;
      value = c.new.result;
      modifier = PartModifier.None;
      name = c.new-2.result;
      prefix = c.new-3.result;
      suffix = c.new-4.result;
    } in
    record {
      options = c.default.ensures;
      parts = ap parts_view (c.in_ok-push.ensures.items ∙ ap (λ (list : List Part). list ++ part ∷ []) c.new-parts.ensures.items)
          ∙ (λ i. record { kind = c.args.kind; value = value i; modifier = PartModifier.None; name = name i; prefix = prefix i; suffix = suffix i } ∷ []);
      case = refl;
    }
