use Rattle.std.proofs.Common.{◌≡◌, ◌∙◌, ◌++◌, [], ◌∷◌, ap}
use Rattle.std.proofs.lemmas.List.{map-append}
use Rattle.std.specs.Str.{chars}
use Rattle.urlpattern_syntax.proofs.StringTexts.{text-nil}
use Rattle.urlpattern_syntax.specs.Parts.{part_view, parts_view}
use Rattle.urlpattern_syntax.specs.Text.{text_of}
use Rattle.urlpattern_syntax.specs.declared.parser.Part.{Part}
use Rattle.urlpattern_urls.proofs.unlike.push_part.Goals as goal

pub returns : goal.returns
returns c =
    let name = text-nil c.new.result c.new.ensures.bytes in
    let prefix = text-nil c.new-2.result c.new-2.ensures.bytes in
    let suffix = text-nil c.new-3.result c.new-3.ensures.bytes in
    let value : text_of c.in_ok-from_str.field-0 ≡ chars c.args.value.now = ap chars c.in_ok-from_str.ensures.ok in
    let part : Part = record {
      kind = c.args.kind;
      value = c.in_ok-from_str.field-0;
      modifier = c.args.modifier;
      name = c.new.result;
      prefix = c.new-2.result;
      suffix = c.new-3.result;
    } in
    ap parts_view c.in_ok-push.ensures.items ∙ map-append part_view c.args.parts.now.items (part ∷ [])
    ∙ (λ i. parts_view c.args.parts.now.items ++ record { kind = c.args.kind; value = value i; modifier = c.args.modifier; name = name i; prefix = prefix i; suffix = suffix i } ∷ [])
