use Rattle.std.proofs.Common.{ap, sym, ◌∙◌, ◌++◌}
use Rattle.std.specs.Str.{chars}
use Rattle.urlpattern_generate.proofs.GroupLemmas.{fewest_one}
use Rattle.urlpattern_syntax.proofs.StringTexts.{text-append}
use Rattle.urlpattern_syntax.specs.Text.{text_of}
use Rattle.urlpattern_generate.proofs.part_text.push_fixed.Goals as goal

pub returns-in_ok-push_str-in-None : goal.returns-in_ok-push_str-in-None
returns-in_ok-push_str-in-None c =
    text-append c.args.text.now c.deref.result.now c.in_ok-push_str-in-None.ensures.bytes ∙ ap (λ b. text_of c.args.text.now ++ chars b) c.deref.ensures
    ∙ ap (λ t. text_of c.args.text.now ++ t) (sym (fewest_one c.args.part.now.modifier (text_of c.args.part.now.value) c.in-None.is))
