use Rattle.std.proofs.Common.{◌≡◌, true, false, sym, ◌∙◌, rules}
use Rattle.std.specs.Prelude.{codes}
use Rattle.std.specs.Char.{is_ascii, is_ascii_alphanumeric}
use Rattle.std.proofs.lemmas.Bool.{or_from}
use Rattle.urlpattern_syntax.specs.Text.{is_among}
use Rattle.urlpattern_syntax.proofs.NameCharacters.{part_ascii}
use Rattle.urlpattern_syntax.proofs.tokenizer.is_name_part.Goals as goal

pub returns-in_default : goal.returns-in_default
returns-in_default c =
    let ascii : is_ascii c.args.c ≡ true = sym c.is_ascii.ensures ∙ c.if-is_ascii.true in
    let letter : is_ascii_alphanumeric c.args.c ≡ false = sym c.is_ascii_alphanumeric.ensures.value ∙ c.if-is_ascii_alphanumeric.false in
    let mark : is_among (codes "$_") c.args.c ≡ false = search rules in
    sym (part_ascii c.args.c ascii ∙ or_from _ _ letter mark)
