use Rattle.std.proofs.Common.{◌≡◌, ◌∷◌, ◌++◌, [], rules}
use Rattle.std.specs.Str.{chars}
use Rattle.urlpattern_syntax.proofs.TokenLemmas.{escaped_lexed}
use Rattle.urlpattern_parser.proofs.tokenizer.lexemes.escaped_char.Goals as goal

pub before-requires : goal.before-requires
before-requires c =
    let cut : chars c.args.text.now ≡ c.in-Some.field-0-0 ∷ chars c.in-Some.rest.now = search rules in
    (c.in-Some.field-0-0 ∷ [], cut)

pub returns-in-Some : goal.returns-in-Some
returns-in-Some c =
    let cut : chars c.args.text.now ≡ c.in-Some.field-0-0 ∷ chars c.in-Some.rest.now = search rules in
    let before : chars c.args.text.now ≡ chars c.before-in-Some.result.now ++ chars c.in-Some.rest.now = search rules in
    escaped_lexed _ _ _ _ cut before
