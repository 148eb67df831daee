use Rattle.std.proofs.Common.{◌≡◌, ◌∷◌, ◌++◌, true, ap, ◌∙◌, rules}
use Rattle.std.specs.Str.{chars}
use Rattle.urlpattern_syntax.specs.Text.{is_name_start}
use Rattle.urlpattern_syntax.proofs.TokenLemmas.{name_lexed}
use Rattle.urlpattern_parser.proofs.tokenizer.lexemes.name.Goals as goal

pub before-requires : goal.before-requires
before-requires c =
    let cut : chars c.args.text.now ≡ c.in-Some.first ∷ chars c.in-Some.rest.now = search rules in
    let skips = c.skip-rest.ensures.skips in
    (c.in-Some.first ∷ skips.0, cut ∙ ap (λ x. c.in-Some.first ∷ x) skips.1)

pub returns-in-Some : goal.returns-in-Some
returns-in-Some c =
    let cut : chars c.args.text.now ≡ c.in-Some.first ∷ chars c.in-Some.rest.now = search rules in
    let before : chars c.args.text.now ≡ chars c.before-in-Some.result.now ++ chars c.skip-rest.result.now = search rules in
    let starts : is_name_start c.in-Some.first ≡ true = search rules in
    name_lexed _ _ _ _ _ cut starts c.skip-rest.ensures.skips c.skip-rest.ensures.all before
