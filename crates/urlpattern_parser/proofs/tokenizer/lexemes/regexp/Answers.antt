use Rattle.std.proofs.Common.{◌≡◌, ◌∷◌, refl, sym, subst, rules}
use Rattle.std.specs.Str.{chars}
use Rattle.urlpattern_syntax.specs.Text.{BeginsWith}
use Rattle.urlpattern_syntax.specs.Tokens.{is_question_mark, StartsWithQuestionMark, NoBody}
use Rattle.urlpattern_parser.proofs.tokenizer.lexemes.regexp.Goals as goal

pub returns-in-Some-eq63-default : goal.returns-in-Some-eq63-default
returns-in-Some-eq63-default c =
    let cut : chars c.args.text.now ≡ 63 ∷ chars c.in-Some-eq63-default.field-0-1.now = search rules in
    (chars c.args.text.now, StartsWithQuestionMark, refl, subst (BeginsWith is_question_mark) (sym cut) refl, refl)

pub returns-in-Some-eq41-default : goal.returns-in-Some-eq41-default
returns-in-Some-eq41-default c =
    let cut : chars c.args.text.now ≡ 41 ∷ chars c.in-Some-eq41-default.field-0-1.now = search rules in
    (chars c.args.text.now, NoBody, refl, (chars c.in-Some-eq41-default.field-0-1.now, cut), refl)
