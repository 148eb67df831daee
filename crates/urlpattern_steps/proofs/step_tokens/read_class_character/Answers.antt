use Rattle.std.proofs.Common.{◌≡◌, ◌∷◌, ◌++◌, ℕ, Bor, List, refl, ap, ◌∙◌, codes, rules}
use Rattle.std.specs.Prelude.{IsTrue}
use Rattle.std.specs.Str.{chars}
use Rattle.urlpattern_meaning.specs.Dialect.{IsClassCharacter}
use Rattle.urlpattern_syntax.specs.RegexpText.{regexp_marks}
use Rattle.urlpattern_syntax.specs.Text.{is_among}
use Rattle.urlpattern_steps.specs.ReadSteps.{BeginsWithCharacter}
use Rattle.urlpattern_steps.proofs.StepTokenLemmas.{escaped-begins, if_both, plain-begins, not_class}
use Rattle.urlpattern_steps.proofs.PrefixLemmas.{escaped_read}
use Rattle.urlpattern_steps.proofs.step_tokens.read_class_character.Goals as goal

pub returns-in-92-clause-character : goal.returns-in-92-clause-character
returns-in-92-clause-character c =
    let front : chars c.args.text.now ≡ c.in_ok-c.c ∷ chars c.in_ok-c.rest.now = search rules in
    let begins : chars c.args.text.now ≡ codes "\\" ++ chars c.in_ok-c.rest.now = front ∙ ap (λ d. d ∷ chars c.in_ok-c.rest.now) c.in-92.is in
    if_both (λ (read : ℕ × Bor (List ℕ)). IsTrue (is_among (regexp_marks ++ codes "/") read.0)) (λ read. chars c.in_ok-c.rest.now ≡ read.0 ∷ chars read.1.now)
    (λ read. BeginsWithCharacter IsClassCharacter (chars c.args.text.now) read.0 (chars read.1.now)) c.read_escaped.result
    (λ read mark cut. escaped-begins IsClassCharacter (chars c.args.text.now) (chars c.in_ok-c.rest.now) read.0 (chars read.1.now) mark begins cut)
    c.read_escaped.ensures.mark c.read_escaped.ensures.cut

pub returns-in_default-clause-character : goal.returns-in_default-clause-character
returns-in_default-clause-character c =
    let cut : chars c.args.text.now ≡ c.in_ok-c.c ∷ chars c.in_ok-c.rest.now = search rules in
    plain-begins IsClassCharacter (chars c.args.text.now) c.in_ok-c.c (chars c.in_ok-c.rest.now) (not_class c.in_ok-c.c (search rules) (search rules)) cut

pub returns-in-92-clause-reads : goal.returns-in-92-clause-reads
returns-in-92-clause-reads c =
    let front : chars c.args.text.now ≡ c.in_ok-c.c ∷ chars c.in_ok-c.rest.now = search rules in
    let begins : chars c.args.text.now ≡ codes "\\" ++ chars c.in_ok-c.rest.now = front ∙ ap (λ d. d ∷ chars c.in_ok-c.rest.now) c.in-92.is in
    escaped_read IsClassCharacter (λ d. IsTrue (is_among (regexp_marks ++ codes "/") d)) c.read_escaped.result (chars c.args.text.now) (chars c.in_ok-c.rest.now) begins
    (λ not. not refl) (λ d is. is) c.read_escaped.ensures.other c.read_escaped.ensures.cut
