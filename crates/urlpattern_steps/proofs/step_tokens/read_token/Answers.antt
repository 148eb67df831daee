use Rattle.std.specs.Str.{chars}
use Rattle.urlpattern_meaning.specs.Dialect.{IsCharacter}
use Rattle.urlpattern_steps.specs.ReadSteps.{BeginsWithCharacter, IsRead, IsUnquantified, group_quantifier_text}
use Rattle.urlpattern_steps.proofs.StepTokenLemmas.{literal-spells}
use Rattle.std.proofs.Common.{◌++◌}
use Rattle.urlpattern_steps.proofs.PrefixLemmas.{by_token}
use Rattle.urlpattern_steps.proofs.step_tokens.read_token.Goals as goal

pub returns-clause-token : goal.returns-clause-token
returns-clause-token c =
    let character : BeginsWithCharacter IsCharacter (chars c.args.text.now) c.in_ok-c.c (chars c.in_ok-c.rest.now) = rw (c.in_ok-c.c-is, c.in_ok-c.rest-is) c.in_ok-c.ensures.character in
    literal-spells (chars c.args.text.now) (chars c.in_ok-c.rest.now) c.in_ok-c.c character

pub returns-in_err-c-clause-reads : goal.returns-in_err-c-clause-reads
returns-in_err-c-clause-reads c =
    by_token (λ token rest. IsUnquantified rest → IsRead c.from_residual.result token rest) (chars c.args.text.now)
    (λ times rest e q. absurd (c.in_default.ensures.other (group_quantifier_text times ++ rest) e))
    (λ d rest begins q. absurd (c.in_err-c.ensures.reads d rest begins))
    (λ token rest behind e q. absurd (c.in_default-after.ensures.other behind e))
