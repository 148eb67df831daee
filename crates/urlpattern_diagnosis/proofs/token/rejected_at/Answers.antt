use Rattle.urlpattern_diagnosis.proofs.TokenFaultLemmas.{refused_end, rejected_part}
use Rattle.urlpattern_meaning.proofs.BodyStartTokens.{lexed_or_fault}
use Rattle.std.proofs.Common.{◌++◌}
use Rattle.std.specs.Prelude.{codes}
use Rattle.std.specs.Str.{chars}
use Rattle.urlpattern_syntax.specs.Tokens.{InvalidRegex, fault_view}
use Rattle.urlpattern_syntax.specs.declared.tokenizer.TokenType.TheVariants.{Regexp}
use Rattle.urlpattern_diagnosis.proofs.token.rejected_at.Goals as goal

pub returns-in-Ok-clause-end : goal.returns-in-Ok-clause-end
returns-in-Ok-clause-end c =
    absurd (lexed_or_fault (codes "(" ++ chars c.args.body.now) Regexp _ _ (InvalidRegex c.requires.faulty.0) c.in-Ok.ensures.body c.requires.faulty.1)

pub returns-in-Err-clause-end : goal.returns-in-Err-clause-end
returns-in-Err-clause-end c =
    let fault = c.in-Err.fault in
    let is = c.in-Err.ensures.refused in
    refused_end c.args.body.now c.requires.faulty.0 c.requires.faulty.1 (fault_view fault.error) fault.invalid_bytes is.0 is.1

pub returns-in-Err-clause-left : goal.returns-in-Err-clause-left
returns-in-Err-clause-left c = (rejected_part _ _ _ c.in-Err.ensures.refused.1).0

pub returns-in-Err-clause-refused : goal.returns-in-Err-clause-refused
returns-in-Err-clause-refused c = (rejected_part _ _ _ c.in-Err.ensures.refused.1).1

pub returns-in-Err-clause-len : goal.returns-in-Err-clause-len
returns-in-Err-clause-len c = (rejected_part _ _ _ c.in-Err.ensures.refused.1).2
