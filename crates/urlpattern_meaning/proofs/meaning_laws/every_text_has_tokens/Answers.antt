use Rattle.urlpattern_meaning.proofs.TokensExist.{lenient_tokens_exist, tokens_or_fault_exist}
use Rattle.urlpattern_meaning.proofs.meaning_laws.every_text_has_tokens.Goals as goal

pub returns-clause-strict : goal.returns-clause-strict
returns-clause-strict c = tokens_or_fault_exist

pub returns-clause-lenient : goal.returns-clause-lenient
returns-clause-lenient c = lenient_tokens_exist
