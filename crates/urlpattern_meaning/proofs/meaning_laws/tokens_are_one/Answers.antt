use Rattle.urlpattern_meaning.proofs.TokensUnique.{tokens_one, fault_one, tokens_or_fault, lenient_tokens_one}
use Rattle.urlpattern_meaning.proofs.meaning_laws.tokens_are_one.Goals as goal

pub returns : goal.returns
returns c = record { tokens = tokens_one; faults = fault_one; not_both = tokens_or_fault; lenient = lenient_tokens_one }
