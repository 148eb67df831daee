use Rattle.urlpattern_syntax.proofs.PieceLemmas.{are_token_list}
use Rattle.urlpattern_syntax.proofs.PiecesExist.{pieces_exist}
use Rattle.urlpattern_meaning.proofs.PiecesUnique.{pieces_one}
use Rattle.urlpattern_meaning.proofs.meaning_laws.pieces_are_one.Goals as goal

pub returns-clause-one : goal.returns-clause-one
returns-clause-one c = pieces_one

pub returns-clause-exist : goal.returns-clause-exist
returns-clause-exist c = λ point text tokens h. pieces_exist point tokens (are_token_list text tokens h)
