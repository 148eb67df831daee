use Rattle.std.proofs.lemmas.Result.{IfOk-weaker}
use Rattle.urlpat_explain.proofs.explaining.explanation_of.Goals as goal

pub returns-clause-text : goal.returns-clause-text
returns-clause-text g c =
    IfOk-weaker c.answer-found.result _ _
    (λ found is. (_, record { is_read = c.requires; has_values = c.in_ok-values.ensures.ok; are_noted = c.in_ok-noted.ensures; has_text = c.in_ok-text.ensures.text }, is)) c.answer-found.ensures.text
