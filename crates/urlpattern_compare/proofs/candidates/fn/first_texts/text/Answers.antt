use Rattle.urlpattern_compare.proofs.CandidateLemmas.{error_first}
use Rattle.urlpattern_compare.proofs.candidates.fn.first_texts.text.Goals as goal

pub returns : goal.returns
returns c = record {
  text = c.first_text.ensures;
  none = error_first c.captures.conditions.now c.captures.most c.args.name c.first_text.result c.first_text.ensures;
}
