use Rattle.urlpattern_laws.proofs.EcmaMatchers.{kept_by_ecma_first}
use Rattle.urlpattern_laws.proofs.laws.matchers_by_ecma_regexp_answer_the_first_way.Goals as goal

pub returns : goal.returns
returns c = kept_by_ecma_first
