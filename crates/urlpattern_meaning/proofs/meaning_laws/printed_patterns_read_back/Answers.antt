use Rattle.urlpattern_meaning.specs.Laws.{listed}
use Rattle.urlpattern_meaning.proofs.KeptTexts.{some_answers_keep}
use Rattle.urlpattern_meaning.proofs.ReadsBack.{kept_reads, kept_reads_only, kept_same, kept_unrefused}
use Rattle.urlpattern_meaning.proofs.meaning_laws.printed_patterns_read_back.Goals as goal

pub returns : goal.returns
returns c = record {
  reads = λ options answers. kept_reads options (listed answers);
  only = λ options answers. kept_reads_only options (listed answers);
  not_refused = λ options answers. kept_unrefused options (listed answers);
  same = λ options answers. kept_same options (listed answers);
  kept = some_answers_keep;
}
