use Rattle.urlpattern_meaning.specs.Laws.{listed}
use Rattle.urlpattern_meaning.specs.LawsOfReading.{OfPartsThatWereRead, OfPrintableParts, PrintedProperty}
use Rattle.urlpattern_meaning.specs.RoundTrip.{IsNotRejected, PrintsTheSame, ReadsAsJoined, ReadsOnlyAsJoined}
use Rattle.urlpattern_meaning.proofs.ReadsBack.{kept_reads, kept_reads_only, kept_same, kept_unrefused, were_read_printable}
use Rattle.urlpattern_meaning.proofs.meaning_laws.parts_that_were_read_print_and_read_back.Goals as goal

-- A property of printable parts is a property of parts that were read.
of_read : (Says : PrintedProperty) → OfPrintableParts Says → OfPartsThatWereRead Says
of_read Says of_printable text options first answers parts read =
    of_printable options answers parts (were_read_printable text options (listed first) parts read)

pub returns : goal.returns
returns c = record {
  reads = of_read ReadsAsJoined (λ options answers. kept_reads options (listed answers));
  only = of_read ReadsOnlyAsJoined (λ options answers. kept_reads_only options (listed answers));
  not_refused = of_read IsNotRejected (λ options answers. kept_unrefused options (listed answers));
  same = of_read PrintsTheSame (λ options answers. kept_same options (listed answers));
}
