use Rattle.std.proofs.Common.{map, subst, sym}
use Rattle.urlpattern_meaning.proofs.ReadsBack.{kept_reads_back}
use Rattle.urlpattern_meaning.specs.Laws.{listed}
use Rattle.urlpattern_meaning.specs.RoundTrip.{ReadsBack}
use Rattle.urlpattern_syntax.specs.Options.{options_view}
use Rattle.urlpattern_syntax.specs.Parts.{part_view}
use Rattle.urlpattern_printing.proofs.printed.generate_pattern_string.Goals as goal

pub returns-clause-reads_back : goal.returns-clause-reads_back
returns-clause-reads_back c = λ answers printable keeps.
    let options = options_view c.args.options.now in
    let parts = map part_view c.args.part_list.now in
    subst (λ text. ReadsBack text options (listed answers) parts) (sym c.in_ok-written.ensures) (kept_reads_back options (listed answers) parts printable keeps)
