use Rattle.urlpat_commands.proofs.CommandNoteLemmas.{reports-alone, reports-no-memory, reports-noted}
use Rattle.urlpat_matching.specs.Status.{error_line}
use Rattle.urlpat_commands.proofs.failure.write_failure.Goals as goal

pub returns-in-Ok-None-clause-first : goal.returns-in-Ok-None-clause-first
returns-in-Ok-None-clause-first g c =
    reports-alone (error_line c.args.error.now) c.report.result _ _ c.report.ensures

pub returns-in_ok-report-in-Ok-Some-clause-first : goal.returns-in_ok-report-in-Ok-Some-clause-first
returns-in_ok-report-in-Ok-Some-clause-first g c =
    reports-noted (error_line c.args.error.now) _ c.write_all.result _ _ _
    c.in_ok-report-in-Ok-Some.ensures c.write_all.ensures.bytes

pub returns-in-Err-clause-first : goal.returns-in-Err-clause-first
returns-in-Err-clause-first g c =
    reports-no-memory (error_line c.args.error.now) c.write_all-in-Err.result _ _ c.write_all-in-Err.ensures.bytes
