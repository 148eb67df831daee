use Rattle.std.proofs.Common.{ap, option_copied, ◌∙◌}
use Rattle.urlpat_matching.specs.PatternWords.{RejectsPatternOf}
use Rattle.urlpat_matching.specs.Tables.{entry_view}
use Rattle.urlpat_tables.proofs.TableRuleLemmas.{fault-at}
use Rattle.urlpattern_compile.proofs.DiagnosisLemmas.{is_other}
use Rattle.urlpattern_policy_text.specs.PolicyTexts.{place_in}
use Rattle.urlpattern_policy_text.specs.Statements.{column_of}
use Rattle.urlpat_tables.proofs.entry_reading.compiled_cell.Goals as goal

pub diagnosed-requires : goal.diagnosed-requires
diagnosed-requires c =
    is_other (RejectsPatternOf c.args.how.ignore_case c.args.pattern.now (option_copied c.args.how.base)) c.in-Err.error c.in_ok-error-in-Err.error c.in-Err.ensures.refused
    c.in_ok-error-in-Err.ensures

pub returns-in_ok-diagnosis-in-Err-clause-rejected : goal.returns-in_ok-diagnosis-in-Err-clause-rejected
returns-in_ok-diagnosis-in-Err-clause-rejected c =
    let entry = entry_view c.args.entry in
    let rest = c.args.rest.now in
    let diagnosis = c.in_ok-diagnosis-in-Err.diagnosis in (
      diagnosis,
      c.in_ok-diagnosis-in-Err.ensures,
      fault-at entry rest (place_in c.args.pattern.now diagnosis) c.column_of.result diagnosis (c.column_of.ensures ∙ ap (column_of entry.line rest) c.place_in.ensures),
    )
