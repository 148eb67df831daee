use Rattle.std.proofs.Common.{true, false, sym, ◌∙◌}
use Rattle.urlpattern_compile.proofs.DiagnosisLemmas.{misread_shown, protocol_shown}
use Rattle.urlpattern_compile.proofs.diagnose.rejected_protocol.Goals as goal

pub returns-then-not-is_misread-clause-shows : goal.returns-then-not-is_misread-clause-shows
returns-then-not-is_misread-clause-shows c =
    let is = c.in_ok-of_part.ensures in
    protocol_shown c.args.text.now c.args.protocol.now c.args.span c.args.error c.in_ok-of_part.field-0 is.error is.text c.in_ok-fault.fault is.subject
    (sym c.is_misread.ensures ∙ c.if-not-is_misread.true) c.in_ok-fault.ensures.fault is.fault

pub returns-then-lacks_colon-clause-shows : goal.returns-then-lacks_colon-clause-shows
returns-then-lacks_colon-clause-shows c =
    let is = c.in_ok-whole.ensures in
    misread_shown c.args.text.now c.args.protocol.now c.args.span c.args.error c.in_ok-whole.field-0 is.error is.text true is.subject
    (sym c.is_misread.ensures ∙ c.if-not-is_misread.false) (sym c.lacks_colon.ensures ∙ c.if-lacks_colon.true) is.fault

pub returns-clause-shows : goal.returns-clause-shows
returns-clause-shows c =
    let is = c.in_ok-of_colon.ensures in
    misread_shown c.args.text.now c.args.protocol.now c.args.span c.args.error c.in_ok-of_colon.field-0 is.error is.text false is.subject
    (sym c.is_misread.ensures ∙ c.if-not-is_misread.false) (sym c.lacks_colon.ensures ∙ c.if-lacks_colon.false) is.fault
