use Rattle.urlpattern_compare.proofs.AnswerLemmas.{ignored_reason, ignored_known, kept_reason, kept_known}
use Rattle.urlpattern_syntax.specs.{Options.options_view, Parts.parts_view}
use Rattle.urlpattern_compare.proofs.known_parts.unknown_parts.Goals as goal

pub returns-then-options-clause-known : goal.returns-then-options-clause-known
returns-then-options-clause-known c = ignored_known (options_view c.args.options.now) (parts_view c.args.parts.now) c.reason_of_ignored_case.result c.reason_of_ignored_case.ensures.known

pub returns-then-options-clause-reason : goal.returns-then-options-clause-reason
returns-then-options-clause-reason c =
    ignored_reason (options_view c.args.options.now) (parts_view c.args.parts.now) c.reason_of_ignored_case.result c.if-options.true c.reason_of_ignored_case.ensures.custom

pub returns-in-Ok-clause-known : goal.returns-in-Ok-clause-known
returns-in-Ok-clause-known c =
    kept_known (options_view c.args.options.now) (parts_view c.args.parts.now) c.in-Ok.are_simple c.reason_unless_simple.result c.if-options.false c.in-Ok.ensures c.reason_unless_simple.ensures.known

pub returns-in-Ok-clause-reason : goal.returns-in-Ok-clause-reason
returns-in-Ok-clause-reason c =
    kept_reason (options_view c.args.options.now) (parts_view c.args.parts.now) c.in-Ok.are_simple c.reason_unless_simple.result c.if-options.false c.in-Ok.ensures c.reason_unless_simple.ensures.reason
