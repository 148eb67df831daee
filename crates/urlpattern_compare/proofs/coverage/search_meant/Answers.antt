use Rattle.urlpattern_compare.proofs.AnswerLemmas.{in_none, in_some}
use Rattle.urlpattern_compare.proofs.CoverageLemmas.{first_unknown_parts, other_unknown_parts}
use Rattle.urlpattern_compare.specs.Answers.{AreKnown, AreUnknownBy}
use Rattle.urlpattern_compare.proofs.coverage.search_meant.Goals as goal
use Rattle.urlpattern_syntax.specs.{Options.options_view, Parts.parts_view}

pub returns-in-Some : goal.returns-in-Some
returns-in-Some c =
    let options = options_view c.args.options.now in
    let parts = parts_view c.args.parts.now in
    first_unknown_parts options parts (options_view c.args.other_options.now) (parts_view c.args.others.now) c.in-Some.reason
    (in_some (AreUnknownBy options parts) c.in_ok-reason.field-0 c.in-Some.reason c.in-Some.is c.in_ok-reason.ensures.reason)

pub returns-in-Some-2 : goal.returns-in-Some-2
returns-in-Some-2 c =
    let other_options = options_view c.args.other_options.now in
    let others = parts_view c.args.others.now in
    other_unknown_parts (options_view c.args.options.now) (parts_view c.args.parts.now) other_options others c.in-Some-2.reason
    (in_some (AreUnknownBy other_options others) c.in_ok-reason-2.field-0 c.in-Some-2.reason c.in-Some-2.is c.in_ok-reason-2.ensures.reason)

pub search_known-requires-clause-parts : goal.search_known-requires-clause-parts
search_known-requires-clause-parts c =
    in_none (AreKnown (options_view c.args.options.now) (parts_view c.args.parts.now)) c.in_ok-reason.field-0 c.in-None.is c.in_ok-reason.ensures.known

pub search_known-requires-clause-others : goal.search_known-requires-clause-others
search_known-requires-clause-others c =
    in_none (AreKnown (options_view c.args.other_options.now) (parts_view c.args.others.now)) c.in_ok-reason-2.field-0 c.in-None-2.is c.in_ok-reason-2.ensures.known
