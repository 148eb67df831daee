use Rattle.std.proofs.Common.{sym, refl}
use Rattle.urlpattern_syntax.specs.Options.{options_view}
use Rattle.urlpattern_syntax.specs.RegexpText.{segment_wildcard}
use Rattle.urlpattern_syntax.proofs.ReadingLemmas.{kind_segment, kind_wildcard}
use Rattle.urlpattern_syntax.proofs.StringTexts.{text-nil}
use Rattle.urlpattern_parser.proofs.parser.PatternParser.kind_and_value.Goals as goal

pub returns-in-Segment-clause-kind : goal.returns-in-Segment-clause-kind
returns-in-Segment-clause-kind g c =
    let options = options_view c.args.self.now.options.now in
    rw c.in-Segment.is (sym (kind_segment options (segment_wildcard options) refl))

pub returns-in-Segment-clause-value : goal.returns-in-Segment-clause-value
returns-in-Segment-clause-value g c = text-nil c.new.result c.new.ensures.bytes

pub returns-in-Anything-clause-kind : goal.returns-in-Anything-clause-kind
returns-in-Anything-clause-kind g c =
    let options = options_view c.args.self.now.options.now in
    rw c.in-Anything.is (sym (kind_wildcard options))

pub returns-in-Anything-clause-value : goal.returns-in-Anything-clause-value
returns-in-Anything-clause-value g c = text-nil c.new-in-Anything.result c.new-in-Anything.ensures.bytes
