use Rattle.std.proofs.Common.{false, map}
use Rattle.std.specs.Str.{chars}
use Rattle.urlpattern_matcher.specs.Components.{IsEngineOf}
use Rattle.urlpattern_matcher.specs.Matchers.{matcher_view}
use Rattle.urlpattern_meaning.proofs.MatcherMeaning.{matcher_means}
use Rattle.urlpattern_syntax.specs.Options.{options_view}
use Rattle.urlpattern_syntax.specs.Parts.{part_view}
use Rattle.urlpattern_matcher.proofs.component.matchers.generate_matcher.Goals as goal

pub returns-clause-means : goal.returns-clause-means
returns-clause-means g c = λ plain kept follows text answered lacks scalars answers.
    let made = c.in_ok-generate_matcher_with_regexp in
    matcher_means g.R.RegExp.answer (IsEngineOf g.R.RegExp false (chars c.args.flags.now)) (options_view c.args.options.now)
    (map part_view c.args.part_list.now) (matcher_view made.field-0) text answered made.ensures plain kept lacks scalars follows answers
