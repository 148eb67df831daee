use Rattle.std.proofs.Common.{false}
use Rattle.urlpattern_matcher.specs.Components.{IsEngineOf, engine_flags}
use Rattle.urlpattern_matcher.specs.Matchers.{matcher_view}
use Rattle.urlpattern_meaning.proofs.MatcherMeaning.{matcher_means}
use Rattle.urlpattern_syntax.specs.Options.{options_view}
use Rattle.urlpattern_matcher.proofs.component.Component.compile.Goals as goal

pub returns-in-Ok-clause-means : goal.returns-in-Ok-clause-means
returns-in-Ok-clause-means g c = λ parts of plain kept follows text answered lacks scalars answers.
    let options = options_view c.args.options in
    matcher_means g.R.RegExp.answer (IsEngineOf g.R.RegExp false (engine_flags options)) options parts (matcher_view c.into_fields-component.result.0.matcher) text answered of.has_matcher plain kept lacks scalars follows answers
