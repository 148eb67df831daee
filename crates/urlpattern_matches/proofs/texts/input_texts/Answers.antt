use Rattle.std.proofs.Common.{◌∙◌}
use Rattle.std.specs.Str.{chars}
use Rattle.urlpattern_matches.specs.MatchInput.{texts_view}
use Rattle.urlpattern_components.proofs.EightLemmas.{at-each, same_values}
use Rattle.urlpattern_components.specs.Eight.{at}
use Rattle.urlpattern_matches.proofs.texts.input_texts.Goals as goal

pub returns : goal.returns
returns c =
    same_values _ (texts_view c.args.input.now) (λ name. at-each (λ other. chars (at c.from_fn.result other).now) name ∙ (c.from_fn.ensures name).1)
