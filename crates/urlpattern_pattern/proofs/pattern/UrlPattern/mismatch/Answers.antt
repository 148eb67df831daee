use Rattle.std.proofs.Common.{subst}
use Rattle.std.specs.Prelude.{IfErr}
use Rattle.urlpattern_pattern.specs.Mismatch.{CallsInTurn}
use Rattle.urlpattern_pattern.specs.Patterns.{pattern_view}
use Rattle.urlpattern_components.specs.Eight.{Texts}
use Rattle.urlpattern_pattern.proofs.pattern.UrlPattern.mismatch.Goals as goal

pub returns-clause-asked : goal.returns-clause-asked
returns-clause-asked g c =
    subst (λ (texts : Texts). IfErr c.mismatch_of_texts.result (λ _. CallsInTurn g.R.RegExp.answer (pattern_view c.args.self.now) texts)) c.url_texts.ensures c.mismatch_of_texts.ensures.asked
