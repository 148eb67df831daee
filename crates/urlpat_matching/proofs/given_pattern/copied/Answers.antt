use Rattle.std.proofs.Common.{option_map, ◌∙◌}
use Rattle.urlpat_matching.specs.GivenPatterns.{plain_values}
use Rattle.urlpattern_components.proofs.EightLemmas.{at-each, same_values}
use Rattle.urlpattern_components.specs.Eight.{at}
use Rattle.urlpattern_syntax.specs.Text.{text_of}
use Rattle.urlpat_matching.proofs.given_pattern.copied.Goals as goal

pub returns-clause-texts : goal.returns-clause-texts
returns-clause-texts c =
    c.from_eight.ensures.texts
    ∙ same_values _ (plain_values c.args.plain.now) (λ name. at-each (λ other. option_map text_of (at c.in_ok-texts.texts other)) name ∙ (c.in_ok-texts.ensures.ok name).1)
