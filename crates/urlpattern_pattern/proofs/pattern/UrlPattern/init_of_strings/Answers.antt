use Rattle.std.proofs.Common.{◌∙◌, ap}
use Rattle.std.specs.Prelude.{option_map}
use Rattle.urlpattern_components.proofs.EightLemmas.{at-each}
use Rattle.urlpattern_components.specs.Eight.{Values, at}
use Rattle.urlpattern_syntax.specs.Text.{text_of}
use Rattle.urlpattern_pattern.proofs.pattern.UrlPattern.init_of_strings.Goals as goal

pub returns : goal.returns
returns g c = record {
  texts = λ name. ap (λ (values : Values). at values name) c.from_eight.ensures.texts ∙ at-each (λ other. option_map text_of (at c.in_ok-texts.texts other)) name ∙ (c.in_ok-texts.ensures.ok name).1;
  base = c.from_eight.ensures.base;
}
