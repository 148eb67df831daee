use Rattle.std.proofs.Common.{Some, None, ap, refl, sym, ◌∙◌}
use Rattle.std.specs.Prelude.{option_map}
use Rattle.urlpattern_components.proofs.EightLemmas.{at-each}
use Rattle.urlpattern_components.specs.Eight.{at}
use Rattle.urlpattern_constructor.specs.Splitting.{split_text_view, split_texts}
use Rattle.urlpattern_constructor.proofs.SplitStarts.{text_by_name}
use Rattle.urlpattern_constructor.proofs.components.Split.text.Goals as goal

pub returns-in-Some : goal.returns-in-Some
returns-in-Some c = text_by_name c.args.self.now c.args.name _ (sym c.get.ensures ∙ c.in-Some.is)

pub returns-in-None : goal.returns-in-None
returns-in-None c = text_by_name c.args.self.now c.args.name _ (sym c.get.ensures ∙ c.in-None.is)
