use Rattle.urlpattern_index.specs.FixedTexts.{fixed_texts}
use Rattle.urlpattern_index.proofs.index.Index.form_key_for.Goals as goal

pub returns-else-has_form : goal.returns-else-has_form
returns-else-has_form c = c.of_any.ensures (fixed_texts c.args.fixed)
