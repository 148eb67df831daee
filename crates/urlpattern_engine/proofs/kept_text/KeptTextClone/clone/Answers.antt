use Rattle.std.proofs.Common.{ap, ◌∙◌}
use Rattle.std.specs.Str.{chars}
use Rattle.urlpattern_engine.specs.KeptTexts.{characters_of, same_characters}
use Rattle.urlpattern_engine.proofs.kept_text.KeptTextClone.clone.Goals as goal

pub returns : goal.returns
returns c = record {
  cases = same_characters (characters_of c.in_ok-clone.field-0) (characters_of c.self.inside.text) (ap chars c.in_ok-clone.ensures.cases) ∙ c.self.view_is;
}
