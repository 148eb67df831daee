use Rattle.std.proofs.Common.{ap, not, refl, ◌∙◌}
use Rattle.urlpattern_generate.proofs.KeptValues.{kept_ascii}
use Rattle.urlpattern_values.proofs.SetTests.{tested_by_set}
use Rattle.urlpattern_generate.specs.CanonicalValues.{is_kept_character}
use Rattle.urlpattern_generate.specs.declared.canonical_values.TheConstants.{ESCAPED}
use Rattle.urlpattern_generate.proofs.canonical_values.is_unescaped.Goals as goal

pub returns : goal.returns
returns c = ap not c.should_percent_encode.ensures ∙ tested_by_set ESCAPED is_kept_character refl refl kept_ascii c.args.b
