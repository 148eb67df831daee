use Rattle.std.proofs.Common.{List, subst}
use Rattle.std.specs.Prelude.{string_bytes}
use Rattle.std.specs.Str.{chars}
use Rattle.urlpattern_engine.specs.PatternRegexps.{pattern_result}
use Rattle.urlpattern_generate.specs.WriteSettings.{given_groups}
use Rattle.urlpattern_ffi_links.specs.GivenBytes.{GroupOfBytes}
use Rattle.urlpattern_pattern.specs.ComponentTexts.{GeneratesText}
use Rattle.urlpattern_ffi_links.proofs.given_text.generate.Goals as goal

pub returns-in-Ok-generate-clause-generated : goal.returns-in-Ok-generate-clause-generated
returns-in-Ok-generate-clause-generated c = (
  c.in-Ok.groups.items,
  c.in-Ok.ensures.groups,
  subst (λ (groups : List GroupOfBytes). GeneratesText pattern_result c.args.pattern.now c.args.component (given_groups groups) (chars (string_bytes c.in-Ok-generate.made)))
      c.deref.ensures.value c.in-Ok-generate.ensures.generated,
)
