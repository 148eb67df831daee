use Rattle.std.proofs.Common.{List, subst}
use Rattle.urlpat_explain.specs.GivenWords.{Given}
use Rattle.urlpattern_engine.specs.PatternRegexps.{pattern_result}
use Rattle.urlpattern_generate.specs.WriteSettings.{given_groups}
use Rattle.urlpattern_pattern.specs.LinkedUrls.{IsLink}
use Rattle.urlpat_explain.proofs.link_command.linked.Goals as goal

pub returns-in-Ok-link-clause-linked : goal.returns-in-Ok-link-clause-linked
returns-in-Ok-link-clause-linked c = (
  c.in-Ok.groups.items,
  c.in-Ok.ensures.given,
  subst (λ (groups : List Given). IsLink pattern_result c.args.pattern.now (given_groups groups) c.in-Ok-link.url) c.deref.ensures.value c.in-Ok-link.ensures.generated,
)

pub returns-in-Err-Word-clause-refused : goal.returns-in-Err-Word-clause-refused
returns-in-Err-Word-clause-refused c = rw c.in-Err-Word.field-0-is (rw c.in-Err-Word.field-0-is at c.in-Err-Word.ensures.refused)
