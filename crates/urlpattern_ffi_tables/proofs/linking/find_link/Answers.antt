use Rattle.std.proofs.Common.{List, subst}
use Rattle.std.specs.Str.{chars}
use Rattle.urlpattern.specs.Routes.{IsRouteLink}
use Rattle.urlpattern_engine.specs.PatternRegexps.{pattern_result}
use Rattle.urlpattern_ffi_links.specs.GivenBytes.{GroupOfBytes}
use Rattle.urlpattern_generate.specs.WriteSettings.{given_groups}
use Rattle.urlpattern_ffi_tables.proofs.linking.find_link.Goals as goal

pub returns-in-Ok-link-clause-linked : goal.returns-in-Ok-link-clause-linked
returns-in-Ok-link-clause-linked c = (
  c.in-Ok.groups.items,
  c.in-Ok.ensures.groups,
  subst (λ (groups : List GroupOfBytes). IsRouteLink pattern_result c.args.router.now.routes (chars c.args.name.now) (given_groups groups) c.in-Ok-link.url) c.deref.ensures.value c.in-Ok-link.ensures.linked,
)
