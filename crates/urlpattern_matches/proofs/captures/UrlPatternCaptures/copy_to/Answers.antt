use Rattle.urlpattern_components.specs.declared.eight.ComponentName.TheVariants.{Protocol, Username, Password, Hostname, Port, Pathname, Search, Hash}
use Rattle.urlpattern_matches.proofs.captures.UrlPatternCaptures.copy_to.Goals as goal

pub copy_component-requires : goal.copy_component-requires
copy_component-requires c = c.requires Protocol

pub copy_component-requires-2 : goal.copy_component-requires-2
copy_component-requires-2 c = c.requires Username

pub copy_component-requires-3 : goal.copy_component-requires-3
copy_component-requires-3 c = c.requires Password

pub copy_component-requires-4 : goal.copy_component-requires-4
copy_component-requires-4 c = c.requires Hostname

pub copy_component-requires-5 : goal.copy_component-requires-5
copy_component-requires-5 c = c.requires Port

pub copy_component-requires-6 : goal.copy_component-requires-6
copy_component-requires-6 c = c.requires Pathname

pub copy_component-requires-7 : goal.copy_component-requires-7
copy_component-requires-7 c = c.requires Search

pub copy_component-requires-8 : goal.copy_component-requires-8
copy_component-requires-8 c = c.requires Hash
