use Rattle.std.proofs.Common.{◌≡◌, None, ap}
use Rattle.urlpattern_components.specs.declared.eight.ComponentName.{ComponentName}
use Rattle.urlpattern_components.specs.declared.eight.ComponentName.TheVariants.{Protocol, Username, Password, Hostname, Port, Pathname, Search, Hash}
use Rattle.urlpattern_components.specs.Eight.{at}
use Rattle.std.specs.Prelude.{option_map}
use Rattle.urlpattern_constructor.specs.Splitting.{split_text_view}
use Rattle.urlpattern_constructor.proofs.components.Split.nothing.Goals as goal

pub returns-clause-nothing : goal.returns-clause-nothing
returns-clause-nothing c =
    let lacks : (name : ComponentName) → option_map split_text_view (at c.from_fn.result name) ≡ None = λ name. ap (option_map split_text_view) (c.from_fn.ensures name).1 in
    (((lacks Protocol, lacks Username, lacks Password, lacks Hostname, lacks Port), lacks Pathname), lacks Search)

pub returns-clause-hash : goal.returns-clause-hash
returns-clause-hash c = ap (option_map split_text_view) (c.from_fn.ensures Hash).1
