use Rattle.std.proofs.Common.{◌≢◌, take}
use Rattle.std.specs.Prelude.{All}
use Rattle.urlpattern_components.specs.Eight.{name_text}
use Rattle.urlpattern_components.proofs.eight.ComponentName.from_name.Given as goal

-- The components so far have other names.
abbrev pub invariant-loop-component : goal.invariant-loop-component
invariant-loop-component l = All (λ component. l.name ≢ name_text component) (take l.component-index l.component-items)
