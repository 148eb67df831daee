use Rattle.std.proofs.Common.{None, take}
use Rattle.std.specs.Prelude.{All}
use Rattle.urlpattern_generate.specs.WriteSettings.{given_groups}
use Rattle.urlpattern_pattern.specs.EncodedLinks.{IsChangedIn}
use Rattle.urlpattern_pattern.specs.Patterns.{pattern_view}
use Rattle.urlpattern_pattern.proofs.pattern.UrlPattern.changed.Given as goal

-- No value of the components so far is changed.
abbrev pub invariant-loop-component : goal.invariant-loop-component
invariant-loop-component g l = All (λ component. IsChangedIn (pattern_view l.self) l.parts (given_groups l.groups) component None) (take l.component-index l.component-items)
