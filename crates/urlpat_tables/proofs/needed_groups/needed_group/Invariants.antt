-- No component so far has a group that lacks a text.
use Rattle.std.proofs.Common.{All, List, take, ℕ}
use Rattle.urlpat_tables.specs.RewriteRules.{NeedsAmong}
use Rattle.urlpattern.specs.Patterns.{pattern_view}
use Rattle.urlpattern_pattern.specs.ComponentTexts.{parts_in}
use Rattle.urlpat_tables.proofs.needed_groups.needed_group.Given as goal

abbrev pub invariant-loop-component : goal.invariant-loop-component
invariant-loop-component l =
    All (λ component. (name : List ℕ) → ¬ NeedsAmong (pattern_view l.from) component (parts_in l.parts component) name) (take l.component-index l.component-items)
