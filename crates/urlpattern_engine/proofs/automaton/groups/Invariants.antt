use Rattle.std.proofs.Common.{◌≡◌, ◌-◌, map}
use Rattle.urlpattern_engine.specs.Automatons.{cell_texts}
use Rattle.urlpattern_syntax.specs.Text.{option_text}
use Rattle.urlpattern_engine.proofs.automaton.groups.Given as goal

abbrev pub invariant-loop-index : goal.invariant-loop-index
invariant-loop-index l =
    map option_text l.groups.items ≡ cell_texts l.text l.cells (l.index - 1)
