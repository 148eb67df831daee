use Rattle.std.proofs.Common.{◌≡◌, drop}
use Rattle.urlpattern_index.specs.Keys.{mixed_segments}
use Rattle.urlpattern_index.proofs.form.Form.key_of.Given as goal

abbrev pub invariant-loop-index : goal.invariant-loop-index
invariant-loop-index l =
    mixed_segments l.key (drop l.index l.segments) (drop l.index l.actual) ≡ mixed_segments l.initial.key l.segments l.actual
