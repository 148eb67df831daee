-- The lines of the entries so far are appended.
use Rattle.std.proofs.Common.{◌≡◌, map, string_bytes, take}
use Rattle.std.specs.List.{flat_map}
use Rattle.urlpat_tables.specs.Summaries.{count_line, counted_view}
use Rattle.urlpat_tables.proofs.summary.count_lines.Given as goal

abbrev pub invariant-loop-one : goal.invariant-loop-one
invariant-loop-one l = string_bytes l.text ≡ flat_map (count_line l.label l.bars l.most) (map counted_view (take l.one-index l.all))
