-- The patterns of the files so far are added.
use Rattle.std.proofs.Common.{take}
use Rattle.urlpat_matching.specs.Texts.{texts_view}
use Rattle.urlpat_tables.specs.FilterLines.{AddsFiles}
use Rattle.urlpat_tables.proofs.filter_patterns.add_files.Given as goal

abbrev pub invariant-loop-file : goal.invariant-loop-file
invariant-loop-file g l = AddsFiles l.ignore_case l.asked (g.T.Tables.Has l.tables) (texts_view (take l.file-index l.files)) l.initial.patterns l.patterns
