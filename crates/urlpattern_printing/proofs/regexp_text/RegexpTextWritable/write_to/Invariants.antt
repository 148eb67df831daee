use Rattle.std.proofs.Common.{◌++◌, codes, map, take}
use Rattle.std.specs.List.{flat_map}
use Rattle.urlpattern_syntax.specs.Options.{options_view}
use Rattle.urlpattern_syntax.specs.Parts.{part_view}
use Rattle.urlpattern_syntax.specs.RegexpText.{part_regexp}
use Rattle.urlpattern_printing.proofs.regexp_text.RegexpTextWritable.write_to.Given as goal

abbrev pub invariant-loop-part : goal.invariant-loop-part
invariant-loop-part g l =
    g.W.Writer.Writes l.fn.writer (codes "^" ++ flat_map (part_regexp (options_view l.self.options.now)) (map part_view (take l.part-index l.self.part_list.now))) l.writer
