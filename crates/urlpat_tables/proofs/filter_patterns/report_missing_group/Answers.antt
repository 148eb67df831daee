use Rattle.std.proofs.Common.{append_assoc}
use Rattle.urlpat_tables.proofs.filter_patterns.report_missing_group.Goals as goal

pub returns : goal.returns
returns g c = simp append_assoc c.writeln.ensures.bytes
