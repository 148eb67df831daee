use Rattle.urlpat_tables.proofs.TableRuleLemmas.{not-added, rule-added}
use Rattle.urlpat_tables.proofs.table_rules.add_reading.Goals.{in-Err-try_insert, in-Ok-try_insert}
use Rattle.urlpat_tables.proofs.table_rules.add_reading.Goals as goal

pub returns-after-try_insert : goal.returns-after-try_insert
returns-after-try_insert g c = elim c.match-try_insert.branch [
  | in-Ok-try_insert w ↦
      rule-added c.args.reading (c.in-Ok.pattern, c.in-Ok.value) c.match-try_insert.result c.args.rules.now c.try_insert.new.self c.args.faults.now.items c.in-Ok.is
      w.in-Ok-try_insert.ensures.appended
  | in-Err-try_insert w ↦ not-added c.match-try_insert.result _ _ w.result-is
]
