use Rattle.std.proofs.Common.{arith, sym, ◌≡◌, ◌∙◌}
use Rattle.std.proofs.lemmas.Bool.{eqb-true}
use Rattle.std.proofs.lemmas.List.{nil_from_length}
use Rattle.std.specs.Prelude.{vec_len}
use Rattle.urlpat_matching.specs.Tables.{entries_view}
use Rattle.urlpat_tables.proofs.TableRuleLemmas.{rules-read}
use Rattle.urlpat_tables.proofs.table_rules.rules_or_report.Goals as goal

pub returns-then-is_empty-clause-rules : goal.returns-then-is_empty-clause-rules
returns-then-is_empty-clause-rules g c =
    let faults = c.in-Ok.faults in
    let none : vec_len faults ≡ 0 = eqb-true (vec_len faults) 0 (sym c.is_empty.ensures ∙ c.if-is_empty.true) in
    rules-read (g.M.EntryReader.Reads c.args.reader.now) (g.M.EntryReader.Faults c.args.reader.now) (entries_view c.args.entries.now) c.read_each.new.rules faults.items c.in-Ok.ensures
    (nil_from_length faults.items (omega (arith, none, faults.ok.0)))
