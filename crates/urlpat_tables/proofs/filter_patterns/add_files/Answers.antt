use Rattle.std.proofs.Common.{List, [], ap, map, subst, ◌++◌, ◌∙◌}
use Rattle.urlpat_matching.specs.Tables.{EntryView, entries_view, table_entries}
use Rattle.urlpat_tables.proofs.FilterPatternLemmas.{files-none, files-taken, texts-both, texts-none}
use Rattle.urlpat_tables.specs.FilterLines.{AddsTexts}
use Rattle.urlpat_tables.proofs.filter_patterns.add_files.Goals as goal

pub loop-file-init : goal.loop-file-init
loop-file-init g c = ([], files-none (g.T.Tables.Has c.args.tables.now), texts-none c.args.ignore_case c.args.asked c.args.patterns.now)

pub loop-file-preserved : goal.loop-file-preserved
loop-file-preserved g c =
    let Has = g.T.Tables.Has c.args.tables.now in
    let (texts, are, adds) = c.loop-file.invariant in
    let table = c.in-Some.table.items in
    let entries = ap entries_view c.deref-in-loop-file.ensures.value ∙ c.in-Some-entries_or_report.ensures.entries ∙ ap table_entries c.deref.ensures.value in
    let added = subst (λ (entries : List EntryView). AddsTexts c.args.ignore_case c.args.asked (map (λ entry. entry.pattern) entries) c.loop-file.patterns c.add_entries.new.patterns) entries
    (c.add_entries.ensures c.if-not-add_entries.false) in (
      texts ++ map (λ entry. entry.pattern) (table_entries table),
      files-taken Has c.args.files.now c.loop-file.file-index _ table texts c.loop-file-test.true are c.in-Some.ensures.table,
      texts-both c.args.ignore_case c.args.asked texts (map (λ entry. entry.pattern) (table_entries table)) c.args.patterns.now c.loop-file.patterns c.add_entries.new.patterns adds added,
    )
