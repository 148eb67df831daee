use Rattle.std.proofs.Common.{sym, ap, ◌∙◌}
use Rattle.std.proofs.lemmas.List.{take_all}
use Rattle.urlpat_matching.specs.Tables.{entries_view}
use Rattle.urlpat_tables.proofs.CheckLemmas.{named-at, named-past, no-name, none-named, some-name}
use Rattle.urlpat_tables.specs.Findings.{first_named}
use Rattle.urlpat_tables.proofs.findings.first_named.Goals as goal

pub returns-then-is_empty : goal.returns-then-is_empty
returns-then-is_empty c = no-name (entries_view c.args.entries.now) c.args.name.now (sym c.is_empty.ensures ∙ c.if-is_empty.true)

pub loop-entry-init : goal.loop-entry-init
loop-entry-init c = none-named c.args.name.now

pub returns-then-eq : goal.returns-then-eq
returns-then-eq c =
    named-at c.args.entries.now c.loop-entry.entry-index _ c.args.name.now c.loop-entry-test.true c.loop-entry.invariant (some-name c.args.name.now (sym c.is_empty.ensures ∙ c.if-is_empty.false))
    (sym c.eq.ensures ∙ c.if-eq.true)

pub loop-entry-preserved : goal.loop-entry-preserved
loop-entry-preserved c =
    named-past c.args.entries.now c.loop-entry.entry-index _ c.args.name.now c.loop-entry-test.true c.loop-entry.invariant (sym c.eq.ensures ∙ c.if-eq.false)

pub returns : goal.returns
returns c =
    sym (ap (λ them. first_named (entries_view them) c.args.name.now) (sym (take_all c.loop-entry.entry-index c.args.entries.now c.loop-entry-test.false)) ∙ c.loop-entry.invariant)
