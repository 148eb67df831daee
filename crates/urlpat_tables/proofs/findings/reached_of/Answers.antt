use Rattle.std.proofs.Common.{[], ◌++◌, ap, append-nil, map, sym, ◌∙◌}
use Rattle.std.specs.Map.{values_of}
use Rattle.urlpat_matching.specs.declared.table.Entry.{Entry}
use Rattle.urlpat_tables.proofs.CheckLemmas.{numbers-more}
use Rattle.urlpat_tables.specs.FirstRules.{Rules}
use Rattle.urlpat_tables.proofs.findings.reached_of.Goals as goal

pub loop-entry-init : goal.loop-entry-init
loop-entry-init c = ([], sym c.into_iter-entry-iterator.ensures.into_iter_gives.0, c.in_ok-lines.ensures.items)

pub loop-entry-preserved : goal.loop-entry-preserved
loop-entry-preserved c =
    let (before, are, numbers) = c.loop-entry.invariant in
    numbers-more c.args.rules.now before c.loop-entry.entry-iterator c.next.new.self _ c.loop-entry.lines.items c.push.new.self.items are c.in-Some.ensures.steps numbers
    c.in_ok-push.ensures.items

pub returns : goal.returns
returns c =
    let (before, are, numbers) = c.loop-entry.invariant in
    let whole = are ∙ ap (λ (rest : Rules Entry). before ++ rest) c.in-None.ensures.steps.0 ∙ append-nil before in
    record {
      lines = numbers ∙ ap (λ (rules : Rules Entry). map (λ entry. entry.number) (values_of rules)) (sym whole);
      reached = c.in-Ok.ensures.found;
    }
