use Rattle.std.proofs.Common.{List, inl, inr, option_copied, subst, ℕ}
use Rattle.urlpat_matching.specs.Tables.{entry_view}
use Rattle.urlpat_tables.specs.TableRules.{IsRejectedCell}
use Rattle.urlpat_tables.proofs.rewrite_rules.RewriteReaderEntryReaderRewriteRule.read_entry.Goals as goal

pub returns-in-Err-clause-fault : goal.returns-in-Err-clause-fault
returns-in-Err-clause-fault c =
    let how = c.args.self.now.0 in
    inl (subst (λ (rest : List ℕ). IsRejectedCell how.ignore_case (option_copied how.base) (entry_view c.args.entry) rest c.args.entry.pattern.now c.in-Err.fault) c.trim.ensures.trim
    (rw c.in-Err.is at c.in_ok-from.ensures.rejected))

pub returns-in-Ok-Ok-clause-read : goal.returns-in-Ok-Ok-clause-read
returns-in-Ok-Ok-clause-read c = (rw c.in-Ok.is at c.in_ok-from.ensures.compiled, rw c.in-Ok-Ok.field-0-is at c.in-Ok-Ok.ensures.rule)

pub returns-in-Ok-Err-clause-fault : goal.returns-in-Ok-Err-clause-fault
returns-in-Ok-Err-clause-fault c = inr (c.in-Ok.from, rw c.in-Ok.is at c.in_ok-from.ensures.compiled, rw c.in-Ok-Err.field-0-is at c.in-Ok-Err.ensures.fault)
