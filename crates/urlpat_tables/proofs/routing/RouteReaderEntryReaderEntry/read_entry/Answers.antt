use Rattle.std.proofs.Common.{List, option_copied, refl, subst, ℕ}
use Rattle.urlpat_matching.specs.Tables.{entry_view}
use Rattle.urlpat_tables.specs.TableRules.{IsRejectedCell}
use Rattle.urlpat_tables.proofs.routing.RouteReaderEntryReaderEntry.read_entry.Goals as goal

pub returns-in-Ok-clause-read : goal.returns-in-Ok-clause-read
returns-in-Ok-clause-read c = (refl, rw c.in-Ok.is at c.in_ok-pattern.ensures.compiled)

pub returns-in-Err-clause-fault : goal.returns-in-Err-clause-fault
returns-in-Err-clause-fault c =
    let how = c.args.self.now.0 in
    subst (λ (rest : List ℕ). IsRejectedCell how.ignore_case (option_copied how.base) (entry_view c.args.entry) rest c.args.entry.pattern.now c.in-Err.fault) c.trim.ensures.trim
    (rw c.in-Err.is at c.in_ok-pattern.ensures.rejected)
