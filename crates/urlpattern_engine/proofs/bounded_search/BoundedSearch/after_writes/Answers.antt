use Rattle.std.proofs.Common.{sym}
use Rattle.regex_vm.proofs.NfaLemmas.{below_within}
use Rattle.urlpattern_engine.proofs.BoundedSearchLemmas.{none_by_write}
use Rattle.urlpattern_engine.proofs.bounded_search.BoundedSearch.after_writes.Goals as goal

pub writes-preserved : goal.writes-preserved
writes-preserved c = record {
  within = below_within c.args.self.now.nfa.now c.in-Save.next c.writes.seen c.in-Save.ensures.sound.1;
  none = λ at e.
      c.writes.invariant.none at
      (none_by_write c.args.self.now c.writes.seen at c.in-Save.slot c.in-Save.next (sym c.in-Save.ensures.is) e);
}
