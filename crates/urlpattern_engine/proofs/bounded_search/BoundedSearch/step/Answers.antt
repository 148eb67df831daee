use Rattle.std.proofs.Common.{◌+◌, ◌∙◌, sym, ap, arith}
use Rattle.regex_vm.proofs.NfaLemmas.{below_within, resting_unless}
use Rattle.urlpattern_engine.specs.BoundedSearches.{found_from}
use Rattle.urlpattern_engine.proofs.BoundedSearchLemmas.{found_by_write, found_here, none_by_byte, none_by_look, nothing_found, run_by_byte, run_by_look, same_found}
use Rattle.urlpattern_engine.proofs.bounded_search.BoundedSearch.step.Goals as goal

pub returns-in-Save : goal.returns-in-Save
returns-in-Save c =
    let trial = c.args.self.now in
    let save = c.in-Save in
    record {
      is_state = below_within trial.nfa.now save.next c.args.id save.ensures.sound.1;
      is_place = c.requires.place;
      same =
          ap (λ cells. found_from trial cells save.next c.args.at) c.write.ensures
          ∙ found_by_write trial c.args.id c.args.at save.slot save.next (sym save.ensures.is) c.args.cells.now;
    }

pub returns-then-holds : goal.returns-then-holds
returns-then-holds c =
    let trial = c.args.self.now in
    let look = c.in-Look in
    record {
      is_state = below_within trial.nfa.now look.next c.args.id look.ensures.sound;
      is_place = c.requires.place;
      same =
          same_found trial c.args.cells.now c.args.id c.args.at look.next c.args.at
          (run_by_look trial c.args.id c.args.at look.look look.next (sym look.ensures.is) (sym c.if-holds.true ∙ c.holds.ensures));
    }

pub returns-else-holds : goal.returns-else-holds
returns-else-holds c =
    nothing_found c.args.self.now c.args.cells.now c.args.id c.args.at
    (none_by_look c.args.self.now c.args.id c.args.at c.in-Look.look c.in-Look.next (sym c.in-Look.ensures.is) (sym c.if-holds.false ∙ c.holds.ensures))

pub returns-in-Match : goal.returns-in-Match
returns-in-Match c = found_here c.args.self.now c.args.id c.args.at c.args.cells.now (sym c.in-Match.ensures.is)

pub returns-in-Some : goal.returns-in-Some
returns-in-Some c = record {
  is_state = c.in-Some.ensures.within.0;
  is_place = omega (arith, c.in-Some.ensures.within.1);
  same =
      same_found c.args.self.now c.args.cells.now c.args.id c.args.at c.in-Some.next (c.args.at + 1)
      (run_by_byte c.args.self.now c.args.id c.args.at c.state-state.result c.state-state.ensures.is
      (resting_unless c.state-state.result c.in_default.not-Split c.in_default.not-Save c.in_default.not-Look) c.in_default.not-Match
      c.next.result c.next.ensures.is c.in-Some.next c.in-Some.is);
}

pub returns-in-None : goal.returns-in-None
returns-in-None c =
    nothing_found c.args.self.now c.args.cells.now c.args.id c.args.at
    (none_by_byte c.args.self.now c.args.id c.args.at c.state-state.result c.state-state.ensures.is
    (resting_unless c.state-state.result c.in_default.not-Split c.in_default.not-Save c.in_default.not-Look) c.in_default.not-Match
    c.next.result c.next.ensures.is c.in-None.is)

pub returns-in-Split : goal.returns-in-Split
returns-in-Split c = c.choice.ensures c.args.cells.now
