use Rattle.std.proofs.Common.{◌∙◌, sym}
use Rattle.std.proofs.lemmas.Bool.{not-true}
use Rattle.regex_vm.proofs.NfaLemmas.{resting_unless}
use Rattle.urlpattern_engine.proofs.BoundedSearchLemmas.{none_by_byte, none_by_look, none_by_test}
use Rattle.urlpattern_engine.proofs.bounded_search.BoundedSearch.stops.Goals as goal

pub returns-in-Look : goal.returns-in-Look
returns-in-Look c failed =
    none_by_look c.args.self.now c.args.id c.args.at c.in-Look.look c.in-Look.next (sym c.in-Look.ensures.is)
    (sym (not-true _ failed) ∙ c.holds.ensures)

pub returns-in_default : goal.returns-in_default
returns-in_default c none =
    none_by_byte c.args.self.now c.args.id c.args.at c.state-state.result c.state-state.ensures.is
    (resting_unless c.state-state.result c.in_default.not-Split c.in_default.not-Save c.in_default.not-Look) c.in_default.not-Match
    c.next.result c.next.ensures.is (none_by_test c.next.result c.is_none.result none c.is_none.ensures)
