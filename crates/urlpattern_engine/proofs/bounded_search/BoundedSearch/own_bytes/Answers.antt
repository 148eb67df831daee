use Rattle.std.proofs.Common.{◌≡◌, false, sym, subst}
use Rattle.regex_hir.specs.Looks.{holds}
use Rattle.urlpattern_engine.proofs.BoundedSearchLemmas.{end_is_after, none_by_look, none_past_range}
use Rattle.urlpattern_engine.proofs.bounded_search.BoundedSearch.own_bytes.Goals as goal

pub returns-in-ByteRange : goal.returns-in-ByteRange
returns-in-ByteRange c at inside outside =
    none_past_range c.args.self.now c.args.id at c.in-ByteRange.t c.in-ByteRange.ensures.is inside outside

pub returns-in-Look-End-default : goal.returns-in-Look-End-default
returns-in-Look-End-default c at inside outside =
    let trial = c.args.self.now in
    let found = c.in-Look-End-default in
    none_by_look trial c.args.id at found.look found.next (sym found.ensures.is)
    (subst (λ l. false ≡ holds l trial.bytes.now at) (sym found.look-is) (end_is_after trial.bytes.now at inside))
