use Rattle.std.proofs.Common.{◌≡◌, true, sym, subst}
use Rattle.regex_hir.specs.Looks.{holds}
use Rattle.urlpattern_engine.proofs.BoundedSearchLemmas.{end_holds, start_holds}
use Rattle.urlpattern_engine.proofs.bounded_search.BoundedSearch.holds.Goals as goal

pub returns-in-End : goal.returns-in-End
returns-in-End c =
    let bytes = c.args.self.now.bytes.now in
    subst (λ l. c.is_none.result ≡ holds l bytes c.args.at) (sym c.in-End.is)
    (end_holds bytes c.args.at _ c.is_none.result c.get.ensures.lookup.0 c.is_none.ensures)

pub returns-in-Start : goal.returns-in-Start
returns-in-Start c =
    let bytes = c.args.self.now.bytes.now in
    subst (λ l. true ≡ holds l bytes c.args.at) (sym c.in-Start.is) (start_holds bytes c.args.at c.if-at-eq0.true)
