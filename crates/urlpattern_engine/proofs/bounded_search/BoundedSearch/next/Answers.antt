use Rattle.std.proofs.Common.{◌∙◌, sym}
use Rattle.urlpattern_engine.proofs.BoundedSearchLemmas.{next_inside, next_past}
use Rattle.urlpattern_engine.proofs.bounded_search.BoundedSearch.next.Goals as goal

pub returns-then-at-self-clause-is : goal.returns-then-at-self-clause-is
returns-then-at-self-clause-is c =
    c.next_on.ensures.is ∙ sym (next_inside c.args.self.now c.args.state c.args.at c.if-at-self.true)

pub returns-else-at-self-clause-is : goal.returns-else-at-self-clause-is
returns-else-at-self-clause-is c = sym (next_past c.args.self.now c.args.state c.args.at c.if-at-self.false)
