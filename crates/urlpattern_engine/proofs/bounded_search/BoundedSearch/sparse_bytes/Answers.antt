use Rattle.std.proofs.Common.{ℕ, Some, ◌-◌, ◌∙◌, sym, ap, arith}
use Rattle.regex_nfa.specs.declared.state.Transition.{Transition}
use Rattle.urlpattern_engine.proofs.BoundedSearchLemmas.{target_in_span}
use Rattle.urlpattern_engine.proofs.bounded_search.BoundedSearch.sparse_bytes.Goals as goal

pub returns-then-byte-t : goal.returns-then-byte-t
returns-then-byte-t c b low high =
    let k = c.transitions.k in
    let t = c.index-t.result.now in
    target_in_span c.args.self.now.nfa.now.transitions.items c.args.to k b t c.transitions-test.true c.requires.1 (sym c.index-t.ensures) low high
    (k - c.args.from) c.args.from (omega (arith, c.transitions.invariant))
    (λ j above below. omega (arith, c.requires.2 j k t above below c.transitions-test.true, ap (λ (x : Transition). x.start) c.index-t.ensures))
    ∙ ap (λ (n : ℕ). Some n) c.if-t-other.false
