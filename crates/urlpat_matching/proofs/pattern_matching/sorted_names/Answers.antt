use Rattle.std.proofs.lemmas.List.Filters.{dedup_is}
use Rattle.urlpat_matching.proofs.GroupNames.{names-in_order}
use Rattle.urlpat_matching.proofs.pattern_matching.sorted_names.Goals as goal

pub returns : goal.returns
returns c =
    rw (dedup_is _ _ _ c.dedup.ensures.filtered)
    (names-in_order c.args.found.now c.args.name c.in_ok-names.names.items c.sort_unstable.new.self.items c.in_ok-names.ensures
    c.sort_unstable.ensures.permutation c.sort_unstable.ensures.sorted)
