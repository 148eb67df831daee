use Rattle.std.proofs.Common.{refl, rules}
use Rattle.std.proofs.lemmas.Fn.{filter_same}
use Rattle.urlpat_routes.proofs.comparing.differences.Goals as goal
use Rattle.urlpat_routes.specs.RouteUses.{is_change}

pub returns-clause-are : goal.returns-clause-are
returns-clause-are g c =
    let old = c.args.old.now.table.rules.items in
    let new = c.args.new.now.table.rules.items in (
      c.in_ok-found.found,
      c.in_ok-found.ensures.are,
      refl,
      filter_same _ (is_change old new) _ (λ x b f t. search rules) c.in_ok-found.found.found.items c.retain.new.self.items c.retain.ensures.filtered,
    )
