-- Lemmas on the output of `route`.
use Rattle.std.proofs.Common.{◌≡◌, ℕ, Bool, List, Option, refl, subst, sym}
use Rattle.urlpat_matching.specs.Tables.{EntryView}
use Rattle.urlpat_matching.specs.declared.command.RouteArguments.{RouteArguments}
use Rattle.urlpat_matching.specs.declared.command.RouteShape.{RouteShape}
use Rattle.urlpat_matching.specs.declared.command.RouteShape.TheVariants as route_shapes
use Rattle.urlpat_matching.specs.declared.table.Entry.{Entry}
use Rattle.urlpat_tables.specs.FirstRules.{Rules}
use Rattle.urlpat_tables.specs.Summaries.{RoutesBy, Summarizes}
use Rattle.urlpat_tables.specs.TableRoutes.{RoutesTo, row_shape}

module _ (routes : Rules Entry) (entries : List EntryView) (asked : RouteArguments) (status : ℕ) (input old new : Option (List ℕ)) where
  -- A summary is asked for.
  pub by-summary : (shape : RouteShape) (bars : Bool) → shape ≡ route_shapes.Summary bars → Summarizes routes entries bars asked.lines status input old new
      → RoutesBy shape routes entries asked status input old new
  by-summary shape bars is summarizes = subst (λ (it : RouteShape). RoutesBy it routes entries asked status input old new) (sym is) summarizes

  -- No summary is asked for.
  pub by-lines : (shape : RouteShape) → ((bars : Bool) → shape ≡ route_shapes.Summary bars → ⊥) → RoutesTo (row_shape asked) routes asked.lines status input old new
      → RoutesBy shape routes entries asked status input old new
  by-lines route_shapes.Rows other routed = routed
  by-lines route_shapes.RowsWithLines other routed = routed
  by-lines route_shapes.Json other routed = routed
  by-lines (route_shapes.Summary bars) other routed = absurd (other bars refl)
