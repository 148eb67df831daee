-- The memory that a handle points to.
use Rattle.std.specs.Prelude.{◌⊎◌, Option, None, Some}
use Rattle.std.specs.Box.Ownership.{box_owns}
use Rattle.std.specs.Coded.{Coded, coded_option, coded⊎}
use Rattle.std.specs.Global.{Global}
use Rattle.std.specs.contracts.impls.GlobalAllocator.TheImpl.{ghosts}
use base.Fml.{Fml, ftrue}
use denote.RawPtr.{Ptr}
use mathlib.Core.Logic.{inl, inr}
use Rattle.urlpattern_ffi.specs.contracts.pattern_box.PatternBox.{the_row as PatternsRow}
use Rattle.urlpattern_ffi.specs.declared.pattern_box.PatternBox.{PatternBox}
use Rattle.urlpattern_ffi_routes.specs.contracts.routes_box.RoutesBox.{the_row as RoutesRow}
use Rattle.urlpattern_ffi_routes.specs.declared.routes_box.RoutesBox.{RoutesBox}
use Rattle.urlpattern_ffi_tables.specs.contracts.policy_box.PolicyBox.{the_row as PolicyRow}
use Rattle.urlpattern_ffi_tables.specs.contracts.router_box.RouterBox.{the_row as RouterRow}
use Rattle.urlpattern_ffi_tables.specs.declared.policy_box.PolicyBox.{PolicyBox}
use Rattle.urlpattern_ffi_tables.specs.declared.router_box.RouterBox.{RouterBox}

-- What a handle keeps: patterns, a router, a policy, or static routes.
abbrev pub Kept : Type 0
Kept = PatternBox ⊎ RouterBox ⊎ PolicyBox ⊎ RoutesBox

-- How the logic stores what is kept.
abbrev pub coded_kept : Coded (Option Kept)
coded_kept =
    coded_option
    (coded⊎ PatternsRow.coded
    (coded⊎ RouterRow.coded (coded⊎ PolicyRow.coded RoutesRow.coded)))

-- The patterns, if that is what is kept.
abbrev pub kept_patterns_box : Option Kept → Option PatternBox
kept_patterns_box (Some (inl patterns)) = Some patterns
kept_patterns_box kept = None

-- The router, if that is what is kept.
abbrev pub kept_router_box : Option Kept → Option RouterBox
kept_router_box (Some (inr (inl router))) = Some router
kept_router_box kept = None

-- The policy, if that is what is kept.
abbrev pub kept_policy_box : Option Kept → Option PolicyBox
kept_policy_box (Some (inr (inr (inl policy)))) = Some policy
kept_policy_box kept = None

-- The static routes, if that is what is kept.
abbrev pub kept_routes_box : Option Kept → Option RoutesBox
kept_routes_box (Some (inr (inr (inr routes)))) = Some routes
kept_routes_box kept = None

-- The allocator of all handles: the heap of the C library.
abbrev pub heap : Global
heap = record { memory = record { seal = tt } }

-- The memory that a pointer owns. `Some`: the pointer leads to what is kept, owns it, and has the
-- right to free its memory. `None`: it owns nothing.
abbrev pub leads_to : Ptr → Option Kept → Fml
leads_to at None = ftrue
leads_to at (Some (inl patterns)) = box_owns (ghosts.dealloc_token heap) PatternsRow at patterns
leads_to at (Some (inr (inl router))) = box_owns (ghosts.dealloc_token heap) RouterRow at router
leads_to at (Some (inr (inr (inl policy)))) =
    box_owns (ghosts.dealloc_token heap) PolicyRow at policy
leads_to at (Some (inr (inr (inr routes)))) =
    box_owns (ghosts.dealloc_token heap) RoutesRow at routes
