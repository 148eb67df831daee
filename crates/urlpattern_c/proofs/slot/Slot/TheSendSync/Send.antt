-- A slot may go to another thread: what it leads to may, and so may the right to free that.
use base.Fraction.{full_share}
use base.Shift.{Keyless}
use denote.Memory.{lone}
use denote.Param.Send.{IsSend, owning_send, part_keyless, sendable}
use denote.RattleType.{RattleType}
use denote.RawPtr.{Ptr, block_ptr, null_ptr}
use mathlib.Core.Logic.{inl, inr}
use mir.Raw.{raw}
use Rattle.std.proofs.Crossing.{frees}
use Rattle.std.specs.Prelude.{Option, None, Some}
use Rattle.urlpattern_c.proofs.Crossing.{patterns_send, policy_send, router_send, routes_send}
use Rattle.urlpattern_c.specs.Memory.{Kept, heap, leads_to}
use Rattle.urlpattern_c.specs.contracts.slot.Slot.{the_row, the_type}
use Rattle.std.specs.Box.Ownership.{box_owns}
use Rattle.std.specs.contracts.impls.GlobalAllocator.TheImpl.{ghosts}
use Rattle.urlpattern_ffi.specs.contracts.pattern_box.PatternBox.{the_row as PatternsRow}
use Rattle.urlpattern_ffi_routes.specs.contracts.routes_box.RoutesBox.{the_row as RoutesRow}
use Rattle.urlpattern_ffi_tables.specs.contracts.policy_box.PolicyBox.{the_row as PolicyRow}
use Rattle.urlpattern_ffi_tables.specs.contracts.router_box.RouterBox.{the_row as RouterRow}

-- The value of a box may go to another thread, and so may the right to free it.
boxed_keyless : (R : RattleType) → IsSend R → (at : Ptr) (kept : R.Denot) → Keyless (box_owns (ghosts.dealloc_token heap) R at kept)
boxed_keyless R sent (block_ptr b o) kept = (part_keyless R sent full_share kept b o, frees.frees heap (raw (lone R.mir)) (block_ptr b o))
boxed_keyless R sent null_ptr kept = (tt, frees.frees heap (raw (lone R.mir)) null_ptr)

leads_keyless : (at : Ptr) (held : Option Kept) → Keyless (leads_to at held)
leads_keyless at None = tt
leads_keyless at (Some (inl patterns)) = boxed_keyless PatternsRow patterns_send at patterns
leads_keyless at (Some (inr (inl router))) = boxed_keyless RouterRow router_send at router
leads_keyless at (Some (inr (inr (inl policy)))) = boxed_keyless PolicyRow policy_send at policy
leads_keyless at (Some (inr (inr (inr routes)))) = boxed_keyless RoutesRow routes_send at routes

pub send : IsSend the_row
send = owning_send the_type (search sendable, tt) (λ slot. leads_keyless slot.at slot.held) (λ k slot w. tt)
