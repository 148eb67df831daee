-- Texts that are written, by the outcomes that writing one has.
use Rattle.std.proofs.Common.{◌≡◌, ℕ, List}
use Rattle.std.specs.Prelude.{Some, length, map, slice_get}
use Rattle.urlpattern_ffi.specs.TextBuffers.{IsWrittenTo}
use Rattle.urlpattern_ffi.specs.declared.status.Status.{Status}
use Rattle.urlpattern_ffi.specs.declared.status.Status.TheVariants as statuses
use Rattle.urlpattern_ffi_routes.specs.DecidedRequests.{IsSourceWritten, Rules}
use Rattle.urlpattern_ffi_routes.specs.Numbers.{source_number}
use Rattle.urlpattern_ffi_routes.specs.WrittenFaults.{IsFaultWritten, IsTextAtFaultWritten, place_of_fault, text_at_fault}
use Rattle.urlpattern_ffi_routes.specs.declared.faults.FaultPlace.{FaultPlace}
use Rattle.urlpattern_route_rules.specs.FaultWords.{reason_text}
use Rattle.urlpattern_route_rules.specs.declared.fault.RouteFault.{RouteFault}
use Rattle.urlpattern_routes.specs.Sources.{source_text}
use Rattle.urlpattern_routes.specs.Views.{source_view}
use Rattle.urlpattern_routes.specs.declared.rule.RouterRule.{RouterRule}

pub fault_written : (found : List RouteFault) (index : ℕ) (old new : List ℕ) (needed : ℕ) (place : FaultPlace) (fault : RouteFault) (status : Status) → slice_get found index ≡ Some fault
    → place ≡ place_of_fault fault → needed ≡ length (reason_text fault) → IsWrittenTo (reason_text fault) old new status → IsFaultWritten found index old new needed place status
fault_written found index old new needed place fault statuses.Done at is count written = (fault, at, is, count, written)
fault_written found index old new needed place fault statuses.TooSmall at is count written = (fault, at, is, count, written)
fault_written found index old new needed place fault status at is count written = absurd written

pub text_written : (found : List RouteFault) (index : ℕ) (old new : List ℕ) (needed : ℕ) (fault : RouteFault) (text : List ℕ) (status : Status) → slice_get found index ≡ Some fault
    → text_at_fault fault ≡ Some text → needed ≡ length text → IsWrittenTo text old new status → IsTextAtFaultWritten found index old new needed status
text_written found index old new needed fault text statuses.Done at is count written = (fault, at, (text, is, count, written))
text_written found index old new needed fault text statuses.TooSmall at is count written = (fault, at, (text, is, count, written))
text_written found index old new needed fault text status at is count written = absurd written

pub source_written : (rules : Rules) (index source : ℕ) (old new : List ℕ) (needed : ℕ) (rule : RouterRule) (status : Status) → slice_get (map (λ each. each.value) rules) index ≡ Some rule
    → source ≡ source_number (source_view rule.source) → needed ≡ length (source_text (source_view rule.source)) → IsWrittenTo (source_text (source_view rule.source)) old new status
    → IsSourceWritten rules index source old new needed status
source_written rules index source old new needed rule statuses.Done at is count written = (rule, at, is, count, written)
source_written rules index source old new needed rule statuses.TooSmall at is count written = (rule, at, is, count, written)
source_written rules index source old new needed rule status at is count written = absurd written
