-- Faults of static routes, as reported to C.
use Rattle.std.specs.Prelude.{◌≡◌, ◌+◌, ◌-◌, ◌^◌, ℕ, List, None, Option, Some, length, slice_get, string_bytes}
use Rattle.urlpattern_ffi.specs.Mismatches.{component_number}
use Rattle.urlpattern_ffi.specs.ReportedDiagnoses.{init_subject_number, place_of_diagnosis}
use Rattle.urlpattern_ffi.specs.TextBuffers.{IsWrittenTo, WritesToBuffer}
use Rattle.urlpattern_ffi.specs.declared.diagnosing.Place.{Place}
use Rattle.urlpattern_ffi.specs.declared.status.Status.{Status}
use Rattle.urlpattern_ffi.specs.declared.status.Status.TheVariants as statuses
use Rattle.urlpattern_ffi_routes.specs.Numbers.{member_number, pattern_reason_number, reason_number, too_many_rules}
use Rattle.urlpattern_ffi_routes.specs.declared.faults.FaultPlace.{FaultPlace}
use Rattle.urlpattern_route_rules.specs.FaultWords.{reason_text}
use Rattle.urlpattern_route_rules.specs.declared.fault.PatternFault.{PatternFault}
use Rattle.urlpattern_route_rules.specs.declared.fault.PatternFault.TheVariants as patterns
use Rattle.urlpattern_route_rules.specs.declared.fault.RouteFault.{RouteFault}
use Rattle.urlpattern_route_rules.specs.declared.fault.RouteFault.TheVariants as faults
use Rattle.urlpattern_routes.specs.declared.fault.RouterMember.TheVariants as members

-- No part of the text with this number.
abbrev pub nowhere : (subject : ℕ) → Place
nowhere subject = record { subject = subject; start = 0; end = 0 }

-- The place of a fault in a pattern: that of its diagnosis, or a component as a whole.
abbrev pub pattern_place : PatternFault → Place
pattern_place (patterns.Rejected diagnosis) =
    place_of_diagnosis (init_subject_number diagnosis.subject) diagnosis
pattern_place (patterns.CustomExpression name) = nowhere (2 + component_number name)
pattern_place (patterns.Name name) = nowhere (2 + component_number name)

-- What is written in place of the index of a rule where all rules are at fault.
abbrev pub all_rules : ℕ
all_rules = 2 ^ 64 - 1

-- The place of a fault: the index of the rule, the numbers of the member and of the reason, and the
-- place in the pattern.
abbrev pub place_of_fault : RouteFault → FaultPlace
place_of_fault faults.TooManyRules =
    record { rule = all_rules; member = 0; reason = too_many_rules; place = nowhere 0 }
place_of_fault (faults.Member rule fault) = record {
  rule = rule;
  member = member_number fault.member;
  reason = reason_number fault.reason;
  place = nowhere 0;
}
place_of_fault (faults.Pattern rule fault) = record {
  rule = rule;
  member = member_number members.UrlPattern;
  reason = pattern_reason_number fault;
  place = pattern_place fault;
}

-- The outcome of writing the fault at `index`, and why it is one. `NoPattern`: there is no such
-- fault.
abbrev pub IsFaultWritten : List RouteFault → (index : ℕ) → (old new : List ℕ) → (needed : ℕ)
    → FaultPlace → Status → Type 0
IsFaultWritten found index old new needed place statuses.NoPattern =
    (slice_get found index ≡ None) × (new ≡ old)
IsFaultWritten found index old new needed place status =
    (fault : RouteFault) × (slice_get found index ≡ Some fault)
    × (place ≡ place_of_fault fault) × (needed ≡ length (reason_text fault))
    × IsWrittenTo (reason_text fault) old new status

-- The text that the diagnosis of a pattern shows. None: the fault is not of a pattern that is
-- rejected.
abbrev pub text_at_fault : RouteFault → Option (List ℕ)
text_at_fault (faults.Pattern rule (patterns.Rejected diagnosis)) =
    Some (string_bytes diagnosis.text)
text_at_fault fault = None

-- The outcome of writing the text at fault (`text_at_fault`) of the fault at `index`. `NoMatch`:
-- there is none. `NoPattern`: there is no such fault.
abbrev pub IsTextAtFaultWritten : List RouteFault → (index : ℕ) → (old new : List ℕ)
    → (needed : ℕ) → Status → Type 0
IsTextAtFaultWritten found index old new needed statuses.NoPattern =
    (slice_get found index ≡ None) × (new ≡ old)
IsTextAtFaultWritten found index old new needed statuses.NoMatch =
    (fault : RouteFault) × (slice_get found index ≡ Some fault)
    × (text_at_fault fault ≡ None) × (new ≡ old)
IsTextAtFaultWritten found index old new needed status =
    (fault : RouteFault) × (slice_get found index ≡ Some fault)
    × WritesToBuffer (λ text. text_at_fault fault ≡ Some text) old new needed status
