-- Faults of a rule.
use Rattle.std.specs.Prelude.{Bool, List, [], ◌∷◌, if◌then◌else◌}
use Rattle.urlpattern_routes.specs.declared.fault.RouterFault.{RouterFault}
use Rattle.urlpattern_routes.specs.declared.fault.RouterMember.{RouterMember}
use Rattle.urlpattern_routes.specs.declared.fault.RouterReason.{RouterReason}

-- The fault of a member.
abbrev pub fault : RouterMember → RouterReason → RouterFault
fault member reason = record { member = member; reason = reason }

-- The fault of a member, if the test is not met.
abbrev pub fault_unless : (is_met : Bool) → RouterMember → RouterReason → List RouterFault
fault_unless is_met member reason = if is_met then [] else fault member reason ∷ []
