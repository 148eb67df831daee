-- The numbers that C has for members, reasons and sources.
use Rattle.std.specs.Prelude.{ℕ}
use Rattle.urlpattern_route_rules.specs.declared.fault.PatternFault.{PatternFault}
use Rattle.urlpattern_route_rules.specs.declared.fault.PatternFault.TheVariants as patterns
use Rattle.urlpattern_routes.specs.Views.{SourceView, cache, fetch_event, named_cache, network, race}
use Rattle.urlpattern_routes.specs.declared.attribute.RouterAttribute.{RouterAttribute}
use Rattle.urlpattern_routes.specs.declared.attribute.RouterAttribute.TheVariants as attributes
use Rattle.urlpattern_routes.specs.declared.fault.RouterMember.{RouterMember}
use Rattle.urlpattern_routes.specs.declared.fault.RouterMember.TheVariants as members
use Rattle.urlpattern_routes.specs.declared.fault.RouterReason.{RouterReason}
use Rattle.urlpattern_routes.specs.declared.fault.RouterReason.TheVariants as reasons

abbrev pub attribute_number : RouterAttribute → ℕ
attribute_number attributes.Method = 3
attribute_number attributes.Mode = 4
attribute_number attributes.Destination = 5
attribute_number attributes.RunningStatus = 6

-- The number of a member. 0 is that of all rules together.
abbrev pub member_number : RouterMember → ℕ
member_number members.Condition = 1
member_number members.UrlPattern = 2
member_number (members.Attribute attribute) = attribute_number attribute
member_number members.Or = 7
member_number members.Not = 8
member_number members.Source = 9

-- The number of the reason why a member is rejected.
abbrev pub reason_number : RouterReason → ℕ
reason_number reasons.Missing = 1
reason_number reasons.TooDeep = 2
reason_number reasons.Empty = 3
reason_number reasons.NotAlone = 4
reason_number reasons.NotAnArray = 5
reason_number reasons.NotAText = 6
reason_number reasons.NotAPattern = 7
reason_number reasons.NotAMethod = 8
reason_number reasons.ForbiddenMethod = 9
reason_number reasons.UnknownName = 10
reason_number reasons.NoHandler = 11

-- The number of the reason why a pattern is rejected.
abbrev pub pattern_reason_number : PatternFault → ℕ
pattern_reason_number (patterns.Rejected diagnosis) = 12
pattern_reason_number (patterns.CustomExpression name) = 13
pattern_reason_number (patterns.Name name) = 14

-- The number of the reason that there are too many rules.
abbrev pub too_many_rules : ℕ
too_many_rules = 15

-- The number of a source. 0 is none.
abbrev pub source_number : SourceView → ℕ
source_number network = 1
source_number fetch_event = 2
source_number cache = 3
source_number (named_cache name) = 4
source_number race = 5
