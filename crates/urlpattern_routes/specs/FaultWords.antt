-- Faults of a rule in words.
use Rattle.std.specs.Prelude.{ℕ, List, codes}
use Rattle.urlpattern_routes.specs.Names.{member_name}
use Rattle.urlpattern_routes.specs.declared.fault.RouterMember.{RouterMember}
use Rattle.urlpattern_routes.specs.declared.fault.RouterMember.TheVariants as members
use Rattle.urlpattern_routes.specs.declared.fault.RouterReason.{RouterReason}
use Rattle.urlpattern_routes.specs.declared.fault.RouterReason.TheVariants as reasons

-- The name of a member in JSON.
abbrev pub member_text : RouterMember → List ℕ
member_text members.Condition = codes "condition"
member_text members.UrlPattern = codes "urlPattern"
member_text (members.Attribute attribute) = member_name attribute
member_text members.Or = codes "or"
member_text members.Not = codes "not"
member_text members.Source = codes "source"

-- A reason in words, which go after the name of the member.
abbrev pub reason_text : RouterReason → List ℕ
reason_text reasons.Missing = codes "is missing"
reason_text reasons.TooDeep = codes "is within too many conditions"
reason_text reasons.Empty = codes "has no member that is known"
reason_text reasons.NotAlone = codes "has other members beside it"
reason_text reasons.NotAnArray = codes "is no array"
reason_text reasons.NotAText = codes "is no text"
reason_text reasons.NotAPattern = codes "is no text, and no object with texts"
reason_text reasons.NotAMethod = codes "is no method"
reason_text reasons.ForbiddenMethod = codes "is CONNECT, TRACE or TRACK"
reason_text reasons.UnknownName = codes "is none of its names"
reason_text reasons.NoHandler = codes "needs a handler of fetch events"
