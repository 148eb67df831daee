-- The attributes of a request that a condition may name, and their names.
use Rattle.std.specs.Prelude.{◌≡◌, ◌++◌, ℕ, Bool, not, List, [], ◌∷◌, Err, None, Ok, Option, Result, Some, codes, if◌then◌else◌}
use Rattle.std.specs.List.{list_any}
use Rattle.std.specs.Str.{bytes_eq}
use Rattle.serde_json.specs.Data.{Data}
use Rattle.urlpattern_routes.specs.Methods.{is_forbidden, is_method, normalized}
use Rattle.urlpattern_routes.specs.Texts.{text_read}
use Rattle.urlpattern_routes.specs.declared.attribute.RouterAttribute.{RouterAttribute}
use Rattle.urlpattern_routes.specs.declared.attribute.RouterAttribute.TheVariants.{Destination, Method, Mode, RunningStatus}
use Rattle.urlpattern_routes.specs.declared.fault.RouterReason.{RouterReason}
use Rattle.urlpattern_routes.specs.declared.fault.RouterReason.TheVariants as reasons

-- What is read: a value, or why there is none.
abbrev pub Read : (A : Type 0) → Type 0
Read A = Result A RouterReason

-- `found` is what is read, seen through `view`.
abbrev pub Reads : {A X : Type 0} → (view : X → A) → Read A → (found : Result X RouterReason)
    → Type 0
Reads view read (Ok value) = read ≡ Ok (view value)
Reads view read (Err reason) = read ≡ Err reason

-- The member of a condition that names the attribute.
abbrev pub member_name : RouterAttribute → List ℕ
member_name Method = codes "requestMethod"
member_name Mode = codes "requestMode"
member_name Destination = codes "requestDestination"
member_name RunningStatus = codes "runningStatus"

-- The modes of a request.
abbrev pub modes : List (List ℕ)
modes = codes "cors" ∷ codes "navigate" ∷ codes "no-cors" ∷ codes "same-origin" ∷ []

-- The destinations of requests that rules get.
abbrev pub routed_destinations : List (List ℕ)
routed_destinations =
    codes "" ∷ codes "audio" ∷ codes "compression-dictionary" ∷ codes "document"
    ∷ codes "fencedframe" ∷ codes "font" ∷ codes "frame" ∷ codes "iframe" ∷ codes "image"
    ∷ codes "json" ∷ codes "manifest" ∷ codes "report" ∷ codes "script" ∷ codes "serviceworker"
    ∷ codes "sharedworker" ∷ codes "speculationrules" ∷ codes "style" ∷ codes "text"
    ∷ codes "track" ∷ codes "video" ∷ codes "webbundle" ∷ codes "worker" ∷ codes "xslt" ∷ []

-- The destinations of a request. Requests with the last four reach no rule.
abbrev pub destinations : List (List ℕ)
destinations =
    routed_destinations
    ++ codes "audioworklet" ∷ codes "embed" ∷ codes "object" ∷ codes "paintworklet" ∷ []

-- Whether a service worker is running.
abbrev pub statuses : List (List ℕ)
statuses = codes "running" ∷ codes "not-running" ∷ []

-- Methods that are often used.
abbrev pub methods : List (List ℕ)
methods =
    codes "GET" ∷ codes "POST" ∷ codes "PUT" ∷ codes "DELETE" ∷ codes "HEAD" ∷ codes "PATCH"
    ∷ codes "OPTIONS" ∷ []

-- Names that requests have which rules get: some methods, or all names of another attribute.
abbrev pub names_of : RouterAttribute → List (List ℕ)
names_of Method = methods
names_of Mode = modes
names_of Destination = routed_destinations
names_of RunningStatus = statuses

-- Why a text is no name that is known. None: it is known.
abbrev pub unless_known : (is_known : Bool) → Option RouterReason
unless_known is_known = if is_known then None else Some reasons.UnknownName

-- Why the text is no name of the attribute. None: it is one.
abbrev pub rejection : RouterAttribute → List ℕ → Option RouterReason
rejection Method text =
    if not (is_method text) then Some reasons.NotAMethod
    else if is_forbidden text then Some reasons.ForbiddenMethod
    else None
rejection Mode text = unless_known (list_any (λ name. bytes_eq name text) modes)
rejection Destination text = unless_known (list_any (λ name. bytes_eq name text) destinations)
rejection RunningStatus text = unless_known (list_any (λ name. bytes_eq name text) statuses)

-- A name as it is kept: a method as a request has it, other names as they are.
abbrev pub kept_name : RouterAttribute → List ℕ → List ℕ
kept_name Method text = normalized text
kept_name attribute text = text

-- The name, unless there is a reason to reject it.
abbrev pub unless_rejected : Option RouterReason → (name : List ℕ) → Read (List ℕ)
unless_rejected (Some reason) name = Err reason
unless_rejected None name = Ok name

-- The name of the attribute that a text is, or why it is none.
abbrev pub name_of : RouterAttribute → Option (List ℕ) → Read (List ℕ)
name_of attribute None = Err reasons.NotAText
name_of attribute (Some text) =
    unless_rejected (rejection attribute text) (kept_name attribute text)

-- The name of the attribute that a value is, or why it is none.
abbrev pub name_read : RouterAttribute → Data → Read (List ℕ)
name_read attribute tree = name_of attribute (text_read tree)
