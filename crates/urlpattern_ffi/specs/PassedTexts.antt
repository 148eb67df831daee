-- The eight texts that are matched for what C passes: a path by itself, or parts of one text.
use Rattle.std.specs.Prelude.{◌≡◌, ℕ, List}
use Rattle.std.specs.Str.{chars, IsUtf8}
use Rattle.urlpattern.specs.Paths.{IsPath}
use Rattle.urlpattern_components.specs.Eight.{Texts, at}
use Rattle.urlpattern_components.specs.declared.eight.ComponentName.{ComponentName}
use Rattle.urlpattern_components.specs.declared.eight.ComponentName.TheVariants as names
use Rattle.urlpattern_ffi.specs.declared.passed_texts.EightParts.{EightParts}
use Rattle.urlpattern_ffi.specs.declared.passed_texts.TextPart.{TextPart}
use Rattle.urlpattern_ffi.specs.declared.status.Status.{Status}
use Rattle.urlpattern_ffi.specs.declared.status.Status.TheVariants as statuses
use Rattle.urlpattern_ffi_links.specs.GivenBytes.{IsNoPart, IsPart}
use Rattle.urlpattern_matches.specs.MatchInput.{pathname_alone}

-- ---- paths

-- `path` is a path, and `texts` are those of a path by itself, all other components being empty.
abbrev pub AreTextsOfPath : (path : List ℕ) → Texts → Type 0
AreTextsOfPath path texts = IsPath (chars path) × (texts ≡ pathname_alone (chars path))

-- The status says why bytes are no path. `NoPath`: they are none by `IsPath`.
abbrev pub IsNoPath : (path : List ℕ) → Status → Type 0
IsNoPath path statuses.NotUtf8 = ¬ IsUtf8 path
IsNoPath path statuses.NoPath = ¬ IsPath (chars path)
IsNoPath path status = ⊥

-- ---- parts of one text

-- The part for a component.
abbrev pub part_for : EightParts → ComponentName → TextPart
part_for parts names.Protocol = parts.protocol
part_for parts names.Username = parts.username
part_for parts names.Password = parts.password
part_for parts names.Hostname = parts.hostname
part_for parts names.Port = parts.port
part_for parts names.Pathname = parts.pathname
part_for parts names.Search = parts.search
part_for parts names.Hash = parts.hash

-- `part` is the part of `text` for a component.
abbrev pub IsPartFor : (text : List ℕ) → EightParts → ComponentName → (part : List ℕ) → Type 0
IsPartFor text parts name part =
    IsPart text (part_for parts name).start (part_for parts name).length part

-- `text` has no part for a component: it would lie outside of the text, or is not UTF-8.
abbrev pub IsNoPartFor : (text : List ℕ) → EightParts → ComponentName → Type 0
IsNoPartFor text parts name =
    IsNoPart text (part_for parts name).start (part_for parts name).length

-- The text of each component is its part of `text`.
abbrev pub AreTextsIn : (text : List ℕ) → EightParts → Texts → Type 0
AreTextsIn text parts texts =
    (name : ComponentName)
    → (part : List ℕ) × IsPartFor text parts name part × (at texts name ≡ chars part)

-- `text` has no part for some component.
abbrev pub LacksPart : (text : List ℕ) → EightParts → Type 0
LacksPart text parts = (name : ComponentName) × IsNoPartFor text parts name

-- The status says why there are no eight texts. `NotUtf8`, and no other: `text` has no part for
-- some component.
abbrev pub AreNoTextsIn : (text : List ℕ) → EightParts → Status → Type 0
AreNoTextsIn text parts statuses.NotUtf8 = LacksPart text parts
AreNoTextsIn text parts status = ⊥
