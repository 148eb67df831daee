-- The captures that are requested of the groups of parts.
use Rattle.std.specs.Prelude.{◌≡◌, ℕ, Bool, false, List, [], Option, Some, None, Ok, length, if◌then◌else◌}
use Rattle.std.specs.{Char.is_ascii_digit, Str.IsUtf8, Str.chars}
use Rattle.url.specs.Parser.{Parsed}
use Rattle.urlpattern_canonical.specs.Canonical.{IsRejectedByUrl}
use Rattle.urlpattern_generate.specs.WriteSettings.{WriteSettings}
use Rattle.urlpattern_generate.specs.Links.{OfEachGroup}
use Rattle.urlpattern_meaning.specs.PartMeaning.{Captures, capture_of_no_copies}
use Rattle.urlpattern_syntax.specs.declared.parser.{PartModifier.PartModifier, PartType.PartType}
use Rattle.urlpattern_syntax.specs.{Parts.PartView, Text.begins_with}

-- Whether a group of this kind and name is an unnamed full wildcard, which has a number as its
-- name.
abbrev pub is_unnamed_full_wildcard : PartType → (name : List ℕ) → Bool
is_unnamed_full_wildcard PartType.FullWildcard name = begins_with is_ascii_digit name
is_unnamed_full_wildcard kind name = false

-- The capture requested of a group without a value: the empty text if `is` says that the group may
-- do without a value, as an unnamed wildcard does, otherwise None.
abbrev pub empty_if : Bool → Option (List ℕ)
empty_if is = if is then Some [] else None

-- The capture that is requested of a group without a value, by its modifier: None for `?`, the
-- capture of zero copies for `*`, and otherwise the empty text for an unnamed wildcard. None for
-- any other group, which has to have a value.
abbrev pub capture_by_modifier : PartModifier → PartView → Option (List ℕ)
capture_by_modifier PartModifier.Optional part = None
capture_by_modifier PartModifier.ZeroOrMore part = capture_of_no_copies part
capture_by_modifier modifier part = empty_if (is_unnamed_full_wildcard part.kind part.name)

-- The capture that is requested of a group without a value. None: the group is to be left out, or
-- has to have a value.
abbrev pub default_capture : PartView → Option (List ℕ)
default_capture part = capture_by_modifier part.modifier part

-- The capture is the one requested of the group: the form of its value `given` by `canonical`, or
-- for a group without a value its `default_capture`.
abbrev pub IsRequestedBy : (List ℕ → Parsed (List ℕ)) → (given : Option (List ℕ)) → PartView
    → Option (List ℕ) → Type 0
IsRequestedBy canonical None part capture = capture ≡ default_capture part
IsRequestedBy canonical (Some text) part capture =
    (value : List ℕ) × (canonical text ≡ Ok value) × (capture ≡ Some value)

-- The capture is the one requested of the group: the canonical form of its value, or for a group
-- without a value its `default_capture`.
abbrev pub IsRequested : WriteSettings → PartView → Option (List ℕ) → Type 0
IsRequested settings part capture =
    IsRequestedBy settings.canonical (settings.given part.name) part capture

-- The captures are those that are requested of the groups of the parts, in order.
abbrev pub AreRequested : WriteSettings → List PartView → Captures → Type 0
AreRequested settings = OfEachGroup (IsRequested settings)

-- The group of this name has a value that `url` rejects, or that may be too long.
abbrev pub RejectsGiven : WriteSettings → (name : List ℕ) → Type 0
RejectsGiven settings name =
    (bytes : List ℕ) × IsUtf8 bytes
    × (settings.given name ≡ Some (chars bytes))
    × IsRejectedByUrl (settings.canonical (chars bytes)) (length bytes)
