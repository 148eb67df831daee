-- The groups of a pattern with their texts, cut out of one text. Texts are bytes.
use Rattle.std.specs.Prelude.{◌≡◌, ◌+◌, ◌≤◌, ℕ, Any, List, drop, length, slice_get, take, Some}
use Rattle.std.specs.{Borrow.Bor, List.AllZip, Str.IsUtf8}
use Rattle.urlpattern_components.specs.Eight.{components}
use Rattle.urlpattern_components.specs.declared.eight.ComponentName.{ComponentName}
use Rattle.urlpattern_ffi_links.specs.declared.given.GivenBytes.{GivenBytes}
use Rattle.urlpattern_ffi_links.specs.declared.given_link.Unlinked.{Unlinked}
use Rattle.urlpattern_ffi_links.specs.declared.given_link.Unlinked.TheVariants as unlinked

-- `part` is the part of `text` that begins at byte `start` and has `count` bytes. It is UTF-8.
pub record IsPart (text : List ℕ) (start count : ℕ) (part : List ℕ) : Type 0 where
  pub within : start + count ≤ length text
  pub bytes : part ≡ take count (drop start text)
  pub utf8 : IsUtf8 part

-- `text` has no part that begins at byte `start`, has `count` bytes and is UTF-8.
abbrev pub IsNoPart : (text : List ℕ) → (start count : ℕ) → Type 0
IsNoPart text start count = (part : List ℕ) → ¬ IsPart text start count part

-- A group with its text: the component, the name of the group, and the text for it.
abbrev pub GroupOfBytes : Type 0
GroupOfBytes = ComponentName × Bor (List ℕ) × Bor (List ℕ)

-- `given` cuts the group out of `text`: the number of the component, the part with the name of the
-- group, and the part with the text for the group.
abbrev pub GivesGroup : (text : List ℕ) → GivenBytes → GroupOfBytes → Type 0
GivesGroup text given group =
    (slice_get components given.component ≡ Some group.0)
    × IsPart text given.name_start given.name_length group.1.now
    × IsPart text given.start given.length group.2.now

-- `given` cuts no group out of `text`: no component has the number, or a part is out of range or
-- not UTF-8.
abbrev pub GivesNothing : (text : List ℕ) → GivenBytes → Type 0
GivesNothing text given = (group : GroupOfBytes) → ¬ GivesGroup text given group

-- Each element of the list cuts a group out of `text`.
abbrev pub GiveGroups : (text : List ℕ) → List GivenBytes → Type 0
GiveGroups text given = (groups : List GroupOfBytes) × AllZip (GivesGroup text) given groups

-- The reason why no groups are cut out of `text`: an element of the list cuts out none, or memory
-- ran out although each cuts out one.
abbrev pub RejectsParts : (text : List ℕ) → List GivenBytes → Unlinked → Type 0
RejectsParts text given unlinked.Given = Any (GivesNothing text) given
RejectsParts text given unlinked.OutOfMemory = GiveGroups text given
RejectsParts text given (unlinked.NoLink error) = ⊥
