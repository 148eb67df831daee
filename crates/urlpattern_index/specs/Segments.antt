-- What the segments read from a path say of each text that fits it.
use Rattle.std.specs.Prelude.{◌≡◌, ◌≤◌, ℕ, Bool, true, false, List, [], ◌∷◌, ◌++◌, length, Option, None, Some, is_some, unwrap_or}
use Rattle.urlpattern_index.specs.FixedTexts.{AddressTexts, FixedTexts, HasTexts}
use Rattle.urlpattern_index.specs.Keys.{HasSegmentCount, Fits, form_key, form_view, hashes_of, mixed_segments, segment_hashes}
use Rattle.urlpattern_index.specs.Paths.{FitsPath, PathView}
use Rattle.urlpattern_index.specs.declared.form.FormKey.{FormKey}
use Rattle.urlpattern_index.specs.declared.path_segments.PathSegments.{PathSegments}

-- `hashes` and `actual`, hashes of segments, result in equal keys, where only the segments that are
-- true in `are_fixed` count.
abbrev pub HaveEqualKeys : (are_fixed : List Bool) → (hashes actual : List ℕ) → Type 0
HaveEqualKeys are_fixed hashes actual =
    (hash : ℕ) → mixed_segments hash are_fixed actual ≡ mixed_segments hash are_fixed hashes

-- Each text that fits `path` has the segments that were read: equally many if they are exact and
-- more otherwise, with hashes that result in equal keys.
pub record AreSegmentsOf (path : PathView) (segments : PathSegments) : Type 0 where
  pub few : length segments.are_fixed.items ≤ 12
  pub as_many : length segments.hashes.items ≡ length segments.are_fixed.items
  pub enough : (text : List ℕ) → FitsPath path text
      → HasSegmentCount segments.is_exact (length segments.are_fixed.items)
      (length (segment_hashes 0 text))
  pub alike : (text : List ℕ) → FitsPath path text
      → HaveEqualKeys segments.are_fixed.items segments.hashes.items (segment_hashes 0 text)

-- Each address that has the texts of `fixed` fits the form of `place`, and has the key of `place`
-- in that form.
abbrev pub IsFormKeyFor : FixedTexts → FormKey → Type 0
IsFormKeyFor fixed place =
    (address : AddressTexts) → HasTexts fixed address
    → Fits (form_view place.form) (hashes_of address)
    × (place.key ≡ form_key (form_view place.form) (hashes_of address))

-- ---- reading

-- No segment was read yet: the segment being read is the first, and empty.
pub record AreNone (segments : PathSegments) : Type 0 where
  pub texts : segments.are_fixed.items ≡ []
  pub hashes : segments.hashes.items ≡ []
  pub current : segments.current ≡ Some 0
  pub goes_on : segments.is_exact ≡ false

-- At most 12 segments were added, each with a hash, and more may follow.
pub record AreOpen (segments : PathSegments) : Type 0 where
  pub few : length segments.are_fixed.items ≤ 12
  pub as_many : length segments.hashes.items ≡ length segments.are_fixed.items
  pub goes_on : segments.is_exact ≡ false

-- From `before` to `after`, the segment being read is added, with the hash of its text or as an
-- arbitrary segment, and an empty segment begins.
pub record AddsSegment (before after : PathSegments) : Type 0 where
  pub are_open : AreOpen after
  pub texts : after.are_fixed.items ≡ before.are_fixed.items ++ is_some before.current ∷ []
  pub hashes : after.hashes.items ≡ before.hashes.items ++ unwrap_or before.current 0 ∷ []
  pub current : after.current ≡ Some 0

-- `actual` is `current`, the hash of the segment being read; for None, an arbitrary segment, it may
-- be any hash.
abbrev pub IsCurrent : (current : Option ℕ) → (actual : ℕ) → Type 0
IsCurrent (Some hash) actual = actual ≡ hash
IsCurrent None actual = Unit {0}

-- `path` is read up to `rest`: `done` has the hashes of the segments before the one being read, and
-- agrees with `segments`; `actual` is the hash of the text before `rest` in the segment being read.
pub record IsReadTo (segments : PathSegments) (path rest : List ℕ) : Type 0 where
  pub done : List ℕ
  pub actual : ℕ
  pub cut : segment_hashes 0 path ≡ done ++ segment_hashes actual rest
  pub as_many : length done ≡ length segments.are_fixed.items
  pub alike : HaveEqualKeys segments.are_fixed.items segments.hashes.items done
  pub is_current : IsCurrent segments.current actual

-- `path` is read up to `rest`, what follows the text or the part read last, if that was read to its
-- end (`to_end`); otherwise reading stopped within it, and `path` is read up to some text.
abbrev pub ReadsTo : (to_end : Bool) → PathSegments → (path rest : List ℕ) → Type 0
ReadsTo true segments path rest = IsReadTo segments path rest
ReadsTo false segments path rest = (left : List ℕ) × IsReadTo segments path left
