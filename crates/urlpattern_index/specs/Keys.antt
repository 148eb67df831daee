-- The hashes of an address, and the keys made of them.
use Rattle.std.specs.Prelude.{◌≡◌, ◌<◌, ℕ, ◌+◌, ◌*◌, ◌%◌, ◌^◌, ◌==◌, if◌then◌else◌, Bool, true, false, List, [], ◌∷◌, ◌++◌, encode_utf8_all, length, slice_index_or, take, Option, None, Some}
use Rattle.std.specs.Hash.FoldHasher as folding
use Rattle.urlpattern_index.specs.FixedTexts.{AddressTexts}
use Rattle.urlpattern_index.specs.declared.address.AddressHashes.{AddressHashes}
use Rattle.urlpattern_index.specs.declared.form.Form.{Form}

-- ---- hashes

-- `hash` with `value` mixed in: `hash` times the 64-bit FNV prime, plus `value`, modulo 2 ^ 64.
unfoldable pub mixed : (hash value : ℕ) → ℕ
mixed hash value = ((hash * 1099511628211) % 2 ^ 64 + value) % 2 ^ 64

-- The hash of the bytes of a text.
abbrev pub text_hash : List ℕ → ℕ
text_hash text = folding.finish (folding.write folding.initial (encode_utf8_all text))

-- The hash of a text; 0 for None.
abbrev pub option_hash : Option (List ℕ) → ℕ
option_hash (Some text) = text_hash text
option_hash None = 0

-- The hashes of the segments of a path, which are separated by slashes; `hash` is the hash of what
-- precedes the path in its first segment.
abbrev pub segment_hashes : (hash : ℕ) → List ℕ → List ℕ
segment_hashes hash [] = hash ∷ []
segment_hashes hash (c ∷ path) =
    if c == 47 then hash ∷ segment_hashes 0 path else segment_hashes (mixed hash c) path

-- The hashes of protocol and hostname, and of the first segments of the path.
pub record Hashes : Type 0 where
  pub protocol : ℕ
  pub hostname : ℕ
  pub segments : List ℕ

-- The hashes of an address, with at most 13 segments.
abbrev pub hashes_of : AddressTexts → Hashes
hashes_of address = record {
  protocol = text_hash address.protocol;
  hostname = text_hash address.hostname;
  segments = take 13 (segment_hashes 0 address.pathname);
}

-- An `AddressHashes`, with its segments as a list.
abbrev pub hashes_view : AddressHashes → Hashes
hashes_view hashes = record {
  protocol = hashes.protocol;
  hostname = hashes.hostname;
  segments = hashes.segments.items;
}

-- ---- keys

-- The form of a key: which texts have a part in the key, of protocol, hostname and each of the
-- first segments of the path (`false`: the segment is arbitrary); and whether the path has no more
-- segments, or has some.
pub record FormView : Type 0 where
  pub uses_protocol : Bool
  pub uses_hostname : Bool
  pub segments : List Bool
  pub is_exact : Bool

-- A `Form`, with its segments as a list.
abbrev pub form_view : Form → FormView
form_view form = record {
  uses_protocol = form.uses_protocol;
  uses_hostname = form.uses_hostname;
  segments = form.segments.items;
  is_exact = form.is_exact;
}

-- A path with `count` segments has as many as a form with `segments` segments requires: equally
-- many if `is_exact`, and more otherwise.
abbrev pub HasSegmentCount : (is_exact : Bool) → (segments count : ℕ) → Type 0
HasSegmentCount true segments count = count ≡ segments
HasSegmentCount false segments count = segments < count

-- The path with these hashes of segments has as many segments as the form requires.
abbrev pub Fits : FormView → Hashes → Type 0
Fits form hashes = HasSegmentCount form.is_exact (length form.segments) (length hashes.segments)

-- The number of a form's group: its number of segments if the form is exact, and 0 otherwise.
abbrev pub group_of_form : FormView → ℕ
group_of_form form = if form.is_exact then length form.segments else 0

-- The forms of the group with this number; empty if there is no such group.
abbrev pub group : List (List FormView) → ℕ → List FormView
group forms number = slice_index_or forms number []

-- The forms that a path with `count` segments can fit.
abbrev pub forms_for : List (List FormView) → (count : ℕ) → List FormView
forms_for forms count = group forms 0 ++ group forms count

-- `hash` with the hashes of segments mixed in, and 1 for each arbitrary segment, which is false in
-- the list.
abbrev pub mixed_segments : (hash : ℕ) → List Bool → (hashes : List ℕ) → ℕ
mixed_segments hash [] hashes = hash
mixed_segments hash (has_text ∷ segments) [] = hash
mixed_segments hash (has_text ∷ segments) (actual ∷ hashes) =
    mixed_segments (mixed hash (if has_text then actual else 1)) segments hashes

-- The key of an address with these hashes, in a form.
abbrev pub form_key : FormView → Hashes → ℕ
form_key form hashes =
    let hosts =
    mixed (if form.uses_protocol then hashes.protocol else 0)
    (if form.uses_hostname then hashes.hostname else 0) in
    mixed (mixed_segments hosts form.segments hashes.segments) (if form.is_exact then 1 else 0)

-- An address with these hashes fits the form, and has `key` in it.
abbrev pub IsKeyBy : FormView → Hashes → (key : ℕ) → Type 0
IsKeyBy form hashes key = Fits form hashes × (key ≡ form_key form hashes)
