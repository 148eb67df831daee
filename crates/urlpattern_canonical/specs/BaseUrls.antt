-- The URLs of texts, under a base URL if there is one. A text is the list of its bytes.
use Rattle.std.specs.Prelude.{◌≡◌, ℕ, List, [], length, max, Option, None, Some, Ok, MatchOption, unwrap_or}
use Rattle.url.specs.declared.Url.{Url}
use Rattle.url.specs.Parser.{Parsed, and_then, parse_url}
use Rattle.url.specs.Parts.{Parts}
use Rattle.urlpattern_canonical.specs.Canonical.{IsRejectedByUrl}
use Rattle.urlpattern_canonical.specs.declared.base_url.BaseUrl.{BaseUrl}

-- The result of `url` for the text of a base URL. Without a text there is no base URL, and no
-- error.
abbrev pub parsed_base : Option (List ℕ) → Parsed (Option Parts)
parsed_base None = Ok None
parsed_base (Some text) = and_then (parse_url None text) (λ url. Ok (Some url))

-- The length of an optional text, in bytes; 0 without a text.
abbrev pub text_bytes : Option (List ℕ) → ℕ
text_bytes text = length (unwrap_or text [])

-- A parsed base URL, if there is one: the result of `url` for its text, and the length of the text
-- in bytes.
pub record BaseView : Type 0 where
  pub url : Parsed (Option Parts)
  pub bytes : ℕ

-- The parsed base URL of a text; for None, the absence of a base URL.
abbrev pub base_view : (text : Option (List ℕ)) → BaseView
base_view text = record { url = parsed_base text; bytes = text_bytes text }

-- The view of a `BaseUrl`.
abbrev pub kept_base : BaseUrl → BaseView
kept_base base = record { url = Ok base.url; bytes = base.bytes }

-- The result of `url` for `text`, relative to the base URL if there is one.
abbrev pub read_under : BaseView → (text : List ℕ) → Parsed Parts
read_under base text = and_then base.url (λ url. parse_url url text)

-- The result of `url` for `text`, relative to the URL of the text `base` if there is one.
abbrev pub parsed_text : (base : Option (List ℕ)) → (text : List ℕ) → Parsed Parts
parsed_text base text = read_under (base_view base) text

-- `url` parses `text`, relative to the base URL, to this URL.
abbrev pub IsUrlUnder : (text : List ℕ) → BaseView → (url : Parts) → Type 0
IsUrlUnder text base url = read_under base text ≡ Ok url

-- `url` parses `text`, relative to the URL of the text `base`, to this URL.
abbrev pub IsUrlOf : (text : List ℕ) → (base : Option (List ℕ)) → (url : Parts) → Type 0
IsUrlOf text base url = IsUrlUnder text (base_view base) url

-- The length of the text or of the text of the base URL, whichever is longer.
abbrev pub longer_bytes : (text : List ℕ) → BaseView → ℕ
longer_bytes text base = max (length text) base.bytes

-- `url` rejects the text or the base URL, or the longer of their two texts has `long_text` bytes or
-- more, which may be too long for `url`.
abbrev pub IsRejectedUnder : (text : List ℕ) → BaseView → Type 0
IsRejectedUnder text base = IsRejectedByUrl (read_under base text) (longer_bytes text base)

-- `url` rejects `text` or `base`, the text of the base URL, or the longer of the two has
-- `long_text` bytes or more, which may be too long for `url`.
abbrev pub IsRejectedText : (text : List ℕ) → (base : Option (List ℕ)) → Type 0
IsRejectedText text base = IsRejectedUnder text (base_view base)

-- `url` parses `text`, relative to the base URL, to the URL `found`. `None`: `url` rejects either,
-- or the longer of their texts may be too long, as `IsRejectedUnder` says.
abbrev pub FindsUrlUnder : (text : List ℕ) → BaseView → Option Url → Type 0
FindsUrlUnder text base found = MatchOption found (IsRejectedUnder text base) (IsUrlUnder text base)

-- `url` parses `text`, relative to the URL of the text `base`, to the URL `found`. `None`: `url`
-- rejects either, or the longer of the two may be too long, as `IsRejectedText` says.
abbrev pub FindsUrl : (text : List ℕ) → (base : Option (List ℕ)) → Option Url → Type 0
FindsUrl text base found = FindsUrlUnder text (base_view base) found
