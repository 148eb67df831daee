-- Canonical values as results of `url`, after the URLPattern Standard, section "Canonicalization",
-- and the values of an init, section "Processing". A text is a list of characters; the functions of
-- `url` are on bytes.
use Rattle.std.specs.Prelude.{◌≡◌, ◌≢◌, ℕ, ◌^◌, ◌≤◌, ◌⊎◌, Bool, true, false, ◌||◌, ◌==◌, ltb, List, [], ◌∷◌, ◌++◌, drop, map, nat_eq, codes, encode_utf8_all, slice_index, bytes_eq, Option, Some, None, unwrap_or, option_copied, length, max, Result, Ok, Err, IsErrAnd, MatchResult, String, if◌then◌else◌}
use Rattle.std.specs.Borrow.{Bor}
use Rattle.std.specs.Char.{is_ascii_hexdigit, to_ascii_lowercase}
use Rattle.std.specs.List.{list_all, starts_with}
use Rattle.std.specs.declared.alloc.Global.{Global}
use Rattle.url.specs.declared.error.ParseError.{ParseError}
use Rattle.url.specs.declared.error.ParseError.TheVariants.{InvalidDomainCharacter, InvalidIpv6Address, InvalidPort, Overflow, OutOfMemory}
use Rattle.url.specs.declared.slicing.Position.TheVariants.{BeforePort, AfterPort}
use Rattle.url.specs.Ascii.{colon, number_sign, question_mark, slash}
use Rattle.url.specs.Host.{host_text}
use Rattle.url.specs.Parser.{Parsed, and_then, parse_url}
use Rattle.url.specs.Parts.{Parts, host_or_empty, text_between}
use Rattle.url.specs.Quirks as quirks
use Rattle.url.specs.Setters.{set_fragment, set_password, set_path, set_query, set_username}
use Rattle.urlpattern_canonical.specs.declared.canonicalize_and_process.ProcessType.{ProcessType}
use Rattle.urlpattern_syntax.specs.PatternText.{escaped_pattern}
use Rattle.urlpattern_syntax.specs.declared.error.Error.{Error}
use Rattle.urlpattern_syntax.specs.Errors.{ErrorView, MemoryOr, error_view}
use Rattle.urlpattern_syntax.specs.Text.{begins_with, chars, is_among, option_text, text_of}

-- ---- results of `url`, for the bytes of a value that is not empty

-- The URL on which most values are set to make them canonical.
abbrev pub dummy_url : Parsed Parts
dummy_url = parse_url None (codes "http://dummy.test")

-- The URL on which opaque paths are set.
abbrev pub opaque_url : Parsed Parts
opaque_url = parse_url None (codes "data:dummy,test")

-- The result of `url` for `scheme://dummy.test`, on which protocols and ports are made canonical.
abbrev pub dummy_of_scheme : List ℕ → Parsed Parts
dummy_of_scheme scheme = parse_url None (scheme ++ codes "://dummy.test")

-- What `get` reads from the URL after `set` changed it.
abbrev pub get_after_set : Parsed Parts → (Parts → Parsed Parts) → (Parts → List ℕ)
    → Parsed (List ℕ)
get_after_set url set get = and_then url (λ old. and_then (set old) (λ new. Ok (get new)))

-- The result, with `reason` in place of any error.
abbrev pub rejected_as : {T : Type 0} → ParseError → Parsed T → Parsed T
rejected_as reason (Ok x) = Ok x
rejected_as reason (Err other) = Err reason

-- The scheme of a URL that begins with the value.
abbrev pub protocol_of : List ℕ → Parsed (List ℕ)
protocol_of value = and_then (dummy_of_scheme value) (λ url. Ok url.scheme)

-- The `hostname` of the URL Standard's API, without a port, after the value was set on the dummy
-- URL.
abbrev pub hostname_of : List ℕ → Parsed (List ℕ)
hostname_of value =
    get_after_set dummy_url (λ url.
    rejected_as InvalidDomainCharacter (quirks.set_host url value false))
    (λ url. host_text (host_or_empty url))

-- The `port` of the URL Standard's API after `value` was set on a URL of the scheme.
abbrev pub port_of : (scheme value : List ℕ) → Parsed (List ℕ)
port_of scheme value =
    get_after_set (dummy_of_scheme scheme) (λ url.
    rejected_as InvalidPort (quirks.set_port url value))
    (λ url. text_between url BeforePort AfterPort)

-- The path of a URL after it was set to the value.
abbrev pub path_of : Parsed Parts → List ℕ → Parsed (List ℕ)
path_of url value = get_after_set url (λ old. Ok (set_path old value)) (λ new. new.path)

-- The path without an initial `/-`. The Rust crate tests for the two characters; the standard
-- removes any two.
abbrev pub without_added_prefix : List ℕ → List ℕ
without_added_prefix path = if starts_with nat_eq path (codes "/-") then drop 2 path else path

-- The path of the dummy URL after it was set to the value. `/-` is put before a value without an
-- initial slash, and removed from the path if still there.
abbrev pub pathname_of : List ℕ → Parsed (List ℕ)
pathname_of value =
    if slice_index value 0 == slash then path_of dummy_url value
    else and_then (path_of dummy_url (codes "/-" ++ value)) (λ path. Ok (without_added_prefix path))

-- ---- canonical values

-- The canonical form of a text: the result of `ask`, a call of `url`, for the bytes of the text.
-- The empty text is its own canonical form.
abbrev pub canonical : (List ℕ → Parsed (List ℕ)) → List ℕ → Parsed (List ℕ)
canonical ask [] = Ok []
canonical ask (c ∷ text) = and_then (ask (encode_utf8_all (c ∷ text))) (λ answer. Ok (chars answer))

-- The canonical form of a protocol.
abbrev pub canonical_protocol : List ℕ → Parsed (List ℕ)
canonical_protocol text = canonical protocol_of text

-- The canonical form of a user name.
abbrev pub canonical_username : List ℕ → Parsed (List ℕ)
canonical_username text =
    canonical
    (λ value. get_after_set dummy_url (λ url. set_username url value) (λ url. url.username))
    text

-- The canonical form of a password.
abbrev pub canonical_password : List ℕ → Parsed (List ℕ)
canonical_password text =
    canonical
    (λ value. get_after_set dummy_url (λ url. set_password url (Some value)) (λ url. url.password))
    text

-- The canonical form of a hostname.
abbrev pub canonical_hostname : List ℕ → Parsed (List ℕ)
canonical_hostname text = canonical hostname_of text

-- Whether the character may occur in an IPv6 address in brackets.
abbrev pub is_ipv6_character : ℕ → Bool
is_ipv6_character c = is_ascii_hexdigit c || is_among (codes "[]:") c

-- The canonical form of an IPv6 address in brackets: in lower case, or an error if it has any other
-- character than hexadecimal digits, colons and brackets.
abbrev pub canonical_ipv6_hostname : List ℕ → Parsed (List ℕ)
canonical_ipv6_hostname text =
    if list_all is_ipv6_character text then Ok (map to_ascii_lowercase text)
    else Err InvalidIpv6Address

-- The scheme of the URL on which a port is set: the protocol, or `dummy` if that is empty.
abbrev pub scheme_for_port : List ℕ → List ℕ
scheme_for_port [] = codes "dummy"
scheme_for_port (c ∷ protocol) = c ∷ protocol

-- The canonical form of a port, empty if it is the default port of the protocol.
abbrev pub canonical_port : Option (List ℕ) → List ℕ → Parsed (List ℕ)
canonical_port protocol text =
    canonical (port_of (encode_utf8_all (scheme_for_port (unwrap_or protocol [])))) text

-- The canonical form of a path that is a list of segments.
abbrev pub canonical_pathname : List ℕ → Parsed (List ℕ)
canonical_pathname text = canonical pathname_of text

-- The canonical form of an opaque path.
abbrev pub canonical_opaque_pathname : List ℕ → Parsed (List ℕ)
canonical_opaque_pathname text = canonical (path_of opaque_url) text

-- The canonical form of a query, which has no question mark before it.
abbrev pub canonical_search : List ℕ → Parsed (List ℕ)
canonical_search text =
    canonical (λ value. get_after_set dummy_url (λ url. Ok (set_query url (Some value))) (λ url.
    unwrap_or url.query [])) text

-- The canonical form of a fragment, which has no number sign before it.
abbrev pub canonical_hash : List ℕ → Parsed (List ℕ)
canonical_hash text =
    canonical (λ value. get_after_set dummy_url (λ url. Ok (set_fragment url (Some value))) (λ url.
    unwrap_or url.fragment [])) text

-- ---- rejections

-- A text of this many bytes may be too long for `url`, which limits a whole URL to 4 GB. No shorter
-- text is.
abbrev pub long_text : ℕ
long_text = 2 ^ 24

-- The error that is reported for an error of `url` on texts of at most `bytes` bytes: out of memory
-- for an overflow if `bytes` is less than `long_text`.
abbrev pub reported_error : ParseError → (bytes : ℕ) → ErrorView
reported_error OutOfMemory bytes = ErrorView.OutOfMemory
reported_error Overflow bytes =
    if ltb bytes long_text then ErrorView.OutOfMemory else ErrorView.Url Overflow
reported_error reason bytes = ErrorView.Url reason

-- `answer` is what `url` returned for texts of at most `bytes` bytes. `result` is the same value,
-- or the error that is reported for the error of `url`.
abbrev pub IsReported : {T : Type 0} → (answer : Result T ParseError) → (bytes : ℕ) → Result T Error
    → Type 0
IsReported answer bytes result =
    MatchResult answer (λ value. result ≡ Ok value) (λ reason. IsErrAnd result (λ error.
    error_view error ≡ reported_error reason bytes))

-- `asked`, a result of `url` for texts of at most `bytes` bytes, is an error, or the texts may be
-- too long.
abbrev pub IsRejectedByUrl : {T : Type 0} → Parsed T → (bytes : ℕ) → Type 0
IsRejectedByUrl asked bytes = ((reason : ParseError) × (asked ≡ Err reason)) ⊎ (long_text ≤ bytes)

-- The error reports `asked`, a result of `url` for texts of at most `bytes` bytes: the error that
-- it is, or an overflow if the texts may be too long. Out of memory is not reported as an error of
-- a URL.
abbrev pub Reports : {T : Type 0} → Parsed T → (bytes : ℕ) → ErrorView → Type 0
Reports asked bytes (ErrorView.Url reason) =
    (reason ≢ OutOfMemory) × ((asked ≡ Err reason) ⊎ ((reason ≡ Overflow) × (long_text ≤ bytes)))
Reports asked bytes error = ⊥

-- `result` is the text of `asked`, a result of `url` for texts of at most `bytes` bytes; or an
-- error that reports `asked`, or out of memory.
abbrev pub IsResult : Parsed (List ℕ) → (bytes : ℕ) → Result (String Global) Error → Type 0
IsResult asked bytes result =
    MatchResult result (λ text. asked ≡ Ok (text_of text)) (MemoryOr (Reports asked bytes))

-- The length of a port or of its protocol, whichever is longer, in bytes.
abbrev pub port_bytes : (port : List ℕ) → (protocol : Option (Bor (List ℕ))) → ℕ
port_bytes port protocol = max (length port) (length (unwrap_or (option_copied protocol) []))

-- ---- values of an init

-- The text without its last character, if that is the mark.
abbrev pub without_last : ℕ → List ℕ → List ℕ
without_last mark [] = []
without_last mark (c ∷ []) = if c == mark then [] else c ∷ []
without_last mark (c ∷ next ∷ text) = c ∷ without_last mark (next ∷ text)

-- The text without its first character, if that is the mark.
abbrev pub without_first : ℕ → List ℕ → List ℕ
without_first mark [] = []
without_first mark (c ∷ text) = if c == mark then text else c ∷ text

-- The character `{`.
abbrev pub left_brace : ℕ
left_brace = slice_index (codes "{") 0

-- The number of bytes that are passed to `url` for a value of `bytes` bytes: 0 for a pattern.
abbrev pub bytes_passed : ProcessType → ℕ → ℕ
bytes_passed ProcessType.Pattern bytes = 0
bytes_passed ProcessType.Url bytes = bytes

-- The value of an init: unchanged for a pattern, the result of `make_canonical` for a URL.
abbrev pub processed : ProcessType → (List ℕ → Parsed (List ℕ)) → List ℕ → Parsed (List ℕ)
processed ProcessType.Pattern make_canonical text = Ok text
processed ProcessType.Url make_canonical text = make_canonical text

-- The protocol of an init: without a final colon, and canonical for a URL.
abbrev pub processed_protocol : ProcessType → List ℕ → Parsed (List ℕ)
processed_protocol mode text = processed mode canonical_protocol (without_last colon text)

-- The user name of an init: unchanged for a pattern, canonical for a URL.
abbrev pub processed_username : ProcessType → List ℕ → Parsed (List ℕ)
processed_username mode text = processed mode canonical_username text

-- The password of an init: unchanged for a pattern, canonical for a URL.
abbrev pub processed_password : ProcessType → List ℕ → Parsed (List ℕ)
processed_password mode text = processed mode canonical_password text

-- The hostname of an init: unchanged for a pattern, canonical for a URL.
abbrev pub processed_hostname : ProcessType → List ℕ → Parsed (List ℕ)
processed_hostname mode text = processed mode canonical_hostname text

-- The port of an init: unchanged for a pattern; for a URL canonical, and empty if it is the default
-- port of the protocol.
abbrev pub processed_port : ProcessType → (protocol : Option (List ℕ)) → List ℕ → Parsed (List ℕ)
processed_port mode protocol text = processed mode (canonical_port protocol) text

-- The special schemes, with their default ports. `file` has none.
abbrev pub special_schemes : List (List ℕ × Option (List ℕ))
special_schemes =
    (codes "http", Some (codes "80"))
    ∷ (codes "https", Some (codes "443"))
    ∷ (codes "ws", Some (codes "80"))
    ∷ (codes "wss", Some (codes "443"))
    ∷ (codes "ftp", Some (codes "21"))
    ∷ (codes "file", None)
    ∷ []

-- Whether the text is one of the schemes in the list.
abbrev pub scheme_among : List (List ℕ × Option (List ℕ)) → List ℕ → Bool
scheme_among [] text = false
scheme_among (scheme ∷ schemes) text = bytes_eq text scheme.0 || scheme_among schemes text

-- The default port of the scheme `text` in the list. `None`: the scheme is not in the list, or has
-- no default port.
abbrev pub port_among : List (List ℕ × Option (List ℕ)) → List ℕ → Option (List ℕ)
port_among [] text = None
port_among (scheme ∷ schemes) text =
    if bytes_eq text scheme.0 then scheme.1 else port_among schemes text

-- Whether the text is a special scheme.
abbrev pub is_special : List ℕ → Bool
is_special text = scheme_among special_schemes text

-- The default port of a scheme. `None`: the scheme is not special, or is `file`.
abbrev pub default_port : List ℕ → Option (List ℕ)
default_port text = port_among special_schemes text

-- Whether any path under the protocol is hierarchical: there is a protocol, and it is empty or
-- special.
abbrev pub is_hierarchical_under : Option (List ℕ) → Bool
is_hierarchical_under None = false
is_hierarchical_under (Some []) = true
is_hierarchical_under (Some (c ∷ protocol)) = is_special (c ∷ protocol)

-- Whether a path is hierarchical, a list of segments: by its protocol, or by an initial slash. Any
-- other path is opaque.
abbrev pub is_hierarchical : (protocol : Option (List ℕ)) → (pathname : List ℕ) → Bool
is_hierarchical protocol pathname =
    is_hierarchical_under protocol || begins_with (λ c. c == slash) pathname

-- The pathname of an init: unchanged for a pattern; for a URL canonical, as a hierarchical or as an
-- opaque path.
abbrev pub processed_pathname : ProcessType → (protocol : Option (List ℕ)) → List ℕ
    → Parsed (List ℕ)
processed_pathname mode protocol text =
    processed mode (λ path.
    if is_hierarchical protocol path then canonical_pathname path
    else canonical_opaque_pathname path) text

-- `result` is the port of an init under the protocol, the error that `url` reports, or out of
-- memory.
abbrev pub IsPortResult : ProcessType → (port : List ℕ) → (protocol : Option (Bor (List ℕ)))
    → Result (String Global) Error → Type 0
IsPortResult mode port protocol result =
    IsResult (processed_port mode (option_text protocol) (chars port))
    (bytes_passed mode (port_bytes port protocol)) result

-- `result` is the pathname of an init under the protocol, the error that `url` reports, or out of
-- memory.
abbrev pub IsPathnameResult : ProcessType → (pathname : List ℕ) → (protocol : Option (Bor (List ℕ)))
    → Result (String Global) Error → Type 0
IsPathnameResult mode pathname protocol result =
    IsResult (processed_pathname mode (option_text protocol) (chars pathname))
    (bytes_passed mode (length pathname)) result

-- The search of an init: without an initial question mark, and canonical for a URL.
abbrev pub processed_search : ProcessType → List ℕ → Parsed (List ℕ)
processed_search mode text = processed mode canonical_search (without_first question_mark text)

-- The hash of an init: without an initial number sign, and canonical for a URL.
abbrev pub processed_hash : ProcessType → List ℕ → Parsed (List ℕ)
processed_hash mode text = processed mode canonical_hash (without_first number_sign text)

-- A text that an init takes over from its base URL: escaped for a pattern, unchanged for a URL.
abbrev pub processed_base : ProcessType → List ℕ → List ℕ
processed_base ProcessType.Pattern text = escaped_pattern text
processed_base ProcessType.Url text = text
