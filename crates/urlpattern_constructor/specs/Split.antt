-- The components of a constructor string, after the URLPattern Standard, section "Constructor
-- string parsing".
use Rattle.std.specs.Prelude.{◌≡◌, ℕ, zero, suc, ◌+◌, ◌-◌, ◌<◌, ◌≤◌, ◌⊎◌, Bool, true, false, not, ◌&&◌, ◌||◌, ◌==◌, List, [], ◌++◌, length, codes, Option, Some, None, IsTrue, IsSomeAnd, slice_get, slice_range}
use Rattle.std.specs.List.{count_by, fold, range_with_len}
use Rattle.std.specs.{Option.option_map_or, Str.bytes_eq}
use Rattle.urlpattern_constructor.specs.declared.sections.Section.{Section}
use Rattle.urlpattern_constructor.specs.declared.sections.Section.TheVariants.{Protocol, Authority, Username, Password, Hostname, Port, Pathname, Search, Hash}
use Rattle.urlpattern_components.specs.declared.eight.Eight.{Eight}
use Rattle.urlpattern_syntax.specs.Text.{byte_len}
use Rattle.urlpattern_syntax.specs.declared.tokenizer.TokenType.{TokenType}
use Rattle.urlpattern_syntax.specs.Tokens.{AreLenientTokens, TokenView}

-- ---- the token at a position

-- Whether the list has a token at `position`, and this token passes the test.
abbrev pub passes_at : (TokenView → Bool) → List TokenView → ℕ → Bool
passes_at test tokens position = option_map_or test (slice_get tokens position) false

-- Whether a token of this kind opens a group in braces.
abbrev pub is_open : TokenType → Bool
is_open TokenType.Open = true
is_open kind = false

-- Whether a token of this kind is the last, End.
abbrev pub is_end : TokenType → Bool
is_end TokenType.End = true
is_end kind = false

-- Whether the token at `position` is End.
abbrev pub ends_at : List TokenView → ℕ → Bool
ends_at tokens position = passes_at (λ token. is_end token.kind) tokens position

-- ---- signs

-- Whether a token of this kind is a character: literal, escaped, or one at which no other token
-- begins.
abbrev pub is_character : TokenType → Bool
is_character TokenType.Char = true
is_character TokenType.EscapedChar = true
is_character TokenType.InvalidChar = true
is_character kind = false

-- Whether the token is the character `mark`, given as a text: literal, escaped, or one at which no
-- other token begins.
abbrev pub is_non_special_pattern_char : (mark : List ℕ) → TokenView → Bool
is_non_special_pattern_char mark token = is_character token.kind && bytes_eq token.value mark

-- Whether the token at `position` is a colon, which ends a protocol, a username or a hostname.
abbrev pub is_colon_sign : List TokenView → ℕ → Bool
is_colon_sign tokens position = passes_at (is_non_special_pattern_char (codes ":")) tokens position

-- Whether the token at `position` is an at sign, which ends a username or a password.
abbrev pub is_at_sign : List TokenView → ℕ → Bool
is_at_sign tokens position = passes_at (is_non_special_pattern_char (codes "@")) tokens position

-- Whether the token at `position` is a slash. Two slashes begin an authority, and one a pathname.
abbrev pub is_slash_sign : List TokenView → ℕ → Bool
is_slash_sign tokens position = passes_at (is_non_special_pattern_char (codes "/")) tokens position

-- Whether the token at `position` is a number sign, which begins the hash.
abbrev pub is_hash_sign : List TokenView → ℕ → Bool
is_hash_sign tokens position = passes_at (is_non_special_pattern_char (codes "#")) tokens position

-- Whether a question mark after a token of this kind is a modifier.
abbrev pub takes_modifier : TokenType → Bool
takes_modifier TokenType.Name = true
takes_modifier TokenType.Regexp = true
takes_modifier TokenType.Close = true
takes_modifier TokenType.Asterisk = true
takes_modifier kind = false

-- Whether a question mark at `position` would modify the token before it.
abbrev pub follows_modified : List TokenView → ℕ → Bool
follows_modified tokens zero = false
follows_modified tokens (suc before) = passes_at (λ token. takes_modifier token.kind) tokens before

-- Whether the token at `position` is a question mark that begins the search: a character, or not a
-- modifier of the token before it.
abbrev pub is_search_prefix : List TokenView → ℕ → Bool
is_search_prefix tokens position =
    passes_at (is_non_special_pattern_char (codes "?")) tokens position
    || (passes_at (λ token. bytes_eq token.value (codes "?")) tokens position
    && not (follows_modified tokens position))

-- ---- which tokens are seen

-- The number of open groups after a token of this kind, where `depth` are open before it. A closing
-- brace without a group is ignored.
abbrev pub depth_after : TokenType → ℕ → ℕ
depth_after TokenType.Open depth = depth + 1
depth_after TokenType.Close depth = depth - 1
depth_after kind depth = depth

-- The number of groups that are open before the token at `position`, where `depth` are open before
-- the token at `from`.
abbrev pub depth_before : List TokenView → (from depth position : ℕ) → ℕ
depth_before tokens from depth position =
    fold (λ reached token. depth_after token.kind reached) depth (slice_range tokens from position)

-- Whether the token at `position` is seen, and so may end a section: End, or a token outside of all
-- groups that opens none. Before the token at `from`, `depth` groups are open.
abbrev pub is_seen : List TokenView → (from depth position : ℕ) → Bool
is_seen tokens from depth position =
    ends_at tokens position
    || (not (passes_at (λ token. is_open token.kind) tokens position)
    && depth_before tokens from depth position == 0)

-- The number of tokens from `from` up to `position`, exclusive, that are seen and are the character
-- `mark`. Before the token at `from`, `depth` groups are open.
abbrev pub count_seen : (mark : List ℕ) → List TokenView → (from depth position : ℕ) → ℕ
count_seen mark tokens from depth position =
    count_by (λ other.
    is_seen tokens from depth other
    && passes_at (is_non_special_pattern_char mark) tokens other)
    (range_with_len from (position - from))

-- Whether the seen tokens from `from` up to `position`, exclusive, have as many opening as closing
-- square brackets. Before the token at `from`, `depth` groups are open.
abbrev pub is_balanced : List TokenView → (from depth position : ℕ) → Bool
is_balanced tokens from depth position =
    count_seen (codes "[") tokens from depth position
    == count_seen (codes "]") tokens from depth position

-- ---- where a section ends

-- Whether the token at `position` is a sign that ends the section. A colon ends a hostname only
-- where `balanced` says that it is outside of square brackets.
abbrev pub is_ending : Section → (balanced : Bool) → List TokenView → ℕ → Bool
is_ending Protocol balanced tokens position = is_colon_sign tokens position
is_ending Authority balanced tokens position =
    is_at_sign tokens position || is_slash_sign tokens position || is_search_prefix tokens position
    || is_hash_sign tokens position
is_ending Username balanced tokens position =
    is_colon_sign tokens position || is_at_sign tokens position
is_ending Password balanced tokens position = is_at_sign tokens position
is_ending Hostname balanced tokens position =
    (balanced && is_colon_sign tokens position) || is_slash_sign tokens position
    || is_search_prefix tokens position || is_hash_sign tokens position
is_ending Port balanced tokens position =
    is_slash_sign tokens position || is_search_prefix tokens position
    || is_hash_sign tokens position
is_ending Pathname balanced tokens position =
    is_search_prefix tokens position || is_hash_sign tokens position
is_ending Search balanced tokens position = is_hash_sign tokens position
is_ending Hash balanced tokens position = false

-- Whether the section may end before the token at `position`: a seen token that is one of its
-- signs. The section begins at `from`, where `depth` groups are open.
abbrev pub may_end : Section → List TokenView → (from depth position : ℕ) → Bool
may_end section tokens from depth position =
    is_seen tokens from depth position
    && is_ending section (is_balanced tokens from depth position) tokens position

-- The section that begins at `from`, where `depth` groups are open, ends before the token at
-- `position`: the first token where it may end, or else End.
pub record EndsAt (section : Section) (tokens : List TokenView) (from depth position : ℕ) : Type 0
  where
    pub after : from ≤ position
    pub within : position < length tokens
    pub stops : IsTrue (may_end section tokens from depth position || ends_at tokens position)
    pub least : (other : ℕ) → from ≤ other → other < position
        → ¬ IsTrue (may_end section tokens from depth other)

-- ---- components

-- `between` is the part of `text` from the token at `from` up to the token at `until`, exclusive.
pub record IsTextBetween (text : List ℕ) (tokens : List TokenView) (from until : ℕ)
    (between : List ℕ) : Type 0 where
  pub front : List ℕ
  pub rest : List ℕ
  pub cut : text ≡ front ++ between ++ rest
  pub begins : IsSomeAnd (slice_get tokens from) (λ token. token.index ≡ byte_len front)
  pub ends : IsSomeAnd (slice_get tokens until) (λ token.
      token.index ≡ byte_len front + byte_len between)

-- The text of a component, and the byte at which the constructor string has it. `None`: the string
-- implies the text, and does not have it.
pub record SplitTextView : Type 0 where
  pub text : List ℕ
  pub start : Option ℕ

-- A text for each component, or None for a component that is not present.
abbrev pub SplitTexts : Type 0
SplitTexts = Eight (Option SplitTextView)

-- The component is present, and the constructor string implies its text.
abbrev pub implied : (text : List ℕ) → Option SplitTextView
implied text = Some (record { text = text; start = None })

-- `found` is the part of `text` from the token at `from` up to the token at `until`, exclusive, and
-- begins where `text` has that part.
abbrev pub IsSplitTextBetween : (text : List ℕ) → List TokenView → (from until : ℕ) → SplitTextView
    → Type 0
IsSplitTextBetween text tokens from until found =
    (is : IsTextBetween text tokens from until found.text)
    × (found.start ≡ Some (byte_len is.front))

-- The component is present: the part of `text` from the token at `from` up to the token at `until`,
-- exclusive.
abbrev pub IsComponentBetween : (text : List ℕ) → List TokenView
    → (from until : ℕ) → Option SplitTextView → Type 0
IsComponentBetween text tokens from until component =
    IsSomeAnd component (IsSplitTextBetween text tokens from until)

-- The hash begins at the token `from` and extends to End.
abbrev pub HashFrom : (text : List ℕ) → List TokenView → (from : ℕ) → SplitTexts → Type 0
HashFrom text tokens from components =
    (until : ℕ) × IsTrue (ends_at tokens until)
    × IsComponentBetween text tokens from until components.hash

-- The hash, after a search that ends before the token `position`: a number sign begins it, and at
-- End it is None.
abbrev pub HashAt : (text : List ℕ) → List TokenView → (position : ℕ) → SplitTexts → Type 0
HashAt text tokens position components =
    (IsTrue (is_hash_sign tokens position) × HashFrom text tokens (position + 1) components)
    ⊎ (IsTrue (ends_at tokens position) × (components.hash ≡ None))

-- The search begins at the token `from`, where `depth` groups are open, and ends at the number sign
-- of the hash or at End. The hash follows by `HashAt`.
abbrev pub SearchFrom : (text : List ℕ) → List TokenView → (from depth : ℕ) → SplitTexts → Type 0
SearchFrom text tokens from depth components =
    (until : ℕ) × EndsAt Search tokens from depth until
    × IsComponentBetween text tokens from until components.search
    × HashAt text tokens until components

-- The search and the hash, after a pathname that ends before the token `position`: a question mark
-- begins the search, at a number sign it is empty, and at End both are None.
abbrev pub SearchAt : (text : List ℕ) → List TokenView → (position : ℕ) → SplitTexts → Type 0
SearchAt text tokens position components =
    (IsTrue (is_search_prefix tokens position) × SearchFrom text tokens (position + 1) 0 components)
    ⊎ (IsTrue (is_hash_sign tokens position)
    × (components.search ≡ implied [])
    × HashFrom text tokens (position + 1) components)
    ⊎ (IsTrue (ends_at tokens position) × (components.search ≡ None) × (components.hash ≡ None))

-- The pathname begins at the token `from`, where `depth` groups are open, and ends at the sign of
-- the search or of the hash or at End. The search and the hash follow by `SearchAt`.
abbrev pub PathnameFrom : (text : List ℕ) → List TokenView → (from depth : ℕ) → SplitTexts → Type 0
PathnameFrom text tokens from depth components =
    (until : ℕ) × EndsAt Pathname tokens from depth until
    × IsComponentBetween text tokens from until components.pathname
    × SearchAt text tokens until components

-- The pathname where a search or a hash directly follows the authority: a slash if the protocol
-- matches a special scheme, otherwise empty.
abbrev pub implied_pathname : (special : Bool) → List ℕ
implied_pathname true = codes "/"
implied_pathname false = []

-- The pathname, the search and the hash, after a hostname or a port that ends before the token
-- `position`: a slash begins the pathname, before a search or a hash it is `implied_pathname`, and
-- at End all three are None. `special` says whether the protocol matches a special scheme.
abbrev pub PathnameAt : (text : List ℕ) → List TokenView → (special : Bool) → (position : ℕ)
    → SplitTexts → Type 0
PathnameAt text tokens special position components =
    (IsTrue (is_slash_sign tokens position) × PathnameFrom text tokens position 0 components)
    ⊎ (IsTrue (is_search_prefix tokens position || is_hash_sign tokens position)
    × (components.pathname ≡ implied (implied_pathname special))
    × SearchAt text tokens position components)
    ⊎ (IsTrue (ends_at tokens position)
    × (components.pathname ≡ None)
    × (components.search ≡ None)
    × (components.hash ≡ None))

-- The port and the components after it, where the hostname ends before the token `position`: a
-- colon begins the port, and without a colon it is empty. `special` says whether the protocol
-- matches a special scheme.
abbrev pub PortAt : (text : List ℕ) → List TokenView → (special : Bool) → (position : ℕ)
    → SplitTexts → Type 0
PortAt text tokens special position components =
    (IsTrue (is_colon_sign tokens position)
    × ((until : ℕ)
    × EndsAt Port tokens (position + 1) 0 until
    × IsComponentBetween text tokens (position + 1) until components.port
    × PathnameAt text tokens special until components))
    ⊎ (¬ IsTrue (is_colon_sign tokens position)
    × (components.port ≡ implied [])
    × PathnameAt text tokens special position components)

-- The hostname begins at the token `from`, where `depth` groups are open. The port and the
-- components after it follow by `PortAt`. `special` says whether the protocol matches a special
-- scheme.
abbrev pub HostnameFrom : (text : List ℕ) → List TokenView → (special : Bool) → (from depth : ℕ)
    → SplitTexts → Type 0
HostnameFrom text tokens special from depth components =
    (until : ℕ) × EndsAt Hostname tokens from depth until
    × IsComponentBetween text tokens from until components.hostname
    × PortAt text tokens special until components

-- The username begins at the token `from`, and ends at a colon or at the token `until`, an at sign.
-- The password is the text between the colon and `until`, or None without a colon.
abbrev pub UserinfoFrom : (text : List ℕ) → List TokenView → (from until : ℕ) → SplitTexts → Type 0
UserinfoFrom text tokens from until components =
    (position : ℕ) × EndsAt Username tokens from 0 position
    × IsComponentBetween text tokens from position components.username
    × (((position ≡ until) × (components.password ≡ None))
    ⊎
    ((position < until)
    × IsComponentBetween text tokens (position + 1) until components.password))

-- The authority begins at the token `from`. If it ends at an at sign, it is a username and a
-- password, and the hostname begins after that sign. Otherwise the hostname begins at `from`, where
-- as many groups count as open as are open at the end of the authority: the standard's parser goes
-- back to `from` without closing them. `special` says whether the protocol matches a special
-- scheme.
abbrev pub AuthorityFrom : (text : List ℕ) → List TokenView → (special : Bool) → (from : ℕ)
    → SplitTexts → Type 0
AuthorityFrom text tokens special from components =
    (until : ℕ) × EndsAt Authority tokens from 0 until
    × ((IsTrue (is_at_sign tokens until) × UserinfoFrom text tokens from until components
    × HostnameFrom text tokens special (until + 1) 0 components)
    ⊎ (¬ IsTrue (is_at_sign tokens until)
    × (components.username ≡ None)
    × (components.password ≡ None)
    × HostnameFrom text tokens special from (depth_before tokens from 0 until) components))

-- ---- the whole string

-- All components before the pathname are None.
abbrev pub NoAuthority : SplitTexts → Type 0
NoAuthority components =
    (components.protocol ≡ None) × (components.username ≡ None) × (components.password ≡ None)
    × (components.hostname ≡ None) × (components.port ≡ None)

-- `components` is the split of a text without a protocol, as no colon ends one. By its first token
-- the text begins with the hash, with the search or else with the pathname. In a search or a
-- pathname as many groups count as open at first as are open at End.
pub record IsRelativeSplit (text : List ℕ) (tokens : List TokenView) (components : SplitTexts) :
    Type 0 where
  pub until : ℕ
  pub no_colon : EndsAt Protocol tokens 0 0 until
  pub is_end : IsTrue (ends_at tokens until)
  pub begins :
      (IsTrue (is_hash_sign tokens 0)
      × (components.pathname ≡ None)
      × (components.search ≡ None)
      × HashFrom text tokens 1 components)
      ⊎ (IsTrue (is_search_prefix tokens 0) × (components.pathname ≡ None)
      × SearchFrom text tokens 1 (depth_before tokens 0 0 until) components)
      ⊎ (¬ IsTrue (is_hash_sign tokens 0 || is_search_prefix tokens 0)
      × PathnameFrom text tokens 0 (depth_before tokens 0 0 until) components)
  pub nothing_before : NoAuthority components

-- Whether the two tokens after the token at `position` are slashes.
abbrev pub has_slashes : List TokenView → ℕ → Bool
has_slashes tokens position =
    is_slash_sign tokens (position + 1) && is_slash_sign tokens (position + 2)

-- `components` is the split of a text whose protocol ends at the token `colon`. After the colon an
-- authority begins, if two slashes follow or the protocol matches a special scheme, otherwise a
-- pathname, and then hostname and port are empty.
pub record IsAbsoluteSplit (text : List ℕ) (tokens : List TokenView) (special : Bool) (colon : ℕ)
    (components : SplitTexts) : Type 0 where
  pub is_colon_there : IsTrue (is_colon_sign tokens colon)
  pub protocol_ends : EndsAt Protocol tokens 0 0 colon
  pub protocol : IsComponentBetween text tokens 0 colon components.protocol
  pub after :
      (IsTrue (has_slashes tokens colon) × AuthorityFrom text tokens special (colon + 3) components)
      ⊎ (IsTrue (not (has_slashes tokens colon) && special)
      × AuthorityFrom text tokens special (colon + 1) components)
      ⊎ (IsTrue (not (has_slashes tokens colon) && not special)
      × (components.username ≡ None)
      × (components.password ≡ None)
      × (components.hostname ≡ implied [])
      × (components.port ≡ implied [])
      × PathnameFrom text tokens (colon + 1) 0 components)

-- The components are the split of a text with these tokens, with a protocol or without one.
-- `IsSpecial` relates the text of a protocol to whether it matches a special scheme.
abbrev pub IsSplit : (IsSpecial : List ℕ → Bool → Type 0) → (text : List ℕ) → List TokenView
    → SplitTexts → Type 0
IsSplit IsSpecial text tokens components =
    IsRelativeSplit text tokens components
    ⊎ ((colon : ℕ) × (special : Bool) × IsAbsoluteSplit text tokens special colon components
    × IsSomeAnd components.protocol (λ protocol. IsSpecial protocol.text special))

-- The text has no protocol: among its lenient tokens no colon ends one.
abbrev pub LacksProtocol : (text : List ℕ) → Type 0
LacksProtocol text =
    (tokens : List TokenView) × (until : ℕ)
    × AreLenientTokens text tokens
    × EndsAt Protocol tokens 0 0 until
    × IsTrue (ends_at tokens until)

-- The text has a protocol, which a colon ends among its lenient tokens, and `Is` holds of the
-- protocol.
abbrev pub HasProtocol : (text : List ℕ) → (Is : SplitTextView → Type 0) → Type 0
HasProtocol text Is =
    (tokens : List TokenView) × (colon : ℕ) × (protocol : SplitTextView)
    × AreLenientTokens text tokens
    × EndsAt Protocol tokens 0 0 colon
    × IsTrue (is_colon_sign tokens colon)
    × IsSplitTextBetween text tokens 0 colon protocol
    × Is protocol
