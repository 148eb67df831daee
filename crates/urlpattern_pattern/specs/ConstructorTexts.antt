-- Constructor strings that are written from the pattern strings of the components. What is left out
-- of a constructor string has a pattern of its own: the asterisk after the last component that is
-- written and before the host, the empty text of a port, and of a search between path and hash. All
-- texts are bytes.
use Rattle.std.specs.Prelude.{ℕ, Bool, not, ◌&&◌, ◌||◌, bytes_eq, List, [], ◌∷◌, ◌++◌, codes, if◌then◌else◌}
use Rattle.url.specs.Input.{is_empty, when}
use Rattle.urlpattern_components.specs.Eight.{Texts}

-- Whether a pattern string is an asterisk.
abbrev pub is_asterisk : List ℕ → Bool
is_asterisk text = bytes_eq text (codes "*")

-- The password, the username and `@`. A password that is an asterisk is left out, and all three if
-- both are asterisks.
abbrev pub user_text : (colon : List ℕ) → Texts → List ℕ
user_text colon texts =
    when (not (is_asterisk texts.username && is_asterisk texts.password))
    (texts.username ++ (when (not (is_asterisk texts.password)) (colon ++ texts.password)
    ++ codes "@"))

-- The port after `colon`, or nothing if the port is empty.
abbrev pub port_text : (colon : List ℕ) → Texts → List ℕ
port_text colon texts = when (not (is_empty texts.port)) (colon ++ texts.port)

-- Whether the search is left out: an asterisk at the end, or an empty search before a hash.
abbrev pub is_search_left_out : Texts → Bool
is_search_left_out texts =
    if is_asterisk texts.hash then is_asterisk texts.search else is_empty texts.search

-- Whether path, search and hash are asterisks, so that all three are left out after a host.
abbrev pub ends_with_host : Texts → Bool
ends_with_host texts =
    is_asterisk texts.pathname && is_asterisk texts.search && is_asterisk texts.hash

-- The search after `mark` and the hash after `#`, without what is left out.
abbrev pub search_and_hash : (mark : List ℕ) → Texts → List ℕ
search_and_hash mark texts =
    when (not (is_search_left_out texts)) (mark ++ texts.search)
    ++ when (not (is_asterisk texts.hash)) (codes "#" ++ texts.hash)

-- The path, search and hash, without what is left out; `slashes` are those before the host, or
-- empty if no host is written.
abbrev pub path_text : (slashes mark : List ℕ) → Texts → List ℕ
path_text slashes mark texts =
    when (is_empty slashes || not (ends_with_host texts)) texts.pathname
    ++ search_and_hash mark texts

-- The constructor string of these pattern strings. Its separators are spelled `slashes`, `colon`
-- and `mark`.
abbrev pub constructor_text : (slashes colon mark : List ℕ) → Texts → List ℕ
constructor_text slashes colon mark texts =
    texts.protocol
    ++ (colon
    ++ (slashes
    ++ (user_text colon texts
    ++ (texts.hostname ++ (port_text colon texts ++ path_text slashes mark texts)))))

-- The constructor strings with these slashes: with plain separators, with an escaped question mark,
-- which would else be a modifier after a group, and with an escaped colon too, which would else
-- begin a name.
abbrev pub spelled_texts : (slashes : List ℕ) → Texts → List (List ℕ)
spelled_texts slashes texts =
    constructor_text slashes (codes ":") (codes "?") texts
    ∷ constructor_text slashes (codes ":") (codes "\\?") texts
    ∷ constructor_text slashes (codes "\\:") (codes "\\?") texts
    ∷ []

-- The constructor strings that are tried, in this order: those with slashes before the host, then
-- those without.
abbrev pub tried_texts : Texts → List (List ℕ)
tried_texts texts = spelled_texts (codes "//") texts ++ spelled_texts [] texts
