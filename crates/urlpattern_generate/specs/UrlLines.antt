-- The text of a URL, joined from the texts of its components as in the URL Standard, section "URL
-- serializing", except that an empty host has two slashes before it only if the path begins with
-- two slashes itself. All texts are bytes.
use Rattle.std.specs.Prelude.{ℕ, Bool, not, ◌&&◌, ◌||◌, ◌==◌, List, ◌++◌, codes, slice_index}
use Rattle.std.specs.Borrow.{Bor}
use Rattle.url.specs.Ascii.{slash}
use Rattle.url.specs.Input.{is_empty, when}
use Rattle.urlpattern_components.specs.declared.eight.Eight.{Eight}
use Rattle.urlpattern_components.specs.Eight.{at, each}

-- The bytes of each of the borrowed texts.
abbrev pub bytes_of_each : Eight (Bor (List ℕ)) → Eight (List ℕ)
bytes_of_each texts = each (λ name. (at texts name).now)

-- `mark` and the text, or nothing if the text is empty.
abbrev pub marked : (mark text : List ℕ) → List ℕ
marked mark text = when (not (is_empty text)) (mark ++ text)

-- The user name, the password and `@`, or nothing if user name and password are empty.
abbrev pub user_line : (username password : List ℕ) → List ℕ
user_line username password =
    when (not (is_empty username && is_empty password))
    (username ++ (marked (codes ":") password ++ codes "@"))

-- Whether two slashes are written before user name, host and port: if the host is not empty, or if
-- the path begins with two slashes, which would be read as those before a host.
abbrev pub has_authority : (hostname pathname : List ℕ) → Bool
has_authority hostname pathname =
    not (is_empty hostname) || (slice_index pathname 0 == slash && slice_index pathname 1 == slash)

-- The two slashes, the user name and password, the host and the port, or nothing if the URL has no
-- authority.
abbrev pub authority_line : Eight (List ℕ) → List ℕ
authority_line texts =
    when (has_authority texts.hostname texts.pathname)
    (codes "//"
    ++ (user_line texts.username texts.password
    ++ (texts.hostname ++ marked (codes ":") texts.port)))

-- The text of a URL, joined from the texts of its components.
abbrev pub url_line : Eight (List ℕ) → List ℕ
url_line texts =
    texts.protocol
    ++ (codes ":"
    ++ (authority_line texts
    ++ (texts.pathname ++ (marked (codes "?") texts.search ++ marked (codes "#") texts.hash))))
