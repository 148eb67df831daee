-- Names of methods. The Fetch Standard, section "Methods".
use Rattle.std.specs.Prelude.{ℕ, Bool, not, ◌&&◌, ◌||◌, ◌==◌, List, [], ◌∷◌, codes, length, map, if◌then◌else◌}
use Rattle.std.specs.Char.{is_ascii_alphanumeric, to_ascii_lowercase, to_ascii_uppercase}
use Rattle.std.specs.List.{list_all, list_any}
use Rattle.std.specs.Str.{bytes_eq}
use Rattle.urlpattern_syntax.specs.Text.{is_among}

-- Whether the byte may be part of a token of HTTP.
abbrev pub is_token_byte : ℕ → Bool
is_token_byte byte = is_ascii_alphanumeric byte || is_among (codes "!#$%&'*+-.^_`|~") byte

-- Whether the text is the name of a method: a token of HTTP, of at least one byte.
abbrev pub is_method : List ℕ → Bool
is_method text = not (length text == 0) && list_all is_token_byte text

-- Whether two texts are equal but for the case of ASCII letters.
abbrev pub is_same : List ℕ → List ℕ → Bool
is_same text other = bytes_eq (map to_ascii_lowercase text) (map to_ascii_lowercase other)

-- The methods that `fetch` rejects.
abbrev pub forbidden_methods : List (List ℕ)
forbidden_methods = codes "CONNECT" ∷ codes "TRACE" ∷ codes "TRACK" ∷ []

-- Whether `fetch` rejects the method.
abbrev pub is_forbidden : List ℕ → Bool
is_forbidden text = list_any (λ name. is_same name text) forbidden_methods

-- The methods that `fetch` puts in capitals.
abbrev pub normalized_methods : List (List ℕ)
normalized_methods =
    codes "DELETE" ∷ codes "GET" ∷ codes "HEAD" ∷ codes "OPTIONS" ∷ codes "POST" ∷ codes "PUT" ∷ []

-- The method as a request has it.
abbrev pub normalized : List ℕ → List ℕ
normalized text =
    if list_any (λ name. is_same name text) normalized_methods then map to_ascii_uppercase text
    else text
