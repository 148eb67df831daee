-- Worked examples of constructor strings.
use Rattle.std.proofs.Common.{◌≡◌, [], refl}
use Rattle.std.specs.Prelude.{codes}
use Rattle.urlpattern_components.specs.Eight.{Texts}
use Rattle.urlpattern_pattern.specs.ConstructorTexts.{constructor_text}

abbrev users : Texts
users = record {
  protocol = codes "https";
  username = codes "*";
  password = codes "*";
  hostname = codes "example.com";
  port = [];
  pathname = codes "/users/:id";
  search = codes "*";
  hash = codes "*";
}

-- Username and password, the port and the end are left out.
users_text : constructor_text (codes "//") (codes ":") (codes "?") users ≡ codes "https://example.com/users/:id"
users_text = refl

-- The question mark before a search is escaped after a group.
searched_text : constructor_text (codes "//") (codes ":") (codes "\\?") (record users { search = codes "q" }) ≡ codes "https://example.com/users/:id\\?q"
searched_text = refl

-- A search is left out before a hash if it is empty.
hashed_text : constructor_text (codes "//") (codes ":") (codes "?") (record users { search = []; hash = codes "top" }) ≡ codes "https://example.com/users/:id#top"
hashed_text = refl

-- Of a pattern that ends with its host, neither path nor search nor hash is written.
host_text : constructor_text (codes "//") (codes ":") (codes "?") (record users { pathname = codes "*"; port = codes "8080" }) ≡ codes "https://example.com:8080"
host_text = refl

-- Without a host, the path is written.
opaque_text : constructor_text [] (codes "\\:") (codes "\\?") (record users { protocol = codes "data"; hostname = []; pathname = codes "*" }) ≡ codes "data\\:*"
opaque_text = refl
