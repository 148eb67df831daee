-- The URLs of orders.
use Rattle.std.specs.Prelude.{◌≡◌, ◌≢◌, All, ℕ, List, [], ◌++◌, codes, IsTrue}
use Rattle.std.specs.Char.{is_ascii_digit}
use Rattle.std.specs.Str.{chars}
use Rattle.url.specs.Parts.{Parts}
use Rattle.example.specs.Sites.{IsOnSite}

-- `url` is the URL of the order `id`: `https://example.com/orders/` with the id, which is one or
-- more ASCII digits.
pub record IsOrder (url : Parts) (id : List ℕ) : Type 0 where
  pub site : IsOnSite url
  pub path : url.path ≡ codes "/orders/" ++ id
  pub not_empty : id ≢ []
  pub digits : All (λ c. IsTrue (is_ascii_digit c)) id

-- The URL is not the URL of an order.
abbrev pub IsNoOrder : Parts → Type 0
IsNoOrder url = (id : List ℕ) → ¬ IsOrder url id

-- The text of the pattern of orders.
abbrev pub orders_text : List ℕ
orders_text = chars (codes "https://example.com/orders/:id(\\d+)")
