-- Lists of tokens that end with End.
use Rattle.std.specs.Prelude.{◌≡◌, ℕ, ◌+◌, ◌<◌, List, length, IsTrue}
use Rattle.urlpattern_constructor.specs.Split.{ends_at}
use Rattle.urlpattern_syntax.specs.Tokens.{TokenView}

-- End is the last token, and only the last.
pub record IsClosed (tokens : List TokenView) : Type 0 where
  pub last : (position : ℕ) → position < length tokens → IsTrue (ends_at tokens position) → position + 1 ≡ length tokens
  pub goes_on : (position : ℕ) → position < length tokens → ¬ IsTrue (ends_at tokens position) → position + 1 < length tokens
