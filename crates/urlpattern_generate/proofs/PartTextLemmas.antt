-- Comparisons of texts.
use Rattle.std.proofs.Common.{◌≡◌, ℕ, Bool, List, ap, bytes_eq, ◌∙◌}
use Rattle.std.proofs.lemmas.Bool.Decides.{Decides-at, same_from_decides}
use Rattle.std.proofs.lemmas.Slice.Eq.{bytes_eq-Decides}
use Rattle.std.specs.Prelude.{◌↔◌, IsTrue}
use Rattle.std.specs.Str.{IsUtf8, chars}
use Rattle.urlpattern_syntax.proofs.TextLemmas.{bytes_same}

-- A test of bytes is a test of characters.
pub texts_tested : (bytes other : List ℕ) (r : Bool) → IsUtf8 bytes → IsUtf8 other → r ≡ bytes_eq bytes other → r ≡ bytes_eq (chars bytes) (chars other)
texts_tested bytes other r u v e =
    let decides = bytes_eq-Decides (chars bytes) (chars other) in
    e ∙ same_from_decides (bytes_eq bytes other) (bytes_eq (chars bytes) (chars other)) (bytes_eq-Decides bytes other)
    ((λ t. bytes_same bytes other u v (decides.0 t)), (λ same. decides.1 (ap chars same)))

pub texts_same : (bytes other : List ℕ) (r : Bool) → IsUtf8 bytes → IsUtf8 other → r ≡ bytes_eq bytes other → IsTrue r ↔ (chars bytes ≡ chars other)
texts_same bytes other r u v e = Decides-at r (bytes_eq (chars bytes) (chars other)) (texts_tested bytes other r u v e) (bytes_eq-Decides (chars bytes) (chars other))
