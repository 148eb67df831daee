-- Statement of the law of canonical values.
use Rattle.std.specs.Prelude.{◌≡◌, ℕ, List, Ok}
use Rattle.url.specs.Parser.{Parsed}

-- Each canonical value is its own canonical form.
abbrev pub AreCanonicalAgain : (canonical : List ℕ → Parsed (List ℕ)) → Type 0
AreCanonicalAgain canonical =
    (text value : List ℕ) → canonical text ≡ Ok value → canonical value ≡ Ok value
