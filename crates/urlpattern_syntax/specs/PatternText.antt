-- Escaped pattern texts, after the URLPattern Standard, section "Converting part lists to pattern
-- strings".
use Rattle.std.specs.Prelude.{ℕ, List, codes}
use Rattle.urlpattern_syntax.specs.RegexpText.{escaped}

-- The characters that are special in a pattern text, and escaped with a backslash.
abbrev pub pattern_marks : List ℕ
pattern_marks = codes "+*?:{}()\\"

-- The text with a backslash before each special character of patterns.
abbrev pub escaped_pattern : List ℕ → List ℕ
escaped_pattern text = escaped pattern_marks text
