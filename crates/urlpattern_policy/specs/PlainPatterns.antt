-- The texts of a pattern, which may be in plain spelling.
use Rattle.urlpattern_components.specs.Eight.{Texts, at, each}
use Rattle.urlpattern_pattern.specs.UrlPatterns.{UrlPattern}
use Rattle.urlpattern_syntax.specs.Text.{text_of}

-- The pattern strings of the eight components.
abbrev pub pattern_texts : {E : Type 0} → UrlPattern E → Texts
pattern_texts pattern = each (λ name. text_of (at pattern.components name).pattern_string)
