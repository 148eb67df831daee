-- Spans of a text, in bytes.
use Rattle.std.specs.Prelude.{◌≡◌, ℕ, ◌+◌, ◌≤◌, ◌⊎◌, List, length, IsCharBoundary}
use Rattle.urlpattern_diagnosis.specs.declared.span.Span.{Span}

-- The span of the bytes from `start` up to `end`, which is not included.
abbrev pub span_between : (start end : ℕ) → Span
span_between start end = record { start = start; end = end }

-- The span is within the text, and cuts no character.
abbrev pub IsSpanIn : (bytes : List ℕ) → Span → Type 0
IsSpanIn bytes span =
    (span.start ≤ span.end) × IsCharBoundary bytes span.start × IsCharBoundary bytes span.end

-- The span of a whole text.
abbrev pub whole_span : (bytes : List ℕ) → Span
whole_span bytes = span_between 0 (length bytes)

-- The span is within the other one.
abbrev pub IsPartOf : (outer : Span) → Span → Type 0
IsPartOf outer span = (outer.start ≤ span.start) × (span.end ≤ outer.end)

-- `span` covers the `len` bytes from `start` on, or the whole text if these are not whole
-- characters of it.
abbrev pub IsSpanAt : (bytes : List ℕ) → (start len : ℕ) → Span → Type 0
IsSpanAt bytes start len span =
    (IsSpanIn bytes (span_between start (start + len)) × (span ≡ span_between start (start + len)))
    ⊎ (¬ IsSpanIn bytes (span_between start (start + len)) × (span ≡ whole_span bytes))
