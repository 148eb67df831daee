-- The place of a component's pattern in a given text. Texts are their bytes.
use Rattle.std.specs.Prelude.{◌≡◌, ℕ, ◌+◌, ◌-◌, List, length, nat_le, MatchBool, MatchOption, Option, None, IsSomeAnd}
use Rattle.urlpattern_components.specs.declared.eight.ComponentName.{ComponentName}
use Rattle.urlpattern_components.specs.declared.eight.ComponentName.TheVariants.{Protocol}
use Rattle.urlpattern_diagnosis.specs.Faults.{IsWholeFault}
use Rattle.urlpattern_diagnosis.specs.Spans.{IsSpanAt, whole_span}
use Rattle.urlpattern_diagnosis.specs.declared.fault.Fault.{Fault}
use Rattle.urlpattern_diagnosis.specs.declared.pattern_offset.PatternOffset.{PatternOffset}
use Rattle.urlpattern_diagnosis.specs.declared.span.Span.{Span}

-- How many bytes of a component's value are before its pattern, if that has `shorter` bytes less:
-- none in a protocol, which loses a colon at its end; all of these in any other component, which
-- loses a sign at its beginning.
abbrev pub skipped : ComponentName → (shorter : ℕ) → ℕ
skipped Protocol shorter = 0
skipped component shorter = shorter

-- Where a text has the pattern of a component, if `value` is where it has the value that was
-- processed to that pattern. A pattern that is longer than the value begins with the path of the
-- base URL, which the text lacks.
abbrev pub offset_in_value : ComponentName → (value : Span) → (pattern : List ℕ) → PatternOffset
offset_in_value component value pattern =
    let len = value.end - value.start in
    record {
      start = value.start + skipped component (len - length pattern);
      missing = length pattern - len;
    }

-- `moved` is `span`, a span of a pattern that is at `place` in the text `bytes`, moved to the text;
-- the whole text if the span begins in bytes that the text lacks.
abbrev pub IsMovedSpan : (bytes : List ℕ) → PatternOffset → (span moved : Span) → Type 0
IsMovedSpan bytes place span moved =
    MatchBool (nat_le place.missing span.start)
    (IsSpanAt bytes (place.start + (span.start - place.missing)) (span.end - span.start) moved)
    (moved ≡ whole_span bytes)

-- `moved` is `fault`, a fault of a pattern that is at `place` in the text `bytes`, with each span
-- moved to the text.
abbrev pub IsMovedFault : (bytes : List ℕ) → PatternOffset → (fault moved : Fault) → Type 0
IsMovedFault bytes place fault moved =
    IsMovedSpan bytes place fault.span moved.span
    × MatchOption fault.earlier (moved.earlier ≡ None)
    (λ span. IsSomeAnd moved.earlier (IsMovedSpan bytes place span))

-- `moved` is `fault`, a fault of the pattern of a component, moved to the text `bytes`, which has
-- the value of the component at `value`. None: the text lacks the component, and `moved` is the
-- whole text.
abbrev pub IsFaultMoved : ComponentName → (bytes pattern : List ℕ) → (value : Option Span)
    → (fault moved : Fault) → Type 0
IsFaultMoved component bytes pattern value fault moved =
    MatchOption value (IsWholeFault bytes moved) (λ span.
    IsMovedFault bytes (offset_in_value component span pattern) fault moved)
