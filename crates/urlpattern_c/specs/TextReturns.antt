-- Outcomes of calls that match a path by itself, or eight texts. `number` is the number of the
-- status that is returned.
use Rattle.std.specs.Prelude.{ℕ, List}
use Rattle.urlpattern_c.specs.Handles.{patterns_in}
use Rattle.urlpattern_c.specs.declared.patterns.Patterns.{Patterns}
use Rattle.urlpattern_components.specs.Eight.{Texts}
use Rattle.urlpattern_ffi.specs.Calls.{ReturnsStatus}
use Rattle.urlpattern_ffi.specs.TextCaptures.{AreCapturesOf, AreFirstCapturesOf}
use Rattle.urlpattern_ffi.specs.declared.spans.Sizes.{Sizes}
use Rattle.urlpattern_ffi.specs.declared.spans.GroupSpan.{GroupSpan}
use Rattle.urlpattern_ffi.specs.declared.status.Status.{Status}

-- `number` is the status of writing the groups of the match by the pattern at `index` of what is
-- passed (`AreCapturesOf`).
abbrev pub ReportsCapturesOf : (AreRead : Texts → Type 0) → (AreUnread : Status → Type 0)
    → Patterns → (index : ℕ) → (old new : List ℕ) → (old_spans new_spans : List GroupSpan)
    → (needed : Sizes) → ℕ → Type 0
ReportsCapturesOf AreRead AreUnread patterns index old new old_spans new_spans needed number =
    ReturnsStatus (AreCapturesOf AreRead AreUnread (patterns_in patterns) index old new old_spans
    new_spans needed) number

-- `number` is the status of writing the index and the groups of the first match of what is passed
-- (`AreFirstCapturesOf`).
abbrev pub ReportsFirstOf : (AreRead : Texts → Type 0) → (AreUnread : Status → Type 0)
    → Patterns → (old_index new_index : ℕ) → (old new : List ℕ)
    → (old_spans new_spans : List GroupSpan) → (needed : Sizes) → ℕ → Type 0
ReportsFirstOf AreRead AreUnread patterns old_index new_index old new old_spans new_spans needed
    number =
    ReturnsStatus (AreFirstCapturesOf AreRead AreUnread (patterns_in patterns) old_index new_index
    old new old_spans new_spans needed) number
