-- Outcomes of calls on a handle. `number` is the number of the status that is returned.
use Rattle.std.specs.Prelude.{ℕ, List}
use Rattle.urlpattern_c.specs.Handles.{patterns_in}
use Rattle.urlpattern_c.specs.declared.patterns.Patterns.{Patterns}
use Rattle.urlpattern_ffi.specs.Calls.{ReturnsStatus}
use Rattle.urlpattern_ffi.specs.WrittenLinks.{GivenBytes, IsLinkReported}
use Rattle.urlpattern_ffi.specs.GroupSpans.{AreCapturesReported, AreFirstCaptures}
use Rattle.urlpattern_ffi.specs.TextBuffers.{IsGroupNameWritten}
use Rattle.urlpattern_ffi.specs.declared.spans.Sizes.{Sizes}
use Rattle.urlpattern_ffi.specs.declared.spans.GroupSpan.{GroupSpan}

-- `number` is the status of writing the groups of the match by the pattern at `index`
-- (`AreCapturesReported`).
abbrev pub ReportsCaptures : Patterns → (index : ℕ) → (url base : List ℕ)
    → (old new : List ℕ) → (old_spans new_spans : List GroupSpan) → (needed : Sizes)
    → ℕ → Type 0
ReportsCaptures patterns index url base old new old_spans new_spans needed number =
    ReturnsStatus (AreCapturesReported (patterns_in patterns) index url base old new old_spans
    new_spans needed) number

-- `number` is the status of writing the index and the groups of the first match
-- (`AreFirstCaptures`).
abbrev pub ReportsFirstMatch : Patterns → (url base : List ℕ) → (old_index new_index : ℕ)
    → (old new : List ℕ) → (old_spans new_spans : List GroupSpan)
    → (needed : Sizes) → ℕ → Type 0
ReportsFirstMatch patterns url base old_index new_index old new old_spans new_spans needed number =
    ReturnsStatus (AreFirstCaptures (patterns_in patterns) url base old_index new_index old new
    old_spans new_spans needed) number

-- `number` is the status of writing the URL of the pattern at `index` with the groups that `given`
-- cuts out of `text` (`IsLinkReported`).
abbrev pub ReportsLink : Patterns → (index : ℕ) → (text : List ℕ) → List GivenBytes
    → (old new : List ℕ) → (needed : ℕ) → ℕ → Type 0
ReportsLink patterns index text given old new needed number =
    ReturnsStatus (IsLinkReported (patterns_in patterns) index text given old new needed) number

-- `number` is the status of writing the name of a group of the pattern at `index`
-- (`IsGroupNameWritten`).
abbrev pub ReportsGroupName : Patterns → (index component group : ℕ) → (old new : List ℕ)
    → (needed : ℕ) → ℕ → Type 0
ReportsGroupName patterns index component group old new needed number =
    ReturnsStatus (IsGroupNameWritten (patterns_in patterns) index component group old new needed)
    number
