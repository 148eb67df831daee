-- The output of a rule for the lines of a reader, with a count if lines are counted. Texts are
-- bytes. `old` and `new` are the output before and after, as far as it is known.
use Rattle.std.specs.Prelude.{◌≡◌, ℕ, Bool, List, [], ◌++◌, codes, decimal, if◌then◌else◌, nat_lt, IfSome, Option}
use Rattle.std.specs.Io.KnownBytes.{Appends}
use Rattle.urlpat_matching.specs.LineAnswers.{AreAnswersTo, LineRule, lines_of}
use Rattle.urlpat_matching.specs.LineLabels.{name_label}
use Rattle.urlpat_matching.specs.Status.{status_of}
use Rattle.urlpat_matching.specs.declared.command.LineStyle.{LineStyle}

-- `new` is `old` with a piece appended for which `IsSuch` is true.
abbrev pub AppendsPiece : (IsSuch : List ℕ → Type 0) → (old new : List ℕ) → Type 0
AppendsPiece IsSuch old new = (piece : List ℕ) × (new ≡ old ++ piece) × IsSuch piece

-- The line with the number of selected lines, if they are counted. Otherwise empty.
abbrev pub count_line : LineStyle → (counts : Bool) → (selected : ℕ) → List ℕ
count_line style counts selected =
    if counts then name_label style ++ decimal selected ++ codes "\n" else []

-- The output of the rule `Answers` for the lines of a text, from the number `first` on, is written,
-- and after it the count if lines are counted. The exit status says whether a line is selected.
abbrev pub FiltersText : (Answers : LineRule) → LineStyle → (first : ℕ) → (counts : Bool)
    → (status : ℕ) → (text : List ℕ) → (old new : Option (List ℕ)) → Type 0
FiltersText Answers style first counts status text old new =
    (selected : ℕ) × (written : List ℕ)
    × AreAnswersTo Answers style first (lines_of text) selected written
    × Appends old new (written ++ count_line style counts selected)
    × (status ≡ status_of (nat_lt 0 selected))

-- `FiltersText` for the lines of a reader, if the contents of the reader (`input`) are known.
abbrev pub Filters : (Answers : LineRule) → LineStyle → (first : ℕ) → (counts : Bool)
    → (status : ℕ) → (input old new : Option (List ℕ)) → Type 0
Filters Answers style first counts status input old new =
    IfSome input (λ text. FiltersText Answers style first counts status text old new)
