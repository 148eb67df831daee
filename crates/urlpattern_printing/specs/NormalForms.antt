-- The pattern text of a list of parts, and its normal form: the parts that the text reads as.
use Rattle.std.specs.Prelude.{◌≡◌, ℕ, List}
use Rattle.std.specs.declared.alloc.Global.{Global}
use Rattle.std.specs.declared.vec.Vec.{Vec}
use Rattle.urlpattern_meaning.specs.Laws.{EncodingResults, listed}
use Rattle.urlpattern_meaning.specs.Printing.{Keeps, encoded_texts, joined, printed}
use Rattle.urlpattern_meaning.specs.RoundTrip.{FailsText, IsPrintable, KeepsOrFails, ReadsBack}
use Rattle.urlpattern_syntax.specs.declared.error.Error.{Error}
use Rattle.urlpattern_syntax.specs.{Errors.MemoryOr, Options.OptionsView}
use Rattle.urlpattern_syntax.specs.declared.parser.Part.{Part}
use Rattle.urlpattern_syntax.specs.Parts.{PartView, parts_view}
use Rattle.urlpattern_syntax.specs.Reading.{Encoding, Reads, Rejects}

-- If the parts are printable, the text reads as the joined parts and as nothing else, and what it
-- reads as prints as the text, under any list of encoding results that keeps the texts of the
-- parts.
abbrev pub ReadsBackIfKept : (text : List ℕ) → OptionsView → List PartView → Type 0
ReadsBackIfKept text options parts =
    (answers : EncodingResults) → IsPrintable options parts → Keeps (listed answers) parts
    → ReadsBack text options (listed answers) parts

-- If the parts are printable and the encoding changes none of their texts, `normal` is the joined
-- parts, in which neighbouring fixed texts without a modifier are one.
abbrev pub IsJoinedIfKept : OptionsView → Encoding → List PartView → Vec Part Global → Type 0
IsJoinedIfKept options encoding parts normal =
    IsPrintable options parts → KeepsOrFails encoding parts → parts_view normal.items ≡ joined parts

-- If the parts are printable, the error is one that the encoding may return for a text of the
-- joined parts, or that memory ran out.
abbrev pub FailsIfPrintable : OptionsView → Encoding → List PartView → Error → Type 0
FailsIfPrintable options encoding parts error =
    IsPrintable options parts → MemoryOr (FailsText encoding (encoded_texts (joined parts))) error

-- Under the options and the encoding, the pattern text of the parts reads as `normal`.
abbrev pub IsReadFrom : OptionsView → Encoding → List PartView → Vec Part Global → Type 0
IsReadFrom options encoding parts normal =
    Reads (printed options parts) options encoding (parts_view normal.items)

-- Under the options and the encoding, the pattern text of the parts is rejected with this error, or
-- memory ran out.
abbrev pub RejectsPrinted : OptionsView → Encoding → List PartView → Error → Type 0
RejectsPrinted options encoding parts error =
    MemoryOr (Rejects (printed options parts) options encoding) error
