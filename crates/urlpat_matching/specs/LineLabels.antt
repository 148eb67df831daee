-- What is written before the output for a line. Texts are bytes.
use Rattle.std.specs.Prelude.{◌==◌, ◌++◌, ℕ, List, [], codes, decimal, length, if◌then◌else◌, Option, None, Some}
use Rattle.std.specs.Borrow.{Bor}
use Rattle.urlpat_matching.specs.declared.command.LineStyle.{LineStyle}

-- The name of a file. None: standard input.
abbrev pub file_name : Option (Bor (List ℕ)) → List ℕ
file_name None = codes "(standard input)"
file_name (Some file) = file.now

-- The name of the file and a colon, if the style asks for it.
abbrev pub name_label : LineStyle → List ℕ
name_label style = if style.named then file_name style.file ++ codes ":" else []

-- The label of a line with this number: the name of the file and the number, each with a colon, as
-- the style asks for them.
abbrev pub label : LineStyle → (number : ℕ) → List ℕ
label style number =
    if style.numbered then name_label style ++ decimal number ++ codes ":" else name_label style

-- The output `piece` for the line with this number, after the label unless it is empty.
abbrev pub labelled : LineStyle → (number : ℕ) → (piece : List ℕ) → List ℕ
labelled style number piece = if length piece == 0 then [] else label style number ++ piece
