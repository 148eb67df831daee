-- Texts to which others are appended.
use Rattle.std.specs.Prelude.{◌≡◌, ◌++◌, ℕ, Bool, IsTrue, List, String}
use Rattle.std.specs.declared.alloc.Global.{Global}
use Rattle.urlpattern_syntax.specs.Text.{text_of}

-- `new` is `old` with the text appended.
abbrev pub AppendsText : (old new : String Global) → List ℕ → Type 0
AppendsText old new text = text_of new ≡ text_of old ++ text

-- If `is` (a group may have its capture), `new` is `old` with the text appended.
abbrev pub AppendsTextIf : Bool → (old new : String Global) → List ℕ → Type 0
AppendsTextIf is old new text = IsTrue is → AppendsText old new text
