-- Where the body of a custom regular expression is not valid.
use Rattle.std.specs.Prelude.{◌≡◌, ℕ, ◌+◌, ◌≤◌, ◌⊎◌, List, [], ◌∷◌, ◌++◌, codes, length, Option, Some, None}
use Rattle.std.specs.{Borrow.Bor, Str.chars}
use Rattle.urlpattern_parser.specs.declared.body.BodyError.{BodyError}
use Rattle.urlpattern_syntax.specs.Text.{BeginsWith, byte_len}
use Rattle.urlpattern_syntax.specs.Tokens.{FaultView, IncompleteEscapeCode, IsFaultAt, IsRegexpStart, fault_view, is_question_mark}

-- `rest`, the text after a `(`, is a valid start of a body followed by `left`.
abbrev pub IsAfterRegexpStart : (rest left : List ℕ) → Type 0
IsAfterRegexpStart rest left = (front : List ℕ) × IsRegexpStart front × (rest ≡ front ++ left)

-- The first `len` bytes of `left` are not valid in a custom expression: a character that is not
-- ASCII, alone or after a backslash, or a `(` that no `?` follows.
abbrev pub IsRejectedStart : (left : List ℕ) → (len : ℕ) → Type 0
IsRejectedStart left len =
    ((c : ℕ) × (more : List ℕ) × (left ≡ c ∷ more) × (128 ≤ c) × (len ≡ byte_len (c ∷ [])))
    ⊎ ((c : ℕ) × (more : List ℕ)
    × (left ≡ codes "\\" ++ c ∷ more)
    × (128 ≤ c)
    × (len ≡ 1 + byte_len (c ∷ [])))
    ⊎ ((more : List ℕ) × (left ≡ codes "(" ++ more)
    × ¬ BeginsWith is_question_mark more
    × (len ≡ 1))

-- What the fault of `text`, the text after a `(`, points at: the rest of the text from the invalid
-- bytes on and how many they are, or, with None, the end of a text that ends before its body does.
abbrev pub AreInvalidBytes : (text : List ℕ) → FaultView → Option (Bor (List ℕ) × ℕ) → Type 0
AreInvalidBytes text fault (Some found) =
    IsAfterRegexpStart (chars text) (chars found.0.now)
    × IsRejectedStart (chars found.0.now) found.1
    × (length found.0.now ≤ length text)
AreInvalidBytes text fault None = (fault ≡ IncompleteEscapeCode) ⊎ IsRegexpStart (chars text)

-- `text`, the text after a `(`, does not begin with a body, and `BodyError` says where and why.
abbrev pub IsBodyError : (text : List ℕ) → BodyError → Type 0
IsBodyError text body =
    IsFaultAt (codes "(" ++ chars text) (fault_view body.error)
    × AreInvalidBytes text (fault_view body.error) body.invalid_bytes
