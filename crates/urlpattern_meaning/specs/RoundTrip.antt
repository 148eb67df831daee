-- Lists of parts whose printed pattern reads as the joined parts: the premises and the statement of
-- that theorem.
use Rattle.std.specs.Prelude.{◌≡◌, ◌≢◌, ℕ, suc, ◌⊎◌, not, List, [], ◌∷◌, AllPairs, Contains, IsTrue, Ok, Err, decimal, if◌then◌else◌}
use Rattle.std.specs.List.{list_all}
use Rattle.urlpattern_syntax.specs.{Errors.ErrorView, Parts.PartView}
use Rattle.urlpattern_syntax.specs.Options.{OptionsView, default_options, hostname_options, pathname_options}
use Rattle.urlpattern_syntax.specs.declared.parser.PartType.{PartType}
use Rattle.urlpattern_syntax.specs.Reading.{Encoding, Reads, Rejects}
use Rattle.urlpattern_syntax.specs.RegexpText.{full_wildcard, group_names, segment_wildcard}
use Rattle.urlpattern_syntax.specs.Text.{is_among, is_name_part}
use Rattle.urlpattern_syntax.specs.Tokens.{IsName, IsRegexpBody, is_ignored}
use Rattle.urlpattern_meaning.specs.Printing.{HaveTexts, encoded_texts, has_custom_name, joined, pattern_marks, printed}

-- ---- options

-- The text may be a prefix code point: it is empty, or a single character that is neither special
-- in patterns nor part of names.
abbrev pub IsPrefixPoint : List ℕ → Type 0
IsPrefixPoint [] = Unit {0}
IsPrefixPoint (c ∷ []) = ¬ IsTrue (is_among pattern_marks c) × ¬ IsTrue (is_name_part c)
IsPrefixPoint (c ∷ d ∷ text) = ⊥

-- The options have the delimiter and the prefix code point of `other`.
abbrev pub HasPointsOf : (other options : OptionsView) → Type 0
HasPointsOf other options = (options.delimiter ≡ other.delimiter) × (options.prefix ≡ other.prefix)

-- The default, hostname or pathname options, in either syntax, with case kept or ignored.
abbrev pub IsStandard : OptionsView → Type 0
IsStandard options =
    HasPointsOf default_options options
    ⊎ (HasPointsOf hostname_options options ⊎ HasPointsOf pathname_options options)

-- ---- properties of parts that were read

-- The fields of the part fit its kind. A fixed text has neither prefix nor suffix. Of the groups
-- only a custom regular expression has a value, a valid body that is not spelled as a wildcard. If
-- a segment has no given name, the regular expression of a segment is a valid body.
abbrev pub FieldsFitKind : OptionsView → PartType → PartView → Type 0
FieldsFitKind options PartType.FixedText part = (part.prefix ≡ []) × (part.suffix ≡ [])
FieldsFitKind options PartType.Regexp part =
    IsRegexpBody part.value × (part.value ≢ segment_wildcard options) × (part.value ≢ full_wildcard)
FieldsFitKind options PartType.SegmentWildcard part =
    (part.value ≡ []) × (¬ IsTrue (has_custom_name part) → IsRegexpBody (segment_wildcard options))
FieldsFitKind options PartType.FullWildcard part = part.value ≡ []

-- The fields of each part fit its kind.
abbrev pub AllFieldsFit : OptionsView → List PartView → Type 0
AllFieldsFit options [] = Unit {0}
AllFieldsFit options (part ∷ parts) =
    FieldsFitKind options part.kind part × AllFieldsFit options parts

-- The name fits a part of this kind: empty for a fixed text; for a group a name that a pattern may
-- give, or the number of earlier groups without a given name.
abbrev pub IsNamed : ℕ → PartType → List ℕ → Type 0
IsNamed number PartType.FixedText name = name ≡ []
IsNamed number kind name = IsName name ⊎ (name ≡ decimal number)

-- The number of groups without a given name, up to this part and with it, where `number` are before
-- it.
abbrev pub following_number : ℕ → PartType → PartView → ℕ
following_number number PartType.FixedText part = number
following_number number kind part = if has_custom_name part then number else suc number

-- The name of each of these parts fits its kind, where `number` groups without a given name are
-- before the first.
abbrev pub AreNamed : ℕ → List PartView → Type 0
AreNamed number [] = Unit {0}
AreNamed number (part ∷ parts) =
    IsNamed number part.kind part.name × AreNamed (following_number number part.kind part) parts

-- The parts have the form that parsing produces: the fields and the name of each fit its kind, and
-- no two groups have the same name.
pub record ArePatternParts (options : OptionsView) (parts : List PartView) : Type 0 where
  pub fields : AllFieldsFit options parts
  pub names : AreNamed 0 parts
  pub distinct : AllPairs (λ name other. name ≢ other) (group_names parts)

-- ---- which texts of parts may be printed

-- No character of the text is skipped between tokens, that is, is a tab, a line feed or a carriage
-- return.
abbrev pub IsUnskipped : List ℕ → Type 0
IsUnskipped text = IsTrue (list_all (λ c. not (is_ignored c)) text)

-- No character is skipped between tokens in the value of a fixed text, or in the prefix and the
-- suffix of a group.
abbrev pub HasUnskipped : PartType → PartView → Type 0
HasUnskipped PartType.FixedText part = IsUnskipped part.value
HasUnskipped kind part = IsUnskipped part.prefix × IsUnskipped part.suffix

-- No fixed text, prefix or suffix of the parts has a character that is skipped between tokens, as
-- `IsUnskipped` says.
abbrev pub AreUnskipped : List PartView → Type 0
AreUnskipped [] = Unit {0}
AreUnskipped (part ∷ parts) = HasUnskipped part.kind part × AreUnskipped parts

-- ---- premises

-- The printed pattern of the parts reads as the joined parts under these premises: the prefix code
-- point of the options may be one (`IsPrefixPoint`), the parts have the form that parsing produces,
-- no fixed text is empty, and no text has a character that is skipped between tokens.
pub record IsPrintable (options : OptionsView) (parts : List PartView) : Type 0 where
  pub point : IsPrefixPoint options.prefix
  pub pattern_parts : ArePatternParts options parts
  pub texts : HaveTexts parts
  pub unskipped : AreUnskipped parts

-- The text reads as the parts under standard options, no fixed text is empty, and no character is
-- skipped between tokens in the fixed texts, prefixes and suffixes.
pub record WereRead (text : List ℕ) (options : OptionsView) (encoding : Encoding)
    (parts : List PartView) : Type 0 where
  pub standard : IsStandard options
  pub reads : Reads text options encoding parts
  pub texts : HaveTexts parts
  pub unskipped : AreUnskipped parts

-- The encoding changes no text of the joined parts. It may have an error for a text, as a callback
-- that runs out of memory does.
abbrev pub KeepsOrFails : Encoding → List PartView → Type 0
KeepsOrFails encoding parts =
    (text other : List ℕ) → Contains (encoded_texts (joined parts)) text
    → encoding text (Ok other)
    → other ≡ text

-- The encoding may return each text of the joined parts unchanged.
abbrev pub MayKeep : Encoding → List PartView → Type 0
MayKeep encoding parts =
    (text : List ℕ) → Contains (encoded_texts (joined parts)) text → encoding text (Ok text)

-- The encoding may reject one of these texts with this error.
abbrev pub FailsText : Encoding → (texts : List (List ℕ)) → ErrorView → Type 0
FailsText encoding texts error = (text : List ℕ) × Contains texts text × encoding text (Err error)

-- ---- the theorem of one text

-- The text reads as the joined parts.
abbrev pub ReadsAsJoined : (text : List ℕ) → OptionsView → Encoding → List PartView → Type 0
ReadsAsJoined text options encoding parts = Reads text options encoding (joined parts)

-- The text reads as no parts other than the joined parts.
abbrev pub ReadsOnlyAsJoined : (text : List ℕ) → OptionsView → Encoding → List PartView → Type 0
ReadsOnlyAsJoined text options encoding parts =
    (others : List PartView) → Reads text options encoding others → others ≡ joined parts

-- The text is not rejected under the options and the encoding. The parts do not matter.
abbrev pub IsNotRejected : (text : List ℕ) → OptionsView → Encoding → List PartView → Type 0
IsNotRejected text options encoding parts =
    (error : ErrorView) → ¬ Rejects text options encoding error

-- Each list of parts that the text reads as prints as this text.
abbrev pub PrintsTheSame : (text : List ℕ) → OptionsView → Encoding → List PartView → Type 0
PrintsTheSame text options encoding parts =
    (others : List PartView) → Reads text options encoding others → printed options others ≡ text

-- The text reads as the joined parts and as nothing else, is not rejected, and what it reads as
-- prints as the text.
pub record ReadsBack (text : List ℕ) (options : OptionsView) (encoding : Encoding)
    (parts : List PartView) : Type 0 where
  pub reads : ReadsAsJoined text options encoding parts
  pub only : ReadsOnlyAsJoined text options encoding parts
  pub not_refused : IsNotRejected text options encoding parts
  pub same : PrintsTheSame text options encoding parts
