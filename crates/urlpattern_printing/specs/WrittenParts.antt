-- The text of one part, as clauses of the structs that write it see it.
use Rattle.std.specs.Prelude.{ℕ, Bool, List}
use Rattle.urlpattern_printing.specs.declared.printed.PrintedPart.{PrintedPart}
use Rattle.urlpattern_printing.specs.declared.regexp_text.PartRegexp.{PartRegexp}
use Rattle.urlpattern_printing.specs.Neighbours.{neighbour}
use Rattle.urlpattern_meaning.specs.Printing.{printed_group}
use Rattle.urlpattern_syntax.specs.{Options.options_view, Parts.part_view, Text.text_of}
use Rattle.urlpattern_syntax.specs.RegexpText.{affixed_regexp, bare_regexp, escaped_regexp, fixed_regexp, matched_by}

-- ---- in the regular expression

-- The value of the part, escaped for a regular expression.
abbrev pub escaped_value : PartRegexp → List ℕ
escaped_value regexp =
    escaped_regexp (options_view regexp.options.now) (text_of regexp.part.now.value)

-- The prefix of the part, escaped for a regular expression.
abbrev pub escaped_prefix : PartRegexp → List ℕ
escaped_prefix regexp =
    escaped_regexp (options_view regexp.options.now) (text_of regexp.part.now.prefix)

-- The suffix of the part, escaped for a regular expression.
abbrev pub escaped_suffix : PartRegexp → List ℕ
escaped_suffix regexp =
    escaped_regexp (options_view regexp.options.now) (text_of regexp.part.now.suffix)

-- The regular expression of one copy of the part, without prefix and suffix.
abbrev pub matched_text : PartRegexp → List ℕ
matched_text regexp =
    matched_by (options_view regexp.options.now) regexp.part.now.kind
    (text_of regexp.part.now.value)

-- The regular expression of the part with its modifier, if the part is a fixed text.
abbrev pub fixed_part : PartRegexp → List ℕ
fixed_part regexp = fixed_regexp regexp.part.now.modifier (escaped_value regexp)

-- The regular expression of the part with its modifier, if the part is a group with neither prefix
-- nor suffix.
abbrev pub bare_part : PartRegexp → List ℕ
bare_part regexp = bare_regexp regexp.part.now.modifier (matched_text regexp)

-- The regular expression of the part with its modifier, if the part is a group with a prefix or a
-- suffix.
abbrev pub affixed_part : PartRegexp → List ℕ
affixed_part regexp =
    affixed_regexp regexp.part.now.modifier (escaped_prefix regexp) (matched_text regexp)
    (escaped_suffix regexp)

-- ---- in the pattern text

-- The pattern text of the part with its modifier, if the part is not a fixed text. The text is
-- between braces if `braces` is set, that is, if the part needs them (`needs_braces`).
abbrev pub group_part : PrintedPart → (braces : Bool) → List ℕ
group_part printed braces =
    printed_group (options_view printed.options.now) (neighbour printed.previous)
    (part_view printed.part.now) braces
