-- The part before or after another in a list, as clauses see it, and texts that end with the prefix
-- code point.
use denote.Ref.{Bor}
use Rattle.std.specs.Prelude.{◌&&◌, Bool, bytes_eq, ℕ, List, not, Option, option_map}
use Rattle.urlpattern_meaning.specs.Printing.{last_of}
use Rattle.urlpattern_syntax.specs.{Options.OptionsView, RegexpText.is_empty}
use Rattle.urlpattern_syntax.specs.declared.parser.Part.{Part}
use Rattle.urlpattern_syntax.specs.Parts.{PartView, part_view}

-- The part before or after another, as clauses see it, or None at an end of the list.
abbrev pub neighbour : Option (Bor Part) → Option PartView
neighbour part = option_map (λ there. part_view there.now) part

-- Whether the last character of the text is the prefix code point.
abbrev pub ends_with_prefix : OptionsView → List ℕ → Bool
ends_with_prefix options text = not (is_empty text) && bytes_eq (last_of text) options.prefix
