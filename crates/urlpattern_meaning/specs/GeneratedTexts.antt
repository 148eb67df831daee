-- Regular expressions of parts none of which is custom.
use Rattle.std.specs.Prelude.{◌≡◌, ℕ, List}
use Rattle.urlpattern_meaning.specs.PartMeaning.{AreGenerated}
use Rattle.urlpattern_syntax.specs.{Options.OptionsView, Parts.PartView, RegexpText.regexp_text}

-- Under some options, `regexp` is the regular expression of parts none of which is custom.
abbrev pub IsGenerated : List ℕ → Type 0
IsGenerated regexp =
    (options : OptionsView) × (parts : List PartView)
    × AreGenerated parts
    × (regexp ≡ regexp_text options parts)
