-- What an engine returns, by what the grammar of the crate `regex` reads in the text of a value.
use Rattle.std.specs.Prelude.{◌≡◌, ◌⊎◌, ℕ, ◌-◌, false, List, length, IsTrue, IfSome, Option, option_map, encode_utf8_all}
use Rattle.std.specs.Str.{all_scalars}
use Rattle.regex.specs.Writes.{group_of}
use Rattle.regex_hir.specs.Find.{find_str}
use Rattle.regex_hir.specs.Re.{Re}
use Rattle.regex_syntax.specs.Grammar.{read}
use Rattle.regex_syntax.specs.Verdict.{default_config}
use Rattle.urlpattern_matcher.specs.Components.{engine_flags}
use Rattle.urlpattern_matcher.specs.Regexes.{group_texts}
use Rattle.urlpattern_matcher.specs.declared.regexp.RegExp.{Ghosts as Engine}
use Rattle.urlpattern_meaning.specs.PartMeaning.{AreGenerated, Captures}
use Rattle.urlpattern_syntax.specs.{Options.OptionsView, Parts.PartView, RegexpText.regexp_text}

-- The captures of the first match of `re` in the text. `groups` is the number of its groups, the
-- whole match among them. None: no match.
abbrev pub re_result : Re → (groups : ℕ) → (text : List ℕ) → Option Captures
re_result re groups text =
    let bytes = encode_utf8_all text in
    option_map (λ found. group_texts bytes (groups - 1) (group_of found)) (find_str re bytes 0)

-- Each value that was made with flags for which `AreSuch` holds returns, for each text of
-- characters, the first match of what the grammar reads in the value's expression, custom or not.
abbrev pub ValuesReturnAsRead : {E : Type 0} → Engine E
    → (AreSuch : (flags : List ℕ) → Type 0) → Type 0
ValuesReturnAsRead {E} engine AreSuch =
    (regexp flags : List ℕ) (value : E) → AreSuch flags → engine.IsMade value regexp flags
    → IfSome (read default_config regexp) (λ (pattern, names).
    (text : List ℕ) → IsTrue (all_scalars text)
    → engine.answer value text ≡ re_result pattern.value (length names) text)

-- Two values made of the regular expression of the same parts return equal results for each text of
-- characters, if case is kept or no part is custom.
abbrev pub ExpressionsReturnAlike : {E : Type 0} → Engine E → Type 0
ExpressionsReturnAlike {E} engine =
    (options : OptionsView) (parts : List PartView) (value other : E) (text : List ℕ)
    → (options.ignore_case ≡ false) ⊎ AreGenerated parts
    →
    engine.IsMade value (regexp_text options parts) (engine_flags options)
    → engine.IsMade other (regexp_text options parts) (engine_flags options)
    →
    IsTrue (all_scalars text) → engine.answer value text ≡ engine.answer other text
