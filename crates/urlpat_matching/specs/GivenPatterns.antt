-- Patterns as the arguments of a command give them. Texts are bytes. `base` is the text of a base
-- URL, and `ignores` says whether patterns ignore case.
use Rattle.std.specs.Prelude.{◌≡◌, ◌⊎◌, ℕ, Bool, List, Option, None, Some, Result, Ok, IfOk, String, option_map, string_bytes}
use Rattle.std.specs.declared.alloc.{AllocError.AllocError, Global.Global}
use Rattle.urlpat_matching.specs.PatternWords.{IsPatternOf, KeepsPartsOfWord, RejectsPatternOf, pattern_options}
use Rattle.urlpat_matching.specs.declared.given_pattern.GivenPattern.{GivenPattern}
use Rattle.urlpat_matching.specs.declared.given_pattern.GivenPattern.TheVariants as given
use Rattle.urlpattern_canonical.specs.BaseUrls.{parsed_base, text_bytes}
use Rattle.urlpattern_canonical.specs.Canonical.{Reports}
use Rattle.urlpattern_compile.specs.Compiled.{IsPatternOfInit, RejectsInit}
use Rattle.urlpattern_components.specs.Eight.{Values}
use Rattle.urlpattern_engine.specs.PatternRegexps.{pattern_engine}
use Rattle.urlpattern_engine.specs.declared.pattern_regexp.PatternRegexp.{PatternRegexp}
use Rattle.urlpattern_init.specs.Inheritance.{values_of, values_view}
use Rattle.urlpattern_init.specs.declared.init.UrlPatternInit.{UrlPatternInit}
use Rattle.urlpattern_inputs.specs.InputValues.{plain_init_texts}
use Rattle.urlpattern_inputs.specs.declared.init.UrlPatternInit.{UrlPatternInit as PlainInit}
use Rattle.urlpattern_pattern.specs.KeptParts.{KeepsPartsOf}
use Rattle.urlpattern_pattern.specs.Patterns.{PatternView}
use Rattle.urlpattern_pattern.specs.UrlPatterns.{UrlPattern}
use Rattle.urlpattern_syntax.specs.Errors.{ErrorView}
use Rattle.urlpattern_syntax.specs.Text.{text_of}

-- ---- inits

-- The texts of a plain init's components.
abbrev pub plain_values : PlainInit → Values
plain_values plain = values_of (plain_init_texts plain)

-- The text of the base URL that is taken: `own`, or else `base`.
abbrev pub own_or : (own base : Option (List ℕ)) → Option (List ℕ)
own_or None base = base
own_or (Some own) base = Some own

-- The text of the base URL of a plain init: its own, or else `base`.
abbrev pub own_base : PlainInit → (base : Option (List ℕ)) → Option (List ℕ)
own_base plain base = own_or (option_map string_bytes plain.base_url) base

-- `init` has the texts of `plain`, and the URL to which the base URL of `plain` is parsed.
pub record IsInitOf (plain : PlainInit) (base : Option (List ℕ)) (init : UrlPatternInit) : Type 0
  where
    pub has_texts : values_view init ≡ plain_values plain
    pub has_base : parsed_base (own_base plain base) ≡ Ok init.base_url

-- `copied` is a copy of the optional text, unless memory ran out.
abbrev pub IsCopyOf : Option (List ℕ) → Result (Option (String Global)) AllocError → Type 0
IsCopyOf text copied = IfOk copied (λ copy. option_map text_of copy ≡ text)

-- ---- patterns

-- The plain init is compiled to `compiled`, with the engine `PatternRegexp`.
abbrev pub IsPatternOfPlain : (ignores : Bool) → PlainInit → (base : Option (List ℕ))
    → PatternView PatternRegexp → Type 0
IsPatternOfPlain ignores plain base compiled =
    (init : UrlPatternInit) × IsInitOf plain base init
    × IsPatternOfInit pattern_engine init (pattern_options ignores) compiled

-- `compiled` keeps the parts that the texts of the plain init are parsed to.
abbrev pub KeepsPartsOfPlain : (ignores : Bool) → PlainInit → (base : Option (List ℕ))
    → UrlPattern PatternRegexp → Type 0
KeepsPartsOfPlain ignores plain base compiled =
    (init : UrlPatternInit) × IsInitOf plain base init
    × KeepsPartsOf pattern_engine init (pattern_options ignores) compiled

-- The plain init is rejected with this error: `url` rejects its base URL, or its texts are rejected
-- when they are compiled.
abbrev pub RejectsPlain : (ignores : Bool) → PlainInit → (base : Option (List ℕ)) → ErrorView
    → Type 0
RejectsPlain ignores plain base error =
    Reports (parsed_base (own_base plain base)) (text_bytes (own_base plain base)) error
    ⊎ ((init : UrlPatternInit) × IsInitOf plain base init
    × RejectsInit pattern_engine init (pattern_options ignores) error)

-- The pattern that is given is compiled to `compiled`.
abbrev pub IsPatternGiven : (ignores : Bool) → GivenPattern → (base : Option (List ℕ))
    → PatternView PatternRegexp → Type 0
IsPatternGiven ignores (given.Text text) base compiled = IsPatternOf ignores text.now base compiled
IsPatternGiven ignores (given.Init plain) base compiled =
    IsPatternOfPlain ignores plain.now base compiled

-- `compiled` keeps the parts that the texts of the pattern that is given are parsed to.
abbrev pub KeepsPartsGiven : (ignores : Bool) → GivenPattern → (base : Option (List ℕ))
    → UrlPattern PatternRegexp → Type 0
KeepsPartsGiven ignores (given.Text text) base compiled =
    KeepsPartsOfWord ignores text.now base compiled
KeepsPartsGiven ignores (given.Init plain) base compiled =
    KeepsPartsOfPlain ignores plain.now base compiled

-- The pattern that is given is rejected with this error.
abbrev pub RejectsGiven : (ignores : Bool) → GivenPattern → (base : Option (List ℕ)) → ErrorView
    → Type 0
RejectsGiven ignores (given.Text text) base error = RejectsPatternOf ignores text.now base error
RejectsGiven ignores (given.Init plain) base error = RejectsPlain ignores plain.now base error
