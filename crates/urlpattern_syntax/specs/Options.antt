-- The options of a component, as clauses see them.
use Rattle.std.specs.Prelude.{ℕ, Bool, false, List, [], Option, None, Some, codes}
use Rattle.url.specs.Ascii.{dot, slash}
pub use Rattle.urlpattern_syntax.specs.declared.parser.RegexSyntax.{RegexSyntax}
use Rattle.urlpattern_syntax.specs.declared.parser.Options.{Options}
use Rattle.urlpattern_syntax.specs.Text.{text_of}

-- The view of `Options`, with the prefix code point as a text.
pub record OptionsView : Type 0 where
  pub delimiter : Option ℕ
  pub prefix : List ℕ
  pub syntax : RegexSyntax
  pub ignore_case : Bool

-- The view of `Options`.
abbrev pub options_view : Options → OptionsView
options_view options = record {
  delimiter = options.delimiter_code_point;
  prefix = text_of options.prefix_code_point;
  syntax = options.regex_syntax;
  ignore_case = options.ignore_case;
}

-- The options with this delimiter and this prefix code point, in Rust's syntax, with case kept.
abbrev pub standard_options : Option ℕ → List ℕ → OptionsView
standard_options delimiter prefix = record {
  delimiter = delimiter;
  prefix = prefix;
  syntax = RegexSyntax.Rust;
  ignore_case = false;
}

-- The options of most components: no delimiter and no prefix code point.
abbrev pub default_options : OptionsView
default_options = standard_options None []

-- The options of a hostname: the delimiter is a dot.
abbrev pub hostname_options : OptionsView
hostname_options = standard_options (Some dot) []

-- The options of a pathname: delimiter and prefix are a slash.
abbrev pub pathname_options : OptionsView
pathname_options = standard_options (Some slash) (codes "/")
