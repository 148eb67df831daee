-- What a compiler compiles: the values of an init, and how each component's pattern is parsed.
use Rattle.std.specs.Prelude.{Bool, List, Option, ℕ}
use Rattle.std.specs.Borrow.{Bor}
use Rattle.urlpattern_matcher.specs.Components.{IsCompiledKeeping, pattern_text}
use Rattle.urlpattern_matcher.specs.declared.component.ComponentWithParts.{ComponentWithParts}
use Rattle.urlpattern_matcher.specs.declared.regexp.RegExp.{Ghosts as Engine}
use Rattle.urlpattern_init.specs.Inheritance.{values_view}
use Rattle.urlpattern_compile.specs.declared.compile.Compiler.{Compiler}
use Rattle.urlpattern_compile.specs.Compiled.{IsRejectedFrom, ParseSettings, settings_of}
use Rattle.urlpattern_components.specs.declared.eight.ComponentName.{ComponentName}
use Rattle.urlpattern_components.specs.Eight.{Values}
use Rattle.urlpattern_syntax.specs.declared.parser.Options.{Options}
use Rattle.urlpattern_syntax.specs.Errors.{ErrorView}
use Rattle.urlpattern_syntax.specs.Options.{options_view}
use Rattle.urlpattern_syntax.specs.Reading.{Encoding}

-- The values that a compiler compiles, as lists of characters.
abbrev pub compiled_values : Compiler → Values
compiled_values compiler = values_view compiler.values.now

-- How a compiler parses a component's pattern; `hierarchical` says whether the pathname is
-- hierarchical.
abbrev pub settings_by : Compiler → (hierarchical : Bool) → ComponentName → ParseSettings
settings_by compiler = settings_of compiler.options.now (compiled_values compiler)

-- `engine` compiles `pattern`, or an asterisk for None, to `made`, a component with its parts.
abbrev pub IsCompiledWith : {E : Type 0} → Engine E → Option (Bor (List ℕ)) → Options → Encoding
    → ComponentWithParts E → Type 0
IsCompiledWith engine pattern options encoding made =
    IsCompiledKeeping engine (pattern_text pattern) (options_view options) encoding made

-- `pattern`, or an asterisk for None, is rejected with `error`, for its text or by `engine` for a
-- regular expression.
abbrev pub IsRejectedWith : {E : Type 0} → Engine E → Option (Bor (List ℕ)) → Options → Encoding
    → ErrorView → Type 0
IsRejectedWith engine pattern options encoding error =
    IsRejectedFrom engine (pattern_text pattern) (options_view options) encoding error
