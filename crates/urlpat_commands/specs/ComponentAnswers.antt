-- The output of `component` for its arguments. Texts are bytes. `old` and `new` are the output
-- before and after, as far as it is known.
use Rattle.std.specs.Prelude.{◌≡◌, ◌≢◌, All, ◌++◌, ℕ, List, map, codes, Option, Result, Ok, Err, String, string_bytes, encode_utf8_all}
use Rattle.std.specs.Io.KnownBytes.{Appends}
use Rattle.std.specs.List.{flat_map}
use Rattle.std.specs.Str.{chars}
use Rattle.std.specs.declared.alloc.Global.{Global}
use Rattle.urlpat_matching.specs.declared.command.ComponentArguments.{ComponentArguments}
use Rattle.urlpat_matching.specs.declared.command.Kind.{Kind}
use Rattle.urlpat_matching.specs.declared.command.Kind.TheVariants as kinds
use Rattle.urlpattern.specs.Dialect.{HasMeaningOf}
use Rattle.urlpattern.specs.Errors.{ErrorView}
use Rattle.urlpattern.specs.Laws.{EncodingResults, listed}
use Rattle.urlpattern.specs.Options.{OptionsView, default_options, hostname_options, pathname_options}
use Rattle.urlpattern.specs.Parts.{PartView}
use Rattle.urlpattern.specs.Printing.{Keeps, printed}
use Rattle.urlpattern.specs.Reading.{Encoding, Reads, Rejects, encoding_of}
use Rattle.urlpattern.specs.RegexpText.{group_names, regexp_text}
use Rattle.urlpattern.specs.RoundTrip.{IsPrintable, ReadsBack}
use Rattle.urlpattern_syntax.specs.declared.error.Error.{Error}
use Rattle.urlpattern_syntax.specs.declared.error.Error.TheVariants as errors
use Rattle.urlpattern_syntax.specs.declared.parser.PartType.TheVariants.{Regexp}

-- The output of `component`: a line with the names of the groups, one with the regular expression,
-- and one with the printed pattern.
abbrev pub component_lines : (names : List (List ℕ)) → (regexp pattern : List ℕ) → List ℕ
component_lines names regexp pattern =
    codes "names:" ++ flat_map (λ name. codes " " ++ name) names ++ codes "\nregexp: " ++ regexp
    ++ codes "\npattern: " ++ pattern ++ codes "\n"

-- The result is a copy of `bytes`, or that memory ran out.
abbrev pub CopiesBytes : (bytes : List ℕ) → Result (String Global) Error → Type 0
CopiesBytes bytes (Ok copy) = string_bytes copy ≡ bytes
CopiesBytes bytes (Err error) = error ≡ errors.OutOfMemory

-- The encoding whose result for a text is a copy of the text.
abbrev pub kept : Encoding
kept = encoding_of CopiesBytes

-- The options of a component of this kind.
abbrev pub kind_options : Kind → OptionsView
kind_options kinds.Default = default_options
kind_options kinds.Hostname = hostname_options
kind_options kinds.Pathname = pathname_options

-- `text` shows what the pattern is compiled to under the options, with fixed texts not encoded: the
-- names of its groups, a regular expression, which means what the parts mean if none of them is
-- custom, and a printed pattern, which reads back as the parts if they are printable.
pub record IsTextBy (options : OptionsView) (pattern text : List ℕ) : Type 0 where
  pub parts : List PartView
  pub reads : Reads (chars pattern) options kept parts
  pub means : All (λ part. part.kind ≢ Regexp) parts
      → HasMeaningOf (regexp_text options parts) options parts
  pub reads_back : (answers : EncodingResults) → IsPrintable options parts
      → Keeps (listed answers) parts
      → ReadsBack (printed options parts) options (listed answers) parts
  pub is_text : text
      ≡ component_lines (map encode_utf8_all (group_names parts))
      (encode_utf8_all (regexp_text options parts)) (encode_utf8_all (printed options parts))

-- `text` shows what the pattern is compiled to under the options of its kind.
abbrev pub IsComponentText : ComponentArguments → (text : List ℕ) → Type 0
IsComponentText asked text = IsTextBy (kind_options asked.kind) asked.pattern.now text

-- The pattern is rejected with this error.
abbrev pub RejectsComponentText : ComponentArguments → ErrorView → Type 0
RejectsComponentText asked error =
    Rejects (chars asked.pattern.now) (kind_options asked.kind) kept error

-- The pattern is compiled, and what it is compiled to is printed.
abbrev pub PrintsComponent : ComponentArguments → (old new : Option (List ℕ)) → Type 0
PrintsComponent asked old new = (text : List ℕ) × IsComponentText asked text × Appends old new text

-- The pattern is compiled. Whether anything is printed is not said.
abbrev pub IsComponentAnswered : ComponentArguments → Type 0
IsComponentAnswered asked = (text : List ℕ) × IsComponentText asked text
