-- The JSON of inputs: the tree of each value, and the value read from a tree. `None` is read from a
-- tree of another shape.
use Rattle.std.specs.Prelude.{if◌then◌else◌, List, [], ◌∷◌, ◌++◌, ℕ, Option, None, Some, option_map, codes}
use Rattle.std.specs.Str.{bytes_eq}
use Rattle.serde_json.specs.Data.{Data, boolean, string}
use Rattle.serde_json.specs.Find.{as_object, as_str, get}
use Rattle.urlpattern_inputs.specs.declared.options.UrlPatternOptions.{UrlPatternOptions}
use Rattle.urlpattern_inputs.specs.InputValues.{InitView, InputView, of_text, of_init}
use Rattle.urlpattern_inputs.specs.Trees.{◌>>=◌, each_member, flag_read, object_of, optional_read, read_each, text_read}
use Rattle.urlpattern_components.specs.declared.eight.Eight.{Eight}
use Rattle.urlpattern_components.specs.Eight.{at, name_text}
use Rattle.urlpattern_syntax.specs.declared.parser.RegexSyntax.{RegexSyntax}

-- ---- trees

-- The name of a syntax in JSON.
abbrev pub syntax_name : RegexSyntax → List ℕ
syntax_name RegexSyntax.Rust = codes "Rust"
syntax_name RegexSyntax.EcmaScript = codes "EcmaScript"

-- The tree of options.
abbrev pub options_tree : UrlPatternOptions → Data
options_tree options = object_of (
    (codes "regexSyntax", Some (string (syntax_name options.regex_syntax)))
    ∷ (codes "ignoreCase", Some (boolean options.ignore_case))
    ∷ [])

-- The tree of an init: a member for each text that is given, of the components and of the base URL.
abbrev pub init_tree : InitView → Data
init_tree init = object_of (
    each_member (λ name. option_map string (at init.texts name))
    ++ (codes "baseURL", option_map string init.base_url) ∷ [])

-- The tree of an input: a string, or the tree of an init.
abbrev pub input_tree : InputView → Data
input_tree (of_text bytes) = string bytes
input_tree (of_init values) = init_tree values

-- The tree of a match input: a member for each component.
abbrev pub match_input_tree : Eight (List ℕ) → Data
match_input_tree input = object_of (each_member (λ name. Some (string (at input name))))

-- ---- reading

-- The syntax with this name, `None` if no syntax has it.
abbrev pub syntax_of : List ℕ → Option RegexSyntax
syntax_of name =
    if bytes_eq name (codes "Rust") then Some RegexSyntax.Rust
    else if bytes_eq name (codes "EcmaScript") then Some RegexSyntax.EcmaScript
    else None

-- The syntax read from a member, the default if the member is missing. `None`: the member is not
-- the name of a syntax.
abbrev pub syntax_read : Option Data → Option RegexSyntax
syntax_read None = Some RegexSyntax.Rust
syntax_read (Some tree) = as_str tree >>= syntax_of

-- The options read from a tree, an object with `ignoreCase`, and with `regexSyntax`, of which the
-- default is read if it is missing.
unfoldable pub options_read : Data → Option UrlPatternOptions
options_read tree = do
  regex_syntax ← syntax_read (get (codes "regexSyntax") tree)
  ignore_case ← flag_read (codes "ignoreCase") tree
  Some (record { regex_syntax = regex_syntax; ignore_case = ignore_case })

-- The init read from a tree, an object in which each member may be missing or null.
unfoldable pub init_read : Data → Option InitView
init_read tree = do
  members ← as_object tree
  texts ← read_each (λ name. optional_read as_str (name_text name) tree)
  base_url ← optional_read as_str (codes "baseURL") tree
  Some (record { texts = texts; base_url = base_url })

-- The input read from a tree: a string is a text, any other tree an init.
abbrev pub input_read : Data → Option InputView
input_read (string bytes) = Some (of_text bytes)
input_read tree = option_map of_init (init_read tree)

-- The match input read from a tree, an object with a text for each component.
abbrev pub match_input_read : Data → Option (Eight (List ℕ))
match_input_read tree = read_each (λ name. text_read (name_text name) tree)
