-- Reading undoes writing.
use Rattle.std.proofs.Common.{◌≡◌, ℕ, Bool, List, [], ◌∷◌, ◌++◌, Option, None, Some, refl, ap, ◌∙◌, codes, option_map}
use Rattle.serde_json.specs.Data.{Data, no_members, string}
use Rattle.serde_json.specs.Find.{as_str}
use Rattle.urlpattern_inputs.specs.declared.options.UrlPatternOptions.{UrlPatternOptions}
use Rattle.urlpattern_inputs.specs.InputJson.{init_read, init_tree, input_read, input_tree, match_input_read, match_input_tree, options_read, options_tree}
use Rattle.urlpattern_inputs.specs.InputValues.{InitView, InputView, of_init, of_text}
use Rattle.urlpattern_inputs.specs.Trees.{each_member, found_read, optional_read, read_each}
use Rattle.urlpattern_inputs.proofs.EachLemmas.{read_each-all}
use Rattle.urlpattern_inputs.proofs.InitLemmas.{init_from}
use Rattle.urlpattern_inputs.proofs.TreeLemmas.{get_member-all_with, last_of, newer, newer-none, optional_string}
use Rattle.urlpattern_components.specs.Eight.{at, name_text}
use Rattle.urlpattern_components.specs.declared.eight.ComponentName.{ComponentName}
use Rattle.urlpattern_components.specs.declared.eight.ComponentName.TheVariants.{Protocol}
use Rattle.urlpattern_components.specs.declared.eight.Eight.{Eight}
use Rattle.urlpattern_syntax.specs.declared.parser.RegexSyntax.{RegexSyntax}
use Rattle.urlpattern_syntax.specs.declared.parser.RegexSyntax.TheVariants.{EcmaScript, Rust}

-- ---- options

options_at : (syntax : RegexSyntax) (ignore_case : Bool) (options : UrlPatternOptions) → options ≡ record { regex_syntax = syntax; ignore_case = ignore_case } → options_read (options_tree options) ≡ Some options
unfolding options_read
options_at Rust ignore_case options e = rw e refl
options_at EcmaScript ignore_case options e = rw e refl

pub options_again : (options : UrlPatternOptions) → options_read (options_tree options) ≡ Some options
options_again options = options_at options.regex_syntax options.ignore_case options refl

-- ---- inits

abbrev listed_init : InitView → List (List ℕ × Option Data)
listed_init values =
    each_member (λ name. option_map string (at values.texts name))
    ++ (codes "baseURL", option_map string values.base_url) ∷ []

-- A text of the init is found by its key.
text_round_trip : (name : List ℕ) (values : InitView) (text : Option (List ℕ)) → last_of name (listed_init values) None ≡ newer (option_map string text) None → optional_read as_str name (init_tree values) ≡ Some text
text_round_trip name values text e =
    ap (found_read as_str) (get_member-all_with name (listed_init values) no_members ∙ e ∙ newer-none (option_map string text)) ∙ optional_string text

-- The last tree at the name of a component is that of its text.
last_of-name : (values : InitView) (name : ComponentName)
    → last_of (name_text name) (listed_init values) None ≡ newer (option_map string (at values.texts name)) None
last_of-name values Protocol = refl
last_of-name values name = refl

pub init_again : (values : InitView) → init_read (init_tree values) ≡ Some values
init_again values =
    init_from (init_tree values) values refl
    (read_each-all _ values.texts (λ name. text_round_trip (name_text name) values (at values.texts name) (last_of-name values name)))
    (text_round_trip (codes "baseURL") values values.base_url refl)

pub input_again : (input : InputView) → input_read (input_tree input) ≡ Some input
input_again (of_text bytes) = refl
input_again (of_init values) = ap (option_map of_init) (init_again values)

-- ---- match inputs

pub match_input_round_trip : (input : Eight (List ℕ)) → match_input_read (match_input_tree input) ≡ Some input
unfolding read_each
match_input_round_trip input = refl
