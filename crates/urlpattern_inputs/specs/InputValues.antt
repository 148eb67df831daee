-- The views of inputs. Texts are their bytes in UTF-8, as in JSON.
use Rattle.std.specs.Prelude.{ℕ, List, Option, String, option_map, string_bytes}
use Rattle.std.specs.Cow.{cow_str_bytes}
use Rattle.std.specs.declared.alloc.Global.{Global}
use Rattle.urlpattern_inputs.specs.declared.init.UrlPatternInit.{UrlPatternInit}
use Rattle.urlpattern_inputs.specs.declared.input.StringOrInit.{StringOrInit}
use Rattle.urlpattern_inputs.specs.declared.match_input.MatchInput.{MatchInput}
use Rattle.urlpattern_components.specs.declared.eight.Eight.{Eight}
use Rattle.urlpattern_components.specs.Eight.{at, each}

-- ---- inits and inputs

-- The texts of an init's components, by their names.
abbrev pub plain_init_texts : UrlPatternInit → Eight (Option (String Global))
plain_init_texts given = record {
  protocol = given.protocol;
  username = given.username;
  password = given.password;
  hostname = given.hostname;
  port = given.port;
  pathname = given.pathname;
  search = given.search;
  hash = given.hash;
}

-- The view of an init: the text of each component, where it is given, and of the base URL.
pub record InitView : Type 0 where
  pub texts : Eight (Option (List ℕ))
  pub base_url : Option (List ℕ)

-- The view of a `UrlPatternInit`.
abbrev pub init_view : UrlPatternInit → InitView
init_view init = record {
  texts = each (λ name. option_map string_bytes (at (plain_init_texts init) name));
  base_url = option_map string_bytes init.base_url;
}

-- The view of an input: a text, or an init.
pub data InputView : Type 0 where
  of_text : List ℕ → InputView
  of_init : InitView → InputView

-- The view of a `StringOrInit`.
abbrev pub input_view : StringOrInit → InputView
input_view (StringOrInit.String string) = of_text (cow_str_bytes string)
input_view (StringOrInit.Init values) = of_init (init_view values)

-- ---- match inputs

-- The texts of a match input, by the names of the components.
abbrev pub matched_texts : MatchInput → Eight (String Global)
matched_texts input = record {
  protocol = input.protocol;
  username = input.username;
  password = input.password;
  hostname = input.hostname;
  port = input.port;
  pathname = input.pathname;
  search = input.search;
  hash = input.hash;
}

-- The view of a `MatchInput`.
abbrev pub match_input_view : MatchInput → Eight (List ℕ)
match_input_view input = each (λ name. string_bytes (at (matched_texts input) name))
