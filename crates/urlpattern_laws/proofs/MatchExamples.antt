-- Worked examples of groups and matches.
use Rattle.std.proofs.Common.{◌≡◌, ℕ, false, true, List, [], ◌∷◌, ap, refl, sym, inl, inr}
use Rattle.std.proofs.lemmas.List.{append-nil}
use Rattle.std.proofs.lemmas.List.Elements.{All-from_recursion}
use Rattle.std.specs.Option.{option_flatten}
use Rattle.std.specs.Prelude.{codes, is_some, option_map, Option, Some, None, Ok, Err}
use Rattle.url.specs.Parts.{Parts}
use Rattle.urlpattern_components.specs.declared.eight.ComponentName.{ComponentName}
use Rattle.urlpattern_components.specs.declared.eight.ComponentName.TheVariants.{Protocol, Username, Password, Hostname, Port, Pathname, Search, Hash}
use Rattle.urlpattern_init.specs.declared.init.UrlPatternMatchInput.TheVariants.{Url}
use Rattle.urlpattern_init.specs.Inheritance.{texts_of_url}
use Rattle.urlpattern_pattern.specs.Match.{CallsAnEngine, HasMatch, HasNoMatch, IsMatchOf}
use Rattle.urlpattern_matches.specs.ResultViews.{group_of}
use Rattle.urlpattern_pattern.specs.Mismatch.{FindsMismatch}
use Rattle.urlpattern_pattern.specs.Patterns.{PatternView}
use Rattle.urlpattern_matcher.specs.Components.{ComponentView}
use Rattle.urlpattern_meaning.specs.Matching.{CallsEngine, InnerView, IsMatched, Literal, RegExp, SingleCapture}
use Rattle.urlpattern_meaning.specs.PartMeaning.{Captures}
use Rattle.urlpattern_meaning.proofs.MatchingLaws.{middle_kept}
use Rattle.urlpattern_syntax.specs.Errors.{ErrorView as views}
use Rattle.urlpattern_components.specs.Eight.{Texts, at}

-- ---- groups

abbrev one : Option (List ℕ)
one = Some (codes "1")

abbrev two : Option (List ℕ)
two = Some (codes "2")

names-beside_captures : group_of (codes "x" ∷ codes "y" ∷ []) (one ∷ two ∷ []) (codes "y") ≡ Some two
names-beside_captures = refl

of_equal_names-the_last : group_of (codes "x" ∷ codes "x" ∷ []) (one ∷ two ∷ []) (codes "x") ≡ Some two
of_equal_names-the_last = refl

captures-left_over : group_of (codes "x" ∷ []) (one ∷ two ∷ []) (codes "x") ≡ Some one
captures-left_over = refl

names-left_over : group_of (codes "x" ∷ codes "y" ∷ []) (one ∷ []) (codes "y") ≡ None
names-left_over = refl

-- Of `/:a((?P<x>x)?y)/:b` and `/xy/1`, the group of the expression has the name of the next part.
group_of_its_own-shifts_names : group_of (codes "a" ∷ codes "b" ∷ []) (Some (codes "xy") ∷ Some (codes "x") ∷ one ∷ []) (codes "b") ≡ Some (Some (codes "x"))
group_of_its_own-shifts_names = refl

-- Of two equal names, the one without a capture does not count.
equal_name-left_over : group_of (codes "x" ∷ codes "x" ∷ []) (one ∷ []) (codes "x") ≡ Some one
equal_name-left_over = refl

-- A group that did not take part exists, and captures nothing.
group-without_part : group_of (codes "x" ∷ []) (None ∷ []) (codes "x") ≡ Some None
group-without_part = refl

name-not_there : group_of (codes "x" ∷ []) (one ∷ []) (codes "z") ≡ None
name-not_there = refl

-- The capture of a group, and whether it took part, determine the entry of its name.
captured_and_part-determine : (group other : Option (Option (List ℕ))) → option_flatten group ≡ option_flatten other → option_map is_some group ≡ option_map is_some other → group ≡ other
captured_and_part-determine None None flat part = refl
captured_and_part-determine None (Some other) flat part = absurd cc
captured_and_part-determine (Some group) None flat part = absurd cc
captured_and_part-determine (Some group) (Some other) flat part = ap Some flat

-- ---- matches

-- The results of an engine without values.
no_engine : ⊥ → List ℕ → Option Captures
no_engine never text = None

-- A component of this matcher, with empty prefix and suffix.
abbrev component_of : InnerView ⊥ → (names : List (List ℕ)) → ComponentView ⊥
component_of inner names = record {
  pattern_string = [];
  regexp = Err views.RegExp;
  group_name_list = names;
  matcher = record { prefix = []; suffix = []; inner = inner; ignore_case = false };
  has_regexp_group = false;
}

-- Eight components that match any text.
abbrev wildcards : PatternView ⊥
wildcards component = component_of (SingleCapture None true) (codes "0" ∷ [])

wildcards-texts : (texts : Texts) → IsMatchOf no_engine wildcards texts
    (λ component. record { input = at texts component; group = group_of (codes "0" ∷ []) (Some (at texts component) ∷ []) })
wildcards-texts texts = record {
  captures = λ component. Some (at texts component) ∷ [];
  are_answers = λ component. (at texts component, ([], [], sym (append-nil (at texts component)), refl, refl), (tt, tt, refl));
  are_results = λ component. record { has_input = refl; has_groups = λ name. refl };
}

wildcards-url : (url : Parts) → HasMatch no_engine wildcards (Url url)
wildcards-url url =
    let match = wildcards-texts (texts_of_url url) in
    (texts_of_url url, refl, λ component. (match.captures component, match.are_answers component))

-- Eight components that match any text, except for a path that must be empty.
abbrev wildcards_but_path : PatternView ⊥
wildcards_but_path Pathname = component_of (Literal []) []
wildcards_but_path component = wildcards component

-- A pattern does not match if a single component does not.
wildcards_but_path-url : (url : Parts) → ¬ (at (texts_of_url url) Pathname ≡ []) → HasNoMatch no_engine wildcards_but_path (Url url)
wildcards_but_path-url url other =
    inr (
      texts_of_url url,
      refl,
      (
        Pathname,
        λ captures (middle, cut, (empty, none)).
            let e = (middle_kept (wildcards_but_path Pathname).matcher (at (texts_of_url url) Pathname) middle refl).0 cut in
            other (rw empty at (rw append-nil at e)),
      ),
    )

-- If each component matches there is no mismatch.
wildcards-mismatch : (texts : Texts) → FindsMismatch no_engine wildcards texts None
wildcards-mismatch texts =
    let match = wildcards-texts texts in λ component. (match.captures component, match.are_answers component)

-- A path that must be empty is the first mismatch, as the components before it match.
wildcards_but_path-mismatch : (texts : Texts) → ¬ (at texts Pathname ≡ []) → FindsMismatch no_engine wildcards_but_path texts (Some Pathname)
wildcards_but_path-mismatch texts other =
    let matches = wildcards-mismatch texts in
    let before : List ComponentName = Protocol ∷ Username ∷ Password ∷ Hostname ∷ Port ∷ [] in
    let all = All-from_recursion (λ (name : ComponentName). IsMatched no_engine (wildcards_but_path name).matcher (at texts name)) before
    (matches Protocol, (matches Username, (matches Password, (matches Hostname, (matches Port, tt))))) in (
      (before, Search ∷ Hash ∷ [], refl, all),
      λ captures (middle, cut, (empty, none)).
          let e = (middle_kept (wildcards_but_path Pathname).matcher (at texts Pathname) middle refl).0 cut in
          other (rw empty at (rw append-nil at e)),
    )

-- ---- when memory is allocated

-- Wildcards call no engine.
wildcards-ask_none : (answer : ⊥ → List ℕ → Option Captures) (texts : Texts) → ¬ CallsAnEngine answer wildcards texts
wildcards-ask_none answer texts asks = asks.asked.1.2

-- A component of an engine, with empty prefix and suffix.
abbrev engine_component : ComponentView (Unit {0})
engine_component = record {
  pattern_string = [];
  regexp = Ok tt;
  group_name_list = [];
  matcher = record { prefix = []; suffix = []; inner = RegExp (Ok tt); ignore_case = false };
  has_regexp_group = false;
}

-- An engine without prefix and suffix is called for each text.
engine_alone-asks : (text : List ℕ) → CallsEngine engine_component.matcher text
engine_alone-asks text = (text, ([], [], sym (append-nil text), refl, refl), tt)

-- A pattern of engines without prefix and suffix calls an engine.
engine_alone-asked : (answer : Unit {0} → List ℕ → Option Captures) (texts : Texts) → CallsAnEngine answer (λ component. engine_component) texts
engine_alone-asked answer texts = record {
  asked = (Pathname, engine_alone-asks (at texts Pathname));
  others = λ component. inl (engine_alone-asks (at texts component));
}
