use Rattle.std.proofs.Common.{◌≡◌, ◌∙◌, ℕ, List, ap, subst, sym}
use Rattle.std.specs.Prelude.{IfSome, Option, Some, option_copied}
use Rattle.urlpattern_matcher.specs.Components.{IsComponentOf, component_view}
use Rattle.urlpattern_matcher.specs.declared.component.Component.{Component}
use Rattle.urlpattern_matcher.specs.declared.regexp.RegExp.{Ghosts as Engine}
use Rattle.urlpattern_components.specs.Eight.{at}
use Rattle.urlpattern_components.specs.declared.eight.ComponentName.{ComponentName}
use Rattle.urlpattern_components.specs.declared.eight.ComponentName.TheVariants.{Hostname, Pathname, Protocol}
use Rattle.urlpattern_index.specs.FixedTexts.{AddressTexts}
use Rattle.urlpattern_meaning.specs.Matching.{IsMatched}
use Rattle.urlpattern_meaning.specs.PartMeaning.{Captures}
use Rattle.urlpattern_pattern.specs.{Patterns.pattern_view, UrlPatterns.AreMadeOfParts, UrlPatterns.UrlPattern}
use Rattle.urlpattern_compare.specs.declared.pattern_parts.PatternParts.{PatternParts}
use Rattle.urlpattern_syntax.specs.ComponentParts.{kept_options, kept_parts}
use Rattle.urlpattern.proofs.list.pattern_fixed.fixed_of.Goals as goal

-- A component is made from its parts.
made_of : {E : Type 0} (engine : Engine E) (pattern : UrlPattern E) (parts : PatternParts) (name : ComponentName) (component : Component E)
    → component ≡ at pattern.components name → pattern.parts ≡ Some parts → IfSome pattern.parts (λ parts. AreMadeOfParts engine parts (pattern_view pattern))
    → IsComponentOf engine (kept_options (at parts.components name)) (kept_parts (at parts.components name)) (component_view component)
made_of {E} engine pattern parts name component same has made =
    let all = subst (λ (kept : Option PatternParts). IfSome kept (λ parts. AreMadeOfParts engine parts (pattern_view pattern))) has made in
    let own = at parts.components name in
    subst (λ (c : Component E). IsComponentOf engine (kept_options own) (kept_parts own) (component_view c)) (sym same) (all name).is_component

-- A component matches the texts that it is known to match.
matched_by : {E : Type 0} (answer : E → List ℕ → Option Captures) (component other : Component E) (Is : List ℕ → Type 0) → component ≡ other
    → ((text : List ℕ) → IsMatched answer (component_view component).matcher text → Is text) → (text : List ℕ) → IsMatched answer (component_view other).matcher text → Is text
matched_by {E} answer component other Is same all =
    subst (λ (c : Component E). (text : List ℕ) → IsMatched answer (component_view c).matcher text → Is text) same all

pub fixed_text-requires : goal.fixed_text-requires
fixed_text-requires g c =
    made_of g.R.RegExp c.args.pattern.now c.in-Some.parts.now Protocol c.get.result.now c.get.ensures (sym c.parts.ensures.parts ∙ ap option_copied c.in-Some.is) c.parts.ensures.made

pub fixed_text-requires-2 : goal.fixed_text-requires-2
fixed_text-requires-2 g c =
    made_of g.R.RegExp c.args.pattern.now c.in-Some.parts.now Hostname c.get-2.result.now c.get-2.ensures (sym c.parts.ensures.parts ∙ ap option_copied c.in-Some.is) c.parts.ensures.made

pub known_path-requires : goal.known_path-requires
known_path-requires g c =
    made_of g.R.RegExp c.args.pattern.now c.in-Some.parts.now Pathname c.get-3.result.now c.get-3.ensures (sym c.parts.ensures.parts ∙ ap option_copied c.in-Some.is) c.parts.ensures.made

pub returns : goal.returns
returns g c = record {
  protocol = matched_by g.R.RegExp.answer c.get.result.now _ _ c.get.ensures c.fixed_text.ensures;
  hostname = matched_by g.R.RegExp.answer c.get-2.result.now _ _ c.get-2.ensures c.fixed_text-2.ensures;
  pathname = matched_by g.R.RegExp.answer c.get-3.result.now _ _ c.get-3.ensures c.known_path.ensures;
}

pub returns-in_default : goal.returns-in_default
returns-in_default g c =
    let at_text : List ℕ → AddressTexts = λ text. record { protocol = text; hostname = text; pathname = text } in
    record {
      protocol = λ text matched. (c.nothing.ensures (at_text text)).protocol;
      hostname = λ text matched. (c.nothing.ensures (at_text text)).hostname;
      pathname = λ text matched. (c.nothing.ensures (at_text text)).pathname;
    }
