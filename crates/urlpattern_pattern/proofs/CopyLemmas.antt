-- Copies of parts, and of the components that are made of them.
use Rattle.std.proofs.Common.{◌≡◌, ◌∙◌, subst, sym}
use Rattle.urlpattern_compare.specs.EqualParts.{AreEqualParts}
use Rattle.urlpattern_compare.specs.declared.pattern_parts.PatternParts.{PatternParts}
use Rattle.urlpattern_components.specs.declared.eight.ComponentName.{ComponentName}
use Rattle.urlpattern_components.specs.Eight.{at}
use Rattle.urlpattern_matcher.specs.Components.{IsComponentOf}
use Rattle.urlpattern_matcher.specs.declared.regexp.RegExp.{Ghosts as Engine}
use Rattle.urlpattern_pattern.specs.Patterns.{PatternView}
use Rattle.urlpattern_pattern.specs.UrlPatterns.{AreMadeOfParts, IsMadeOfParts}
use Rattle.urlpattern_syntax.specs.ComponentParts.{kept_options, kept_parts}

-- Copies of parts are those of which the engine made a pattern, and each copy of the pattern.
pub copy_made : {E : Type 0} (engine : Engine E) (parts others : PatternParts) (view copied : PatternView E) → AreEqualParts parts others
    → ((name : ComponentName) → copied name ≡ view name) → AreMadeOfParts engine parts view → AreMadeOfParts engine others copied
copy_made engine parts others view copied equal same made name =
    let own = at parts.components name in
    let other = at others.components name in
    subst (λ component. IsMadeOfParts engine other component) (sym (same name)) (record {
      is_component = subst (λ options. IsComponentOf engine options (kept_parts other) (view name)) (equal name).options
          (subst (λ them. IsComponentOf engine (kept_options own) them (view name)) (equal name).parts (made name).is_component);
      has_engine = (made name).has_engine;
      case = sym (equal name).case ∙ (made name).case;
    })
