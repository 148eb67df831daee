-- Patterns that keep their parts.
use Rattle.std.proofs.Common.{◌≡◌, ◌∙◌, Some, ap, subst, sym}
use Rattle.urlpattern_matcher.specs.Components.{IsComponentOf, component_view, honours_case}
use Rattle.urlpattern_matcher.specs.declared.component.{Component.Component, ComponentWithParts.ComponentWithParts}
use Rattle.urlpattern_matcher.specs.declared.regexp.RegExp.{Ghosts as Engine}
use Rattle.urlpattern_compile.proofs.CompiledLemmas.{kept_compiled}
use Rattle.urlpattern_compile.specs.Compiled.{AreCompiled, HasEngine, IsComponentCompiled, IsPathKind, IsPatternOfInit, settings_of}
use Rattle.urlpattern_compile.specs.KeptComponents.{AreCompiledWithParts, IsInitCompiledWithParts}
use Rattle.urlpattern_compile.specs.PatternViews.{eight_view}
use Rattle.urlpattern_components.specs.declared.eight.ComponentName.TheVariants.{Protocol}
use Rattle.urlpattern_components.specs.declared.eight.Eight.{Eight}
use Rattle.urlpattern_components.specs.Eight.{Values, at}
use Rattle.urlpattern_init.specs.declared.init.UrlPatternInit.{UrlPatternInit}
use Rattle.urlpattern_inputs.specs.declared.options.UrlPatternOptions.{UrlPatternOptions}
use Rattle.urlpattern_pattern.specs.KeptParts.{AreSeparated, AreReadBySettings, KeepsPartsOf}
use Rattle.urlpattern_pattern.specs.UrlPatterns.{AreMadeOfParts, UrlPattern}
use Rattle.urlpattern_compare.specs.declared.pattern_parts.PatternParts.{PatternParts}
use Rattle.urlpattern_syntax.specs.ComponentParts.{kept_options, kept_parts}
use Rattle.urlpattern_syntax.specs.declared.parts.ComponentParts.{ComponentParts}

module _ {E : Type 0} (engine : Engine E) (made : Eight (ComponentWithParts E)) (components : Eight (Component E)) (parts : PatternParts) (separate_parts : AreSeparated made components parts) where
  -- The components are made of their parts.
  pub own_parts : (asked : UrlPatternOptions) (values : Values) → AreCompiledWithParts engine asked values made → AreMadeOfParts engine parts (eight_view components)
  own_parts asked values kept = λ name.
      let is = kept.are_kept name in
      let own = (at made name).kept in
      let component = (at made name).component in
      record {
        is_component = subst (λ (c : Component E). IsComponentOf engine (kept_options (at parts.components name)) (kept_parts (at parts.components name)) (component_view c)) (sym (separate_parts.components_are name))
            (subst (λ (k : ComponentParts). IsComponentOf engine (kept_options k) (kept_parts k) (component_view component)) (sym (separate_parts.parts_are name))
            (subst (λ o. IsComponentOf engine o (kept_parts own) (component_view component)) (sym is.options_are) is.is_made));
        has_engine = subst (λ (c : Component E). HasEngine (component_view c)) (sym (separate_parts.components_are name)) is.has_engine;
        case = subst (λ (c : Component E). (at parts.components name).honours_case ≡ honours_case engine (component_view c).matcher.inner) (sym (separate_parts.components_are name))
            (ap (λ (k : ComponentParts). k.honours_case) (separate_parts.parts_are name) ∙ is.case);
      }

  -- The values are compiled to these components.
  pub parted_compiled : (asked : UrlPatternOptions) (values : Values) → AreCompiledWithParts engine asked values made → AreCompiled engine asked values (eight_view components)
  parted_compiled asked values kept = record {
    hierarchical = kept.hierarchical;
    path_kind = subst (λ (c : Component E). IsPathKind engine.answer values (component_view c).matcher kept.hierarchical) (sym (separate_parts.components_are Protocol)) kept.path_kind;
    are_compiled = λ name.
        subst (λ (c : Component E). IsComponentCompiled engine (settings_of asked values kept.hierarchical name) (component_view c)) (sym (separate_parts.components_are name))
        (kept_compiled engine (settings_of asked values kept.hierarchical name) (at made name) (kept.are_kept name));
  }

  module _ (init : UrlPatternInit) (asked : UrlPatternOptions) (is : IsInitCompiledWithParts engine init asked made) where
    pub parts_are_own : AreMadeOfParts engine parts (eight_view components)
    parts_are_own = own_parts asked is.0 is.2

    pub parted_pattern : IsPatternOfInit engine init asked (eight_view components)
    parted_pattern = (is.0, is.1, parted_compiled asked is.0 is.2)

    -- A pattern of these components and parts keeps them.
    pub keeps_parts : (pattern : UrlPattern E) → pattern.components ≡ components → pattern.parts ≡ Some parts → KeepsPartsOf engine init asked pattern
    unfolding parted_compiled
    keeps_parts pattern same has = record {
      parts = parts;
      values = is.0;
      hierarchical = is.2.hierarchical;
      has_parts = has;
      are_values = is.1;
      path_kind = subst (λ (eight : Eight (Component E)). IsPathKind engine.answer is.0 (eight_view eight Protocol).matcher is.2.hierarchical) (sym same)
          (parted_compiled asked is.0 is.2).path_kind;
      are_read = λ name.
          let kept = is.2.are_kept name in
          subst (λ (k : ComponentParts). AreReadBySettings (settings_of asked is.0 is.2.hierarchical name) k) (sym (separate_parts.parts_are name))
          (record { options_are = kept.options_are; reads = kept.reads });
      are_made = subst (λ (eight : Eight (Component E)). AreMadeOfParts engine parts (eight_view eight)) (sym same) parts_are_own;
    }
