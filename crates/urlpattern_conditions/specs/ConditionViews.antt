-- The view of a condition.
use Rattle.std.specs.Prelude.{List, [], ◌∷◌, map, string_bytes}
use Rattle.urlpattern_conditions.specs.Conditions.{ConditionView, ConditionViews, condition, no_conditions, of_all, of_any, of_name, of_not, of_url}
use Rattle.urlpattern_conditions.specs.declared.condition.Condition.{Condition, fold-Condition}
use Rattle.urlpattern_conditions.specs.declared.condition.Condition.TheOpen.{Condition-F}
use Rattle.urlpattern_pattern.specs.Patterns.{pattern_view}

-- The conditions of a list.
abbrev pub listed : {E : Type 0} → List (ConditionView E) → ConditionViews E
listed [] = no_conditions
listed (one ∷ rest) = condition one (listed rest)

-- A level of a condition, with each condition inside already seen as its view.
abbrev pub view_step : {E : Type 0} → Condition-F E (ConditionView E) → ConditionView E
view_step (Condition-F.Url pattern) = of_url (pattern_view pattern.value)
view_step (Condition-F.Name attribute name) = of_name attribute (string_bytes name)
view_step (Condition-F.All conditions) = of_all (listed conditions.items)
view_step (Condition-F.Any conditions) = of_any (listed conditions.items)
view_step (Condition-F.Not one) = of_not one.value

-- The view of a condition.
abbrev pub condition_view : {E : Type 0} → Condition E → ConditionView E
condition_view {E} = fold-Condition E (ConditionView E) view_step

-- The views of conditions.
abbrev pub conditions_view : {E : Type 0} → List (Condition E) → ConditionViews E
conditions_view conditions = listed (map condition_view conditions)
