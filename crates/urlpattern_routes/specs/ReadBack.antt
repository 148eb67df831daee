-- Rules that are written as JSON are read as the same rules.
use Rattle.std.specs.Prelude.{◌≡◌, List, [], map}
use Rattle.serde_json.specs.Data.{Data}
use Rattle.urlpattern_routes.specs.Rules.{readings_of}
use Rattle.urlpattern_routes.specs.Trees.{rules_tree}
use Rattle.urlpattern_routes.specs.Views.{RuleView}
use Rattle.urlpattern_routes.specs.declared.reading.RouterLimits.{RouterLimits}

-- The JSON of a call is read as these rules, without a fault.
abbrev pub AreRead : RouterLimits → Data → List RuleView → Type 0
AreRead limits tree rules = readings_of limits tree ≡ map (λ rule. (rule, [])) rules

-- ---- law

-- Rules that some JSON is read as without a fault are also what their own JSON is read as, without
-- a fault.
abbrev pub RulesAreReadBack : Type 0
RulesAreReadBack =
    (limits : RouterLimits) (tree : Data) (rules : List RuleView) → AreRead limits tree rules
    → AreRead limits (rules_tree rules) rules
