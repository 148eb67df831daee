-- The JSON of rules.
use Rattle.std.specs.Prelude.{ℕ, List, [], ◌∷◌, Option, codes, map, option_map, Some}
use Rattle.serde_json.specs.Data.{Data, Items, array, item, no_items, string}
use Rattle.serde_json.specs.View.{items_of}
use Rattle.urlpattern_inputs.specs.InputJson.{input_tree}
use Rattle.urlpattern_inputs.specs.Trees.{object_of}
use Rattle.urlpattern_routes.specs.Views.{ConditionView, ConditionViews, RequestView, RuleView, SourceView, cache, condition, fetch_event, named_cache, network, no_conditions, of_not, of_or, of_request, race}

-- What a condition asks of a request: a member for each that is given.
abbrev pub request_members : RequestView → List (List ℕ × Option Data)
request_members request =
    (codes "urlPattern", option_map input_tree request.url_pattern)
    ∷ (codes "requestMethod", option_map string request.method)
    ∷ (codes "requestMode", option_map string request.mode)
    ∷ (codes "requestDestination", option_map string request.destination)
    ∷ (codes "runningStatus", option_map string request.running_status)
    ∷ []

abbrev pub request_tree : RequestView → Data
request_tree request = object_of (request_members request)

abbrev mutual
  -- A condition.
  pub condition_tree : ConditionView → Data
  condition_tree (of_request request) = request_tree request
  condition_tree (of_or conditions) =
      object_of ((codes "or", Some (array (tree_items conditions))) ∷ [])
  condition_tree (of_not one) = object_of ((codes "not", Some (condition_tree one)) ∷ [])

  -- Conditions, in order.
  pub tree_items : ConditionViews → Items
  tree_items no_conditions = no_items
  tree_items (condition one rest) = item (condition_tree one) (tree_items rest)

-- A source: its name, or an object that names a cache.
abbrev pub source_tree : SourceView → Data
source_tree network = string (codes "network")
source_tree fetch_event = string (codes "fetch-event")
source_tree cache = string (codes "cache")
source_tree race = string (codes "race-network-and-fetch-handler")
source_tree (named_cache name) = object_of ((codes "cacheName", Some (string name)) ∷ [])

-- A rule.
abbrev pub rule_tree : RuleView → Data
rule_tree rule = object_of (
    (codes "condition", Some (condition_tree rule.condition))
    ∷ (codes "source", Some (source_tree rule.source)) ∷ [])

-- Rules: an array.
abbrev pub rules_tree : List RuleView → Data
rules_tree rules = array (items_of (map rule_tree rules))
