use Rattle.std.proofs.Common.{◌≡◌, drop, map, string_bytes}
use Rattle.serde_json.specs.View.{items_view}
use Rattle.urlpattern_plain.specs.PatternJson.{texts_of_items}
use Rattle.urlpattern_plain.proofs.ItemLemmas.{with_prefix}
use Rattle.urlpattern_plain.proofs.pattern_reading.texts_of.Given as goal

abbrev pub invariant-loop-item : goal.invariant-loop-item
invariant-loop-item l = with_prefix (map string_bytes l.texts.items) (texts_of_items (items_view (drop l.item-index l.item-items))) ≡ texts_of_items (items_view l.item-items)
