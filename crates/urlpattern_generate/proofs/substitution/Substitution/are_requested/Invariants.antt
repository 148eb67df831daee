use Rattle.std.proofs.Common.{◌↔◌, ◌≤◌, drop, length, map}
use Rattle.urlpattern_generate.specs.Requested.{AreRequested}
use Rattle.urlpattern_generate.specs.WrittenTexts.{settings_of_writer}
use Rattle.urlpattern_syntax.specs.ComponentParts.{kept_parts}
use Rattle.urlpattern_syntax.specs.Parts.{parts_view}
use Rattle.urlpattern_syntax.specs.Text.{option_text}
use Rattle.urlpattern_generate.proofs.substitution.Substitution.are_requested.Given as goal

-- All captures are the requested ones if the remaining captures are those requested of the
-- remaining parts.
abbrev pub invariant-loop-part : goal.invariant-loop-part
invariant-loop-part l = record {
  within : l.next ≤ length l.found;
  asked : AreRequested (settings_of_writer l.self) (parts_view (drop l.part-index l.part-items)) (drop l.next (map option_text l.found)) ↔ AreRequested (settings_of_writer l.self) (kept_parts l.self.kept.now) (map option_text l.found);
}
