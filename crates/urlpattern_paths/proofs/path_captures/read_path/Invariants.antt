use Rattle.std.proofs.Common.{◌≡◌, ◌++◌, length}
use denote.Text.{Utf8}
use denote.Shadow.{shadow}
use Rattle.std.specs.Prelude.{option_map}
use Rattle.std.specs.Str.{chars}
use Rattle.urlpattern_matches.specs.GroupTexts.{captures_of}
use Rattle.urlpattern_paths.specs.Templates.{captured_by, captured_last, template_captured}
use Rattle.urlpattern_paths.proofs.path_captures.read_path.Given as goal

-- What was captured so far, before what the rest of the template captures in the rest of the path.
abbrev pub invariant-loop-front : goal.invariant-loop-front
invariant-loop-front l = record {
  is_left : shadow (Utf8 l.left);
  is_text : shadow (Utf8 l.rest);
  same :
      option_map (λ others. captures_of l.groups ++ others) (captured_by (captured_last l.template.takes_rest) (chars l.left) (chars l.rest))
      ≡ template_captured l.template (chars l.path);
}

abbrev pub decreases-loop-front : goal.decreases-loop-front
decreases-loop-front l = length l.left
