use Rattle.std.proofs.Common.{◌≡◌, ℕ, List, length}
use Rattle.std.specs.Str.{IsUtf8, chars}
use Rattle.urlpattern_paths.specs.PathCaptures.{captured}
use Rattle.urlpattern_paths.specs.Templates.{captured_by}
use Rattle.urlpattern_syntax.specs.Parts.{parts_view}
use Rattle.urlpattern_paths.proofs.template.template_of.Given as goal

-- The text so far, and after it what the parts that are left capture.
abbrev pub invariant-loop-part : goal.invariant-loop-part
invariant-loop-part l = record {
  is_text : IsUtf8 l.text.bytes;
  same : (path : List ℕ) → captured_by (captured (parts_view l.left)) (chars l.text.bytes) path ≡ captured (parts_view l.parts) path;
}

abbrev pub decreases-loop-part : goal.decreases-loop-part
decreases-loop-part l = length l.left
