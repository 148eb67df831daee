use Rattle.std.proofs.Common.{◌↔◌, length}
use denote.Text.{Utf8}
use denote.Shadow.{shadow}
use Rattle.std.specs.Str.{chars}
use Rattle.urlpattern_generate.specs.CopySearch.{Allowed, AreSomeWith}
use Rattle.urlpattern_generate.proofs.group_copies.CopyTexts.are_some.Given as goal

abbrev pub invariant-loop-front : goal.invariant-loop-front
invariant-loop-front l = record {
  is_text : shadow (Utf8 l.rest);
  same : AreSomeWith (Allowed l.self) (chars l.between) (chars l.text) ↔ AreSomeWith (Allowed l.self) (chars l.between) (chars l.rest);
}

abbrev pub decreases-loop-front : goal.decreases-loop-front
decreases-loop-front l = length l.rest
