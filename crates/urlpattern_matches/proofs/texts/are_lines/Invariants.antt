use Rattle.std.proofs.Common.{take}
use Rattle.std.specs.Prelude.{All}
use Rattle.urlpattern_components.specs.Eight.{at}
use Rattle.urlpattern_init.specs.UrlTexts.{IsLine}
use Rattle.urlpattern_matches.specs.GroupTexts.{borrowed_texts}
use Rattle.urlpattern_matches.proofs.texts.are_lines.Given as goal

-- The texts of the components so far are lines.
abbrev pub invariant-loop-name : goal.invariant-loop-name
invariant-loop-name l = All (λ name. IsLine (at (borrowed_texts l.texts) name)) (take l.name-index l.name-items)
