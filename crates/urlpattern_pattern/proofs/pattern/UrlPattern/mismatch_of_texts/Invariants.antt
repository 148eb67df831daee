use Rattle.std.proofs.Common.{take}
use Rattle.std.specs.Prelude.{All}
use Rattle.urlpattern_meaning.specs.Matching.{IsMatched}
use Rattle.urlpattern_matches.specs.GroupTexts.{borrowed_texts}
use Rattle.urlpattern_pattern.specs.Patterns.{pattern_view}
use Rattle.urlpattern_components.specs.Eight.{at}
use Rattle.urlpattern_pattern.proofs.pattern.UrlPattern.mismatch_of_texts.Given as goal

-- The components so far match their texts.
abbrev pub invariant-loop-name : goal.invariant-loop-name
invariant-loop-name g l =
    All (λ name. IsMatched g.R.RegExp.answer (pattern_view l.self name).matcher (at (borrowed_texts l.texts) name)) (take l.name-index l.name-items)
