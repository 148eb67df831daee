use Rattle.std.proofs.Common.{take}
use Rattle.std.specs.Prelude.{All}
use Rattle.urlpattern_generate.specs.WriteSettings.{given_groups}
use Rattle.urlpattern_pattern.specs.LinkedUrls.{IsConfirmed}
use Rattle.urlpattern_pattern.specs.Patterns.{pattern_view}
use Rattle.urlpattern_generate.specs.UrlsOfTexts.{cow_texts}
use Rattle.urlpattern_pattern.proofs.pattern.UrlPattern.unconfirmed.Given as goal

-- The matchers of the components so far find the expected captures.
abbrev pub invariant-loop-name : goal.invariant-loop-name
invariant-loop-name g l = All (IsConfirmed g.R.RegExp.answer (pattern_view l.self) l.parts (given_groups l.groups) (cow_texts l.texts)) (take l.name-index l.name-items)
