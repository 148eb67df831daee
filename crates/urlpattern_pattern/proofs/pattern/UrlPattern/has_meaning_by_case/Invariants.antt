use Rattle.std.proofs.Common.{take}
use Rattle.std.specs.Prelude.{All}
use Rattle.urlpattern_pattern.specs.KeptMeanings.{HasMeaningByCaseIn}
use Rattle.urlpattern_pattern.proofs.pattern.UrlPattern.has_meaning_by_case.Given as goal

-- The components before this one have a meaning.
abbrev pub invariant-loop-name : goal.invariant-loop-name
invariant-loop-name g l = All (λ name. HasMeaningByCaseIn l.self name) (take l.name-index l.name-items)
