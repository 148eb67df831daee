use Rattle.std.proofs.Common.{length}
use Rattle.urlpattern_matches.specs.GroupTexts.{borrowed_texts}
use Rattle.urlpattern.proofs.NextLemmas.{IsNext, left}
use Rattle.urlpattern.proofs.list.UrlPatternList.first_from_candidate.Given as goal

abbrev pub invariant-loop-found : goal.invariant-loop-found
invariant-loop-found g l = IsNext g.R.RegExp.answer (borrowed_texts l.texts) l.fn.self l.fn.index l.found

abbrev pub decreases-loop-found : goal.decreases-loop-found
decreases-loop-found g l = left (length l.fn.self) l.found
