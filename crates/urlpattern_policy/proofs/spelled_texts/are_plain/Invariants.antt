use Rattle.std.proofs.Common.{take}
use Rattle.std.specs.Prelude.{All, IsTrue}
use Rattle.urlpattern_components.specs.Eight.{at}
use Rattle.urlpattern_policy.specs.Spellings.{is_plain_of}
use Rattle.urlpattern_matches.specs.GroupTexts.{borrowed_texts}
use Rattle.urlpattern_policy.proofs.spelled_texts.are_plain.Given as goal

-- The texts of the components so far are plain.
abbrev pub invariant-loop-name : goal.invariant-loop-name
invariant-loop-name l = All (λ name. IsTrue (is_plain_of name (at (borrowed_texts l.texts) name))) (take l.name-index l.name-items)
