use Rattle.std.proofs.Common.{take}
use Rattle.std.specs.Prelude.{All}
use Rattle.urlpattern_generate.proofs.UrlLemmas.{HasText}
use Rattle.urlpattern_generate.proofs.linked_url.other_text.Given as goal

-- The URL has the texts of the components so far.
abbrev pub invariant-loop-name : goal.invariant-loop-name
invariant-loop-name l = All (HasText l.url l.texts) (take l.name-index l.name-items)
