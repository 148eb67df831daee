use Rattle.std.proofs.Common.{take}
use Rattle.urlpattern_diagnosis.proofs.NameLemmas.{HasFirst}
use Rattle.urlpattern_diagnosis.proofs.fault.second_fault.Given as goal

-- None or one of the tokens so far is the name.
abbrev pub invariant-loop-token : goal.invariant-loop-token
invariant-loop-token l = HasFirst l.text l.name (take l.token-index l.tokens) l.first
