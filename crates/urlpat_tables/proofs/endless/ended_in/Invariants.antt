-- Each of the rules so far leads to one of the rest.
use Rattle.std.proofs.Common.{All, map, take}
use Rattle.urlpat_tables.specs.RewriteRules.{LeadsAmong}
use Rattle.urlpat_tables.proofs.endless.ended_in.Given as goal

abbrev pub invariant-loop-place : goal.invariant-loop-place
invariant-loop-place l = All (LeadsAmong (map (λ it. it.items) l.leads) l.rest) (take l.place l.rest)
