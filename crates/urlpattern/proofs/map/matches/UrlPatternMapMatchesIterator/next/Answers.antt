use Rattle.std.proofs.Common.{◌<◌, ◌≤◌, arith, length}
use Rattle.std.proofs.lemmas.Option.{slice_get_within}
use Rattle.urlpattern.proofs.RouteLemmas.{as-many}
use Rattle.urlpattern.specs.PatternMaps.{entry_patterns}
use Rattle.urlpattern.proofs.map.matches.UrlPatternMapMatchesIterator.next.Goals as goal

pub overflow_add-self : goal.overflow_add-self
overflow_add-self g c =
    let entries = c.args.self.now.map.now in
    let (le, (pattern, is_there, match), refused) = rw c.in-Ok-Some.field-0-is at c.in-Ok-Some.ensures.first in
    let within : c.in-Ok-Some.index < length (entry_patterns entries) = slice_get_within (entry_patterns entries) c.in-Ok-Some.index pattern is_there in
    omega (arith, c.len-len.ensures, as-many entries)

pub returns-in-Ok-Some-clause-goes : goal.returns-in-Ok-Some-clause-goes
returns-in-Ok-Some-clause-goes g c =
    let entries = c.args.self.now.map.now in
    let (le, (pattern, is_there, match), refused) = rw c.in-Ok-Some.field-0-is at c.in-Ok-Some.ensures.first in
    let later : c.args.self.now.from ≤ c.in-Ok-Some.index = le in
    let within : c.in-Ok-Some.index < length (entry_patterns entries) = slice_get_within (entry_patterns entries) c.in-Ok-Some.index pattern is_there in
    record { on = λ _. (tt, tt, omega (arith, as-many entries)); keeps = tt; rests = λ _. tt }

pub returns-in-Err-clause-goes : goal.returns-in-Err-clause-goes
returns-in-Err-clause-goes g c =
    let entries = c.args.self.now.map.now in
    let (index, pattern, le, is_there, asks, refused) = c.in-Err.ensures.asked in
    let later : c.args.self.now.from ≤ index = le in
    let within : index < length (entry_patterns entries) = slice_get_within (entry_patterns entries) index pattern is_there in
    record { on = λ _. (tt, tt, omega (arith, as-many entries, c.len-len.ensures)); keeps = tt; rests = λ _. tt }
