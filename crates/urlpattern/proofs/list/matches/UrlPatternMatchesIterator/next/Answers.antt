use Rattle.std.proofs.Common.{◌<◌, ◌≤◌, arith, length}
use Rattle.std.proofs.lemmas.List.{length-map}
use Rattle.std.proofs.lemmas.Option.{slice_get_within}
use Rattle.urlpattern.specs.FirstMatch.{patterns_view}
use Rattle.urlpattern_pattern.specs.Patterns.{pattern_view}
use Rattle.urlpattern.proofs.list.matches.UrlPatternMatchesIterator.next.Goals as goal

pub overflow_add-self : goal.overflow_add-self
overflow_add-self g c =
    let list = c.args.self.now.list.now in
    let (le, (pattern, is_there, match), refused) = rw c.in-Ok-Some.field-0-is at c.in-Ok-Some.ensures.first in
    let within : c.in-Ok-Some.index < length (patterns_view list) = slice_get_within (patterns_view list) c.in-Ok-Some.index pattern is_there in
    omega (arith, c.len-len.ensures, length-map list (λ pattern. pattern_view pattern))

pub returns-in-Ok-Some-clause-goes : goal.returns-in-Ok-Some-clause-goes
returns-in-Ok-Some-clause-goes g c =
    let list = c.args.self.now.list.now in
    let (le, (pattern, is_there, match), refused) = rw c.in-Ok-Some.field-0-is at c.in-Ok-Some.ensures.first in
    let later : c.args.self.now.from ≤ c.in-Ok-Some.index = le in
    let within : c.in-Ok-Some.index < length (patterns_view list) = slice_get_within (patterns_view list) c.in-Ok-Some.index pattern is_there in
    record { on = λ _. (tt, tt, omega (arith, length-map list (λ pattern. pattern_view pattern))); keeps = tt; rests = λ _. tt }

pub returns-in-Err-clause-goes : goal.returns-in-Err-clause-goes
returns-in-Err-clause-goes g c =
    let list = c.args.self.now.list.now in
    let (index, pattern, le, is_there, asks, refused) = c.in-Err.ensures.asked in
    let later : c.args.self.now.from ≤ index = le in
    let within : index < length (patterns_view list) = slice_get_within (patterns_view list) index pattern is_there in
    record { on = λ _. (tt, tt, omega (arith, length-map list (λ pattern. pattern_view pattern), c.len-len.ensures)); keeps = tt; rests = λ _. tt }
