use Rattle.std.proofs.Common.{arith, length, subst, sym, ◌+◌, ◌<◌, ◌≡◌, ◌∙◌}
use Rattle.std.proofs.lemmas.Bool.{false≢true}
use Rattle.std.specs.Str.{chars}
use Rattle.urlpattern.proofs.NextLemmas.{left, less-left}
use Rattle.urlpattern.proofs.QuickLemmas.{next-passed, quick-ended, quick-returned}
use Rattle.urlpattern.proofs.RouteLemmas.{candidate-first, next-route, served-more}
use Rattle.urlpattern.specs.QuickRoutes.{Any}
use Rattle.urlpattern.specs.Routes.{NoneServesBefore, Takes}
use Rattle.urlpattern_matches.specs.MatchInput.{pathname_alone}
use Rattle.urlpattern.proofs.router.UrlPatternRouter.first_quickly.Goals as goal

pub loop-found-init : goal.loop-found-init
loop-found-init g c =
    let texts = pathname_alone (chars c.args.path.now) in
    record {
      next = candidate-first g.R.RegExp.answer c.args.self.now.routes (Takes (chars c.args.method.now)) texts c.args.first c.requires.first;
      missing = λ is. (candidate-first g.R.RegExp.answer c.args.self.now.routes Any texts c.args.first c.requires.first).1;
    }

pub returns-in-Err : goal.returns-in-Err
returns-in-Err g c =
    quick-returned g.R.RegExp.answer c.args.self.now (chars c.args.method.now) (chars c.args.path.now) c.in-Some.index c.in-Err.quick (λ head. false≢true (sym c.if-is_head.false ∙ c.is_head.ensures.1 head))
    c.in-Err.ensures.served (rw c.in-Some.is at c.loop-found.invariant.next).1

pub overflow_add-next : goal.overflow_add-next
overflow_add-next g c =
    let (within, before) = rw c.in-Some.is at c.loop-found.invariant.next in
    omega (arith, within, c.len-len.ensures)

pub returns-then-next-len : goal.returns-then-next-len
returns-then-next-len g c =
    let routes = c.args.self.now.routes in
    let texts = pathname_alone (chars c.args.path.now) in
    let (within, before) = rw c.in-Some.is at c.loop-found.invariant.next in
    let inside : c.in-Some.index < length routes = within in
    let last : c.in-Some.index + 1 ≡ length routes = omega (arith, inside, c.if-next-len.true, c.len-len.ensures) in
    quick-ended g.R.RegExp.answer c.args.self.now (chars c.args.method.now) (chars c.args.path.now) c.both-is_missing.result c.end_of.result c.end_of.ensures
    (λ is.
    let (none, at) = next-passed g.R.RegExp.answer routes (Takes (chars c.args.method.now)) texts c.in-Some.index c.loop-found.is_missing c.in-Ok.is_unmatched c.in-Ok.ensures.passed
    (rw c.in-Some.is at c.loop-found.invariant.missing) (sym c.both-is_missing.ensures ∙ is) in
    subst (NoneServesBefore g.R.RegExp.answer routes Any texts) last (served-more g.R.RegExp.answer routes Any texts c.in-Some.index none at))

pub loop-found-smaller : goal.loop-found-smaller
loop-found-smaller g c =
    let count = length c.args.self.now.routes in
    let (within, before) = rw c.in-Some.is at c.loop-found.invariant.next in
    subst (λ found. left count c.next_candidate-found.result < left count found) (sym c.in-Some.is)
    (less-left count c.in-Some.index c.next_candidate-found.result within c.next_candidate-found.ensures.within)

pub loop-found-preserved : goal.loop-found-preserved
loop-found-preserved g c =
    let routes = c.args.self.now.routes in
    let texts = pathname_alone (chars c.args.path.now) in
    let passed = c.in-Ok.ensures.passed in
    let further = c.next_candidate-found.ensures.passed texts c.requires.hashes in
    record {
      next = next-route g.R.RegExp.answer routes (Takes (chars c.args.method.now)) texts c.in-Some.index (rw c.in-Some.is at c.loop-found.invariant.next).1 passed.0
          c.next_candidate-found.result c.next_candidate-found.ensures.within further;
      missing = λ is.
          let (none, at) = next-passed g.R.RegExp.answer routes (Takes (chars c.args.method.now)) texts c.in-Some.index c.loop-found.is_missing c.in-Ok.is_unmatched passed
          (rw c.in-Some.is at c.loop-found.invariant.missing) (sym c.both-is_missing.ensures ∙ is) in
          (next-route g.R.RegExp.answer routes Any texts c.in-Some.index none at c.next_candidate-found.result c.next_candidate-found.ensures.within further).1;
    }

pub returns : goal.returns
returns g c =
    quick-ended g.R.RegExp.answer c.args.self.now (chars c.args.method.now) (chars c.args.path.now) c.loop-found.is_missing c.end_of-2.result c.end_of-2.ensures (rw c.in_default.is at c.loop-found.invariant.missing)
