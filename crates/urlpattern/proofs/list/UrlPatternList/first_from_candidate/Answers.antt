use Rattle.std.proofs.Common.{List, ap, arith, length, refl, subst, sym, ◌∙◌, ◌≡◌, ◌<◌, ◌≤◌}
use Rattle.std.proofs.lemmas.Option.{slice_get-map, slice_get_read}
use Rattle.std.specs.Prelude.{Some, option_map, slice_get}
use Rattle.urlpattern_pattern.proofs.Results.{if_err}
use Rattle.urlpattern.proofs.NextLemmas.{left, less-left, next-found}
use Rattle.urlpattern_matches.specs.GroupTexts.{borrowed_texts}
use Rattle.urlpattern.specs.FirstMatch.{patterns_view}
use Rattle.urlpattern.specs.NextMatch.{NoneMatchBetween}
use Rattle.urlpattern_pattern.specs.Patterns.{pattern_view}
use Rattle.urlpattern_pattern.specs.UrlPatterns.{UrlPattern}
use Rattle.urlpattern.proofs.list.UrlPatternList.first_from_candidate.Given as given
use Rattle.urlpattern.proofs.list.UrlPatternList.first_from_candidate.Goals as goal
use Rattle.urlpattern.proofs.list.UrlPatternList.first_from_candidate.Goals.{After-index-pattern}

-- The pattern that is tried, and the ones before it.
asked : (g : given.Over) (c : After-index-pattern g) → (c.args.index ≤ c.in-Some.index)
    × (slice_get (patterns_view c.args.self.now) c.in-Some.index ≡ Some (pattern_view c.index-pattern.result.now))
    × NoneMatchBetween g.R.RegExp.answer (patterns_view c.args.self.now) (borrowed_texts c.args.texts.now) c.args.index c.in-Some.index
asked g c =
    let ((later, within), before) = rw c.in-Some.is at c.loop-found.invariant in
    let items = c.self.inside.patterns.items in
    let index = c.in-Some.index in
    let pattern = c.index-pattern.result.now in
    let inside : index < length items = subst (λ (patterns : List (UrlPattern g.row.R.Denot)). index < length patterns) (sym c.self.view_is) within in
    let there : slice_get c.args.self.now index ≡ Some pattern =
    subst (λ (patterns : List (UrlPattern g.row.R.Denot)). slice_get patterns index ≡ Some pattern) c.self.view_is
    (slice_get_read items (length items) index pattern refl inside c.index-pattern.ensures) in
    (later, slice_get-map (λ pattern. pattern_view pattern) c.args.self.now index ∙ ap (option_map (λ pattern. pattern_view pattern)) there, before)

pub loop-found-init : goal.loop-found-init
loop-found-init g c = ((omega arith, c.requires.within), λ k pattern le lt is. absurd (omega arith))

pub index-pattern-requires : goal.index-pattern-requires
index-pattern-requires g c =
    let ((later, within), before) = rw c.in-Some.is at c.loop-found.invariant in
    let inside : c.in-Some.index < length c.self.inside.patterns.items = subst (λ (patterns : List (UrlPattern g.row.R.Denot)). c.in-Some.index < length patterns) (sym c.self.view_is) within in
    omega (arith, c.self.inside.patterns.ok)

pub overflow_add-index : goal.overflow_add-index
overflow_add-index g c =
    let ((later, within), before) = rw c.in-Some.is at c.loop-found.invariant in
    let inside : c.in-Some.index < length c.self.inside.patterns.items = subst (λ (patterns : List (UrlPattern g.row.R.Denot)). c.in-Some.index < length patterns) (sym c.self.view_is) within in
    omega (arith, c.self.inside.patterns.small, c.self.inside.patterns.ok)

pub loop-found-smaller : goal.loop-found-smaller
loop-found-smaller g c =
    let count = length c.args.self.now in
    let ((later, within), before) = rw c.in-Some.is at c.loop-found.invariant in
    subst (λ found. left count c.next_candidate-found.result < left count found) (sym c.in-Some.is)
    (less-left count c.in-Some.index c.next_candidate-found.result within c.next_candidate-found.ensures.within)

pub loop-found-preserved : goal.loop-found-preserved
loop-found-preserved g c =
    let texts = borrowed_texts c.args.texts.now in
    let (later, there, before) = asked g (goal.at.loop-found-preserved g c).After-index-pattern in
    next-found g.R.RegExp.answer texts c.args.self.now c.args.index c.in-Some.index (pattern_view c.index-pattern.result.now) later there before
    (rw c.in_default-2.is at c.in_ok-captures.ensures.matched) c.next_candidate-found.result
    (c.next_candidate-found.ensures.within, c.next_candidate-found.ensures.passed texts c.requires.hashes)

pub returns-in-Some-2-clause-first : goal.returns-in-Some-2-clause-first
returns-in-Some-2-clause-first g c =
    let (later, there, before) = asked g (goal.at.returns-in-Some-2-clause-first g c).After-index-pattern in
    (later, (pattern_view c.index-pattern.result.now, there, rw c.in-Some-2.is at c.in_ok-captures.ensures.matched), before)

pub returns-in-Some-2-clause-groups : goal.returns-in-Some-2-clause-groups
returns-in-Some-2-clause-groups g c =
    let (later, there, before) = asked g (goal.at.returns-in-Some-2-clause-groups g c).After-index-pattern in
    (pattern_view c.index-pattern.result.now, there, rw c.in-Some-2.is at c.in_ok-captures.ensures.groups)

pub returns-in_err-captures-clause-asked : goal.returns-in_err-captures-clause-asked
returns-in_err-captures-clause-asked g c =
    let (later, there, before) = asked g (goal.at.returns-in_err-captures-clause-asked g c).After-index-pattern in
    if_err _ c.from_residual.result (c.in-Some.index, pattern_view c.index-pattern.result.now, later, there, c.in_err-captures.ensures.asked, before)

pub returns-clause-first : goal.returns-clause-first
returns-clause-first g c = let (none, refused) = rw c.in_default.is at c.loop-found.invariant in refused
