use Rattle.std.proofs.Common.{[], ap, append-nil, sym}
use Rattle.std.proofs.lemmas.Str.{IsUtf8-string_bytes}
use Rattle.std.specs.Prelude.{string_bytes}
use Rattle.std.specs.Str.{chars}
use Rattle.urlpattern_matcher.specs.Matchers.{matcher_view}
use Rattle.urlpattern_matcher.proofs.FoldedEnds.{begins-between, between-folded, ends-between, none-weaker, some-weaker}
use Rattle.urlpattern_matcher.proofs.MatcherTexts.{between-none, between-some, not_stripped}
use Rattle.urlpattern_matcher.proofs.matcher.Matcher.middle.Goals as goal
use Rattle.urlpattern_meaning.proofs.MatchingLaws.{middle_kept}
use Rattle.urlpattern_meaning.specs.Matching.{folded}

-- ---- where prefix and suffix are empty

pub returns-then-has_no_ends-clause-some : goal.returns-then-has_no_ends-clause-some
returns-then-has_no_ends-clause-some g c =
    let ignore_case = c.args.self.now.ignore_case in (
      [],
      [],
      sym (append-nil (chars c.args.input.now)),
      ap (folded ignore_case) (sym (c.has_no_ends.ensures.prefix c.if-has_no_ends.true)),
      ap (folded ignore_case) (sym (c.has_no_ends.ensures.suffix c.if-has_no_ends.true)),
    )

-- ---- where case is ignored

pub returns-in_err-rest-clause-none : goal.returns-in_err-rest-clause-none
returns-in_err-rest-clause-none g c =
    let matcher = matcher_view c.args.self.now in
    rw c.from_residual.ensures (λ middle cut.
    let (rest, begins) = begins-between matcher (chars c.args.input.now) middle c.if-self.true cut in
    (rw c.deref.ensures at c.in_err-rest.ensures.none) rest begins)

pub returns-in_ok-rest-clause-some : goal.returns-in_ok-rest-clause-some
returns-in_ok-rest-clause-some g c =
    let matcher = matcher_view c.args.self.now in
    some-weaker c.strip_suffix_ignoring_case.result _ _
    (λ middle ends. between-folded matcher (chars c.args.input.now) (chars c.in_ok-rest.rest.now) (chars middle.now) c.if-self.true (rw c.deref.ensures at c.in_ok-rest.ensures.some) ends)
    (rw c.deref-then-self.ensures at c.strip_suffix_ignoring_case.ensures.some)

pub returns-in_ok-rest-clause-none : goal.returns-in_ok-rest-clause-none
returns-in_ok-rest-clause-none g c =
    let matcher = matcher_view c.args.self.now in
    none-weaker c.strip_suffix_ignoring_case.result _ _
    (λ lacks middle cut.
    lacks middle (ends-between matcher (chars c.args.input.now) (chars c.in_ok-rest.rest.now) middle c.if-self.true (rw c.deref.ensures at c.in_ok-rest.ensures.some) cut))
    (rw c.deref-then-self.ensures at c.strip_suffix_ignoring_case.ensures.none)

-- ---- where case is kept

pub returns-in_err-rest-2-clause-none : goal.returns-in_err-rest-2-clause-none
returns-in_err-rest-2-clause-none g c =
    let prefix = string_bytes c.args.self.now.prefix in
    let suffix = string_bytes c.args.self.now.suffix in
    rw c.from_residual-in_err-rest-2.ensures (λ middle cut.
    not_stripped c.args.input.now prefix suffix c.utf8.input (IsUtf8-string_bytes c.args.self.now.prefix) (IsUtf8-string_bytes c.args.self.now.suffix) (rw c.as_str.ensures.value at c.in_err-rest-2.ensures.cases) middle
    ((middle_kept (matcher_view c.args.self.now) (chars c.args.input.now) middle c.if-self.false).0 cut))

pub returns-in_ok-rest-2-clause-some : goal.returns-in_ok-rest-2-clause-some
returns-in_ok-rest-2-clause-some g c =
    let prefix = string_bytes c.args.self.now.prefix in
    let suffix = string_bytes c.args.self.now.suffix in
    some-weaker c.strip_suffix.result _ _
    (λ middle e. (middle_kept (matcher_view c.args.self.now) (chars c.args.input.now) (chars middle.now) c.if-self.false).1 e)
    (between-some c.args.input.now prefix suffix c.in_ok-rest-2.rest.now c.strip_suffix.result c.utf8.input (IsUtf8-string_bytes c.args.self.now.prefix)
    (rw c.as_str.ensures.value at c.in_ok-rest-2.ensures.cases) (rw c.as_str-else-self.ensures.value at c.strip_suffix.ensures.cases))

pub returns-in_ok-rest-2-clause-none : goal.returns-in_ok-rest-2-clause-none
returns-in_ok-rest-2-clause-none g c =
    let prefix = string_bytes c.args.self.now.prefix in
    let suffix = string_bytes c.args.self.now.suffix in
    none-weaker c.strip_suffix.result _ _
    (λ lacks middle cut. lacks middle ((middle_kept (matcher_view c.args.self.now) (chars c.args.input.now) middle c.if-self.false).0 cut))
    (between-none c.args.input.now prefix suffix c.in_ok-rest-2.rest.now c.strip_suffix.result c.utf8.input (IsUtf8-string_bytes c.args.self.now.prefix) (IsUtf8-string_bytes c.args.self.now.suffix)
    (rw c.as_str.ensures.value at c.in_ok-rest-2.ensures.cases) (rw c.as_str-else-self.ensures.value at c.strip_suffix.ensures.cases))
