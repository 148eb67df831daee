use Rattle.std.proofs.Common.{List, ℕ, ◌∙◌, inl, inr, sym}
use Rattle.std.proofs.lemmas.Bool.{false≢true}
use Rattle.std.specs.Prelude.{◌⊎◌, Option}
use Rattle.std.specs.Str.{chars}
use Rattle.urlpattern.specs.BorrowedMatches.{pattern_captures_view}
use Rattle.urlpattern.specs.Match.{DoesNotMatch}
use Rattle.urlpattern.specs.MatchInput.{pathname_alone}
use Rattle.urlpattern.specs.Patterns.{pattern_view}
use Rattle.urlpattern.specs.UrlTexts.{IsLine}
use Rattle.example.proofs.Captured.{none_captured, some_captured}
use Rattle.example.specs.NamedUsers.{CapturesIdOfPath}
use Rattle.example.proofs.path.user.Goals as goal

pub returns-clause-some : goal.returns-clause-some
returns-clause-some g c =
    let path = chars c.args.path.now in
    let Is : Option (List ℕ) → Type 0 = λ capture. IsLine path × CapturesIdOfPath g.R.RegExp.answer (pattern_view c.args.users.now) path capture in
    some_captured c.get.result Is (
      c.is_line.ensures.0 c.if-not-is_line.false,
      (pattern_captures_view c.in-Some.found, rw c.pathname_texts.ensures at (rw c.in-Some.is at c.in_ok-found.ensures.matched), sym c.get.ensures),
    )

pub returns-clause-none : goal.returns-clause-none
returns-clause-none g c =
    let path = chars c.args.path.now in
    let Is : Option (List ℕ) → Type 0 = λ capture. DoesNotMatch g.R.RegExp.answer (pattern_view c.args.users.now) (pathname_alone path)
    ⊎ CapturesIdOfPath g.R.RegExp.answer (pattern_view c.args.users.now) path capture in
    none_captured c.get.result Is _
    (inr (pattern_captures_view c.in-Some.found, rw c.pathname_texts.ensures at (rw c.in-Some.is at c.in_ok-found.ensures.matched), sym c.get.ensures))

pub returns-in_default-clause-none : goal.returns-in_default-clause-none
returns-in_default-clause-none g c = inr (inl (rw c.pathname_texts.ensures at (rw c.in_default.is at c.in_ok-found.ensures.matched)))

pub returns-then-not-is_line-clause-none : goal.returns-then-not-is_line-clause-none
returns-then-not-is_line-clause-none g c = inl (λ line. absurd (false≢true (sym c.if-not-is_line.true ∙ c.is_line.ensures.1 line)))
