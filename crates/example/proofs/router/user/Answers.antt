use Rattle.std.proofs.Common.{List, ℕ, sym, codes}
use Rattle.std.specs.Prelude.{Option}
use Rattle.std.specs.Str.{chars}
use Rattle.urlpattern.specs.BorrowedMatches.{pattern_captures_view}
use Rattle.urlpattern.specs.Patterns.{pattern_view}
use Rattle.urlpattern.specs.UrlPatternMatchInput.TheVariants as inputs
use Rattle.urlpattern.specs.ComponentName.TheVariants.{Pathname}
use Rattle.example.proofs.Captured.{none_captured, some_captured}
use Rattle.example.specs.NamedUsers.{IsCaptured}
use Rattle.example.proofs.router.user.Goals as goal

pub returns-clause-some : goal.returns-clause-some
returns-clause-some g c =
    let Is : Option (List ℕ) → Type 0 = IsCaptured g.R.RegExp.answer (pattern_view c.args.users.now) (inputs.Url c.args.url.now) Pathname (chars (codes "id")) in
    some_captured c.get.result Is
    (pattern_captures_view c.in-Some.found, rw c.in-Some.is at c.in_ok-found.ensures.matched, sym c.get.ensures)

pub returns-clause-none : goal.returns-clause-none
returns-clause-none g c =
    let Is : Option (List ℕ) → Type 0 = IsCaptured g.R.RegExp.answer (pattern_view c.args.users.now) (inputs.Url c.args.url.now) Pathname (chars (codes "id")) in
    none_captured c.get.result Is _
    (pattern_captures_view c.in-Some.found, rw c.in-Some.is at c.in_ok-found.ensures.matched, sym c.get.ensures)
