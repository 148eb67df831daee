use Rattle.std.proofs.Common.{sym}
use Rattle.std.proofs.lemmas.Result.{err_from_is_err_and}
use Rattle.urlpattern.specs.BorrowedMatches.{pattern_captures_view}
use Rattle.example.proofs.DocsUrls.{docs_asked, docs_found, docs_none}
use Rattle.example.proofs.docs.Docs.language.Goals as goal

pub returns-clause-some : goal.returns-clause-some
returns-clause-some c =
    docs_found _ c.self.invariant c.args.url.now c.texts_are_lines.ensures.valid c.texts_are_lines.ensures.lines (pattern_captures_view c.in-Some.found)
    (rw c.in-Some.is at c.in_ok-found.ensures.matched) _ (sym c.get.ensures)

pub returns-in_default-clause-none : goal.returns-in_default-clause-none
returns-in_default-clause-none c =
    docs_none _ c.self.invariant c.args.url.now c.texts_are_lines.ensures.valid c.texts_are_lines.ensures.lines (rw c.in_default.is at c.in_ok-found.ensures.matched)

pub returns-in_err-found-clause-asked : goal.returns-in_err-found-clause-asked
returns-in_err-found-clause-asked c =
    let error = err_from_is_err_and c.from_residual.result c.from_residual.ensures.1 in
    rw error.1
    (docs_asked _ c.self.invariant c.args.url.now c.texts_are_lines.ensures.valid c.texts_are_lines.ensures.lines c.in_err-found.ensures.asked)
