use Rattle.std.proofs.Common.{[], ◌++◌, ◌≡◌, ◌∷◌, List, ap, arith, get_or, subst, sym, take}
use Rattle.std.proofs.lemmas.List.{take_all, take_more}
use Rattle.std.specs.Borrow.{Bor}
use Rattle.std.specs.List.{AllZip}
use Rattle.std.specs.Prelude.{ℕ}
use Rattle.example.specs.Server.{IsRouteOf}
use Rattle.urlpattern.proofs.ListedParts.{zip_push}
use Rattle.urlpattern.specs.PatternRegexp.{PatternRegexp}
use Rattle.urlpattern.specs.UrlPatterns.{UrlPattern}
use Rattle.urlpattern.specs.declared.router.route.Route.{Route}
use Rattle.example.proofs.server.pages.Goals as goal

pub loop-row-init : goal.loop-row-init
loop-row-init c = rw c.new-pages.ensures.routes tt

pub loop-row-preserved : goal.loop-row-preserved
loop-row-preserved c =
    let rows = c.args.rows.now in
    let i = c.loop-row.row-index in
    let none : Bor (List ℕ) = record { ref_ptr = (0, 0); now = [] } in
    let row = get_or rows i (none, none, none) in
    let pages = c.loop-row.pages.routes in
    let (route, is_route, same) = c.in-Ok.ensures.appended in
    let entry : UrlPattern PatternRegexp × Route (Bor (List ℕ)) = (c.in_ok-pattern.pattern, route) in
    let grown : c.insert_named.new.self.routes ≡ pages ++ entry ∷ [] = ap (λ pages. pages.routes) same in
    subst (λ xs. AllZip IsRouteOf xs c.insert_named.new.self.routes) (sym (take_more rows i (none, none, none) c.loop-row-test.true))
    (subst (λ ys. AllZip IsRouteOf (take i rows ++ row ∷ []) ys) (sym grown) (zip_push IsRouteOf (take i rows) pages row entry c.loop-row.invariant (c.in_ok-pattern.ensures, is_route)))

pub returns : goal.returns
returns c =
    let rows = c.args.rows.now in
    subst (λ xs. AllZip IsRouteOf xs c.loop-row.pages.routes) (take_all c.loop-row.row-index rows (omega (arith, c.loop-row-test.false))) c.loop-row.invariant
