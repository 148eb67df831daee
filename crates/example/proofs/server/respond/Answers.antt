use Rattle.std.proofs.Common.{List, inr, refl, sym, ℕ}
use Rattle.std.specs.Borrow.{Bor}
use Rattle.std.specs.Str.{chars}
use Rattle.example.specs.Server.{IsResponse, IsShown, Pages, captured_id}
use Rattle.example.specs.declared.server.Response.{Response}
use Rattle.example.specs.declared.server.Response.TheVariants.{BadRequest, NotAllowed, NotFound, Page}
use Rattle.urlpattern.proofs.FixedLemmas.{ok-weaker}
use Rattle.urlpattern.specs.PatternRegexps.{pattern_result}
use Rattle.urlpattern.specs.Routes.{IsRoutedPath}
use Rattle.urlpattern.specs.UrlPatternCaptures.{UrlPatternCaptures}
use Rattle.urlpattern.specs.declared.router.routed.Routed.TheVariants as routed
use Rattle.example.proofs.server.respond.Goals as goal

-- What is shown for the first route is the response.
shown-response : (pages : Pages) (method path : List ℕ) (index : ℕ) (value : Bor (Bor (List ℕ))) (found : UrlPatternCaptures) → IsRoutedPath pattern_result pages method path (routed.Found index value found)
    → (response : Response) → IsShown value.now (captured_id found) response → IsResponse pages method path response
shown-response pages method path index value found is (Page page id) (same, decoded) = (index, value, found, is, sym same, decoded)
shown-response pages method path index value found is (NotAllowed allow) none = absurd none
shown-response pages method path index value found is NotFound none = absurd none
shown-response pages method path index value found is BadRequest bad = inr (value.now, (index, value, found, is, refl, bad))

pub returns-in-Ok-Found-clause-response : goal.returns-in-Ok-Found-clause-response
returns-in-Ok-Found-clause-response c =
    ok-weaker _ _ c.shown.result c.shown.ensures.shown (shown-response c.args.pages.now (chars c.args.method.now) (chars c.args.path.now) c.in-Ok-Found.field-0-0 c.in-Ok-Found.page c.in-Ok-Found.found
    (rw c.in-Ok-Found.field-0-is at c.in-Ok-Found.ensures.routed))

pub returns-in_ok-allow-in-Ok-MethodNotAllowed-clause-response : goal.returns-in_ok-allow-in-Ok-MethodNotAllowed-clause-response
returns-in_ok-allow-in-Ok-MethodNotAllowed-clause-response c =
    (c.in-Ok-MethodNotAllowed.methods, rw c.in-Ok-MethodNotAllowed.field-0-is at c.in-Ok-MethodNotAllowed.ensures.routed, c.in_ok-allow-in-Ok-MethodNotAllowed.ensures.allow)
