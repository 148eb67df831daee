-- Lemmas on requests, as conditions see them.
use Rattle.std.proofs.Common.{◌≡◌, ℕ, List, refl}
use Rattle.urlpattern_components.specs.Eight.{Texts}
use Rattle.urlpattern_init.specs.Inheritance.{texts_of_url}
use Rattle.urlpattern_route_rules.specs.Fetches.{fetch_view, request_with, status}
use Rattle.urlpattern_route_rules.specs.declared.request.RouterFetch.{RouterFetch}
use Rattle.urlpattern_routes.specs.Methods.{normalized}

pub fetch-seen : (fetch : RouterFetch) (texts : Texts) (method own : List ℕ) → texts ≡ texts_of_url fetch.url.now → method ≡ normalized fetch.method.now → own ≡ status fetch.is_running
    → request_with texts method fetch.mode.now fetch.destination.now own ≡ fetch_view fetch
fetch-seen fetch texts method own same_texts same_method same_status = rw (same_texts, same_method, same_status) refl
