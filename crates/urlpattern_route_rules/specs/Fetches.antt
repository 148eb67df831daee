-- A request of a service worker, as conditions see it.
use Rattle.std.specs.Prelude.{ℕ, Bool, true, false, List, [], ◌∷◌, codes}
use Rattle.urlpattern_components.specs.Eight.{Texts}
use Rattle.urlpattern_conditions.specs.Requests.{RequestView}
use Rattle.urlpattern_init.specs.Inheritance.{texts_of_url}
use Rattle.urlpattern_route_rules.specs.declared.request.RouterFetch.{RouterFetch}
use Rattle.urlpattern_routes.specs.Methods.{normalized}

-- Whether the worker is running, as `runningStatus` names it.
abbrev pub status : (is_running : Bool) → List ℕ
status true = codes "running"
status false = codes "not-running"

-- A request with these texts, and these names of its attributes.
abbrev pub request_with : Texts → (method mode destination status : List ℕ) → RequestView
request_with texts method mode destination status =
    record { texts = texts; names = method ∷ mode ∷ destination ∷ status ∷ [] }

-- The view of a request that a service worker gets.
abbrev pub fetch_view : RouterFetch → RequestView
fetch_view fetch =
    request_with (texts_of_url fetch.url.now) (normalized fetch.method.now) fetch.mode.now
    fetch.destination.now (status fetch.is_running)
