-- Lemmas on routes that are appended, and on requests.
use Rattle.http_header.specs.Token.{IsToken}
use Rattle.std.proofs.Common.{◌≡◌, ◌≢◌, ◌∙◌, ℕ, List, [], ◌∷◌, ◌==◌, ap, arith, false, inl, inr, length, refl, subst, sym}
use Rattle.std.proofs.lemmas.Option.{slice_get-map}
use Rattle.std.specs.Map.{keys_of}
use Rattle.std.specs.Prelude.{None, Some, option_map, slice_get}
use Rattle.std.specs.Str.{chars}
use Rattle.urlpattern.specs.Paths.{IsPath}
use Rattle.urlpattern.specs.Routes.{AppendsRoute, IsNewName, IsRouteError, IsRouted, Routes}
use Rattle.urlpattern.specs.declared.router.route.Route.{Route}
use Rattle.urlpattern.specs.declared.router.route_error.RouteError.{RouteError}
use Rattle.urlpattern.specs.declared.router.route_error.RouteError.TheVariants as errors
use Rattle.urlpattern.specs.declared.router.routed.Routed.{Routed}
use Rattle.urlpattern.specs.declared.router.routed.Routed.TheVariants.{Found, MethodNotAllowed, NotFound}
use Rattle.urlpattern_components.specs.Eight.{Texts}
use Rattle.urlpattern_engine.specs.PatternRegexps.{pattern_result}
use Rattle.urlpattern_engine.specs.declared.pattern_regexp.PatternRegexp.{PatternRegexp}
use Rattle.urlpattern_ffi.specs.GroupSpans.{found_groups}
use Rattle.urlpattern_ffi.specs.PassedTexts.{AreTextsOfPath}
use Rattle.urlpattern_ffi.specs.declared.spans.GroupSpan.{GroupSpan}
use Rattle.urlpattern_ffi.specs.declared.spans.Sizes.{Sizes}
use Rattle.urlpattern_ffi.specs.declared.status.Status.{Status}
use Rattle.urlpattern_ffi.specs.declared.status.Status.TheVariants as statuses
use Rattle.urlpattern_ffi_tables.specs.AddedRoutes.{given_word, insert_status, IsRouteInserted, IsRoutePushed}
use Rattle.urlpattern_ffi_tables.specs.KeptRouters.{Router}
use Rattle.urlpattern_ffi_tables.specs.RoutedRequests.{AreGroupsOfRoute, AreRouteCaptures, IsRequestReported, IsRoutedWritten}
use Rattle.urlpattern_matches.specs.MatchInput.{pathname_alone}
use Rattle.urlpattern_pattern.specs.UrlPatterns.{UrlPattern}

-- ---- routers

pub same_router : (left right : Router) → left.routes ≡ right.routes → left.head_as_get ≡ right.head_as_get → left ≡ right
same_router left right routes head = λ i. record { routes = routes i; head_as_get = head i }

-- The pattern of the route at an index.
pub pattern_there : (routes : Routes PatternRegexp (Unit {0})) (index : ℕ) (pattern : UrlPattern PatternRegexp) (route : Route (Unit {0})) → Some (pattern, route) ≡ slice_get routes index
    → Some pattern ≡ slice_get (keys_of routes) index
pattern_there routes index pattern route is = sym (slice_get-map (λ (entry : UrlPattern PatternRegexp × Route (Unit {0})). entry.0) routes index ∙ ap (option_map (λ (entry : UrlPattern PatternRegexp × Route (Unit {0})). entry.0)) (sym is))

pub none_there : (routes : Routes PatternRegexp (Unit {0})) (index : ℕ) → None ≡ slice_get routes index → None ≡ slice_get (keys_of routes) index
none_there routes index is = sym (slice_get-map (λ (entry : UrlPattern PatternRegexp × Route (Unit {0})). entry.0) routes index ∙ ap (option_map (λ (entry : UrlPattern PatternRegexp × Route (Unit {0})). entry.0)) (sym is))

-- ---- routes

pub not_empty : {A : Type 0} (xs : List A) → (length xs == 0) ≡ false → xs ≢ []
not_empty [] is none = cc is
not_empty (x ∷ xs) is none = cc none

pub no_token : ¬ IsToken []
no_token token = omega (arith, token.0)

-- A word that is a token is given.
word_of_token : (word : List ℕ) → IsToken word → given_word word ≡ Some (chars word)
word_of_token [] token = absurd (no_token token)
word_of_token (byte ∷ bytes) token = refl

module _ (old new : Router) (pattern : UrlPattern PatternRegexp) where
  pub unnamed : (method : List ℕ) → method ≢ [] → AppendsRoute old None (Some (chars method)) pattern tt new → IsToken method → IsRouteInserted old [] method pattern new statuses.Done
  unnamed [] some appended token = absurd (some refl)
  unnamed (byte ∷ bytes) some appended token = (appended, (tt, token))

  pub named : (name method : List ℕ) → name ≢ [] → AppendsRoute old (Some (chars name)) (Some (chars method)) pattern tt new → IsNewName old.routes (Some (chars name)) → IsToken method
      → IsRouteInserted old name method pattern new statuses.Done
  named [] method some appended fresh token = absurd (some refl)
  named (byte ∷ bytes) method some appended fresh token =
      (subst (λ word. AppendsRoute old (Some (chars (byte ∷ bytes))) word pattern tt new) (sym (word_of_token method token)) appended, (fresh, token))

pub unnamed_refused : (old : Router) (pattern : UrlPattern PatternRegexp) (method : List ℕ) (error : RouteError) → method ≢ [] → IsRouteError old.routes None method error
    → IsRouteInserted old [] method pattern old (insert_status error)
unnamed_refused old pattern [] error some why = absurd (some refl)
unnamed_refused old pattern (byte ∷ bytes) errors.NameTaken some why = (why, refl)
unnamed_refused old pattern (byte ∷ bytes) errors.NotAMethod some why = (why, refl)
unnamed_refused old pattern (byte ∷ bytes) errors.OutOfMemory some why = (why, refl)

pub named_refused : (old : Router) (pattern : UrlPattern PatternRegexp) (name method : List ℕ) (error : RouteError) → name ≢ [] → IsRouteError old.routes (Some (chars name)) method error
    → IsRouteInserted old name method pattern old (insert_status error)
named_refused old pattern [] method error some why = absurd (some refl)
named_refused old pattern (byte ∷ bytes) method errors.NameTaken some why = (why, refl)
named_refused old pattern (byte ∷ bytes) method errors.NotAMethod some why = (why, refl)
named_refused old pattern (byte ∷ bytes) method errors.OutOfMemory some why = (why, refl)

pub pushed : (old new : Router) (name method : List ℕ) (pattern : UrlPattern PatternRegexp) (status : Status) → IsRouteInserted old name method pattern new status → IsRoutePushed old name method pattern new status
pushed old new name method pattern statuses.NotUtf8 inserted = absurd inserted
pushed old new name method pattern statuses.Shared inserted = absurd inserted
pushed old new name method pattern status inserted = inserted

-- Unless a route is appended, the router is unchanged.
pub not_inserted : (old new : Router) (name method : List ℕ) (pattern : UrlPattern PatternRegexp) (status : Status) → status ≢ statuses.Done → IsRouteInserted old name method pattern new status
    → IsRouteInserted old name method pattern old status
not_inserted old new name method pattern statuses.Done other inserted = absurd (other refl)
not_inserted old new name method pattern statuses.NameTaken other inserted = (inserted.0, refl)
not_inserted old new name method pattern statuses.NotAMethod other inserted = (inserted.0, refl)
not_inserted old new name method pattern statuses.OutOfMemory other inserted = (inserted.0, refl)
not_inserted old new name method pattern status other inserted = inserted

-- A route that could be appended is not, since memory ran out.
pub not_boxed : (old new : Router) (name method : List ℕ) (pattern : UrlPattern PatternRegexp) → IsRouteInserted old name method pattern new statuses.Done → IsRouteInserted old name method pattern old statuses.OutOfMemory
not_boxed old new name method pattern inserted = (inserted.1, refl)

-- The outcome for a router is the one for its equal.
pub inserted_of : (made old new : Router) (name method : List ℕ) (pattern : UrlPattern PatternRegexp) (status : Status) → made ≡ old → IsRouteInserted made name method pattern new status
    → IsRouteInserted old name method pattern new status
inserted_of made old new name method pattern status is inserted = subst (λ (it : Router). IsRouteInserted it name method pattern new status) is inserted

-- ---- requests

module _ (router : Router) (method : List ℕ) (texts : Texts) (old_index new_index : ℕ) (old new : List ℕ) (old_spans new_spans : List GroupSpan) (needed : Sizes) where
  pub routed_written : (routed : Routed (Unit {0}) PatternRegexp) (status : Status) → IsRouted pattern_result router method texts routed
      → IsRoutedWritten routed old_index new_index old new old_spans new_spans needed status
      → AreRouteCaptures router method texts old_index new_index old new old_spans new_spans needed status
  routed_written (Found index value found) statuses.Done served (is, written) =
      (found_groups found, subst (λ at. AreGroupsOfRoute router method texts at (found_groups found)) (sym is) (record { value = value; found = found; is_served = served; are_groups = refl }), written)
  routed_written (Found index value found) statuses.TooSmall served (is, written) =
      (found_groups found, subst (λ at. AreGroupsOfRoute router method texts at (found_groups found)) (sym is) (record { value = value; found = found; is_served = served; are_groups = refl }), written)
  routed_written (Found index value found) statuses.OutOfMemory served (is, written) =
      inr (found_groups found, subst (λ at. AreGroupsOfRoute router method texts at (found_groups found)) (sym is) (record { value = value; found = found; is_served = served; are_groups = refl }), written)
  routed_written (Found index value found) status served written = absurd written.1
  routed_written (MethodNotAllowed allowed) status (none, some, left) (is, at, bytes, spans) =
      subst (λ status. AreRouteCaptures router method texts old_index new_index old new old_spans new_spans needed status) (sym is) (none, some, at, bytes, spans)
  routed_written NotFound status none (is, at, bytes, spans) =
      subst (λ status. AreRouteCaptures router method texts old_index new_index old new old_spans new_spans needed status) (sym is) (none, at, bytes, spans)

-- What is reported for the method and the router as they were read is reported for those that
-- are passed.
pub request_of : (AreRead : Texts → Type 0) (AreUnread : Status → Type 0) (read given : Router) (method passed : List ℕ) (old_index new_index : ℕ) (old new : List ℕ) (old_spans new_spans : List GroupSpan) (needed : Sizes) (status : Status)
    → read ≡ given → method ≡ passed → IsRequestReported AreRead AreUnread read method old_index new_index old new old_spans new_spans needed status
    → IsRequestReported AreRead AreUnread given passed old_index new_index old new old_spans new_spans needed status
request_of AreRead AreUnread read given method passed old_index new_index old new old_spans new_spans needed status same is reported =
    subst (λ router. IsRequestReported AreRead AreUnread router passed old_index new_index old new old_spans new_spans needed status) same
    (subst (λ method. IsRequestReported AreRead AreUnread read method old_index new_index old new old_spans new_spans needed status) is reported)

-- A path that is read is the one that is passed.
pub path_texts : (read passed : List ℕ) → read ≡ passed → IsPath (chars read) → AreTextsOfPath passed (pathname_alone (chars read))
path_texts read passed same is = (subst (λ (bytes : List ℕ). IsPath (chars bytes)) same is, ap (λ (bytes : List ℕ). pathname_alone (chars bytes)) same)
