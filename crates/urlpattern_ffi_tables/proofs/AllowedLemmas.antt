-- Lemmas on the methods that are allowed.
use Rattle.std.proofs.Common.{◌≡◌, ◌≢◌, ℕ, List, [], ◌∷◌, inl, inr, length, map, refl, subst, sym}
use Rattle.std.specs.Borrow.{Bor}
use Rattle.std.specs.Iterator.{Drains, Yields}
use Rattle.std.specs.Prelude.{Ok, Option, Result}
use Rattle.std.specs.Str.{chars}
use Rattle.urlpattern.specs.Routes.{IsRouted, RoutesLeft, YieldsMethod, allowed_left}
use Rattle.urlpattern.specs.declared.router.allowed_methods.AllowedMethods.{AllowedMethods}
use Rattle.urlpattern.specs.declared.router.routed.Routed.{Routed}
use Rattle.urlpattern.specs.declared.router.routed.Routed.TheVariants.{Found, MethodNotAllowed, NotFound}
use Rattle.urlpattern_components.specs.Eight.{Texts}
use Rattle.urlpattern_engine.specs.PatternRegexps.{pattern_result}
use Rattle.urlpattern_engine.specs.declared.pattern_regexp.PatternRegexp.{PatternRegexp}
use Rattle.urlpattern_ffi.specs.TextBuffers.{IsWrittenTo}
use Rattle.urlpattern_ffi.specs.declared.status.Status.{Status}
use Rattle.urlpattern_ffi.specs.declared.status.Status.TheVariants as statuses
use Rattle.urlpattern_ffi_tables.specs.AllowedMethodTexts.{AreAllowedMethods, AreAllowedReported, AreAllowedWritten, AreMethodsIn, AreMethodsOf}
use Rattle.urlpattern_ffi_tables.specs.KeptRouters.{Router}
use Rattle.urlpattern_syntax.specs.declared.error.Error.{Error}

-- ---- methods

abbrev pub Methods : Type 0
Methods = AllowedMethods (Unit {0}) PatternRegexp

abbrev pub Steps : Methods → Option (Result (Bor (List ℕ)) Error) → Methods → Type 0
Steps old found new = YieldsMethod pattern_result (allowed_left old) found (allowed_left new)

-- The methods that are returned from here to the end are those that are left.
methods_yielded : (methods : List (Bor (List ℕ))) (start end : Methods) → Yields Steps start (map (λ method. Ok method) methods) end → AreMethodsOf (allowed_left end) []
    → AreMethodsOf (allowed_left start) methods
methods_yielded [] start end same none = subst (λ (left : Methods). AreMethodsOf (allowed_left left) []) (sym same) none
methods_yielded (method ∷ methods) start end (later, (index, next, left), yields) none =
    (index, next, subst (λ (left : RoutesLeft PatternRegexp (Unit {0})). AreMethodsOf left methods) left (methods_yielded methods later end yields none))

pub methods_drained : (methods : List (Bor (List ℕ))) (start : Methods) → Drains Steps start (map (λ method. Ok method) methods) → AreMethodsOf (allowed_left start) methods
methods_drained methods start (last, (end, yields, (none, same))) = methods_yielded methods start end yields none

-- ---- what is written

module _ (router : Router) (method : List ℕ) (texts : Texts) (old new : List ℕ) (needed : ℕ) where
  pub allowed_written : (routed : Routed (Unit {0}) PatternRegexp) (status : Status) → IsRouted pattern_result router method texts routed → AreAllowedWritten routed old new needed status
      → AreAllowedMethods router method texts old new needed status
  allowed_written (Found index value found) status served (is, same) =
      subst (λ status. AreAllowedMethods router method texts old new needed status) (sym is) (inl ((index, value, found), served), same)
  allowed_written (MethodNotAllowed allowed) statuses.Done (none, some, left) (text, are, counted, written) =
      ((none, some), (text, subst (λ left. AreMethodsIn left text) left are, counted, written))
  allowed_written (MethodNotAllowed allowed) statuses.TooSmall (none, some, left) (text, are, counted, written) =
      ((none, some), (text, subst (λ left. AreMethodsIn left text) left are, counted, written))
  allowed_written (MethodNotAllowed allowed) statuses.OutOfMemory (none, some, left) same = (inr (none, some), same)
  allowed_written (MethodNotAllowed allowed) status refused (text, are, counted, written) = absurd written
  allowed_written NotFound status none (is, same) =
      subst (λ status. AreAllowedMethods router method texts old new needed status) (sym is) (inr none, same)

-- The text of the methods is written.
pub methods_written : (allowed : AllowedMethods (Unit {0}) PatternRegexp) (text old new : List ℕ) (needed : ℕ) (status : Status)
    → AreMethodsIn (allowed_left allowed) text → needed ≡ length text → IsWrittenTo text old new status → AreAllowedWritten (MethodNotAllowed allowed) old new needed status
methods_written allowed text old new needed statuses.OutOfMemory are counted written = absurd written
methods_written allowed text old new needed status are counted written = (text, are, counted, written)

-- What is reported for the method and the router as they were read is reported for those that
-- are passed.
pub allowed_of : (AreRead : Texts → Type 0) (AreUnread : Status → Type 0) (read given : Router) (method passed : List ℕ) (old new : List ℕ) (needed : ℕ) (status : Status)
    → read ≡ given → method ≡ passed → AreAllowedReported AreRead AreUnread read method old new needed status → AreAllowedReported AreRead AreUnread given passed old new needed status
allowed_of AreRead AreUnread read given method passed old new needed status same is reported =
    subst (λ router. AreAllowedReported AreRead AreUnread router passed old new needed status) same
    (subst (λ method. AreAllowedReported AreRead AreUnread read method old new needed status) is reported)
