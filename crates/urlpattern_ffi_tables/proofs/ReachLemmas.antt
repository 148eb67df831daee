-- Lemmas on what is written of the first matches of a list.
use Rattle.std.proofs.Common.{◌≡◌, ◌≢◌, ◌++◌, ℕ, List, [], ◌∷◌, ap, flat_map, length, map, refl, subst, sym}
use Rattle.std.specs.List.{AllZip, join_by}
use Rattle.std.specs.Prelude.{String, string_bytes}
use Rattle.std.specs.declared.alloc.Global.{Global}
use Rattle.urlpattern.specs.Reached.{AreReachedBy}
use Rattle.urlpattern.proofs.ListedParts.{zip_push}
use Rattle.urlpattern_compare.specs.declared.candidates.TheConstants.{USUAL_LIMITS}
use Rattle.urlpattern_compare.specs.declared.reaching.Reach.{Reach}
use Rattle.urlpattern_engine.specs.PatternRegexps.{pattern_engine}
use Rattle.urlpattern_ffi.specs.KeptPatterns.{PatternList}
use Rattle.urlpattern_ffi.specs.TextBuffers.{IsWrittenTo}
use Rattle.urlpattern_ffi.specs.declared.status.Status.{Status}
use Rattle.urlpattern_ffi.specs.declared.status.Status.TheVariants as statuses
use Rattle.urlpattern_ffi_tables.specs.WrittenReaches.{AreReachesReported, AreReachesWritten, IsTextOfEach, IsTextOfReach}

-- ---- texts

flat_map_texts : {A : Type 0} (f : A → List ℕ) (between : List ℕ) (xs : List A) → flat_map (λ x. between ++ f x) xs ≡ flat_map (λ text. between ++ text) (map f xs)
flat_map_texts f between [] = refl
flat_map_texts f between (x ∷ xs) = ap (λ rest. (between ++ f x) ++ rest) (flat_map_texts f between xs)

pub join_by_texts : {A : Type 0} (f : A → List ℕ) (between : List ℕ) (xs : List A) → join_by f between xs ≡ join_by (λ text. text) between (map f xs)
join_by_texts f between [] = refl
join_by_texts f between (x ∷ xs) = ap (λ rest. f x ++ rest) (flat_map_texts f between xs)

map_push : {A B : Type 0} (f : A → B) (xs : List A) (x : A) → map f (xs ++ x ∷ []) ≡ map f xs ++ f x ∷ []
map_push f [] x = refl
map_push f (y ∷ xs) x = ap (λ rest. f y ∷ rest) (map_push f xs x)

abbrev pub Zipped : List Reach → List (String Global) → Type 0
Zipped found texts = AllZip IsTextOfReach found (map string_bytes texts)

pub zipped_more : (found : List Reach) (texts new : List (String Global)) (reach : Reach) (text : String Global) → Zipped found texts → IsTextOfReach reach (string_bytes text) → new ≡ texts ++ text ∷ []
    → Zipped (found ++ reach ∷ []) new
zipped_more found texts new reach text zipped is grown =
    subst (λ (all : List (String Global)). Zipped (found ++ reach ∷ []) all) (sym grown)
    (subst (λ (all : List (List ℕ)). AllZip IsTextOfReach (found ++ reach ∷ []) all) (sym (map_push string_bytes texts text)) (zip_push IsTextOfReach found (map string_bytes texts) reach (string_bytes text) zipped is))

-- ---- what is written

pub each_written : (found : List Reach) (text old new : List ℕ) (needed : ℕ) (status : Status) → IsTextOfEach found text → needed ≡ length text → IsWrittenTo text old new status
    → AreReachesWritten found old new needed status
each_written found text old new needed statuses.OutOfMemory is counted written = absurd written
each_written found text old new needed status is counted written = (text, is, counted, written)

pub reaches_reported : (patterns : PatternList) (found : List Reach) (old new : List ℕ) (needed : ℕ) (status : Status) → patterns ≢ [] → AreReachedBy pattern_engine USUAL_LIMITS patterns found
    → AreReachesWritten found old new needed status → AreReachesReported patterns old new needed status
reaches_reported patterns found old new needed statuses.Done some reached (text, is, counted, written) = (some, (text, (found, reached, is), counted, written))
reaches_reported patterns found old new needed statuses.TooSmall some reached (text, is, counted, written) = (some, (text, (found, reached, is), counted, written))
reaches_reported patterns found old new needed statuses.OutOfMemory some reached same = (some, same)
reaches_reported patterns found old new needed status some reached (text, is, counted, written) = absurd written
