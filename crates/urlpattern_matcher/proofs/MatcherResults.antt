-- What a matcher returns, by what is between prefix and suffix.
use Rattle.std.proofs.Common.{◌≡◌, ◌↔◌, ℕ, Bool, true, false, List, [], refl, sym, ◌∙◌, subst}
use Rattle.std.proofs.lemmas.Bool.{false≢true}
use Rattle.std.specs.Prelude.{IsTrue, Option, Some, None, Ok, is_some, option_map}
use Rattle.urlpattern_meaning.specs.Matching.{Accepts, Returns, HasMiddle, InnerView, IsMatched, IsSame, Literal, Matches, MatcherView, MayBeEmpty, PassesFilter, RegExp, SingleCapture}
use Rattle.urlpattern_meaning.specs.PartMeaning.{Captures}
use Rattle.urlpattern_meaning.proofs.Middles.{middle-one}

-- A text with this middle matches if and only if the middle is accepted.
pub matches-accepts : {E : Type 0} (answer : E → List ℕ → Option Captures) (matcher : MatcherView E) (text middle : List ℕ) (captures : Captures) →
    HasMiddle matcher text middle → Matches answer matcher text captures ↔ Accepts answer matcher.ignore_case matcher.inner middle captures
matches-accepts answer matcher text middle captures cut = (
  λ (other, is, accepts). subst (λ m. Accepts answer matcher.ignore_case matcher.inner m captures) (middle-one matcher text other middle is cut) accepts,
  λ accepts. (middle, cut, accepts),
)

-- A text without a middle does not match.
pub not_matched-without : {E : Type 0} (answer : E → List ℕ → Option Captures) (matcher : MatcherView E) (text : List ℕ) →
    ((middle : List ℕ) → ¬ HasMiddle matcher text middle) → (captures : Captures) → ¬ Matches answer matcher text captures
not_matched-without answer matcher text none captures (middle, cut, accepts) = none middle cut

-- A text whose middle is not accepted does not match.
pub not_matched-by : {E : Type 0} (answer : E → List ℕ → Option Captures) (matcher : MatcherView E) (text middle : List ℕ) (inner : InnerView E) →
    HasMiddle matcher text middle → matcher.inner ≡ inner → ((captures : Captures) → ¬ Accepts answer matcher.ignore_case inner middle captures) →
    (captures : Captures) → ¬ Matches answer matcher text captures
not_matched-by answer matcher text middle inner cut is_inner none captures matches =
    none captures (subst (λ x. Accepts answer matcher.ignore_case x middle captures) is_inner ((matches-accepts answer matcher text middle captures cut).0 matches))

-- ---- whether a text may be captured

-- A text that is not empty is permitted in any case.
pub may_be-some : (allow_empty : Bool) (text : List ℕ) → ¬ (text ≡ []) → MayBeEmpty allow_empty text
may_be-some true text some = tt
may_be-some false text some = some

pub captured-by : (allow_empty : Bool) (text : List ℕ) (P : Type 0) (test : Bool) → MayBeEmpty allow_empty text → (IsTrue test ↔ P) → IsTrue test ↔ (MayBeEmpty allow_empty text × P)
captured-by allow_empty text P test may h = (λ t. (may, h.0 t), λ (may_be, p). h.1 p)

-- An empty text that is not permitted is not captured.
pub not_captured-by : (allow_empty : Bool) (text : List ℕ) (P : Type 0) (test : Bool) → allow_empty ≡ false → text ≡ [] → test ≡ false → IsTrue test ↔ (MayBeEmpty allow_empty text × P)
not_captured-by true text P test full empty fails = absurd (false≢true (sym full))
not_captured-by false text P test full empty fails = (λ t. absurd (false≢true (sym fails ∙ t)), λ (some, p). absurd (some empty))

-- ---- by the inner matcher

pub not_matched-literal : {E : Type 0} (answer : E → List ℕ → Option Captures) (matcher : MatcherView E) (text middle literal : List ℕ) (test : Bool) →
    HasMiddle matcher text middle → matcher.inner ≡ Literal literal → (IsTrue test ↔ IsSame matcher.ignore_case middle literal) →
    test ≡ false → (captures : Captures) → ¬ Matches answer matcher text captures
not_matched-literal answer matcher text middle literal test cut is_inner h fails =
    not_matched-by answer matcher text middle (Literal literal) cut is_inner (λ captures (same, none). false≢true (sym fails ∙ h.1 same))

pub not_matched-single : {E : Type 0} (answer : E → List ℕ → Option Captures) (matcher : MatcherView E) (text middle : List ℕ) (filter : Option ℕ) (allow_empty : Bool) (test : Bool) →
    HasMiddle matcher text middle → matcher.inner ≡ SingleCapture filter allow_empty → (IsTrue test ↔ (MayBeEmpty allow_empty middle × PassesFilter matcher.ignore_case filter middle)) →
    test ≡ false → (captures : Captures) → ¬ Matches answer matcher text captures
not_matched-single answer matcher text middle filter allow_empty test cut is_inner h fails =
    not_matched-by answer matcher text middle (SingleCapture filter allow_empty) cut is_inner (λ captures (full, passes, one). false≢true (sym fails ∙ h.1 (full, passes)))

-- The text matches if and only if the matcher's result has captures.
pub answers-matched : {E : Type 0} (answer : E → List ℕ → Option Captures) (matcher : MatcherView E) (text : List ℕ) (found : Option Captures) →
    Returns answer matcher text found → IsTrue (is_some found) ↔ IsMatched answer matcher text
answers-matched answer matcher text None none = (λ t. absurd (false≢true t), λ (captures, matches). absurd (none captures matches))
answers-matched answer matcher text (Some captures) matches = (λ t. (captures, matches), λ is. refl)

pub is_some-map : {A B : Type 0} (f : A → B) (x : Option A) → is_some (option_map f x) ≡ is_some x
is_some-map f None = refl
is_some-map f (Some x) = refl

-- An engine's result is the matcher's.
pub answers-engine : {E : Type 0} (answer : E → List ℕ → Option Captures) (matcher : MatcherView E) (text middle : List ℕ) (engine : E) (found : Option Captures) →
    HasMiddle matcher text middle → matcher.inner ≡ RegExp (Ok engine) → found ≡ answer engine middle →
    Returns answer matcher text found
answers-engine answer matcher text middle engine (Some captures) e is_inner f =
    (middle, e, subst (λ x. Accepts answer matcher.ignore_case x middle captures) (sym is_inner) (sym f))
answers-engine answer matcher text middle engine None e is_inner f =
    not_matched-by answer matcher text middle (RegExp (Ok engine)) e is_inner (λ captures accepts. let never : ⊥ = cc in never)
