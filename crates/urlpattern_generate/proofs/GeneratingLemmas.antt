-- Whether a written text is canonical, and what a matcher finds in it.
use Rattle.std.proofs.Common.{◌≡◌, ◌≢◌, ℕ, Bool, true, false, List, Result, Ok, Option, Some, subst, sym, true≢false}
use Rattle.std.proofs.lemmas.Bool.{false≢true}
use Rattle.std.specs.Str.{chars}
use Rattle.url.specs.Parser.{Parsed}
use Rattle.urlpattern_generate.proofs.MadeMatchers.{made_finds}
use Rattle.urlpattern_generate.specs.Generating.{FindsOther, FindsRequested, IsNotCanonical, ReadsWritten, DecidesCanonical, DecidesFound}
use Rattle.urlpattern_generate.specs.WriteSettings.{WriteSettings}
use Rattle.urlpattern_generate.specs.WrittenTexts.{IsWritten}
use Rattle.urlpattern_meaning.specs.Matching.{Returns, IsMadeOf, MatcherView}
use Rattle.urlpattern_meaning.specs.PartMeaning.{Captures}
use Rattle.urlpattern_syntax.specs.Errors.{ErrorView}
use Rattle.urlpattern_syntax.specs.Parts.{PartView}

-- A text is canonical by a test of its bytes.
pub told_canonical : (canonical : List ℕ → Parsed (List ℕ)) (is : Bool) (bytes text : List ℕ) → is ≡ true → chars bytes ≡ text → DecidesCanonical is canonical bytes → canonical text ≡ Ok text
told_canonical canonical true bytes text e same told = subst (λ of. canonical of ≡ Ok of) same told
told_canonical canonical false bytes text e same told = absurd (false≢true e)

-- A text is not canonical by a test of its bytes.
pub told_uncanonical : (canonical : List ℕ → Parsed (List ℕ)) (is : Bool) (bytes : List ℕ) → is ≡ false → DecidesCanonical is canonical bytes → IsNotCanonical canonical bytes
told_uncanonical canonical true bytes e told = absurd (true≢false e)
told_uncanonical canonical false bytes e told = told

-- ---- what a matcher finds

module _ {E : Type 0} (answer : E → List ℕ → Option Captures) (matcher : MatcherView E) (settings : WriteSettings) (parts : List PartView) (text : List ℕ) where
  -- A matcher that always finds what was written finds it.
  pub written_found : (IsEngine : (regexp : List ℕ) → Result E ErrorView → Type 0) → IsMadeOf IsEngine settings.options parts matcher → ReadsWritten matcher.ignore_case matcher.inner →
      IsWritten settings parts text → FindsRequested answer matcher settings parts text
  written_found IsEngine made reads written = (
    written.captures,
    written.are_requested,
    subst (λ t. Returns answer matcher t (Some written.captures)) (sym written.is_text) (made_finds answer IsEngine settings.options parts matcher written.captures made reads written.may_capture),
  )

  -- A matcher finds the requested captures by the result of the test.
  pub told_found : (is : Bool) → is ≡ true → DecidesFound is answer matcher settings parts text → FindsRequested answer matcher settings parts text
  told_found true e told = told
  told_found false e told = absurd (false≢true e)

  -- A matcher finds other captures by the result of the test.
  pub told_other : (is : Bool) → is ≡ false → DecidesFound is answer matcher settings parts text → FindsOther answer matcher settings parts text
  told_other true e told = absurd (true≢false e)
  told_other false e told = told
