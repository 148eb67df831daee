-- Tests of characters by a set.
use Rattle.std.proofs.Common.{◌≡◌, ◌∙◌, ◌<◌, ℕ, Bool, true, false, not, ap, refl, sym}
use Rattle.std.proofs.lemmas.Bool.{false≢true}
use Rattle.percent_encoding.specs.AsciiSet.{should_percent_encode}
use Rattle.percent_encoding.specs.declared.ascii_set.AsciiSet.{AsciiSet}
use Rattle.url.proofs.InputLemmas.{Passes}
use Rattle.url.proofs.SetLemmas.{kept_from_passes, outside_pass, passes_from_kept, passing_outside}

-- The ASCII characters outside of the set are those that pass a test.
pub tested_by_set : (set : AsciiSet) (test : ℕ → Bool) → outside_pass set test ≡ true → passing_outside test set ≡ true → ((b : ℕ) → Passes test b → b < 128) → (b : ℕ) → not (should_percent_encode set b) ≡ test b
tested_by_set set test outside passing ascii b = by_cases (should_percent_encode set b) (test b) refl refl
  where
    by_cases : (escaped passes : Bool) → should_percent_encode set b ≡ escaped → test b ≡ passes → not (should_percent_encode set b) ≡ test b
    by_cases true false e f = ap not e ∙ sym f
    by_cases false true e f = ap not e ∙ sym f
    by_cases true true e f = absurd (false≢true (sym (kept_from_passes test set passing b (ascii b f) f) ∙ e))
    by_cases false false e f = absurd (false≢true (sym f ∙ passes_from_kept set test outside b e))
