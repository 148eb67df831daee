-- A lemma on the output of `match` and `first`.
use Rattle.std.proofs.Common.{ℕ, Bool, List, inl, inr, refl}
use Rattle.std.specs.Io.KnownBytes.{Appends}
use Rattle.std.specs.Prelude.{MatchOption, Option, None, Some, String, string_bytes}
use Rattle.std.specs.declared.alloc.Global.{Global}
use Rattle.urlpat_commands.specs.CommandAnswers.{AnswersMatch, PrintsFound, no_match_text}

module _ (json : Bool) (Matched : List ℕ → Type 0) (Unmatched : Type 0) where
  -- What is printed of what was found is the output of a match, or that there is none.
  pub prints_match : (found : Option (String Global)) (status : ℕ) (old new : Option (List ℕ))
      → PrintsFound json found status old new
      → MatchOption found Unmatched (λ text. Matched (string_bytes text))
      → (text : List ℕ) × AnswersMatch json (Matched text) Unmatched text status × Appends old new text
  prints_match None status old new (ends, appends) unmatched =
      (no_match_text json, inr (unmatched, refl, ends), appends)
  prints_match (Some text) status old new (ends, appends) matched =
      (string_bytes text, inl (matched, ends), appends)

  -- What was found is an output.
  pub is_answered : (found : Option (String Global))
      → MatchOption found Unmatched (λ text. Matched (string_bytes text))
      → (text : List ℕ) × (status : ℕ) × AnswersMatch json (Matched text) Unmatched text status
  is_answered None unmatched = (no_match_text json, 1, inr (unmatched, refl, refl))
  is_answered (Some text) matched = (string_bytes text, 0, inl (matched, refl))
