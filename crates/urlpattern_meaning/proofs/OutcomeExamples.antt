-- Worked examples of the texts that an encoding is called with.
use Rattle.std.proofs.Common.{◌≡◌, ℕ, zero, suc, List, [], ◌∷◌, ◌++◌, ap, refl, arith, Ok}
use Rattle.std.specs.Prelude.{codes, Result}
use Rattle.std.proofs.lemmas.Bool.{false≢true}
use Rattle.std.specs.Str.{bytes_eq}
use Rattle.urlpattern_meaning.specs.Laws.{CallsEncoding, LacksResult, listed}
use Rattle.urlpattern_syntax.specs.declared.tokenizer.TokenType.TheVariants.{End}
use Rattle.urlpattern_syntax.specs.Errors.{ErrorView}
use Rattle.urlpattern_syntax.specs.Options.{default_options}
use Rattle.urlpattern_syntax.specs.Pieces.{Stops}
use Rattle.urlpattern_syntax.specs.Reading.{AreMet, Demand, Encode, Encoding, Expect, demands, items_of}
use Rattle.urlpattern_syntax.proofs.ReadingExamples.{apart_cut, apart_pieces, apart_tokens}
use Rattle.urlpattern_syntax.proofs.PieceExamples.{pieces_of}
use Rattle.urlpattern_syntax.proofs.TokenExamples.{token}

-- For `a{}?b` the encoding is called with a text where each demand before it is met.
asks : (encoding : Encoding) (before : List Demand) (asked : List ℕ) (behind : List Demand) → demands (items_of apart_pieces) (Stops (token End 5 [])) ≡ before ++ Encode asked ∷ behind → AreMet encoding before → CallsEncoding (codes "a{}?b") default_options encoding asked
asks encoding before asked behind split met =
    record { tokens = _; pieces = apart_pieces; ending = Stops (token End 5 []); before = before; later = behind; are_tokens = apart_tokens; are_pieces = pieces_of apart_cut; asks = split; are_met = met }

-- The encoding is called with `a` first.
asks_first : LacksResult (codes "a{}?b") default_options (listed [])
asks_first = (
  codes "a",
  asks (listed []) [] (codes "a") (Encode (codes "b") ∷ Expect End (token End 5 []) ∷ []) refl tt,
  λ h. omega (arith, h.1.1),
)

-- The encoding is called with `b` next, where it returns a text for `a`.
asks_next : LacksResult (codes "a{}?b") default_options (listed ((codes "a", Ok (codes "x")) ∷ []))
asks_next = (
  codes "b",
  asks (listed ((codes "a", Ok (codes "x")) ∷ [])) (Encode (codes "a") ∷ []) (codes "b") (Expect End (token End 5 []) ∷ []) refl
      ((codes "x", (0, omega arith, refl)), tt),
  λ h. unanswered h.0 h.1,
)
  where
    unanswered : (answer : Result (List ℕ) ErrorView) → listed ((codes "a", Ok (codes "x")) ∷ []) (codes "b") answer → ⊥
    unanswered answer (zero, below, same) =
        false≢true (ap (λ (pair : List ℕ × Result (List ℕ) ErrorView). bytes_eq pair.0 (codes "b")) same)
    unanswered answer (suc k, below, same) = omega (arith, below)
