-- Lemmas on the tokens with a name.
use Rattle.std.proofs.Common.{◌≡◌, ℕ, zero, suc, ◌+◌, ◌<◌, Bool, true, false, cond, List, [], ◌∷◌, ◌++◌, length, get_or, take, drop, Option, Some, None, refl, sym, ap, ◌∙◌, subst, arith}
use Rattle.std.specs.Prelude.{filter}
use Rattle.std.proofs.lemmas.List.{append-nil, take-append-drop}
use Rattle.std.proofs.lemmas.List.Elements.{filter-append, filter_more}
use Rattle.urlpattern_diagnosis.specs.Faults.{IsSecondFault, IsSpanOfToken, gives_name}
use Rattle.urlpattern_diagnosis.specs.Spans.{IsSpanIn}
use Rattle.urlpattern_diagnosis.specs.declared.fault.Fault.{Fault}
use Rattle.urlpattern_diagnosis.specs.declared.span.Span.{Span}
use Rattle.urlpattern_syntax.specs.declared.tokenizer.Token.{Token}
use Rattle.urlpattern_syntax.specs.declared.tokenizer.TokenType.TheVariants.{Open}

-- None of the tokens is the name, or a single one is, and has this span.
abbrev pub HasFirst : (bytes name : List ℕ) → List Token → Option Span → Type 0
HasFirst bytes name tokens None = filter (gives_name name) tokens ≡ []
HasFirst bytes name tokens (Some span) =
    (first : Token) × (filter (gives_name name) tokens ≡ first ∷ []) × IsSpanOfToken bytes first span × IsSpanIn bytes span

module _ (bytes name : List ℕ) (tokens : List Token) (i : ℕ) (token : Token) (lt : i < length tokens) (is : get_or tokens i token ≡ token) where
  filter_at : (b : Bool) → gives_name name token ≡ b → filter (gives_name name) (take (i + 1) tokens) ≡ filter (gives_name name) (take i tokens) ++ cond b (token ∷ []) []
  filter_at b e =
      filter_more (gives_name name) tokens i token lt
      ∙ ap (λ (x : Token). filter (gives_name name) (take i tokens) ++ cond (gives_name name x) (x ∷ []) []) is
      ∙ ap (λ b. filter (gives_name name) (take i tokens) ++ cond b (token ∷ []) []) e

  -- A token other than the name.
  pub first_kept : (first : Option Span) → gives_name name token ≡ false → HasFirst bytes name (take i tokens) first → HasFirst bytes name (take (i + 1) tokens) first
  first_kept None e h = filter_at false e ∙ append-nil (filter (gives_name name) (take i tokens)) ∙ h
  first_kept (Some span) e h = (h.0, filter_at false e ∙ append-nil (filter (gives_name name) (take i tokens)) ∙ h.1, h.2, h.3)

  -- The first token with the name.
  pub first_found : (span : Span) → gives_name name token ≡ true → HasFirst bytes name (take i tokens) None → IsSpanOfToken bytes token span → IsSpanIn bytes span → HasFirst bytes name (take (i + 1) tokens) (Some span)
  first_found span e h at within = (token, filter_at true e ∙ ap (λ x. x ++ token ∷ []) h, at, within)

  -- The second token with the name.
  pub second_found : (earlier : Span) (fault : Fault) → gives_name name token ≡ true → HasFirst bytes name (take i tokens) (Some earlier) → IsSpanOfToken bytes token fault.span → fault.earlier ≡ Some earlier →
      IsSecondFault bytes (filter (gives_name name) tokens) fault
  second_found earlier fault e h at same =
      let all : filter (gives_name name) tokens ≡ h.0 ∷ token ∷ filter (gives_name name) (drop (i + 1) tokens) =
      ap (filter (gives_name name)) (sym (take-append-drop (i + 1) tokens)) ∙ filter-append (gives_name name) (take (i + 1) tokens) (drop (i + 1) tokens)
      ∙ ap (λ x. x ++ filter (gives_name name) (drop (i + 1) tokens)) (filter_at true e ∙ ap (λ x. x ++ token ∷ []) h.1) in
      subst (λ x. IsSecondFault bytes x fault) (sym all) (at, rw same h.2)

-- The default of a read.
abbrev pub no_token : Token
no_token = record { kind = Open; index = 0; value = record { ref_ptr = (0, 0); now = [] } }

-- A token is read again, as its own default.
pub read_again : (tokens : List Token) (i : ℕ) (d : Token) → i < length tokens → get_or tokens i (get_or tokens i d) ≡ get_or tokens i d
read_again [] i d lt = absurd (omega arith)
read_again (token ∷ tokens) zero d lt = refl
read_again (token ∷ tokens) (suc i) d lt = read_again tokens i d (omega arith)
