-- Every text has an outcome, or the encoding is called with a text for which it has no result.
use Rattle.std.proofs.Common.{◌≡◌, ◌≢◌, ℕ, suc, zero, ◌⊎◌, Bool, true, false, List, [], ◌∷◌, ◌++◌, refl, sym, ap, ◌∙◌, subst, inl, inr, arith}
use Rattle.std.specs.Prelude.{Contains, Result, Ok, Err}
use Rattle.std.specs.Set.{is_member}
use Rattle.std.specs.Str.{bytes_eq}
use Rattle.std.proofs.lemmas.Bool.{false≢true}
use Rattle.std.proofs.lemmas.Map.Made.{is_member-Decides}
use Rattle.std.proofs.lemmas.Slice.Eq.{bytes_eq-Decides}
use Rattle.urlpattern_meaning.proofs.TokensExist.{tokens_or_fault_exist}
use Rattle.urlpattern_meaning.specs.Laws.{HasRequestedResults, CallsEncoding, HasResult, HasSomeOutcome, LacksResult, listed}
use Rattle.urlpattern_syntax.proofs.PieceLemmas.{are_token_list}
use Rattle.urlpattern_syntax.proofs.PiecesExist.{pieces_exist}
use Rattle.urlpattern_syntax.specs.declared.parser.PartModifier.{PartModifier}
use Rattle.urlpattern_syntax.specs.declared.parser.PartModifier.TheVariants as modifiers
use Rattle.urlpattern_syntax.specs.declared.tokenizer.TokenType.{TokenType}
use Rattle.urlpattern_syntax.specs.declared.tokenizer.TokenType.TheVariants.{Asterisk, Char, Close, End, EscapedChar, InvalidChar, Name, Open, OtherModifier, Regexp}
use Rattle.urlpattern_syntax.specs.Errors.{ErrorView, ErrorView as views}
use Rattle.urlpattern_syntax.specs.Options.{OptionsView}
use Rattle.urlpattern_syntax.specs.Parts.{PartView, fixed_text}
use Rattle.urlpattern_syntax.specs.Pieces.{ArePieces, Ending, IsEnding, Piece, Ending as endings}
use Rattle.urlpattern_syntax.specs.Reading.{AreMet, AreParts, Capture, Demand, Encode, Encoding, Expect, FirstFails, Fixed, IsMet, Item, NewName, capture_part, demands, demands_after, fixed_text_demands, items_of}
use Rattle.urlpattern_syntax.specs.Tokens.{AreTokens, TokenView}

-- ---- decisions

-- Two kinds are equal or not.
kind_or_other : (kind other : TokenType) → (kind ≡ other) ⊎ (kind ≢ other)
kind_or_other Open Open = inl refl
kind_or_other Close Close = inl refl
kind_or_other Regexp Regexp = inl refl
kind_or_other Name Name = inl refl
kind_or_other Char Char = inl refl
kind_or_other EscapedChar EscapedChar = inl refl
kind_or_other OtherModifier OtherModifier = inl refl
kind_or_other Asterisk Asterisk = inl refl
kind_or_other End End = inl refl
kind_or_other InvalidChar InvalidChar = inl refl
kind_or_other kind other = inr (λ e. cc e)

-- A name is among some names or not.
contained_or_not : (names : List (List ℕ)) (name : List ℕ) → Contains names name ⊎ (¬ Contains names name)
contained_or_not names name = by_test (is_member bytes_eq names name) refl
  where
    by_test : (b : Bool) → is_member bytes_eq names name ≡ b → Contains names name ⊎ (¬ Contains names name)
    by_test true e = inl ((is_member-Decides bytes_eq-Decides names name).0 e)
    by_test false e = inr (λ h. false≢true (sym e ∙ (is_member-Decides bytes_eq-Decides names name).1 h))

abbrev Answered : Type 0
Answered = List ℕ × Result (List ℕ) ErrorView

more_answers : (first : Answered) (answers : List Answered) (text : List ℕ) (b : Bool) → bytes_eq first.0 text ≡ b → HasResult (listed answers) text ⊎ (¬ HasResult (listed answers) text) → HasResult (listed (first ∷ answers)) text ⊎ (¬ HasResult (listed (first ∷ answers)) text)
more_answers first answers text true e more =
    let same = (bytes_eq-Decides first.0 text).0 e in
    inl (first.1, (0, omega arith, λ i. (same i, first.1)))
more_answers first answers text false e (inl (answer, (k, below, same))) = inl (answer, (suc k, omega (arith, below), same))
more_answers first answers text false e (inr none) = inr not_there
  where
    not_there : ¬ HasResult (listed (first ∷ answers)) text
    not_there (answer, (zero, below, same)) =
        false≢true (sym e ∙ (bytes_eq-Decides first.0 text).1 (ap (λ (pair : Answered). pair.0) same))
    not_there (answer, (suc k, below, same)) = none (answer, (k, omega (arith, below), same))

-- A list of results has one for a text or not.
answered_or_not : (answers : List Answered) (text : List ℕ) → HasResult (listed answers) text ⊎ (¬ HasResult (listed answers) text)
answered_or_not [] text = inr (λ h. absurd (omega (arith, h.1.1)))
answered_or_not (first ∷ answers) text = more_answers first answers text (bytes_eq first.0 text) refl (answered_or_not answers text)

-- ---- where demands end

-- All demands are met, or the first that is not fails with an error or has this text, of which `Is`
-- holds.
data Verdict (encoding : Encoding) (Is : List ℕ → Type 0) (all : List Demand) : Type 0 where
  Met : AreMet encoding all → Verdict encoding Is all
  Failed : (error : ErrorView) → FirstFails encoding all error → Verdict encoding Is all
  Unanswered : (before behind : List Demand) (asked : List ℕ) → all ≡ before ++ Encode asked ∷ behind → AreMet encoding before → Is asked → Verdict encoding Is all

module _ (encoding : Encoding) (Is : List ℕ → Type 0) where
  -- Each text that the encoding is called with has a result, or `Is` holds of it.
  abbrev Reported : List Demand → Type 0
  Reported all = (before behind : List Demand) (asked : List ℕ) → all ≡ before ++ Encode asked ∷ behind → AreMet encoding before → HasResult encoding asked ⊎ Is asked

  later : (demand : Demand) (rest : List Demand) → IsMet encoding demand → Verdict encoding Is rest → Verdict encoding Is (demand ∷ rest)
  later demand rest met (Met more) = Met (met, more)
  later demand rest met (Failed error fails) = Failed error (inr (met, fails))
  later demand rest met (Unanswered before behind asked cut are_met is) = Unanswered (demand ∷ before) behind asked (ap (λ x. demand ∷ x) cut) (met, are_met) is

  first : (demand : Demand) (rest : List Demand) → Reported (demand ∷ rest) → (IsMet encoding demand → Verdict encoding Is rest) → Verdict encoding Is (demand ∷ rest)
  first (Encode text) rest reported more = by_answer (reported [] rest text refl tt)
    where
      by_answer : HasResult encoding text ⊎ Is text → Verdict encoding Is (Encode text ∷ rest)
      by_answer (inl (Ok answer, h)) = later (Encode text) rest (answer, h) (more (answer, h))
      by_answer (inl (Err error, h)) = Failed error (inl h)
      by_answer (inr is) = Unanswered [] rest text refl tt is
  first (NewName earlier name) rest reported more = elim (contained_or_not earlier name) [
    | inl h ↦ Failed (views.DuplicateName name) (inl (h, refl))
    | inr new ↦ later (NewName earlier name) rest new (more new)
  ]
  first (Expect kind token) rest reported more = elim (kind_or_other token.kind kind) [
    | inl e ↦ later (Expect kind token) rest e (more e)
    | inr other ↦ Failed (views.ExpectedToken kind token.kind token.value) (inl (other, refl))
  ]

  verdict : (all : List Demand) → Reported all → Verdict encoding Is all
  verdict [] reported = Met tt
  verdict (demand ∷ rest) reported =
      first demand rest reported
      (λ met. verdict rest (λ before behind asked cut are_met. reported (demand ∷ before) behind asked (ap (λ x. demand ∷ x) cut) (met, are_met)))

-- ---- demands that are met

met_after : (encoding : Encoding) (xs ys : List Demand) → AreMet encoding (xs ++ ys) → AreMet encoding ys
met_after encoding [] ys h = h
met_after encoding (x ∷ xs) ys h = met_after encoding xs ys h.1

-- Before the end of the tokens the encoding is called with each fixed text.
demands-stops : (earlier : List (List ℕ)) (text : List ℕ) (modifier : PartModifier) (items : List Item) (found : TokenView) → demands_after earlier (Fixed text modifier ∷ items) (endings.Stops found) ≡ fixed_text_demands text ++ demands_after earlier items (endings.Stops found)
demands-stops earlier text modifiers.None [] found = refl
demands-stops earlier text modifiers.None (x ∷ items) found = refl
demands-stops earlier text modifiers.Optional items found = refl
demands-stops earlier text modifiers.ZeroOrMore items found = refl
demands-stops earlier text modifiers.OneOrMore items found = refl

-- Where all demands are met there are parts.
parts_exist : (options : OptionsView) (encoding : Encoding) (earlier : List (List ℕ)) (items : List Item) (found : TokenView) → AreMet encoding (demands_after earlier items (endings.Stops found)) → (parts : List PartView) × AreParts options encoding items parts
parts_exist options encoding earlier [] found met = ([], refl)
parts_exist options encoding earlier (Fixed [] modifier ∷ items) found met =
    parts_exist options encoding earlier items found (subst (AreMet encoding) (demands-stops earlier [] modifier items found) met)
parts_exist options encoding earlier (Fixed (c ∷ text) modifier ∷ items) found met =
    let all = subst (AreMet encoding) (demands-stops earlier (c ∷ text) modifier items found) met in
    let more = parts_exist options encoding earlier items found all.1 in
    (fixed_text all.0.0 modifier ∷ more.0, (all.0.0, more.0, refl, all.0.1, more.1))
parts_exist options encoding earlier (Capture prefix name match suffix modifier ∷ items) found met =
    let more = parts_exist options encoding (earlier ++ name ∷ []) items found met.1.1.1 in
    let before = met.1.0 in
    let after = met.1.1.0 in
    (capture_part options before.0 name match after.0 modifier ∷ more.0, (before.0, after.0, more.0, refl, before.1, after.1, more.1))

-- The last demand of a group that lacks its Close.
met_close : (encoding : Encoding) (earlier : List (List ℕ)) (items : List Item) (found : TokenView) → AreMet encoding (demands_after earlier items (endings.LacksClose found)) → found.kind ≡ Close
met_close encoding earlier [] found met = met.0
met_close encoding earlier (Fixed text modifiers.None ∷ []) found met = met.0
met_close encoding earlier (Fixed text modifiers.None ∷ x ∷ items) found met =
    met_close encoding earlier (x ∷ items) found (met_after encoding (fixed_text_demands text) (demands_after earlier (x ∷ items) (endings.LacksClose found)) met)
met_close encoding earlier (Fixed text modifiers.Optional ∷ items) found met =
    met_close encoding earlier items found (met_after encoding (fixed_text_demands text) (demands_after earlier items (endings.LacksClose found)) met)
met_close encoding earlier (Fixed text modifiers.ZeroOrMore ∷ items) found met =
    met_close encoding earlier items found (met_after encoding (fixed_text_demands text) (demands_after earlier items (endings.LacksClose found)) met)
met_close encoding earlier (Fixed text modifiers.OneOrMore ∷ items) found met =
    met_close encoding earlier items found (met_after encoding (fixed_text_demands text) (demands_after earlier items (endings.LacksClose found)) met)
met_close encoding earlier (Capture prefix name match suffix modifier ∷ items) found met =
    met_close encoding (earlier ++ name ∷ []) items found met.1.1.1

-- Tokens at which pieces end.
ending_tokens : (point : List ℕ) (tokens : List TokenView) (pieces : List Piece) (ending : Ending) → ArePieces point tokens pieces ending → (left : List TokenView) × IsEnding left ending
ending_tokens point tokens [] ending h = (tokens, h)
ending_tokens point tokens (piece ∷ pieces) ending h = ending_tokens point h.1 pieces ending h.4

-- ---- outcomes

module _ (text : List ℕ) (options : OptionsView) (encoding : Encoding) (Is : List ℕ → Type 0) where
  -- The text has an outcome, or the encoding is called with a text of which `Is` holds.
  abbrev Outcome : Type 0
  Outcome = HasSomeOutcome text options encoding ⊎ ((asked : List ℕ) × CallsEncoding text options encoding asked × Is asked)

  judged : (tokens : List TokenView) (pieces : List Piece) (ending : Ending) → AreTokens text tokens → ArePieces options.prefix tokens pieces ending → Verdict encoding Is (demands (items_of pieces) ending) → Outcome
  judged tokens pieces ending h p (Failed error fails) =
      inl (Err error, inr (record { tokens = tokens; pieces = pieces; ending = ending; are_tokens = h; are_pieces = p; fails = fails }))
  judged tokens pieces ending h p (Unanswered before behind asked cut met is) = inr (
    asked,
    record { tokens = tokens; pieces = pieces; ending = ending; before = before; later = behind; are_tokens = h; are_pieces = p; asks = cut; are_met = met },
    is,
  )
  judged tokens pieces (endings.Stops found) h p (Met met) =
      let parts = parts_exist options encoding [] (items_of pieces) found met in
      inl (Ok parts.0, record { tokens = tokens; pieces = pieces; found = found; are_tokens = h; are_pieces = p; are_met = met; are_parts = parts.1 })
  judged tokens pieces (endings.LacksClose found) h p (Met met) =
      let e = ending_tokens options.prefix tokens pieces (endings.LacksClose found) p in
      absurd (e.1.6 (met_close encoding [] (items_of pieces) found met))

  outcome_reported : ((asked : List ℕ) → CallsEncoding text options encoding asked → HasResult encoding asked ⊎ Is asked) → Outcome
  outcome_reported reported = elim (tokens_or_fault_exist text) [
    | inl t ↦
        let p = pieces_exist options.prefix t.0 (are_token_list text t.0 t.1) in
        judged t.0 p.0 p.1 t.1 p.2 (verdict encoding Is (demands (items_of p.0) p.1) (λ before behind asked cut met.
        reported asked (record { tokens = t.0; pieces = p.0; ending = p.1; before = before; later = behind; are_tokens = t.1; are_pieces = p.2; asks = cut; are_met = met })))
    | inr f ↦ inl (Err (views.Tokenizer f.0 f.1), inl (f.0, f.1, f.2, refl))
  ]

-- Where the encoding has a result for each text that it is called with, the text has an outcome.
pub outcome_answered : (text : List ℕ) (options : OptionsView) (encoding : Encoding) → HasRequestedResults text options encoding → HasSomeOutcome text options encoding
outcome_answered text options encoding answered = elim (outcome_reported text options encoding (λ _. ⊥) (λ asked asks. inl (answered asked asks))) [
  | inl outcome ↦ outcome
  | inr lacks ↦ absurd lacks.2
]

-- With a list of results, the text has an outcome, or the encoding is called with a text that is
-- not in the list.
pub outcome_listed : (text : List ℕ) (options : OptionsView) (answers : List (List ℕ × Result (List ℕ) ErrorView)) → HasSomeOutcome text options (listed answers) ⊎ LacksResult text options (listed answers)
outcome_listed text options answers =
    outcome_reported text options (listed answers) (λ asked. ¬ HasResult (listed answers) asked) (λ asked asks. answered_or_not answers asked)
