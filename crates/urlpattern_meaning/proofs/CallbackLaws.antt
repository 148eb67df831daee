-- A text has one outcome under an encoding that has one result for each text, other than that
-- memory ran out.
use Rattle.std.proofs.Common.{◌≡◌, ◌≢◌, ℕ, List, [], ◌∷◌, ap, inl, inr, refl}
use Rattle.std.specs.Prelude.{Result, Ok, Err}
use Rattle.urlpattern_meaning.proofs.ReadingLaws.{reading_one, reading_or_refusal, refusal_one}
use Rattle.urlpattern_meaning.specs.Laws.{ReturnsOnce, ReturnsOnceGivenMemory, HasOutcome, Outcome}
use Rattle.urlpattern_syntax.specs.Errors.{ErrorView, ErrorView as errors}
use Rattle.urlpattern_syntax.specs.Options.{OptionsView}
use Rattle.urlpattern_syntax.specs.Parts.{PartView}
use Rattle.urlpattern_syntax.specs.Reading.{AreMet, AreParts, Capture, Demand, Encode, Encoding, Expect, Fails, FirstFails, Fixed, IsMet, Item, NewName, Reads, Rejects, demands, items_of}
use Rattle.urlpattern_syntax.specs.Pieces.{Ending as endings}

-- ---- one outcome

pub outcome_one : (text : List ℕ) (options : OptionsView) (encoding : Encoding) (outcome other : Outcome) → ReturnsOnce encoding →
    HasOutcome text options encoding outcome → HasOutcome text options encoding other → outcome ≡ other
outcome_one text options encoding (Ok parts) (Ok others) once reads more = ap Ok (reading_one text options encoding parts others once reads more)
outcome_one text options encoding (Ok parts) (Err error) once reads refuses = absurd (reading_or_refusal text options encoding parts error once reads refuses)
outcome_one text options encoding (Err error) (Ok parts) once refuses reads = absurd (reading_or_refusal text options encoding parts error once reads refuses)
outcome_one text options encoding (Err error) (Err other) once refuses more = ap Err (refusal_one text options encoding error other once refuses more)

-- ---- an encoding without some of its errors

-- The results of the encoding that pass.
abbrev pub passing : (Result (List ℕ) ErrorView → Type 0) → Encoding → Encoding
passing Passes encoding text answer = encoding text answer × Passes answer

module _ (Passes : Result (List ℕ) ErrorView → Type 0) (texts_pass : (text : List ℕ) → Passes (Ok text)) (encoding : Encoding) where
  still_met : (demand : Demand) → IsMet encoding demand → IsMet (passing Passes encoding) demand
  still_met (Encode text) m = (m.0, (m.1, texts_pass m.0))
  still_met (NewName earlier name) m = m
  still_met (Expect kind token) m = m

  are_still_met : (list : List Demand) → AreMet encoding list → AreMet (passing Passes encoding) list
  are_still_met [] m = tt
  are_still_met (demand ∷ rest) m = (still_met demand m.0, are_still_met rest m.1)

  are_still_parts : (options : OptionsView) (items : List Item) (parts : List PartView) → AreParts options encoding items parts → AreParts options (passing Passes encoding) items parts
  are_still_parts options [] parts p = p
  are_still_parts options (Fixed [] modifier ∷ items) parts p = are_still_parts options items parts p
  are_still_parts options (Fixed (c ∷ text) modifier ∷ items) parts p =
      (p.0, p.1, p.2, (p.3, texts_pass p.0), are_still_parts options items p.1 p.4)
  are_still_parts options (Capture prefix name match suffix modifier ∷ items) parts p =
      (p.0, p.1, p.2, p.3, (p.4, texts_pass p.0), (p.5, texts_pass p.1), are_still_parts options items p.2 p.6)

  -- A reading needs no error.
  pub still_reads : (text : List ℕ) (options : OptionsView) (parts : List PartView) → Reads text options encoding parts → Reads text options (passing Passes encoding) parts
  still_reads text options parts r = record {
    tokens = r.tokens;
    pieces = r.pieces;
    found = r.found;
    are_tokens = r.are_tokens;
    are_pieces = r.are_pieces;
    are_met = are_still_met (demands (items_of r.pieces) (endings.Stops r.found)) r.are_met;
    are_parts = are_still_parts options (items_of r.pieces) parts r.are_parts;
  }

  still_fails : (demand : Demand) (error : ErrorView) → Passes (Err error) → Fails encoding demand error → Fails (passing Passes encoding) demand error
  still_fails (Encode text) error passes f = (f, passes)
  still_fails (NewName earlier name) error passes f = f
  still_fails (Expect kind token) error passes f = f

  first_still_fails : (list : List Demand) (error : ErrorView) → Passes (Err error) → FirstFails encoding list error → FirstFails (passing Passes encoding) list error
  first_still_fails [] error passes f = f
  first_still_fails (demand ∷ rest) error passes (inl now) = inl (still_fails demand error passes now)
  first_still_fails (demand ∷ rest) error passes (inr later) = inr (still_met demand later.0, first_still_fails rest error passes later.1)

  -- A rejection needs its own error alone.
  pub still_refuses : (text : List ℕ) (options : OptionsView) (error : ErrorView) → Passes (Err error) → Rejects text options encoding error → Rejects text options (passing Passes encoding) error
  still_refuses text options error passes (inl fault) = inl fault
  still_refuses text options error passes (inr demand) = inr (record {
    tokens = demand.tokens;
    pieces = demand.pieces;
    ending = demand.ending;
    are_tokens = demand.are_tokens;
    are_pieces = demand.are_pieces;
    fails = first_still_fails (demands (items_of demand.pieces) demand.ending) error passes demand.fails;
  })

  pub still_has : (text : List ℕ) (options : OptionsView) (outcome : Outcome) → ((error : ErrorView) → outcome ≡ Err error → Passes (Err error)) →
      HasOutcome text options encoding outcome → HasOutcome text options (passing Passes encoding) outcome
  still_has text options (Ok parts) passes has = still_reads text options parts has
  still_has text options (Err error) passes has = still_refuses text options error (passes error refl) has

-- ---- given memory

abbrev IsGivenMemory : Result (List ℕ) ErrorView → Type 0
IsGivenMemory answer = answer ≢ Err errors.OutOfMemory

given_once : (encoding : Encoding) → ReturnsOnceGivenMemory encoding → ReturnsOnce (passing IsGivenMemory encoding)
given_once encoding once text answer other one two = once text answer other one.0 two.0 one.1 two.1

text_given : (text : List ℕ) → IsGivenMemory (Ok text)
text_given text same = cc

error_given : (outcome : Outcome) → outcome ≢ Err errors.OutOfMemory → (error : ErrorView) → outcome ≡ Err error → IsGivenMemory (Err error)
error_given outcome given error is same = given (let whole : outcome ≡ Err errors.OutOfMemory = cc in whole)

pub outcome_one_given_memory : (text : List ℕ) (options : OptionsView) (encoding : Encoding) (outcome other : Outcome) → ReturnsOnceGivenMemory encoding →
    outcome ≢ Err errors.OutOfMemory → other ≢ Err errors.OutOfMemory →
    HasOutcome text options encoding outcome → HasOutcome text options encoding other → outcome ≡ other
outcome_one_given_memory text options encoding outcome other once given another has more =
    outcome_one text options (passing IsGivenMemory encoding) outcome other (given_once encoding once)
    (still_has IsGivenMemory text_given encoding text options outcome (error_given outcome given) has)
    (still_has IsGivenMemory text_given encoding text options other (error_given other another) more)

-- ---- readings alone

-- The encoding maps a text to at most one text; its errors are arbitrary.
abbrev pub EncodesOnce : Encoding → Type 0
EncodesOnce encoding = (text answer other : List ℕ) → encoding text (Ok answer) → encoding text (Ok other) → answer ≡ other

abbrev IsText : Result (List ℕ) ErrorView → Type 0
IsText (Ok text) = Unit {0}
IsText (Err error) = ⊥

texts_once : (encoding : Encoding) → EncodesOnce encoding → ReturnsOnce (passing IsText encoding)
texts_once encoding once text (Ok answer) (Ok other) one two = ap Ok (once text answer other one.0 two.0)
texts_once encoding once text (Ok answer) (Err error) one two = absurd two.1
texts_once encoding once text (Err error) other one two = absurd one.1

pub reading_one_encoded : (text : List ℕ) (options : OptionsView) (encoding : Encoding) (parts others : List PartView) → EncodesOnce encoding →
    Reads text options encoding parts → Reads text options encoding others → parts ≡ others
reading_one_encoded text options encoding parts others once reads more =
    reading_one text options (passing IsText encoding) parts others (texts_once encoding once)
    (still_reads IsText (λ answer. tt) encoding text options parts reads) (still_reads IsText (λ answer. tt) encoding text options others more)
