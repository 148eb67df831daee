-- For all parts there is a list of results that keeps their texts.
use Rattle.std.proofs.Common.{◌≡◌, ℕ, zero, suc, ◌<◌, List, [], ◌∷◌, length, sym, ap, ◌∙◌, subst, arith}
use Rattle.std.specs.Prelude.{Contains, Result, Ok}
use Rattle.urlpattern_syntax.specs.Errors.{ErrorView}
use Rattle.urlpattern_syntax.specs.Parts.{PartView}
use Rattle.urlpattern_meaning.specs.Laws.{listed}
use Rattle.urlpattern_meaning.specs.Printing.{Keeps, KeepsTexts, encoded_texts, joined}
use Rattle.urlpattern_meaning.proofs.StandingItems.{EachText, each_contained}

abbrev Answered : Type 0
Answered = List ℕ × Result (List ℕ) ErrorView

-- Each text with itself as its result.
abbrev pub answered : List (List ℕ) → List (List ℕ × Result (List ℕ) ErrorView)
answered [] = []
answered (text ∷ texts) = (text, Ok text) ∷ answered texts

only_itself : (texts : List (List ℕ)) (text : List ℕ) (answer : Result (List ℕ) ErrorView) → Contains (answered texts) (text, answer) → answer ≡ Ok text
only_itself [] text answer (k, below, same) = absurd (omega (arith, below))
only_itself (x ∷ texts) text answer (zero, below, same) = sym (ap (λ (pair : Answered). pair.1) same) ∙ ap Ok (ap (λ (pair : Answered). pair.0) same)
only_itself (x ∷ texts) text answer (suc k, below, same) = only_itself texts text answer (k, omega (arith, below), same)

itself : (texts : List (List ℕ)) (text : List ℕ) → Contains texts text → Contains (answered texts) (text, Ok text)
itself [] text (k, below, same) = absurd (omega (arith, below))
itself (x ∷ texts) text (zero, below, same) = (0, omega arith, λ i. (same i, Ok (same i)))
itself (x ∷ texts) text (suc k, below, same) =
    let more = itself texts text (k, omega (arith, below), same) in
    let lt : more.0 < length (answered texts) = more.1 in
    (suc more.0, omega arith, more.2)

keeps_contained : (all texts : List (List ℕ)) → EachText (Contains all) texts → KeepsTexts (listed (answered all)) texts
keeps_contained all [] h = tt
keeps_contained all (text ∷ texts) h = (
  λ answer. (only_itself all text answer, λ e. subst (λ a. Contains (answered all) (text, a)) (sym e) (itself all text h.0)),
  keeps_contained all texts h.1,
)

pub some_answers_keep : (parts : List PartView) → (answers : List (List ℕ × Result (List ℕ) ErrorView)) × Keeps (listed answers) parts
some_answers_keep parts =
    let texts = [] ∷ encoded_texts (joined parts) in
    (answered texts, keeps_contained texts texts (each_contained texts))
