-- Runs of characters: runs with one end, the longest prefix, found from the end, and prefixes
-- without a result.
use Rattle.std.proofs.Common.{◌≡◌, ℕ, List, [], ◌∷◌, ◌++◌, Option, Some, None, Bool, true, false, cond, ◌⊎◌, inl, inr, option_map, refl, sym, ap, ap₂, ◌∙◌, append-nil, append_assoc}
use Rattle.std.specs.Option.{option_or}
use Rattle.urlpattern_steps.proofs.OptionLemmas.{option_or-None}
use Rattle.urlpattern_meaning.specs.PartMeaning.{Captures}
use Rattle.urlpattern_steps.specs.Walk.{Continuation, captured_prefix, up_to_first, from_first, shortest, longest}
use Rattle.urlpattern_meaning.specs.Matching.{is_same_character}

pub both_ends : (ignore_case : Bool) (c : ℕ) (text : List ℕ) → (up_to_first ignore_case c text ++ from_first ignore_case c text) ≡ text
both_ends ignore_case c [] = refl
both_ends ignore_case c (other ∷ text) = by (is_same_character ignore_case other c) (both_ends ignore_case c text)
  where
    by : (b : Bool) → (up_to_first ignore_case c text ++ from_first ignore_case c text) ≡ text → (cond b [] (other ∷ up_to_first ignore_case c text) ++ cond b (other ∷ text) (from_first ignore_case c text)) ≡ other ∷ text
    by true e = refl
    by false e = ap (λ t. other ∷ t) e

-- ---- runs with one end

-- The continuation has no result before a character other than `end`.
abbrev pub GivesAt : (ignore_case : Bool) (end : ℕ) → Continuation → Type 0
GivesAt ignore_case end gives = (front : List ℕ) (c : ℕ) (rest : List ℕ) → (is_same_character ignore_case c end) ≡ false → gives front (c ∷ rest) ≡ None

module _ (ignore_case : Bool) (end : ℕ) (gives : Continuation) (at : GivesAt ignore_case end gives) where
  one_end : (front text : List ℕ) → option_or (gives front text) (shortest ignore_case end gives front text) ≡ gives (front ++ up_to_first ignore_case end text) (from_first ignore_case end text)
  one_end front [] = option_or-None _ ∙ ap (λ f. gives f []) (sym (append-nil front))
  one_end front (c ∷ text) = by (is_same_character ignore_case c end) refl (one_end (front ++ c ∷ []) text)
    where
      by : (b : Bool) → (is_same_character ignore_case c end) ≡ b
          → option_or (gives (front ++ c ∷ []) text) (shortest ignore_case end gives (front ++ c ∷ []) text) ≡ gives ((front ++ c ∷ []) ++ up_to_first ignore_case end text) (from_first ignore_case end text)
          → option_or (gives front (c ∷ text)) (cond b None (option_or (gives (front ++ c ∷ []) text) (shortest ignore_case end gives (front ++ c ∷ []) text)))
          ≡ gives (front ++ cond b [] (c ∷ up_to_first ignore_case end text)) (cond b (c ∷ text) (from_first ignore_case end text))
      by true e later = option_or-None _ ∙ ap (λ f. gives f (c ∷ text)) (sym (append-nil front))
      by false e later =
          ap (λ o. option_or o (option_or (gives (front ++ c ∷ []) text) (shortest ignore_case end gives (front ++ c ∷ []) text))) (at front c text e)
          ∙ later ∙ ap (λ f. gives f (from_first ignore_case end text)) (append_assoc front (c ∷ []) (up_to_first ignore_case end text))

  -- A lazy run that cannot begin has no result.
  pub shortest_none : (text : List ℕ) → up_to_first ignore_case end text ≡ [] → shortest ignore_case end gives [] text ≡ None
  shortest_none [] e = refl
  shortest_none (c ∷ text) e = by (is_same_character ignore_case c end) e
    where
      by : (b : Bool) → cond b [] (c ∷ up_to_first ignore_case end text) ≡ [] → cond b None (option_or (gives (c ∷ []) text) (shortest ignore_case end gives (c ∷ []) text)) ≡ None
      by true e = refl
      by false e = cc

  pub shortest_ends : (text : List ℕ) → ¬ (up_to_first ignore_case end text ≡ []) → shortest ignore_case end gives [] text ≡ gives (up_to_first ignore_case end text) (from_first ignore_case end text)
  shortest_ends [] some = absurd (some refl)
  shortest_ends (c ∷ text) some = by (is_same_character ignore_case c end) some
    where
      by : (b : Bool) → ¬ (cond b [] (c ∷ up_to_first ignore_case end text) ≡ [])
          → cond b None (option_or (gives (c ∷ []) text) (shortest ignore_case end gives (c ∷ []) text)) ≡ gives (cond b [] (c ∷ up_to_first ignore_case end text)) (cond b (c ∷ text) (from_first ignore_case end text))
      by true some = absurd (some refl)
      by false some = one_end (c ∷ []) text

  longest_one : (front text : List ℕ) → longest ignore_case end gives front text ≡ gives (front ++ up_to_first ignore_case end text) (from_first ignore_case end text)
  longest_one front [] = ap (λ f. gives f []) (sym (append-nil front))
  longest_one front (c ∷ text) = by (is_same_character ignore_case c end) refl (longest_one (front ++ c ∷ []) text)
    where
      by : (b : Bool) → (is_same_character ignore_case c end) ≡ b
          → longest ignore_case end gives (front ++ c ∷ []) text ≡ gives ((front ++ c ∷ []) ++ up_to_first ignore_case end text) (from_first ignore_case end text)
          → cond b (gives front (c ∷ text)) (option_or (longest ignore_case end gives (front ++ c ∷ []) text) (gives front (c ∷ text)))
          ≡ gives (front ++ cond b [] (c ∷ up_to_first ignore_case end text)) (cond b (c ∷ text) (from_first ignore_case end text))
      by true e later = ap (λ f. gives f (c ∷ text)) (sym (append-nil front))
      by false e later =
          ap (option_or (longest ignore_case end gives (front ++ c ∷ []) text)) (at front c text e)
          ∙ option_or-None _ ∙ later ∙ ap (λ f. gives f (from_first ignore_case end text)) (append_assoc front (c ∷ []) (up_to_first ignore_case end text))

  pub longest_ends : (text : List ℕ) → longest ignore_case end gives [] text ≡ gives (up_to_first ignore_case end text) (from_first ignore_case end text)
  longest_ends text = longest_one [] text

-- ---- prefixes without a character

-- A prefix with one more character other than `end`.
pub lacks_more : (ignore_case : Bool) (end : ℕ) (front : List ℕ) (c : ℕ) → up_to_first ignore_case end front ≡ front → (is_same_character ignore_case c end) ≡ false → up_to_first ignore_case end (front ++ c ∷ []) ≡ front ++ c ∷ []
lacks_more ignore_case end [] c e f = ap (λ b. cond b [] (c ∷ [])) f
lacks_more ignore_case end (d ∷ front) c e f = by (is_same_character ignore_case d end) e (λ g. lacks_more ignore_case end front c g f)
  where
    by : (b : Bool) → cond b [] (d ∷ up_to_first ignore_case end front) ≡ d ∷ front
        → (up_to_first ignore_case end front ≡ front → up_to_first ignore_case end (front ++ c ∷ []) ≡ front ++ c ∷ [])
        → cond b [] (d ∷ up_to_first ignore_case end (front ++ c ∷ [])) ≡ d ∷ (front ++ c ∷ [])
    by true e later = cc
    by false e later = let g : up_to_first ignore_case end front ≡ front = cc in ap (λ t. d ∷ t) (later g)

-- A prefix without its last character.
pub lacks_less : (ignore_case : Bool) (end : ℕ) (front : List ℕ) (c : ℕ) → up_to_first ignore_case end (front ++ c ∷ []) ≡ front ++ c ∷ [] → (up_to_first ignore_case end front ≡ front) × ((is_same_character ignore_case c end) ≡ false)
lacks_less ignore_case end [] c e = (refl, by (is_same_character ignore_case c end) e)
  where
    by : (b : Bool) → cond b [] (c ∷ []) ≡ c ∷ [] → b ≡ false
    by true e = cc
    by false e = refl
lacks_less ignore_case end (d ∷ front) c e = by (is_same_character ignore_case d end) e (lacks_less ignore_case end front c)
  where
    by : (b : Bool) → cond b [] (d ∷ up_to_first ignore_case end (front ++ c ∷ [])) ≡ d ∷ (front ++ c ∷ [])
        → (up_to_first ignore_case end (front ++ c ∷ []) ≡ front ++ c ∷ [] → (up_to_first ignore_case end front ≡ front) × ((is_same_character ignore_case c end) ≡ false))
        → (cond b [] (d ∷ up_to_first ignore_case end front) ≡ d ∷ front) × ((is_same_character ignore_case c end) ≡ false)
    by true e later = let g : ⊥ = cc in absurd g
    by false e later =
        let g : up_to_first ignore_case end (front ++ c ∷ []) ≡ front ++ c ∷ [] = cc in
        let less = later g in
        (ap (λ t. d ∷ t) less.0, less.1)

-- ---- the longest prefix from the end

module _ (ignore_case : Bool) (end : ℕ) (gives : Continuation) where
  -- A result after a prefix is found after its characters.
  pub longest_found : (taken front rest : List ℕ) (found : Captures) → up_to_first ignore_case end front ≡ front → longest ignore_case end gives (taken ++ front) rest ≡ Some found
      → longest ignore_case end gives taken (front ++ rest) ≡ Some found
  longest_found taken [] rest found lacks e = ap (λ t. longest ignore_case end gives t rest) (sym (append-nil taken)) ∙ e
  longest_found taken (c ∷ front) rest found lacks e =
      by (is_same_character ignore_case c end) lacks (λ g. longest_found (taken ++ c ∷ []) front rest found g (ap (λ t. longest ignore_case end gives t rest) (append_assoc taken (c ∷ []) front) ∙ e))
    where
      by : (b : Bool) → cond b [] (c ∷ up_to_first ignore_case end front) ≡ c ∷ front
          → (up_to_first ignore_case end front ≡ front → longest ignore_case end gives (taken ++ c ∷ []) (front ++ rest) ≡ Some found)
          → cond b (gives taken (c ∷ (front ++ rest))) (option_or (longest ignore_case end gives (taken ++ c ∷ []) (front ++ rest)) (gives taken (c ∷ (front ++ rest)))) ≡ Some found
      by true lacks later = cc
      by false lacks later = let g : up_to_first ignore_case end front ≡ front = cc in ap (λ o. option_or o (gives taken (c ∷ (front ++ rest)))) (later g)

  -- The prefix is the longest with a result, if no longer one has one.
  pub longest_shorter : (front : List ℕ) (c : ℕ) (rest : List ℕ) → (is_same_character ignore_case c end) ≡ false → longest ignore_case end gives (front ++ c ∷ []) rest ≡ None
      → longest ignore_case end gives front (c ∷ rest) ≡ gives front (c ∷ rest)
  longest_shorter front c rest e none =
      ap (λ b. cond b (gives front (c ∷ rest)) (option_or (longest ignore_case end gives (front ++ c ∷ []) rest) (gives front (c ∷ rest)))) e
      ∙ ap (λ o. option_or o (gives front (c ∷ rest))) none

-- ---- failures, whatever the prefix

either_none : (o p : Option Captures) → option_or o p ≡ None → (o ≡ None) × (p ≡ None)
either_none None p e = (refl, e)
either_none (Some x) p e = let g : ⊥ = cc in absurd g

module _ (ignore_case : Bool) (end : ℕ) (next : List ℕ → Option Captures) where
  captured_none : (front other rest : List ℕ) → captured_prefix next front rest ≡ None → captured_prefix next other rest ≡ None
  captured_none front other rest e = by (next rest) e
    where
      by : (o : Option Captures) → option_map (λ others. Some front ∷ others) o ≡ None → option_map (λ others. Some other ∷ others) o ≡ None
      by None e = refl
      by (Some x) e = cc

  pub shortest_no_more : (front other text : List ℕ) → shortest ignore_case end (captured_prefix next) front text ≡ None → shortest ignore_case end (captured_prefix next) other text ≡ None
  shortest_no_more front other [] e = refl
  shortest_no_more front other (c ∷ text) e = by (is_same_character ignore_case c end) e (shortest_no_more (front ++ c ∷ []) (other ++ c ∷ []) text)
    where
      by : (b : Bool) → cond b None (option_or (captured_prefix next (front ++ c ∷ []) text) (shortest ignore_case end (captured_prefix next) (front ++ c ∷ []) text)) ≡ None
          → (shortest ignore_case end (captured_prefix next) (front ++ c ∷ []) text ≡ None → shortest ignore_case end (captured_prefix next) (other ++ c ∷ []) text ≡ None)
          → cond b None (option_or (captured_prefix next (other ++ c ∷ []) text) (shortest ignore_case end (captured_prefix next) (other ++ c ∷ []) text)) ≡ None
      by true e later = refl
      by false e later =
          let none = either_none (captured_prefix next (front ++ c ∷ []) text) (shortest ignore_case end (captured_prefix next) (front ++ c ∷ []) text) e in
          ap₂ option_or (captured_none (front ++ c ∷ []) (other ++ c ∷ []) text none.0) (later none.1)

  pub longest_no_more : (front other text : List ℕ) → longest ignore_case end (captured_prefix next) front text ≡ None → longest ignore_case end (captured_prefix next) other text ≡ None
  longest_no_more front other [] e = captured_none front other [] e
  longest_no_more front other (c ∷ text) e = by (is_same_character ignore_case c end) e (longest_no_more (front ++ c ∷ []) (other ++ c ∷ []) text)
    where
      by : (b : Bool) → cond b (captured_prefix next front (c ∷ text)) (option_or (longest ignore_case end (captured_prefix next) (front ++ c ∷ []) text) (captured_prefix next front (c ∷ text))) ≡ None
          → (longest ignore_case end (captured_prefix next) (front ++ c ∷ []) text ≡ None → longest ignore_case end (captured_prefix next) (other ++ c ∷ []) text ≡ None)
          → cond b (captured_prefix next other (c ∷ text)) (option_or (longest ignore_case end (captured_prefix next) (other ++ c ∷ []) text) (captured_prefix next other (c ∷ text))) ≡ None
      by true e later = captured_none front other (c ∷ text) e
      by false e later =
          let none = either_none (longest ignore_case end (captured_prefix next) (front ++ c ∷ []) text) (captured_prefix next front (c ∷ text)) e in
          ap₂ option_or (later none.0) (captured_none front other (c ∷ text) none.1)

  -- The prefix itself has no result.
  longest_nor : (front text : List ℕ) → longest ignore_case end (captured_prefix next) front text ≡ None → captured_prefix next front text ≡ None
  longest_nor front [] e = e
  longest_nor front (c ∷ text) e = by (is_same_character ignore_case c end) e
    where
      by : (b : Bool) → cond b (captured_prefix next front (c ∷ text)) (option_or (longest ignore_case end (captured_prefix next) (front ++ c ∷ []) text) (captured_prefix next front (c ∷ text))) ≡ None
          → captured_prefix next front (c ∷ text) ≡ None
      by true e = e
      by false e = (either_none (longest ignore_case end (captured_prefix next) (front ++ c ∷ []) text) (captured_prefix next front (c ∷ text)) e).1

  longest_at_end : (front text : List ℕ) → up_to_first ignore_case end text ≡ [] → longest ignore_case end (captured_prefix next) front text ≡ captured_prefix next front text
  longest_at_end front [] e = refl
  longest_at_end front (c ∷ text) e = by (is_same_character ignore_case c end) e
    where
      by : (b : Bool) → cond b [] (c ∷ up_to_first ignore_case end text) ≡ []
          → cond b (captured_prefix next front (c ∷ text)) (option_or (longest ignore_case end (captured_prefix next) (front ++ c ∷ []) text) (captured_prefix next front (c ∷ text))) ≡ captured_prefix next front (c ∷ text)
      by true e = refl
      by false e = cc

  -- No longer prefix has a result after the run has ended.
  pub longest_ended : (front text : List ℕ) → (up_to_first ignore_case end text ≡ []) ⊎ (longest ignore_case end (captured_prefix next) [] text ≡ None) → longest ignore_case end (captured_prefix next) front text ≡ captured_prefix next front text
  longest_ended front text (inl e) = longest_at_end front text e
  longest_ended front text (inr e) = let none = longest_no_more [] front text e in none ∙ sym (longest_nor front text none)

  shortest_at_end : (front text : List ℕ) → up_to_first ignore_case end text ≡ [] → shortest ignore_case end (captured_prefix next) front text ≡ None
  shortest_at_end front [] e = refl
  shortest_at_end front (c ∷ text) e = by (is_same_character ignore_case c end) e
    where
      by : (b : Bool) → cond b [] (c ∷ up_to_first ignore_case end text) ≡ []
          → cond b None (option_or (captured_prefix next (front ++ c ∷ []) text) (shortest ignore_case end (captured_prefix next) (front ++ c ∷ []) text)) ≡ None
      by true e = refl
      by false e = cc

  pub shortest_ended : (front text : List ℕ) → (up_to_first ignore_case end text ≡ []) ⊎ (shortest ignore_case end (captured_prefix next) [] text ≡ None) → shortest ignore_case end (captured_prefix next) front text ≡ None
  shortest_ended front text (inl e) = shortest_at_end front text e
  shortest_ended front text (inr e) = shortest_no_more [] front text e

  -- A run that failed also fails from its next character on.
  pub shortest_later : (c : ℕ) (text : List ℕ) → (is_same_character ignore_case c end) ≡ false → shortest ignore_case end (captured_prefix next) [] (c ∷ text) ≡ None → shortest ignore_case end (captured_prefix next) [] text ≡ None
  shortest_later c text e none =
      shortest_no_more (c ∷ []) [] text
      (either_none (captured_prefix next (c ∷ []) text) (shortest ignore_case end (captured_prefix next) (c ∷ []) text)
      (sym (ap (λ b. cond b None (option_or (captured_prefix next (c ∷ []) text) (shortest ignore_case end (captured_prefix next) (c ∷ []) text))) e) ∙ none)).1
