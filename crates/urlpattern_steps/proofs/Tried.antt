-- Matches that are tried in turn: the result of the first that has one.
use Rattle.std.proofs.Common.{◌≡◌, ℕ, zero, suc, ◌≤◌, List, [], ◌∷◌, ◌++◌, map, length, Option, Some, None, option_map, Bool, true, false, cond, not, ◌==◌, refl, sym, ap, ap₂, ◌∙◌, append_assoc, arith, lt-ltb}
use Rattle.std.proofs.Math.Path.{fun_ext}
use Rattle.std.specs.Option.{option_or}
use Rattle.urlpattern_steps.proofs.OptionLemmas.{option_or-None}
use Rattle.urlpattern_meaning.proofs.FoldedTrees.{line_feed_same}
use Rattle.urlpattern_meaning.specs.PartMeaning.{Captures}
use Rattle.urlpattern_meaning.specs.Ways.{Way, WaysByText, empty_way, joined_way, continued, one_that, is_shorter, more_rounds, looped}
use Rattle.urlpattern_steps.specs.Walk.{shortest, longest, Continuation}
use Rattle.urlpattern_meaning.specs.Matching.{is_same_character}
use Rattle.urlpattern_syntax.specs.Text.{line_feed}

abbrev pub Next : Type 0
Next = List ℕ → Option Captures

-- The result of the first match that has one.
abbrev pub tried : (Way → Option Captures) → List Way → Option Captures
tried f [] = None
tried f (way ∷ ways) = option_or (f way) (tried f ways)

-- The captures of a match, followed by those of the rest.
abbrev pub before_next : Next → Way → Option Captures
before_next next way = option_map (λ others. way.captures ++ others) (next way.rest)

pub option_or-assoc : {A : Type 0} (o p q : Option A) → option_or (option_or o p) q ≡ option_or o (option_or p q)
option_or-assoc None p q = refl
option_or-assoc (Some x) p q = refl

pub option_map-or : {A B : Type 0} (f : A → B) (o p : Option A) → option_map f (option_or o p) ≡ option_or (option_map f o) (option_map f p)
option_map-or f None p = refl
option_map-or f (Some x) p = refl

pub option_map-both : {A B C : Type 0} (f : B → C) (g : A → B) (h : A → C) → ((x : A) → f (g x) ≡ h x) → (o : Option A) → option_map f (option_map g o) ≡ option_map h o
option_map-both f g h same None = refl
option_map-both f g h same (Some x) = ap Some (same x)

pub option_map-still : {A : Type 0} (o : Option A) → option_map (λ x. x) o ≡ o
option_map-still None = refl
option_map-still (Some x) = refl

pub tried-append : (f : Way → Option Captures) (xs ys : List Way) → tried f (xs ++ ys) ≡ option_or (tried f xs) (tried f ys)
tried-append f [] ys = refl
tried-append f (x ∷ xs) ys = ap (option_or (f x)) (tried-append f xs ys) ∙ sym (option_or-assoc (f x) (tried f xs) (tried f ys))

pub tried-map : (f : Way → Option Captures) (g : Way → Way) (xs : List Way) → tried f (map g xs) ≡ tried (λ way. f (g way)) xs
tried-map f g [] = refl
tried-map f g (x ∷ xs) = ap (option_or (f (g x))) (tried-map f g xs)

pub tried-same : (f g : Way → Option Captures) → ((way : Way) → f way ≡ g way) → (xs : List Way) → tried f xs ≡ tried g xs
tried-same f g same [] = refl
tried-same f g same (x ∷ xs) = ap₂ option_or (same x) (tried-same f g same xs)

pub tried-continued : (f : Way → Option Captures) (next : WaysByText) (xs : List Way)
    → tried f (continued next xs) ≡ tried (λ way. tried (λ more. f (joined_way way more)) (next way.rest)) xs
tried-continued f next [] = refl
tried-continued f next (x ∷ xs) =
    tried-append f (map (joined_way x) (next x.rest)) (continued next xs)
    ∙ ap₂ option_or (tried-map f (joined_way x) (next x.rest)) (tried-continued f next xs)

-- A match, followed by the results of the matches in the rest.
tried-joined : (next : Next) (way : Way) (xs : List Way)
    → tried (λ more. before_next next (joined_way way more)) xs ≡ option_map (λ others. way.captures ++ others) (tried (before_next next) xs)
tried-joined next way [] = refl
tried-joined next way (x ∷ xs) =
    ap₂ option_or
    (sym (option_map-both (λ others. way.captures ++ others) (λ others. x.captures ++ others) (λ others. (way.captures ++ x.captures) ++ others)
    (λ others. sym (append_assoc way.captures x.captures others)) (next x.rest)))
    (tried-joined next way xs)
    ∙ sym (option_map-or (λ others. way.captures ++ others) (before_next next x) (tried (before_next next) xs))

-- The matches in the rest are tried after each match.
pub tried-behind : (next : Next) (choice : WaysByText) (xs : List Way)
    → tried (before_next next) (continued choice xs) ≡ tried (before_next (λ rest. tried (before_next next) (choice rest))) xs
tried-behind next choice xs =
    tried-continued (before_next next) choice xs
    ∙ tried-same _ _ (λ way. tried-joined next way (choice way.rest)) xs

pub before_next-same : (next other : Next) → ((text : List ℕ) → next text ≡ other text) → (way : Way) → before_next next way ≡ before_next other way
before_next-same next other same way = ap (option_map (λ others. way.captures ++ others)) (same way.rest)

pub tried-empty_way : (next : Next) (text : List ℕ) → tried (before_next next) (empty_way 0 text ∷ []) ≡ next text
tried-empty_way next text = option_or-None (before_next next (empty_way 0 text)) ∙ option_map-still (next text)

-- ---- loops of single characters

-- The result, by the matched prefix, its captures and the rest.
abbrev pub Given : Type 0
Given = List ℕ → Captures → List ℕ → Option Captures

abbrev pub given : Given → Way → Option Captures
given h way = h way.taken way.captures way.rest

-- The result without captures.
abbrev pub bare : Given → Continuation
bare h front rest = h front [] rest

-- The result after one more character.
abbrev with_first : ℕ → Given → Given
with_first c h taken captures rest = h (c ∷ taken) captures rest

-- Any character but a line feed.
abbrev pub dot : WaysByText
dot = one_that (λ c. not (c == line_feed))

module _ (ignore_case : Bool) (end : ℕ) where
  abbrev pub one : WaysByText
  one = one_that (λ c. not (is_same_character ignore_case c end))

  empty_way-given : (h : Given) (text : List ℕ) → tried (given h) (empty_way 0 text ∷ []) ≡ h [] [] text
  empty_way-given h text = option_or-None _

  -- The remaining rounds after one character.
  one_round : (h : Given) (c : ℕ) (text : List ℕ) (next : WaysByText)
      → tried (given h) (continued next (record { taken = c ∷ []; captures = []; rest = text } ∷ [])) ≡ tried (given (with_first c h)) (next text)
  one_round h c text next = tried-continued (given h) next (record { taken = c ∷ []; captures = []; rest = text } ∷ []) ∙ option_or-None (tried (given (with_first c h)) (next text))

  shortest-first : (c : ℕ) (h : Given) (front text : List ℕ) → shortest ignore_case end (bare (with_first c h)) front text ≡ shortest ignore_case end (bare h) (c ∷ front) text
  shortest-first c h front [] = refl
  shortest-first c h front (d ∷ text) = ap (λ o. cond (is_same_character ignore_case d end) None (option_or (h (c ∷ (front ++ d ∷ [])) [] text) o)) (shortest-first c h (front ++ d ∷ []) text)

  longest-first : (c : ℕ) (h : Given) (front text : List ℕ) → longest ignore_case end (bare (with_first c h)) front text ≡ longest ignore_case end (bare h) (c ∷ front) text
  longest-first c h front [] = refl
  longest-first c h front (d ∷ text) =
      ap (λ o. cond (is_same_character ignore_case d end) (h (c ∷ front) [] (d ∷ text)) (option_or o (h (c ∷ front) [] (d ∷ text)))) (longest-first c h (front ++ d ∷ []) text)

  lazy_rounds : (n : ℕ) (h : Given) (text : List ℕ) → length text ≤ n
      → tried (given h) (more_rounds false one n text) ≡ option_or (h [] [] text) (shortest ignore_case end (bare h) [] text)
  lazy_rounds zero h [] le = refl
  lazy_rounds zero h (c ∷ text) le = absurd (omega arith)
  lazy_rounds (suc n) h [] le = refl
  lazy_rounds (suc n) h (c ∷ text) le = by (is_same_character ignore_case c end) (lazy_rounds n (with_first c h) text (omega arith))
    where
      next : WaysByText
      next rest = cond (is_shorter rest (c ∷ text)) (more_rounds false one n rest) []

      by : (b : Bool) → tried (given (with_first c h)) (more_rounds false one n text) ≡ option_or (h (c ∷ []) [] text) (shortest ignore_case end (bare (with_first c h)) [] text)
          → option_or (h [] [] (c ∷ text)) (tried (given h) (continued next (cond (not b) (record { taken = c ∷ []; captures = []; rest = text } ∷ []) [])))
          ≡ option_or (h [] [] (c ∷ text)) (cond b None (option_or (h (c ∷ []) [] text) (shortest ignore_case end (bare h) (c ∷ []) text)))
      by true later = refl
      by false later =
          let shorter : is_shorter text (c ∷ text) ≡ true = lt-ltb _ _ (omega arith) in
          ap (option_or (h [] [] (c ∷ text)))
          (one_round h c text next
          ∙ ap (λ b. tried (given (with_first c h)) (cond b (more_rounds false one n text) [])) shorter
          ∙ later
          ∙ ap (option_or (h (c ∷ []) [] text)) (shortest-first c h [] text))

  -- A lazy loop.
  pub lazy_loop : (h : Given) (text : List ℕ) → tried (given h) (looped false one text) ≡ shortest ignore_case end (bare h) [] text
  lazy_loop h [] = refl
  lazy_loop h (c ∷ text) = by (is_same_character ignore_case c end)
    where
      next : WaysByText
      next rest = cond (is_shorter rest (c ∷ text)) (more_rounds false one (length rest) rest) (empty_way 0 rest ∷ [])

      by : (b : Bool) → tried (given h) (continued next (cond (not b) (record { taken = c ∷ []; captures = []; rest = text } ∷ []) []))
          ≡ cond b None (option_or (h (c ∷ []) [] text) (shortest ignore_case end (bare h) (c ∷ []) text))
      by true = refl
      by false =
          let shorter : is_shorter text (c ∷ text) ≡ true = lt-ltb _ _ (omega arith) in
          one_round h c text next
          ∙ ap (λ b. tried (given (with_first c h)) (cond b (more_rounds false one (length text) text) (empty_way 0 text ∷ []))) shorter
          ∙ lazy_rounds (length text) (with_first c h) text (omega arith)
          ∙ ap (option_or (h (c ∷ []) [] text)) (shortest-first c h [] text)

  greedy_rounds : (n : ℕ) (h : Given) (text : List ℕ) → length text ≤ n → tried (given h) (more_rounds true one n text) ≡ longest ignore_case end (bare h) [] text
  greedy_rounds zero h [] le = empty_way-given h []
  greedy_rounds zero h (c ∷ text) le = absurd (omega arith)
  greedy_rounds (suc n) h [] le = empty_way-given h []
  greedy_rounds (suc n) h (c ∷ text) le = by (is_same_character ignore_case c end) (greedy_rounds n (with_first c h) text (omega arith))
    where
      next : WaysByText
      next rest = cond (is_shorter rest (c ∷ text)) (more_rounds true one n rest) []

      by : (b : Bool) → tried (given (with_first c h)) (more_rounds true one n text) ≡ longest ignore_case end (bare (with_first c h)) [] text
          → tried (given h) (continued next (cond (not b) (record { taken = c ∷ []; captures = []; rest = text } ∷ []) []) ++ empty_way 0 (c ∷ text) ∷ [])
          ≡ cond b (h [] [] (c ∷ text)) (option_or (longest ignore_case end (bare h) (c ∷ []) text) (h [] [] (c ∷ text)))
      by true later = empty_way-given h (c ∷ text)
      by false later =
          let shorter : is_shorter text (c ∷ text) ≡ true = lt-ltb _ _ (omega arith) in
          tried-append (given h) _ (empty_way 0 (c ∷ text) ∷ [])
          ∙ ap₂ option_or
          (one_round h c text next
          ∙ ap (λ b. tried (given (with_first c h)) (cond b (more_rounds true one n text) [])) shorter
          ∙ later
          ∙ longest-first c h [] text)
          (empty_way-given h (c ∷ text))

  -- A greedy loop of any number of rounds.
  pub greedy_loop : (h : Given) (text : List ℕ) → tried (given h) (looped true one text ++ empty_way 0 text ∷ []) ≡ longest ignore_case end (bare h) [] text
  greedy_loop h [] = empty_way-given h []
  greedy_loop h (c ∷ text) =
      tried-append (given h) (looped true one (c ∷ text)) (empty_way 0 (c ∷ text) ∷ []) ∙ ap (option_or (tried (given h) (looped true one (c ∷ text)))) (empty_way-given h (c ∷ text)) ∙ by (is_same_character ignore_case c end)
    where
      next : WaysByText
      next rest = cond (is_shorter rest (c ∷ text)) (more_rounds true one (length rest) rest) (empty_way 0 rest ∷ [])

      by : (b : Bool) → option_or (tried (given h) (continued next (cond (not b) (record { taken = c ∷ []; captures = []; rest = text } ∷ []) []))) (h [] [] (c ∷ text))
          ≡ cond b (h [] [] (c ∷ text)) (option_or (longest ignore_case end (bare h) (c ∷ []) text) (h [] [] (c ∷ text)))
      by true = refl
      by false =
          let shorter : is_shorter text (c ∷ text) ≡ true = lt-ltb _ _ (omega arith) in
          ap (λ o. option_or o (h [] [] (c ∷ text)))
          (one_round h c text next
          ∙ ap (λ b. tried (given (with_first c h)) (cond b (more_rounds true one (length text) text) (empty_way 0 text ∷ []))) shorter
          ∙ greedy_rounds (length text) (with_first c h) text (omega arith)
          ∙ longest-first c h [] text)

-- Any character but a line feed, with case ignored or kept.
pub one_dot : (ignore_case : Bool) → one ignore_case line_feed ≡ dot
one_dot ignore_case = ap one_that (fun_ext (λ c. ap not (line_feed_same ignore_case c)))
