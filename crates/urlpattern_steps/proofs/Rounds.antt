-- Choices without captures, and rounds of them: the results after their matches.
use Rattle.std.proofs.Common.{◌≡◌, ℕ, zero, suc, ◌<◌, ◌≤◌, List, [], ◌∷◌, ◌++◌, length, None, Bool, true, false, cond, refl, sym, ap, ap₂, ◌∙◌, append-nil, append_assoc, arith, lt-ltb}
use Rattle.std.specs.Option.{option_or}
use Rattle.urlpattern_steps.proofs.OptionLemmas.{option_or-None}
use Rattle.urlpattern_meaning.specs.Dialect.{Nothing}
use Rattle.urlpattern_meaning.specs.Ways.{Way, WaysByText, empty_way, continued, one_that, is_shorter, more_rounds, looped, ways_by}
use Rattle.urlpattern_steps.specs.Walk.{Continuation, after_text, rounds, any_rounds, some_rounds}
use Rattle.urlpattern_steps.proofs.Tried.{Given, given, bare, tried, tried-append, tried-same, tried-continued}
use Rattle.urlpattern_meaning.specs.Matching.{is_same_character}

-- The result after this prefix.
abbrev pub beyond : List ℕ → Given → Given
beyond front h taken captures rest = h (front ++ taken) captures rest

-- The result after the matches of the choice is the result after a round.
pub record Takes (choice : WaysByText) (round : Continuation → Continuation) : Type 0 where
  pub takes : (h : Given) (front text : List ℕ) → tried (given (beyond front h)) (choice text) ≡ round (bare h) front text

-- The result after a round depends only on the results for suffixes of the text.
pub record Keeps (round : Continuation → Continuation) : Type 0 where
  pub same : (f g : Continuation) (front text : List ℕ) → ((before rest : List ℕ) → length rest ≤ length text → f before rest ≡ g before rest) → round f front text ≡ round g front text

-- A round matches one or more characters.
pub record Advances (round : Continuation → Continuation) : Type 0 where
  pub same : (f g : Continuation) (front text : List ℕ) → ((before rest : List ℕ) → length rest < length text → f before rest ≡ g before rest) → round f front text ≡ round g front text
  pub none : (gives : Continuation) (front : List ℕ) → round gives front [] ≡ None

-- ---- texts

keeps_after : (ignore_case : Bool) (characters : List ℕ) (f g : Continuation) (front text : List ℕ) → ((before rest : List ℕ) → length rest ≤ length text → f before rest ≡ g before rest)
    → after_text ignore_case characters f front text ≡ after_text ignore_case characters g front text
keeps_after ignore_case [] f g front text same = same front text (omega arith)
keeps_after ignore_case (c ∷ characters) f g front [] same = refl
keeps_after ignore_case (c ∷ characters) f g front (other ∷ text) same =
    ap (λ o. cond (is_same_character ignore_case other c) o None) (keeps_after ignore_case characters f g (front ++ other ∷ []) text (λ before rest le. same before rest (omega (arith, le))))

pub keeps-after : (ignore_case : Bool) (characters : List ℕ) → Keeps (after_text ignore_case characters)
keeps-after ignore_case characters = record { same = keeps_after ignore_case characters }

advances_after : (ignore_case : Bool) (c : ℕ) (characters : List ℕ) (f g : Continuation) (front text : List ℕ) → ((before rest : List ℕ) → length rest < length text → f before rest ≡ g before rest)
    → after_text ignore_case (c ∷ characters) f front text ≡ after_text ignore_case (c ∷ characters) g front text
advances_after ignore_case c characters f g front [] same = refl
advances_after ignore_case c characters f g front (other ∷ text) same =
    ap (λ o. cond (is_same_character ignore_case other c) o None) (keeps_after ignore_case characters f g (front ++ other ∷ []) text (λ before rest le. same before rest (omega (arith, le))))

pub advances-after : (ignore_case : Bool) (c : ℕ) (characters : List ℕ) → Advances (after_text ignore_case (c ∷ characters))
advances-after ignore_case c characters = record { same = advances_after ignore_case c characters; none = λ gives front. refl }

pub after-append : (ignore_case : Bool) (own others : List ℕ) (gives : Continuation) (front text : List ℕ) → after_text ignore_case own (after_text ignore_case others gives) front text ≡ after_text ignore_case (own ++ others) gives front text
after-append ignore_case [] others gives front text = refl
after-append ignore_case (c ∷ own) others gives front [] = refl
after-append ignore_case (c ∷ own) others gives front (other ∷ text) = ap (λ o. cond (is_same_character ignore_case other c) o None) (after-append ignore_case own others gives (front ++ other ∷ []) text)

-- ---- sequences

pub keeps-then : (first second : Continuation → Continuation) → Keeps first → Keeps second → Keeps (λ gives. first (second gives))
keeps-then first second one two = record {
  same = λ f g front text same.
      one.same (second f) (second g) front text (λ before rest le. two.same f g before rest (λ b r lower. same b r (omega (arith, le, lower))));
}

pub advances-then : (first second : Continuation → Continuation) → Advances first → Keeps second → Advances (λ gives. first (second gives))
advances-then first second one two = record {
  same = λ f g front text same.
      one.same (second f) (second g) front text (λ before rest lt. two.same f g before rest (λ b r lower. same b r (omega (arith, lt, lower))));
  none = λ gives front. one.none (second gives) front;
}

-- The result after a match is tried for each match in the rest.
abbrev pub then : WaysByText → Given → Given
then next h taken captures rest = tried (λ more. h (taken ++ more.taken) (captures ++ more.captures) more.rest) (next rest)

pub tried-then : (h : Given) (front : List ℕ) (next : WaysByText) (xs : List Way) → tried (given (beyond front h)) (continued next xs) ≡ tried (given (beyond front (then next h))) xs
tried-then h front next xs =
    tried-continued (given (beyond front h)) next xs
    ∙ tried-same _ _
    (λ way. tried-same _ _ (λ more. ap (λ f. h f (way.captures ++ more.captures) more.rest) (sym (append_assoc front way.taken more.taken))) (next way.rest))
    xs

pub takes-then : (choice next : WaysByText) (first second : Continuation → Continuation) → Takes choice first → Keeps first → Takes next second
    → Takes (λ text. continued next (choice text)) (λ gives. first (second gives))
takes-then choice next first second one keeps two = record {
  takes = λ h front text.
      tried-then h front next (choice text)
      ∙ one.takes (then next h) front text
      ∙ keeps.same (bare (then next h)) (second (bare h)) front text (λ before rest le. two.takes h before rest);
}

pub tried_idle : (h : Given) (front text : List ℕ) → tried (given (beyond front h)) (empty_way 0 text ∷ []) ≡ h front [] text
tried_idle h front text = option_or-None _ ∙ ap (λ f. h f [] text) (append-nil front)

pub takes-nothing : (ignore_case : Bool) → Takes (ways_by ignore_case Nothing) (after_text ignore_case [])
takes-nothing ignore_case = record { takes = tried_idle }

pub takes-one : (ignore_case : Bool) (c : ℕ) → Takes (one_that (λ other. is_same_character ignore_case other c)) (after_text ignore_case (c ∷ []))
takes-one ignore_case c = record { takes = by }
  where
    by : (h : Given) (front text : List ℕ) → tried (given (beyond front h)) (one_that (λ other. is_same_character ignore_case other c) text) ≡ after_text ignore_case (c ∷ []) (bare h) front text
    by h front [] = refl
    by h front (other ∷ text) = at (is_same_character ignore_case other c)
      where
        at : (b : Bool) → tried (given (beyond front h)) (cond b (record { taken = other ∷ []; captures = []; rest = text } ∷ []) []) ≡ cond b (h (front ++ other ∷ []) [] text) None
        at true = option_or-None _
        at false = refl

-- ---- rounds

pub rounds-enough : (round : Continuation → Continuation) → Advances round → (m n : ℕ) (gives : Continuation) (front text : List ℕ) → length text ≤ m → length text ≤ n
    → rounds round m gives front text ≡ rounds round n gives front text
rounds-enough round advances zero zero gives front text below above = refl
rounds-enough round advances zero (suc n) gives front [] below above = ap (λ o. option_or o (gives front [])) (sym (advances.none (rounds round n gives) front))
rounds-enough round advances (suc m) zero gives front [] below above = ap (λ o. option_or o (gives front [])) (advances.none (rounds round m gives) front)
rounds-enough round advances zero (suc n) gives front (c ∷ text) below above = absurd (omega arith)
rounds-enough round advances (suc m) zero gives front (c ∷ text) below above = absurd (omega arith)
rounds-enough round advances (suc m) (suc n) gives front text below above =
    ap (λ o. option_or o (gives front text))
    (advances.same (rounds round m gives) (rounds round n gives) front text
    (λ before rest lt. rounds-enough round advances m n gives before rest (omega (arith, lt)) (omega (arith, lt))))

-- A round and any number of further ones, or none.
pub any-unrolled : (round : Continuation → Continuation) → Advances round → (gives : Continuation) (front text : List ℕ)
    → any_rounds round gives front text ≡ option_or (some_rounds round gives front text) (gives front text)
any-unrolled round advances gives front text =
    rounds-enough round advances (length text) (suc (length text)) gives front text (omega arith) (omega arith)
    ∙ ap (λ o. option_or o (gives front text))
    (advances.same (rounds round (length text) gives) (any_rounds round gives) front text
    (λ before rest lt. rounds-enough round advances (length text) (length rest) gives before rest (omega (arith, lt)) (omega arith)))

rounds-same : (round : Continuation → Continuation) → Advances round → (n : ℕ) (f g : Continuation) (front text : List ℕ) → ((before rest : List ℕ) → length rest ≤ length text → f before rest ≡ g before rest)
    → rounds round n f front text ≡ rounds round n g front text
rounds-same round advances zero f g front text same = same front text (omega arith)
rounds-same round advances (suc n) f g front text same =
    ap₂ option_or
    (advances.same (rounds round n f) (rounds round n g) front text
    (λ before rest lt. rounds-same round advances n f g before rest (λ b r le. same b r (omega (arith, lt, le)))))
    (same front text (omega arith))

pub keeps-any : (round : Continuation → Continuation) → Advances round → Keeps (any_rounds round)
keeps-any round advances = record { same = λ f g front text same. rounds-same round advances (length text) f g front text same }

pub keeps-some : (round : Continuation → Continuation) → Advances round → Keeps (some_rounds round)
keeps-some round advances = record {
  same = λ f g front text same.
      advances.same (any_rounds round f) (any_rounds round g) front text
      (λ before rest lt. rounds-same round advances (length rest) f g before rest (λ b r le. same b r (omega (arith, lt, le))));
}

module _ (atom : WaysByText) (round : Continuation → Continuation) (takes : Takes atom round) (advances : Advances round) where
  more_rounds-tried : (n : ℕ) (h : Given) (front text : List ℕ) → tried (given (beyond front h)) (more_rounds true atom n text) ≡ rounds round n (bare h) front text
  more_rounds-tried zero h front text = tried_idle h front text
  more_rounds-tried (suc n) h front text =
      tried-append (given (beyond front h)) (continued next (atom text)) (empty_way 0 text ∷ [])
      ∙ ap₂ option_or
      (tried-then h front next (atom text)
      ∙ takes.takes (then next h) front text
      ∙ advances.same (bare (then next h)) (rounds round n (bare h)) front text
      (λ before rest lt.
      let shorter : is_shorter rest text ≡ true = lt-ltb _ _ lt in
      ap (λ b. tried (given (beyond before h)) (cond b (more_rounds true atom n rest) [])) shorter
      ∙ more_rounds-tried n h before rest))
      (tried_idle h front text)
    where
      next : WaysByText
      next rest = cond (is_shorter rest text) (more_rounds true atom n rest) []

  pub takes-looped : Takes (looped true atom) (some_rounds round)
  takes-looped = record {
    takes = λ h front text.
        let next : WaysByText = λ rest. cond (is_shorter rest text) (more_rounds true atom (length rest) rest) (empty_way 0 rest ∷ []) in
        tried-then h front next (atom text)
        ∙ takes.takes (then next h) front text
        ∙ advances.same (bare (then next h)) (any_rounds round (bare h)) front text
        (λ before rest lt.
        let shorter : is_shorter rest text ≡ true = lt-ltb _ _ lt in
        ap (λ b. tried (given (beyond before h)) (cond b (more_rounds true atom (length rest) rest) (empty_way 0 rest ∷ []))) shorter
        ∙ more_rounds-tried (length rest) h before rest);
  }

  pub takes-looped_or_not : Takes (λ text. looped true atom text ++ empty_way 0 text ∷ []) (any_rounds round)
  takes-looped_or_not = record {
    takes = λ h front text.
        tried-append (given (beyond front h)) (looped true atom text) (empty_way 0 text ∷ [])
        ∙ ap₂ option_or (takes-looped.takes h front text) (tried_idle h front text)
        ∙ sym (any-unrolled round advances (bare h) front text);
  }
