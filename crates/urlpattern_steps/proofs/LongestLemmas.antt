-- Repeated runs are one run.
use Rattle.std.proofs.Common.{◌≡◌, ℕ, zero, suc, ◌<◌, ◌≤◌, List, [], ◌∷◌, ◌++◌, length, map, Option, Some, None, option_map, Bool, true, false, cond, refl, sym, ap, ap₂, ◌∙◌, subst, append-nil, append_assoc, length-append, arith, lt-ltb}
use borrow.Author.Tests.{ltb-true}
use Rattle.std.proofs.lemmas.List.{append_cancel_left}
use Rattle.std.proofs.lemmas.Str.{chars-append}
use Rattle.std.specs.Char.{IsScalar, encode_utf8}
use Rattle.std.specs.Option.{option_or}
use Rattle.std.specs.Str.{chars, IsUtf8}
use Rattle.urlpattern_syntax.proofs.StringTexts.{chars-encode}
use Rattle.urlpattern_steps.proofs.OptionLemmas.{option_or-None}
use Rattle.urlpattern_meaning.specs.Dialect.{Quantifier, Once, Optional, ZeroOrMore, OneOrMore, LazyOneOrMore, Items, Nothing, Item, Atom, Dot, AnyBut, Captured, Grouped, Literal, character_of, group_count}
use Rattle.urlpattern_meaning.specs.PartMeaning.{Captures}
use Rattle.urlpattern_meaning.specs.Ways.{WaysByText, empty_way, capturing, continued, is_shorter, more_rounds, looped, quantified_ways, ways_by}
use Rattle.urlpattern_syntax.specs.Text.{line_feed}
use Rattle.urlpattern_steps.specs.ReadSteps.{IsAllBut, IsRunOf, AllowsEmptyRun}
use Rattle.urlpattern_steps.specs.Walk.{Continuation, after_text, any_rounds, captured_prefix, from_first, longest, longest_run, longest_some, rounds, shortest, single_run, some_rounds, up_to_first}
use Rattle.urlpattern_steps.proofs.Rounds.{Advances, Keeps, Takes, beyond, takes-looped, takes-looped_or_not, takes-nothing, takes-then, then, tried-then, tried_idle}
use Rattle.urlpattern_steps.proofs.FallingLemmas.{falling, longest_falling}
use Rattle.urlpattern_steps.proofs.Tried.{Given, Next, given, bare, before_next, one, one_dot, tried, tried-append, tried-map, lazy_loop, greedy_loop}
use Rattle.urlpattern_meaning.specs.Matching.{is_same_character}

-- ---- runs

keeps_shortest : (ignore_case : Bool) (end : ℕ) (f g : Continuation) (front text : List ℕ) → ((before rest : List ℕ) → length rest < length text → f before rest ≡ g before rest) → shortest ignore_case end f front text ≡ shortest ignore_case end g front text
keeps_shortest ignore_case end f g front [] same = refl
keeps_shortest ignore_case end f g front (c ∷ text) same =
    ap₂ (λ o p. cond (is_same_character ignore_case c end) None (option_or o p)) (same (front ++ c ∷ []) text (omega arith))
    (keeps_shortest ignore_case end f g (front ++ c ∷ []) text (λ before rest lt. same before rest (omega (arith, lt))))

pub advances-shortest : (ignore_case : Bool) (end : ℕ) → Advances (shortest ignore_case end)
advances-shortest ignore_case end = record { same = keeps_shortest ignore_case end; none = λ gives front. refl }

pub keeps-shortest : (ignore_case : Bool) (end : ℕ) → Keeps (shortest ignore_case end)
keeps-shortest ignore_case end = record { same = λ f g front text same. keeps_shortest ignore_case end f g front text (λ before rest lt. same before rest (omega (arith, lt))) }

keeps_longest : (ignore_case : Bool) (end : ℕ) (f g : Continuation) (front text : List ℕ) → ((before rest : List ℕ) → length rest ≤ length text → f before rest ≡ g before rest) → longest ignore_case end f front text ≡ longest ignore_case end g front text
keeps_longest ignore_case end f g front [] same = same front [] (omega arith)
keeps_longest ignore_case end f g front (c ∷ text) same =
    ap₂ (λ o p. cond (is_same_character ignore_case c end) o (option_or p o)) (same front (c ∷ text) (omega arith))
    (keeps_longest ignore_case end f g (front ++ c ∷ []) text (λ before rest le. same before rest (omega (arith, le))))

pub keeps-longest : (ignore_case : Bool) (end : ℕ) → Keeps (longest ignore_case end)
keeps-longest ignore_case end = record { same = keeps_longest ignore_case end }

-- A prefix is moved into the continuation.
shortest-beyond : (ignore_case : Bool) (end : ℕ) (gives : Continuation) (before front text : List ℕ) → shortest ignore_case end (λ front rest. gives (before ++ front) rest) front text ≡ shortest ignore_case end gives (before ++ front) text
shortest-beyond ignore_case end gives before front [] = refl
shortest-beyond ignore_case end gives before front (c ∷ text) =
    ap (λ o. cond (is_same_character ignore_case c end) None (option_or (gives (before ++ (front ++ c ∷ [])) text) o)) (shortest-beyond ignore_case end gives before (front ++ c ∷ []) text)
    ∙ ap (λ f. cond (is_same_character ignore_case c end) None (option_or (gives f text) (shortest ignore_case end gives f text))) (sym (append_assoc before front (c ∷ [])))

longest-beyond : (ignore_case : Bool) (end : ℕ) (gives : Continuation) (before front text : List ℕ) → longest ignore_case end (λ front rest. gives (before ++ front) rest) front text ≡ longest ignore_case end gives (before ++ front) text
longest-beyond ignore_case end gives before front [] = refl
longest-beyond ignore_case end gives before front (c ∷ text) =
    ap (λ o. cond (is_same_character ignore_case c end) (gives (before ++ front) (c ∷ text)) (option_or o (gives (before ++ front) (c ∷ text)))) (longest-beyond ignore_case end gives before (front ++ c ∷ []) text)
    ∙ ap (λ f. cond (is_same_character ignore_case c end) (gives (before ++ front) (c ∷ text)) (option_or (longest ignore_case end gives f text) (gives (before ++ front) (c ∷ text)))) (sym (append_assoc before front (c ∷ [])))

takes_lazy : (ignore_case : Bool) (end : ℕ) → Takes (looped false (one ignore_case end)) (shortest ignore_case end)
takes_lazy ignore_case end = record {
  takes = λ h front text.
      lazy_loop ignore_case end (beyond front h) text ∙ shortest-beyond ignore_case end (bare h) front [] text ∙ ap (λ f. shortest ignore_case end (bare h) f text) (append-nil front);
}

takes_greedy : (ignore_case : Bool) (end : ℕ) → Takes (λ text. looped true (one ignore_case end) text ++ empty_way 0 text ∷ []) (longest ignore_case end)
takes_greedy ignore_case end = record {
  takes = λ h front text.
      greedy_loop ignore_case end (beyond front h) text ∙ longest-beyond ignore_case end (bare h) front [] text ∙ ap (λ f. longest ignore_case end (bare h) f text) (append-nil front);
}

pub keeps-run : (ignore_case : Bool) (is_greedy : Bool) (end : ℕ) → Keeps (single_run ignore_case is_greedy end)
keeps-run ignore_case true end = keeps-longest ignore_case end
keeps-run ignore_case false end = keeps-shortest ignore_case end

pub takes-run : (ignore_case : Bool) (end : ℕ) (is_greedy : Bool) (items : Items) → IsRunOf end is_greedy items → Takes (ways_by ignore_case items) (single_run ignore_case is_greedy end)
takes-run ignore_case end true items (same, is) =
    subst (λ (i : Items). Takes (ways_by ignore_case i) (longest ignore_case end)) (sym is)
    (subst (λ c. Takes (ways_by ignore_case (Item Dot ZeroOrMore Nothing)) (longest ignore_case c)) (sym same)
    (subst (λ (atom : WaysByText). Takes (λ text. continued (ways_by ignore_case Nothing) (looped true atom text ++ empty_way 0 text ∷ [])) (longest ignore_case line_feed)) (one_dot ignore_case)
    (takes-then (λ text. looped true (one ignore_case line_feed) text ++ empty_way 0 text ∷ []) (ways_by ignore_case Nothing) (longest ignore_case line_feed) (after_text ignore_case []) (takes_greedy ignore_case line_feed) (keeps-longest ignore_case line_feed) (takes-nothing ignore_case))))
takes-run ignore_case end false items (atom, but, is) = subst (λ (i : Items). Takes (ways_by ignore_case i) (shortest ignore_case end)) (sym is) (by atom but)
  where
    lazy : (c : ℕ) → Takes (λ text. continued (ways_by ignore_case Nothing) (looped false (one ignore_case c) text)) (shortest ignore_case c)
    lazy c = takes-then (looped false (one ignore_case c)) (ways_by ignore_case Nothing) (shortest ignore_case c) (after_text ignore_case []) (takes_lazy ignore_case c) (keeps-shortest ignore_case c) (takes-nothing ignore_case)

    by : (atom : Atom) → IsAllBut end atom → Takes (ways_by ignore_case (Item atom LazyOneOrMore Nothing)) (shortest ignore_case end)
    by Dot but = subst (λ c. Takes (ways_by ignore_case (Item Dot LazyOneOrMore Nothing)) (shortest ignore_case c)) (sym but)
        (subst (λ (atom : WaysByText). Takes (λ text. continued (ways_by ignore_case Nothing) (looped false atom text)) (shortest ignore_case line_feed)) (one_dot ignore_case) (lazy line_feed))
    by (AnyBut character) but = subst (λ c. Takes (ways_by ignore_case (Item (AnyBut character) LazyOneOrMore Nothing)) (shortest ignore_case c)) but (lazy (character_of character))
    by (Literal character) but = absurd but
    by (Captured inner) but = absurd but
    by (Grouped inner) but = absurd but

pub run_uncaptured : (end : ℕ) (is_greedy : Bool) (items : Items) → IsRunOf end is_greedy items → group_count items ≡ 0
run_uncaptured end true items (same, is) = ap group_count is
run_uncaptured end false items (atom, but, is) = ap group_count is ∙ by atom but
  where
    by : (atom : Atom) → IsAllBut end atom → group_count (Item atom LazyOneOrMore Nothing) ≡ 0
    by Dot but = refl
    by (AnyBut character) but = refl
    by (Literal character) but = absurd but
    by (Captured inner) but = absurd but
    by (Grouped inner) but = absurd but

-- ---- repeated runs

-- The result of the longest run comes before that of the empty one.
longest_before : (ignore_case : Bool) (end : ℕ) (gives : Continuation) (front text : List ℕ) → option_or (longest ignore_case end gives front text) (gives front text) ≡ longest ignore_case end gives front text
longest_before ignore_case end gives front [] = twice (gives front [])
  where
    twice : (o : Option Captures) → option_or o o ≡ o
    twice None = refl
    twice (Some x) = refl
longest_before ignore_case end gives front (c ∷ text) = by (is_same_character ignore_case c end) (longest ignore_case end gives (front ++ c ∷ []) text) (gives front (c ∷ text))
  where
    by : (b : Bool) (o p : Option Captures) → option_or (cond b p (option_or o p)) p ≡ cond b p (option_or o p)
    by true o None = refl
    by true o (Some x) = refl
    by false None None = refl
    by false None (Some x) = refl
    by false (Some x) p = refl

-- Shorter first rounds add no result.
shortest_absorbed : (ignore_case : Bool) (end : ℕ) (gives : Continuation) (front text : List ℕ)
    → option_or (longest ignore_case end gives front text) (shortest ignore_case end (longest ignore_case end gives) front text) ≡ longest ignore_case end gives front text
shortest_absorbed ignore_case end gives front [] = option_or-None _
shortest_absorbed ignore_case end gives front (c ∷ text) =
    by (is_same_character ignore_case c end) (longest ignore_case end gives (front ++ c ∷ []) text) (gives front (c ∷ text)) (shortest ignore_case end (longest ignore_case end gives) (front ++ c ∷ []) text) (shortest_absorbed ignore_case end gives (front ++ c ∷ []) text)
  where
    by : (b : Bool) (o p q : Option Captures) → option_or o q ≡ o → option_or (cond b p (option_or o p)) (cond b None (option_or o q)) ≡ cond b p (option_or o p)
    by true o p q e = option_or-None p
    by false (Some x) p q e = refl
    by false None None q e = e
    by false None (Some x) q e = refl

longest_twice : (ignore_case : Bool) (end : ℕ) (gives : Continuation) (front text : List ℕ) → longest ignore_case end (longest ignore_case end gives) front text ≡ longest ignore_case end gives front text
longest_twice ignore_case end gives front [] = refl
longest_twice ignore_case end gives front (c ∷ text) =
    ap (λ o. cond (is_same_character ignore_case c end) (longest ignore_case end gives front (c ∷ text)) (option_or o (longest ignore_case end gives front (c ∷ text)))) (longest_twice ignore_case end gives (front ++ c ∷ []) text)
    ∙ by (is_same_character ignore_case c end) (longest ignore_case end gives (front ++ c ∷ []) text) (gives front (c ∷ text))
  where
    by : (b : Bool) (o p : Option Captures) → cond b (cond b p (option_or o p)) (option_or o (cond b p (option_or o p))) ≡ cond b p (option_or o p)
    by true o p = refl
    by false None p = refl
    by false (Some x) p = refl

-- Rounds of lazy runs.
shortest_rounds : (ignore_case : Bool) (end n : ℕ) (gives : Continuation) (front text : List ℕ) → length text ≤ n → rounds (shortest ignore_case end) n gives front text ≡ longest ignore_case end gives front text
shortest_rounds ignore_case end zero gives front [] le = refl
shortest_rounds ignore_case end zero gives front (c ∷ text) le = absurd (omega arith)
shortest_rounds ignore_case end (suc n) gives front [] le = refl
shortest_rounds ignore_case end (suc n) gives front (c ∷ text) le =
    ap (λ o. option_or o (gives front (c ∷ text)))
    (keeps_shortest ignore_case end (rounds (shortest ignore_case end) n gives) (longest ignore_case end gives) front (c ∷ text) (λ before rest lt. shortest_rounds ignore_case end n gives before rest (omega (arith, lt))))
    ∙ by (is_same_character ignore_case c end) (longest ignore_case end gives (front ++ c ∷ []) text) (gives front (c ∷ text)) (shortest ignore_case end (longest ignore_case end gives) (front ++ c ∷ []) text) (shortest_absorbed ignore_case end gives (front ++ c ∷ []) text)
  where
    by : (b : Bool) (o p q : Option Captures) → option_or o q ≡ o → option_or (cond b None (option_or o q)) p ≡ cond b p (option_or o p)
    by true o p q e = refl
    by false o p q e = ap (λ r. option_or r p) e

shortest_any : (ignore_case : Bool) (end : ℕ) (gives : Continuation) (front text : List ℕ) → any_rounds (shortest ignore_case end) gives front text ≡ longest ignore_case end gives front text
shortest_any ignore_case end gives front text = shortest_rounds ignore_case end (length text) gives front text (omega arith)

shortest_some : (ignore_case : Bool) (end : ℕ) (gives : Continuation) (front text : List ℕ) → some_rounds (shortest ignore_case end) gives front text ≡ longest_some ignore_case end gives front text
shortest_some ignore_case end gives front text =
    keeps_shortest ignore_case end (any_rounds (shortest ignore_case end) gives) (longest ignore_case end gives) front text (λ before rest lt. shortest_any ignore_case end gives before rest) ∙ at text
  where
    at : (text : List ℕ) → shortest ignore_case end (longest ignore_case end gives) front text ≡ longest_some ignore_case end gives front text
    at [] = refl
    at (c ∷ text) = ap (λ o. cond (is_same_character ignore_case c end) None o) (shortest_absorbed ignore_case end gives (front ++ c ∷ []) text)

-- Rounds of greedy runs: later rounds are empty, and an empty round is not repeated.
module _ (ignore_case : Bool) (end : ℕ) (atom : WaysByText) (takes : Takes atom (longest ignore_case end)) where
  -- The result of a round, from the results for shorter texts.
  longest_round : (gives f : Continuation) (front text : List ℕ)
      → ((before rest : List ℕ) → length rest < length text → f before rest ≡ longest ignore_case end gives before rest) → f front text ≡ None
      → option_or (longest ignore_case end f front text) (gives front text) ≡ longest ignore_case end gives front text
  longest_round gives f front [] same stop = ap (λ o. option_or o (gives front [])) stop
  longest_round gives f front (c ∷ text) same stop =
      let inner : longest ignore_case end f (front ++ c ∷ []) text ≡ longest ignore_case end gives (front ++ c ∷ []) text =
      keeps_longest ignore_case end f (longest ignore_case end gives) (front ++ c ∷ []) text (λ before rest le. same before rest (omega (arith, le))) ∙ longest_twice ignore_case end gives (front ++ c ∷ []) text in
      ap₂ (λ o p. option_or (cond (is_same_character ignore_case c end) p (option_or o p)) (gives front (c ∷ text))) inner stop
      ∙ by (is_same_character ignore_case c end) (longest ignore_case end gives (front ++ c ∷ []) text) (gives front (c ∷ text))
    where
      by : (b : Bool) (o p : Option Captures) → option_or (cond b None (option_or o None)) p ≡ cond b p (option_or o p)
      by true o p = refl
      by false None p = refl
      by false (Some x) p = refl

  -- The result of a round, if an empty round is the last.
  longest_first : (gives f : Continuation) (front text : List ℕ) → ((before rest : List ℕ) → length rest < length text → f before rest ≡ longest ignore_case end gives before rest)
      → f front text ≡ gives front text → longest ignore_case end f front text ≡ longest ignore_case end gives front text
  longest_first gives f front [] same stop = stop
  longest_first gives f front (c ∷ text) same stop =
      let inner : longest ignore_case end f (front ++ c ∷ []) text ≡ longest ignore_case end gives (front ++ c ∷ []) text =
      keeps_longest ignore_case end f (longest ignore_case end gives) (front ++ c ∷ []) text (λ before rest le. same before rest (omega (arith, le))) ∙ longest_twice ignore_case end gives (front ++ c ∷ []) text in
      ap₂ (λ o p. cond (is_same_character ignore_case c end) p (option_or o p)) inner stop

  not_shorter : (text : List ℕ) → is_shorter text text ≡ false
  not_shorter text = by (is_shorter text text) refl
    where
      by : (b : Bool) → is_shorter text text ≡ b → is_shorter text text ≡ false
      by false e = e
      by true e = absurd (omega (arith, ltb-true (length text) (length text) e))

  longest_more : (n : ℕ) (h : Given) (front text : List ℕ) → length text ≤ n → tried (given (beyond front h)) (more_rounds true atom n text) ≡ longest ignore_case end (bare h) front text
  longest_more zero h front [] le = tried_idle h front []
  longest_more zero h front (c ∷ text) le = absurd (omega arith)
  longest_more (suc n) h front text le =
      tried-append (given (beyond front h)) (continued next (atom text)) (empty_way 0 text ∷ [])
      ∙ ap₂ option_or (tried-then h front next (atom text) ∙ takes.takes (then next h) front text) (tried_idle h front text)
      ∙ longest_round (bare h) (bare (then next h)) front text
      (λ before rest lt.
      let shorter : is_shorter rest text ≡ true = lt-ltb _ _ lt in
      ap (λ b. tried (given (beyond before h)) (cond b (more_rounds true atom n rest) [])) shorter ∙ longest_more n h before rest (omega (arith, lt)))
      (ap (λ b. tried (given (beyond front h)) (cond b (more_rounds true atom n text) [])) (not_shorter text))
    where
      next : WaysByText
      next rest = cond (is_shorter rest text) (more_rounds true atom n rest) []

  longest_looped : (h : Given) (front text : List ℕ) → tried (given (beyond front h)) (looped true atom text) ≡ longest ignore_case end (bare h) front text
  longest_looped h front text =
      tried-then h front next (atom text)
      ∙ takes.takes (then next h) front text
      ∙ longest_first (bare h) (bare (then next h)) front text
      (λ before rest lt.
      let shorter : is_shorter rest text ≡ true = lt-ltb _ _ lt in
      ap (λ b. tried (given (beyond before h)) (cond b (more_rounds true atom (length rest) rest) (empty_way 0 rest ∷ []))) shorter ∙ longest_more (length rest) h before rest (omega arith))
      (ap (λ b. tried (given (beyond front h)) (cond b (more_rounds true atom (length text) text) (empty_way 0 text ∷ []))) (not_shorter text) ∙ tried_idle h front text)
    where
      next : WaysByText
      next rest = cond (is_shorter rest text) (more_rounds true atom (length rest) rest) (empty_way 0 rest ∷ [])

  takes_longest_looped : Takes (looped true atom) (longest ignore_case end)
  takes_longest_looped = record { takes = longest_looped }

  takes_longest_looped_or_not : Takes (λ text. looped true atom text ++ empty_way 0 text ∷ []) (longest ignore_case end)
  takes_longest_looped_or_not = record {
    takes = λ h front text.
        tried-append (given (beyond front h)) (looped true atom text) (empty_way 0 text ∷ [])
        ∙ ap₂ option_or (longest_looped h front text) (tried_idle h front text)
        ∙ longest_before ignore_case end (bare h) front text;
  }

-- ---- a group of a run

keeps-longest_run : (ignore_case : Bool) (may_be_empty : Bool) (end : ℕ) → Keeps (longest_run ignore_case may_be_empty end)
keeps-longest_run ignore_case true end = keeps-longest ignore_case end
keeps-longest_run ignore_case false end = record { same = by }
  where
    by : (f g : Continuation) (front text : List ℕ) → ((before rest : List ℕ) → length rest ≤ length text → f before rest ≡ g before rest) → longest_some ignore_case end f front text ≡ longest_some ignore_case end g front text
    by f g front [] same = refl
    by f g front (c ∷ text) same = ap (λ o. cond (is_same_character ignore_case c end) None o) (keeps_longest ignore_case end f g (front ++ c ∷ []) text (λ before rest le. same before rest (omega (arith, le))))

-- A choice of matches, with an equal round.
takes_as : (choice : WaysByText) (round other : Continuation → Continuation) → ((gives : Continuation) (front text : List ℕ) → round gives front text ≡ other gives front text) → Takes choice round → Takes choice other
takes_as choice round other same takes = record { takes = λ h front text. takes.takes h front text ∙ same (bare h) front text }

runs_take : (ignore_case : Bool) (end : ℕ) (is_greedy : Bool) (items : Items) (quantifier : Quantifier) (may_be_empty : Bool) → IsRunOf end is_greedy items → AllowsEmptyRun is_greedy quantifier may_be_empty
    → Takes (quantified_ways quantifier 0 (ways_by ignore_case items)) (longest_run ignore_case may_be_empty end)
runs_take ignore_case end true items ZeroOrMore may_be_empty run is =
    subst (λ b. Takes (quantified_ways ZeroOrMore 0 (ways_by ignore_case items)) (longest_run ignore_case b end)) (sym is) (takes_longest_looped_or_not ignore_case end (ways_by ignore_case items) (takes-run ignore_case end true items run))
runs_take ignore_case end false items ZeroOrMore may_be_empty run is =
    subst (λ b. Takes (quantified_ways ZeroOrMore 0 (ways_by ignore_case items)) (longest_run ignore_case b end)) (sym is)
    (takes_as (quantified_ways ZeroOrMore 0 (ways_by ignore_case items)) (any_rounds (shortest ignore_case end)) (longest ignore_case end) (shortest_any ignore_case end) (takes-looped_or_not (ways_by ignore_case items) (shortest ignore_case end) (takes-run ignore_case end false items run) (advances-shortest ignore_case end)))
runs_take ignore_case end true items OneOrMore may_be_empty run is =
    subst (λ b. Takes (quantified_ways OneOrMore 0 (ways_by ignore_case items)) (longest_run ignore_case b end)) (sym is) (takes_longest_looped ignore_case end (ways_by ignore_case items) (takes-run ignore_case end true items run))
runs_take ignore_case end false items OneOrMore may_be_empty run is =
    subst (λ b. Takes (quantified_ways OneOrMore 0 (ways_by ignore_case items)) (longest_run ignore_case b end)) (sym is)
    (takes_as (quantified_ways OneOrMore 0 (ways_by ignore_case items)) (some_rounds (shortest ignore_case end)) (longest_some ignore_case end) (shortest_some ignore_case end) (takes-looped (ways_by ignore_case items) (shortest ignore_case end) (takes-run ignore_case end false items run) (advances-shortest ignore_case end)))
runs_take ignore_case end is_greedy items Once may_be_empty run is = absurd is
runs_take ignore_case end is_greedy items Optional may_be_empty run is = absurd is
runs_take ignore_case end is_greedy items LazyOneOrMore may_be_empty run is = absurd is

pub takes-runs : (ignore_case : Bool) (end : ℕ) (is_greedy : Bool) (items : Items) (quantifier : Quantifier) (may_be_empty : Bool) → IsRunOf end is_greedy items → AllowsEmptyRun is_greedy quantifier may_be_empty
    → Takes (ways_by ignore_case (Item (Grouped items) quantifier Nothing)) (longest_run ignore_case may_be_empty end)
takes-runs ignore_case end is_greedy items quantifier may_be_empty run is =
    subst (λ n. Takes (λ text. continued (ways_by ignore_case Nothing) (quantified_ways quantifier n (ways_by ignore_case items) text)) (longest_run ignore_case may_be_empty end)) (sym (run_uncaptured end is_greedy items run))
    (takes-then (quantified_ways quantifier 0 (ways_by ignore_case items)) (ways_by ignore_case Nothing) (longest_run ignore_case may_be_empty end) (after_text ignore_case []) (runs_take ignore_case end is_greedy items quantifier may_be_empty run is)
    (keeps-longest_run ignore_case may_be_empty end) (takes-nothing ignore_case))

-- The captures of a choice that captures nothing itself.
abbrev capture_before : Next → Given
capture_before next taken captures rest = option_map (λ others. (Some taken ∷ captures) ++ others) (next rest)

pub captured_takes : (choice : WaysByText) (round : Continuation → Continuation) → Takes choice round → (next : Next) (text : List ℕ)
    → tried (before_next next) (map capturing (choice text)) ≡ round (captured_prefix next) [] text
captured_takes choice round takes next text = tried-map (before_next next) capturing (choice text) ∙ takes.takes (capture_before next) [] text

-- ---- nonempty runs

-- The result, or None for an empty prefix if the run may not be empty.
abbrev pub at_least : (may_be_empty : Bool) → Continuation → Continuation
at_least true gives front rest = gives front rest
at_least false gives [] rest = None
at_least false gives (c ∷ front) rest = gives (c ∷ front) rest

pub at_least_some : (may_be_empty : Bool) (gives : Continuation) (front rest : List ℕ) → ¬ (front ≡ []) → at_least may_be_empty gives front rest ≡ gives front rest
at_least_some true gives front rest some = refl
at_least_some false gives [] rest some = absurd (some refl)
at_least_some false gives (c ∷ front) rest some = refl

longest_at_least : (ignore_case : Bool) (end : ℕ) (gives : Continuation) (d : ℕ) (front text : List ℕ) → longest ignore_case end gives (d ∷ front) text ≡ longest ignore_case end (at_least false gives) (d ∷ front) text
longest_at_least ignore_case end gives d front [] = refl
longest_at_least ignore_case end gives d front (c ∷ text) = ap (λ o. cond (is_same_character ignore_case c end) (gives (d ∷ front) (c ∷ text)) (option_or o (gives (d ∷ front) (c ∷ text)))) (longest_at_least ignore_case end gives d (front ++ c ∷ []) text)

longest_some_at_least : (ignore_case : Bool) (end : ℕ) (gives : Continuation) (text : List ℕ) → longest_some ignore_case end gives [] text ≡ longest ignore_case end (at_least false gives) [] text
longest_some_at_least ignore_case end gives [] = refl
longest_some_at_least ignore_case end gives (c ∷ text) = ap (λ o. cond (is_same_character ignore_case c end) None o) (longest_at_least ignore_case end gives c [] text ∙ sym (option_or-None _))

pub longest_run_falling : (ignore_case : Bool) (may_be_empty : Bool) (end : ℕ) (gives : Continuation) (text : List ℕ)
    → longest_run ignore_case may_be_empty end gives [] text ≡ falling (at_least may_be_empty gives) [] (up_to_first ignore_case end text) (from_first ignore_case end text)
longest_run_falling ignore_case true end gives text = longest_falling ignore_case end gives [] text
longest_run_falling ignore_case false end gives text = longest_some_at_least ignore_case end gives text ∙ longest_falling ignore_case end (at_least false gives) [] text

-- A text with a last character is not empty.
pub front_some : (front shorter : List ℕ) (c : ℕ) → IsUtf8 shorter → IsScalar c → front ≡ shorter ++ encode_utf8 c → ¬ (chars front ≡ [])
front_some front shorter c u scalar e empty =
    let spelled : chars front ≡ chars shorter ++ c ∷ [] = ap chars e ∙ chars-append shorter (encode_utf8 c) u ∙ ap (λ l. chars shorter ++ l) (chars-encode c scalar) in
    absurd (omega (arith, ap length (sym empty ∙ spelled), length-append (chars shorter) (c ∷ [])))

-- A nonempty prefix has the result of the continuation.
pub front_given : (may_be_empty : Bool) (gives : Continuation) (text front shorter rest left : List ℕ) (c : ℕ) → IsUtf8 shorter → IsScalar c → front ≡ shorter ++ encode_utf8 c → text ≡ front ++ rest → text ≡ front ++ left
    → at_least may_be_empty gives (chars front) (chars left) ≡ gives (chars front) (chars rest)
front_given may_be_empty gives text front shorter rest left c u scalar e f g =
    at_least_some may_be_empty gives (chars front) (chars left) (front_some front shorter c u scalar e)
    ∙ ap (λ r. gives (chars front) (chars r)) (append_cancel_left front left rest (sym g ∙ f))

-- Only the empty prefix is left.
pub falling_empty : (gives : Continuation) (front rest : List ℕ) → front ≡ [] → falling (at_least true gives) [] front rest ≡ gives front rest
falling_empty gives front rest e = ap (λ f. falling (at_least true gives) [] f rest) e ∙ ap (λ f. gives f rest) (sym e)

pub falling_none : (gives : Continuation) (front rest : List ℕ) → front ≡ [] → falling (at_least false gives) [] front rest ≡ None
falling_none gives front rest e = ap (λ f. falling (at_least false gives) [] f rest) e
