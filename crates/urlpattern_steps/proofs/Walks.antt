-- The first result among the matches of a tree is what its steps capture.
use Rattle.std.proofs.Common.{◌≡◌, ℕ, ◌+◌, List, [], ◌∷◌, ◌++◌, map, length, replicate, Some, None, option_map, Bool, true, false, cond, ◌==◌, find, refl, sym, ap, ap₂, ◌∙◌, subst, append-nil, append_assoc, arith, ne_eqb}
use Rattle.std.proofs.lemmas.Bool.{cond-false}
use Rattle.std.specs.Option.{option_or}
use Rattle.urlpattern_steps.proofs.OptionLemmas.{option_or-None}
use Rattle.urlpattern_meaning.specs.Dialect.{character_of, Character, Once, Optional, LazyOneOrMore, Items, Nothing, Item, Atom, Dot, AnyBut, Captured, Grouped, atom_group_count, group_count}
use Rattle.urlpattern_meaning.specs.Dialect as dialect
use Rattle.urlpattern_meaning.specs.Ways.{Way, WaysByText, empty_way, continued, one_that, looped, capturing, ways_by, atom_ways_by, first_way_by}
use Rattle.urlpattern_syntax.specs.Text.{line_feed}
use Rattle.urlpattern_steps.specs.declared.step.Group.{Group}
use Rattle.urlpattern_steps.specs.declared.step.Run.{Run}
use Rattle.urlpattern_steps.specs.declared.step.Step.{Step}
use Rattle.urlpattern_steps.specs.declared.step.Step.TheVariants.{Literal, LazyRun, DotStar, OptionalGroup, GreedyRun, RepeatedLiteral, Segments}
use Rattle.urlpattern_steps.specs.ReadSteps.{AreLiterals, IsAllBut, IsStepOf}
use Rattle.urlpattern_steps.specs.Walk.{Continuation, captured_prefix, shortest, longest, longest_run, literals, after_text, walk, walk_after, capture_count}
use Rattle.urlpattern_steps.proofs.LongestLemmas.{captured_takes, run_uncaptured, takes-runs}
use Rattle.urlpattern_steps.proofs.Rounds.{Takes, keeps-after, after-append, takes-nothing, takes-one, takes-then}
use Rattle.urlpattern_steps.proofs.Tried.{Next, Given, given, tried, before_next, bare, dot, one, one_dot, tried-append, tried-map, tried-same, tried-continued, tried-behind, before_next-same, tried-empty_way, lazy_loop, greedy_loop}
use Rattle.urlpattern_meaning.specs.Matching.{is_same_character}

-- ---- trees and atoms, and their steps

-- The matches of the tree have the results of its steps, whatever steps follow. If its steps are
-- literal, the matches are those of their text.
pub record Walks (ignore_case : Bool) (tree : Items) (steps : List Step) : Type 0 where
  pub count : group_count tree ≡ capture_count steps
  pub text : AreLiterals steps → Takes (ways_by ignore_case tree) (after_text ignore_case (literals steps))
  pub walks : (after : List Step) (text : List ℕ) → tried (before_next (walk ignore_case after)) (ways_by ignore_case tree text) ≡ walk ignore_case (steps ++ after) text

-- `Walks`, whether case is ignored or not.
abbrev pub EitherWalks : Items → List Step → Type 0
EitherWalks tree steps = (ignore_case : Bool) → Walks ignore_case tree steps

-- `Walks` of an atom.
pub record AtomWalks (ignore_case : Bool) (atom : Atom) (steps : List Step) : Type 0 where
  pub count : atom_group_count atom ≡ capture_count steps
  pub text : AreLiterals steps → Takes (atom_ways_by ignore_case atom) (after_text ignore_case (literals steps))
  pub walks : (after : List Step) (text : List ℕ) → tried (before_next (walk ignore_case after)) (atom_ways_by ignore_case atom text) ≡ walk ignore_case (steps ++ after) text

pub capture_count-append : (own others : List Step) → capture_count (own ++ others) ≡ capture_count own + capture_count others
capture_count-append [] others = omega arith
capture_count-append (Literal c ∷ own) others = capture_count-append own others
capture_count-append (LazyRun c ∷ own) others = omega (arith, capture_count-append own others)
capture_count-append (DotStar ∷ own) others = omega (arith, capture_count-append own others)
capture_count-append (OptionalGroup group ∷ own) others = capture_count-append own others
capture_count-append (GreedyRun run ∷ own) others = omega (arith, capture_count-append own others)
capture_count-append (RepeatedLiteral copies ∷ own) others = capture_count-append own others
capture_count-append (Segments segments ∷ own) others = omega (arith, capture_count-append own others)

pub walk_after-own : (ignore_case : Bool) (own after : List Step) (text : List ℕ) → walk_after ignore_case (length own) (own ++ after) text ≡ walk ignore_case after text
walk_after-own ignore_case [] after text = refl
walk_after-own ignore_case (step ∷ own) after text = walk_after-own ignore_case own after text

-- ---- literal steps

literals_parts : (own others : List Step) → AreLiterals (own ++ others) → AreLiterals own × AreLiterals others
literals_parts [] others plain = (tt, plain)
literals_parts (Literal c ∷ own) others plain = literals_parts own others plain
literals_parts (LazyRun end ∷ own) others plain = absurd plain
literals_parts (DotStar ∷ own) others plain = absurd plain
literals_parts (OptionalGroup group ∷ own) others plain = absurd plain
literals_parts (GreedyRun run ∷ own) others plain = absurd plain
literals_parts (RepeatedLiteral copies ∷ own) others plain = absurd plain
literals_parts (Segments segments ∷ own) others plain = absurd plain

literals-append : (own others : List Step) → literals (own ++ others) ≡ literals own ++ literals others
literals-append [] others = refl
literals-append (Literal c ∷ own) others = ap (λ l. c ∷ l) (literals-append own others)
literals-append (LazyRun end ∷ own) others = literals-append own others
literals-append (DotStar ∷ own) others = literals-append own others
literals-append (OptionalGroup group ∷ own) others = literals-append own others
literals-append (GreedyRun run ∷ own) others = literals-append own others
literals-append (RepeatedLiteral copies ∷ own) others = literals-append own others
literals-append (Segments segments ∷ own) others = literals-append own others

pub literals_uncaptured : (steps : List Step) → AreLiterals steps → capture_count steps ≡ 0
literals_uncaptured [] plain = refl
literals_uncaptured (Literal c ∷ steps) plain = literals_uncaptured steps plain
literals_uncaptured (LazyRun end ∷ steps) plain = absurd plain
literals_uncaptured (DotStar ∷ steps) plain = absurd plain
literals_uncaptured (OptionalGroup group ∷ steps) plain = absurd plain
literals_uncaptured (GreedyRun run ∷ steps) plain = absurd plain
literals_uncaptured (RepeatedLiteral copies ∷ steps) plain = absurd plain
literals_uncaptured (Segments segments ∷ steps) plain = absurd plain

-- The texts of both, concatenated.
text_then : (ignore_case : Bool) (atom : Atom) (items : Items) (own others : List Step) → AtomWalks ignore_case atom own → Walks ignore_case items others → AreLiterals (own ++ others)
    → Takes (ways_by ignore_case (Item atom Once items)) (after_text ignore_case (literals (own ++ others)))
text_then ignore_case atom items own others first next plain =
    let parts = literals_parts own others plain in
    let front_takes : Takes (atom_ways_by ignore_case atom) (after_text ignore_case (literals own)) = first.text parts.0 in
    let two : Takes (ways_by ignore_case items) (after_text ignore_case (literals others)) = next.text parts.1 in
    let both = takes-then (atom_ways_by ignore_case atom) (ways_by ignore_case items) (after_text ignore_case (literals own)) (after_text ignore_case (literals others)) front_takes (keeps-after ignore_case (literals own)) two in
    record {
      takes = λ h front text.
          both.takes h front text
          ∙ after-append ignore_case (literals own) (literals others) (bare h) front text
          ∙ ap (λ l. after_text ignore_case l (bare h) front text) (sym (literals-append own others));
    }

-- ---- items

pub walks-nothing : (ignore_case : Bool) → Walks ignore_case Nothing []
walks-nothing ignore_case = record { count = refl; text = λ plain. takes-nothing ignore_case; walks = λ after text. tried-empty_way (walk ignore_case after) text }

pub walks-inside : (ignore_case : Bool) (inner : Items) (steps : List Step) → Walks ignore_case inner steps → AtomWalks ignore_case (Grouped inner) steps
walks-inside ignore_case inner steps walks = record { count = walks.count; text = walks.text; walks = walks.walks }

-- The matches of an atom are followed by those of the items.
pub after_atom : (ignore_case : Bool) (items : Items) (steps : List Step) → Walks ignore_case items steps → (after : List Step) (front : List Way)
    → tried (before_next (walk ignore_case after)) (continued (ways_by ignore_case items) front) ≡ tried (before_next (walk ignore_case (steps ++ after))) front
after_atom ignore_case items steps walks after front =
    tried-behind (walk ignore_case after) (ways_by ignore_case items) front
    ∙ tried-same _ _ (before_next-same (λ rest. tried (before_next (walk ignore_case after)) (ways_by ignore_case items rest)) (walk ignore_case (steps ++ after)) (walks.walks after)) front

pub walks-once : (ignore_case : Bool) (atom : Atom) (items : Items) (own others : List Step) → AtomWalks ignore_case atom own → Walks ignore_case items others → Walks ignore_case (Item atom Once items) (own ++ others)
walks-once ignore_case atom items own others first next = record {
  count = ap₂ (λ m n. m + n) first.count next.count ∙ sym (capture_count-append own others);
  text = text_then ignore_case atom items own others first next;
  walks = λ after text.
      after_atom ignore_case items others next after (atom_ways_by ignore_case atom text)
      ∙ first.walks (others ++ after) text
      ∙ ap (λ s. walk ignore_case s text) (sym (append_assoc own others after));
}

pub walks-maybe : (ignore_case : Bool) (atom : Atom) (items : Items) (group : Group) (own others : List Step) → AtomWalks ignore_case atom own → Walks ignore_case items others
    → group.steps ≡ length own → group.captures ≡ capture_count own → Walks ignore_case (Item atom Optional items) (OptionalGroup group ∷ (own ++ others))
walks-maybe ignore_case atom items group own others first next steps captures = record {
  count = ap₂ (λ m n. m + n) first.count next.count ∙ sym (capture_count-append own others);
  text = λ plain. absurd plain;
  walks = λ after text.
      after_atom ignore_case items others next after (atom_ways_by ignore_case atom text ++ empty_way (atom_group_count atom) text ∷ [])
      ∙ tried-append (before_next (walk ignore_case (others ++ after))) (atom_ways_by ignore_case atom text) (empty_way (atom_group_count atom) text ∷ [])
      ∙ ap₂ option_or
      (first.walks (others ++ after) text ∙ ap (λ s. walk ignore_case s text) (sym (append_assoc own others after)))
      (option_or-None _
      ∙ ap (λ n. option_map (λ others. replicate n None ++ others) (walk ignore_case (others ++ after) text)) (first.count ∙ sym captures)
      ∙ ap (option_map (λ others. replicate group.captures None ++ others))
      (sym (walk_after-own ignore_case own (others ++ after) text)
      ∙ ap (λ s. walk_after ignore_case (length own) s text) (sym (append_assoc own others after))
      ∙ ap (λ n. walk_after ignore_case n ((own ++ others) ++ after) text) (sym steps)));
}

-- ---- a literal

walks-literal : (ignore_case : Bool) (character : Character) → AtomWalks ignore_case (dialect.Literal character) (Literal (character_of character) ∷ [])
walks-literal ignore_case character = record { count = refl; text = λ plain. takes-one ignore_case (character_of character); walks = by }
  where
    by : (after : List Step) (text : List ℕ) → tried (before_next (walk ignore_case after)) (one_that (λ c. is_same_character ignore_case c (character_of character)) text)
        ≡ walk ignore_case (Literal (character_of character) ∷ after) text
    by after [] = refl
    by after (c ∷ text) = at (is_same_character ignore_case c (character_of character))
      where
        at : (b : Bool) → tried (before_next (walk ignore_case after)) (cond b (record { taken = c ∷ []; captures = []; rest = text } ∷ []) [])
            ≡ cond b (walk ignore_case after text) None
        at true = tried-empty_way (walk ignore_case after) text
        at false = refl

-- ---- runs

shortest-same : (ignore_case : Bool) (end : ℕ) (f g : Continuation) → ((front rest : List ℕ) → f front rest ≡ g front rest) → (front text : List ℕ) → shortest ignore_case end f front text ≡ shortest ignore_case end g front text
shortest-same ignore_case end f g same front [] = refl
shortest-same ignore_case end f g same front (c ∷ text) =
    ap (λ o. cond (is_same_character ignore_case c end) None o) (ap₂ option_or (same (front ++ c ∷ []) text) (shortest-same ignore_case end f g same (front ++ c ∷ []) text))

longest-same : (ignore_case : Bool) (end : ℕ) (f g : Continuation) → ((front rest : List ℕ) → f front rest ≡ g front rest) → (front text : List ℕ) → longest ignore_case end f front text ≡ longest ignore_case end g front text
longest-same ignore_case end f g same front [] = same front []
longest-same ignore_case end f g same front (c ∷ text) =
    ap₂ (λ o p. cond (is_same_character ignore_case c end) o p) (same front (c ∷ text)) (ap₂ option_or (longest-same ignore_case end f g same (front ++ c ∷ []) text) (same front (c ∷ text)))

-- A captured loop, by its prefix, captures and rest.
abbrev captured_loop : Next → Given
captured_loop next taken captures rest =
    option_map (λ others. (Some (taken ++ []) ∷ (captures ++ [])) ++ others) (next rest)

captured_ways : (ignore_case : Bool) (next : Next) (loop : List Way)
    → tried (before_next next) (map capturing (continued (ways_by ignore_case Nothing) loop)) ≡ tried (given (captured_loop next)) loop
captured_ways ignore_case next loop =
    tried-map (before_next next) capturing (continued (ways_by ignore_case Nothing) loop)
    ∙ tried-continued (λ way. before_next next (capturing way)) (ways_by ignore_case Nothing) loop
    ∙ tried-same _ (given (captured_loop next)) (λ way. option_or-None _) loop

-- The prefix of a loop as a capture.
plain_capture : (next : Next) (front rest : List ℕ) → bare (captured_loop next) front rest ≡ captured_prefix next front rest
plain_capture next front rest = ap (λ t. option_map (λ others. Some t ∷ others) (next rest)) (append-nil front)

segment : (ignore_case : Bool) (end : ℕ) (after : List Step) (text : List ℕ)
    → tried (before_next (walk ignore_case after)) (map capturing (continued (ways_by ignore_case Nothing) (looped false (one ignore_case end) text))) ≡ walk ignore_case (LazyRun end ∷ after) text
segment ignore_case end after text =
    captured_ways ignore_case (walk ignore_case after) (looped false (one ignore_case end) text)
    ∙ lazy_loop ignore_case end (captured_loop (walk ignore_case after)) text
    ∙ shortest-same ignore_case end _ _ (plain_capture (walk ignore_case after)) [] text

anything : (ignore_case : Bool) (after : List Step) (text : List ℕ)
    → tried (before_next (walk ignore_case after)) (map capturing (continued (ways_by ignore_case Nothing) (looped true dot text ++ empty_way 0 text ∷ []))) ≡ walk ignore_case (DotStar ∷ after) text
anything ignore_case after text =
    ap (λ (atom : WaysByText). tried (before_next (walk ignore_case after)) (map capturing (continued (ways_by ignore_case Nothing) (looped true atom text ++ empty_way 0 text ∷ [])))) (sym (one_dot ignore_case))
    ∙ captured_ways ignore_case (walk ignore_case after) (looped true (one ignore_case line_feed) text ++ empty_way 0 text ∷ [])
    ∙ greedy_loop ignore_case line_feed (captured_loop (walk ignore_case after)) text
    ∙ longest-same ignore_case line_feed _ _ (plain_capture (walk ignore_case after)) [] text

walks-segment : (ignore_case : Bool) (end : ℕ) (atom : Atom) → IsAllBut end atom → AtomWalks ignore_case (Captured (Item atom LazyOneOrMore Nothing)) (LazyRun end ∷ [])
walks-segment ignore_case end Dot is = subst (λ c. AtomWalks ignore_case (Captured (Item Dot LazyOneOrMore Nothing)) (LazyRun c ∷ [])) (sym is)
    (record {
      count = refl;
      text = λ plain. absurd plain;
      walks = λ after text.
          ap (λ (atom : WaysByText). tried (before_next (walk ignore_case after)) (map capturing (continued (ways_by ignore_case Nothing) (looped false atom text)))) (sym (one_dot ignore_case))
          ∙ segment ignore_case line_feed after text;
    })
walks-segment ignore_case end (AnyBut character) is =
    subst (λ c. AtomWalks ignore_case (Captured (Item (AnyBut character) LazyOneOrMore Nothing)) (LazyRun c ∷ [])) is (record { count = refl; text = λ plain. absurd plain; walks = segment ignore_case (character_of character) })
walks-segment ignore_case end (dialect.Literal character) is = absurd is
walks-segment ignore_case end (Captured inner) is = absurd is
walks-segment ignore_case end (Grouped inner) is = absurd is

walks-longest : (ignore_case : Bool) (run : Run) (atom : Atom) → IsStepOf (GreedyRun run) atom → AtomWalks ignore_case atom (GreedyRun run ∷ [])
walks-longest ignore_case run atom (items, is_greedy, quantifier, is_run, may_be, is) =
    let inner : Items = Item (Grouped items) quantifier Nothing in
    let takes = takes-runs ignore_case run.end is_greedy items quantifier run.may_be_empty is_run may_be in
    subst (λ (a : Atom). AtomWalks ignore_case a (GreedyRun run ∷ [])) (sym is)
    (record {
      count = let none = run_uncaptured run.end is_greedy items is_run in omega (arith, none);
      text = λ plain. absurd plain;
      walks = λ after text. captured_takes (ways_by ignore_case inner) (longest_run ignore_case run.may_be_empty run.end) takes (walk ignore_case after) text;
    })

pub walks-step : (ignore_case : Bool) (step : Step) (atom : Atom) → IsStepOf step atom → AtomWalks ignore_case atom (step ∷ [])
walks-step ignore_case (Literal c) atom is =
    subst (λ (a : Atom). AtomWalks ignore_case a (Literal c ∷ [])) (sym is.2)
    (subst (λ d. AtomWalks ignore_case (dialect.Literal is.0) (Literal d ∷ [])) is.1 (walks-literal ignore_case is.0))
walks-step ignore_case (LazyRun c) atom is = subst (λ (a : Atom). AtomWalks ignore_case a (LazyRun c ∷ [])) (sym is.2) (walks-segment ignore_case c is.0 is.1)
walks-step ignore_case DotStar atom is = subst (λ (a : Atom). AtomWalks ignore_case a (DotStar ∷ [])) (sym is) (record { count = refl; text = λ plain. absurd plain; walks = anything ignore_case })
walks-step ignore_case (OptionalGroup group) atom is = absurd is
walks-step ignore_case (GreedyRun run) atom is = walks-longest ignore_case run atom is
walks-step ignore_case (RepeatedLiteral copies) atom is = absurd is
walks-step ignore_case (Segments segments) atom is = absurd is

-- ---- a whole tree

first_tried : (ignore_case : Bool) (all : List Way) → tried (before_next (walk ignore_case [])) all ≡ option_map (λ way. way.captures) (find (λ way. length way.rest == 0) all)
first_tried ignore_case [] = refl
first_tried ignore_case (way ∷ all) = by way.rest (first_tried ignore_case all)
  where
    by : (rest : List ℕ) → tried (before_next (walk ignore_case [])) all ≡ option_map (λ (w : Way). w.captures) (find (λ w. length w.rest == 0) all)
        → option_or (option_map (λ others. way.captures ++ others) (walk ignore_case [] rest)) (tried (before_next (walk ignore_case [])) all)
        ≡ option_map (λ (w : Way). w.captures) (cond (length rest == 0) (Some way) (find (λ w. length w.rest == 0) all))
    by [] e = ap Some (append-nil way.captures)
    by (c ∷ rest) e =
        e ∙ ap (option_map (λ (w : Way). w.captures)) (sym (cond-false (length (c ∷ rest) == 0) (Some way) (find (λ (w : Way). length w.rest == 0) all) (ne_eqb (length (c ∷ rest)) 0 (omega arith))))

pub walk_is_first : (ignore_case : Bool) (tree : Items) (steps : List Step) → Walks ignore_case tree steps → (text : List ℕ) → walk ignore_case steps text ≡ first_way_by ignore_case tree text
unfolding first_way_by
walk_is_first ignore_case tree steps walks text =
    ap (λ s. walk ignore_case s text) (sym (append-nil steps))
    ∙ sym (walks.walks [] text)
    ∙ first_tried ignore_case (ways_by ignore_case tree text)
