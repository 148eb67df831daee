-- Separated runs: their matches and their steps.
use Rattle.std.proofs.Common.{◌≡◌, ℕ, List, [], ◌∷◌, ◌++◌, map, length, Some, option_map, Bool, refl, sym, ap, ◌∙◌, subst, arith}
use Rattle.std.proofs.Math.Seq.{take-append_seam}
use Rattle.urlpattern_meaning.specs.Dialect.{Captured, Character, Grouped, Item, Items, Literal, Nothing, Once, ZeroOrMore, character_of, group_count}
use Rattle.urlpattern_meaning.specs.Ways.{one_that, quantified_ways, ways_by}
use Rattle.urlpattern_steps.specs.declared.step.Step.{Step}
use Rattle.urlpattern_steps.specs.ReadSteps.{AreLiterals, AreSegments, IsRunOf, literal_steps}
use Rattle.urlpattern_steps.specs.Walk.{Continuation, after_separator, after_text, any_rounds, captured_prefix, literals, segmented, single_run, walk, walk_after}
use Rattle.urlpattern_steps.proofs.LongestLemmas.{captured_takes, keeps-run, run_uncaptured, takes-run}
use Rattle.urlpattern_steps.proofs.Rounds.{Advances, Keeps, Takes, advances-after, advances-then, after-append, keeps-after, keeps-any, keeps-then, takes-looped_or_not, takes-nothing, takes-one, takes-then}
use Rattle.urlpattern_steps.proofs.Walks.{AtomWalks, literals_uncaptured, walk_after-own}
use Rattle.urlpattern_meaning.specs.Matching.{is_same_character}

-- ---- sequences of characters

-- The items of these characters, followed by others.
abbrev pub in_order : List Character → Items → Items
in_order [] items = items
in_order (character ∷ characters) items = Item (Literal character) Once (in_order characters items)

pub in_order_count : (characters : List Character) (items : Items) → group_count (in_order characters items) ≡ group_count items
in_order_count [] items = refl
in_order_count (character ∷ characters) items = omega (arith, in_order_count characters items)

pub literal_steps-plain : (characters : List Character) → AreLiterals (literal_steps characters)
literal_steps-plain [] = tt
literal_steps-plain (character ∷ characters) = literal_steps-plain characters

literal_steps-text : (characters : List Character) → literals (literal_steps characters) ≡ map character_of characters
literal_steps-text [] = refl
literal_steps-text (character ∷ characters) = ap (λ l. character_of character ∷ l) (literal_steps-text characters)

takes-in_order : (ignore_case : Bool) (characters : List Character) (items : Items) (round : Continuation → Continuation) → Takes (ways_by ignore_case items) round
    → Takes (ways_by ignore_case (in_order characters items)) (after_separator ignore_case (map character_of characters) round)
takes-in_order ignore_case [] items round takes = takes
takes-in_order ignore_case (character ∷ characters) items round takes =
    let c = character_of character in
    let others : Continuation → Continuation = after_separator ignore_case (map character_of characters) round in
    let both = takes-then (one_that (λ other. is_same_character ignore_case other c)) (ways_by ignore_case (in_order characters items)) (after_text ignore_case (c ∷ [])) others (takes-one ignore_case c) (keeps-after ignore_case (c ∷ [])) (takes-in_order ignore_case characters items round takes) in
    record { takes = λ h front text. both.takes h front text ∙ after-append ignore_case (c ∷ []) (map character_of characters) (round (λ front rest. h front [] rest)) front text }

-- ---- separated runs

pub advances-separator : (ignore_case : Bool) (c : ℕ) (literal : List ℕ) (is_greedy : Bool) (end : ℕ) → Advances (after_separator ignore_case (c ∷ literal) (single_run ignore_case is_greedy end))
advances-separator ignore_case c literal is_greedy end = advances-then (after_text ignore_case (c ∷ literal)) (single_run ignore_case is_greedy end) (advances-after ignore_case c literal) (keeps-run ignore_case is_greedy end)

pub keeps-segmented : (ignore_case : Bool) (c : ℕ) (literal : List ℕ) (is_greedy : Bool) (end : ℕ) → Keeps (segmented ignore_case (c ∷ literal) (single_run ignore_case is_greedy end))
keeps-segmented ignore_case c literal is_greedy end =
    keeps-then (single_run ignore_case is_greedy end) (any_rounds (after_separator ignore_case (c ∷ literal) (single_run ignore_case is_greedy end))) (keeps-run ignore_case is_greedy end)
    (keeps-any (after_separator ignore_case (c ∷ literal) (single_run ignore_case is_greedy end)) (advances-separator ignore_case c literal is_greedy end))

-- A run, followed by any number of separators and runs.
abbrev pub segment_items : (first : Items) → List Character → (second : Items) → Items
segment_items first characters second = Item (Grouped first) Once (Item (Grouped (in_order characters (Item (Grouped second) Once Nothing))) ZeroOrMore Nothing)

inner_count : (end : ℕ) (is_greedy : Bool) (characters : List Character) (second : Items) → IsRunOf end is_greedy second
    → group_count (in_order characters (Item (Grouped second) Once Nothing)) ≡ 0
inner_count end is_greedy characters second is =
    let none = run_uncaptured end is_greedy second is in
    omega (arith, none, in_order_count characters (Item (Grouped second) Once Nothing))

pub takes-segments : (ignore_case : Bool) (end : ℕ) (is_greedy : Bool) (first : Items) (characters : List Character) (second : Items) (c : ℕ) (literal : List ℕ)
    → IsRunOf end is_greedy first → IsRunOf end is_greedy second → map character_of characters ≡ c ∷ literal
    → Takes (ways_by ignore_case (segment_items first characters second)) (segmented ignore_case (c ∷ literal) (single_run ignore_case is_greedy end))
takes-segments ignore_case end is_greedy first characters second c literal one two e =
    let single : Continuation → Continuation = single_run ignore_case is_greedy end in
    let round : Continuation → Continuation = after_separator ignore_case (c ∷ literal) single in
    let inner : Items = in_order characters (Item (Grouped second) Once Nothing) in
    let advances = advances-separator ignore_case c literal is_greedy end in
    let last : Takes (ways_by ignore_case (Item (Grouped second) Once Nothing)) single =
    takes-then (ways_by ignore_case second) (ways_by ignore_case Nothing) single (after_text ignore_case []) (takes-run ignore_case end is_greedy second two) (keeps-run ignore_case is_greedy end) (takes-nothing ignore_case) in
    let more : Takes (ways_by ignore_case inner) round =
    subst (λ l. Takes (ways_by ignore_case inner) (after_separator ignore_case l single)) e (takes-in_order ignore_case characters (Item (Grouped second) Once Nothing) single last) in
    let loop : Takes (quantified_ways ZeroOrMore (group_count inner) (ways_by ignore_case inner)) (any_rounds round) =
    subst (λ n. Takes (quantified_ways ZeroOrMore n (ways_by ignore_case inner)) (any_rounds round)) (sym (inner_count end is_greedy characters second two)) (takes-looped_or_not (ways_by ignore_case inner) round more advances) in
    let rest : Takes (ways_by ignore_case (Item (Grouped inner) ZeroOrMore Nothing)) (any_rounds round) =
    takes-then (quantified_ways ZeroOrMore (group_count inner) (ways_by ignore_case inner)) (ways_by ignore_case Nothing) (any_rounds round) (after_text ignore_case []) loop (keeps-any round advances) (takes-nothing ignore_case) in
    takes-then (ways_by ignore_case first) (ways_by ignore_case (Item (Grouped inner) ZeroOrMore Nothing)) single (any_rounds round) (takes-run ignore_case end is_greedy first one) (keeps-run ignore_case is_greedy end) rest

pub walks-segments : (ignore_case : Bool) (end : ℕ) (is_greedy : Bool) (first : Items) (characters : List Character) (second : Items) (own : List Step)
    → IsRunOf end is_greedy first → IsRunOf end is_greedy second → AreSegments end is_greedy characters own
    → AtomWalks ignore_case (Captured (segment_items first characters second)) own
walks-segments ignore_case end is_greedy first characters second own one two (c, others, e, is) =
    let plain : AreLiterals others = subst AreLiterals e (literal_steps-plain characters) in
    let spelled : map character_of characters ≡ c ∷ literals others = sym (literal_steps-text characters) ∙ ap literals e in
    let single : Continuation → Continuation = single_run ignore_case is_greedy end in
    let takes = takes-segments ignore_case end is_greedy first characters second c (literals others) one two spelled in
    let keeps = keeps-segmented ignore_case c (literals others) is_greedy end in
    subst (λ (steps : List Step). AtomWalks ignore_case (Captured (segment_items first characters second)) steps) (sym is)
    (record {
      count =
          let none = literals_uncaptured others plain in
          let first_none = run_uncaptured end is_greedy first one in
          let inner_none = inner_count end is_greedy characters second two in
          omega (arith, none, first_none, inner_none);
      text = λ plain. absurd plain;
      walks = λ after text.
          let all = others ++ after in
          captured_takes (ways_by ignore_case (segment_items first characters second)) (segmented ignore_case (c ∷ literals others) single) takes (walk ignore_case after) text
          ∙ keeps.same (captured_prefix (walk ignore_case after)) (captured_prefix (walk_after ignore_case (length others) all)) [] text
          (λ before rest le. ap (option_map (λ more. Some before ∷ more)) (sym (walk_after-own ignore_case others after rest)))
          ∙ ap (λ l. segmented ignore_case (c ∷ literals l) single (captured_prefix (walk_after ignore_case (length others) all)) [] text) (sym (take-append_seam others after));
    })
