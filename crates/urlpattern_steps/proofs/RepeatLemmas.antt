-- Repeats: their matches and their steps.
use Rattle.std.proofs.Common.{◌≡◌, ℕ, ◌+◌, List, [], ◌∷◌, ◌++◌, length, take, Option, Some, None, option_map, Bool, true, false, cond, refl, sym, ap, ap₂, ◌∙◌, subst, append_assoc, zero-add, arith}
use Rattle.std.proofs.lemmas.Bool.{le-ltb}
use Rattle.std.specs.Option.{option_or}
use Rattle.std.proofs.Math.Seq.{take-append_seam}
use Rattle.urlpattern_meaning.specs.Dialect.{Quantifier, ZeroOrMore, OneOrMore, Items, Item, Atom, Grouped, atom_group_count, group_count}
use Rattle.urlpattern_meaning.specs.Ways.{WaysByText, empty_way, is_shorter, looped, more_rounds, quantified_ways, atom_ways_by, ways_by}
use Rattle.urlpattern_steps.specs.declared.step_tokens.GroupQuantifier.{GroupQuantifier}
use Rattle.urlpattern_steps.specs.declared.step_tokens.GroupQuantifier.TheVariants as often
use Rattle.urlpattern_steps.specs.declared.step.Step.{Step}
use Rattle.urlpattern_steps.specs.declared.step.Step.TheVariants.{Literal, RepeatedLiteral}
use Rattle.urlpattern_steps.specs.ReadSteps.{AreLiterals, quantifier_of}
use Rattle.urlpattern_steps.specs.Walk.{Continuation, capture_count, literals, after_text, repeated, walk, walk_after}
use Rattle.urlpattern_steps.proofs.Tried.{Next, Given, given, bare, tried, tried-append, before_next, option_map-still}
use Rattle.urlpattern_steps.proofs.Rounds.{Takes, Keeps, Advances, advances-after, beyond, keeps-after, keeps-any, keeps-some, takes-looped, takes-looped_or_not, takes-then, then, tried-then, tried_idle}
use Rattle.urlpattern_steps.proofs.Walks.{AtomWalks, Walks, after_atom, capture_count-append, literals_uncaptured, walk_after-own}

-- The quantifier of a repeated literal.
abbrev pub copied : (allows_zero : Bool) → Quantifier
copied true = ZeroOrMore
copied false = OneOrMore

-- The result, by the captures of a match and the rest.
abbrev led_on : Next → Given
led_on next taken captures rest = option_map (λ others. captures ++ others) (next rest)

looped_takes : (allows_zero : Bool) (groups : ℕ) (atom : WaysByText) (round : Continuation → Continuation) → groups ≡ 0 → Takes atom round → Advances round
    → Takes (quantified_ways (copied allows_zero) groups atom) (repeated allows_zero round)
looped_takes true groups atom round none takes advances =
    let all = takes-looped_or_not atom round takes advances in
    record {
      takes = λ h front text. ap (λ n. tried (given (λ taken captures rest. h (front ++ taken) captures rest)) (looped true atom text ++ empty_way n text ∷ [])) none ∙ all.takes h front text;
    }
looped_takes false groups atom round none takes advances = takes-looped atom round takes advances

keeps_repeated : (allows_zero : Bool) (round : Continuation → Continuation) → Advances round → Keeps (repeated allows_zero round)
keeps_repeated true round advances = keeps-any round advances
keeps_repeated false round advances = keeps-some round advances

-- A choice without captures is followed by the next steps on the rest.
taken_next : (choice : WaysByText) (round : Continuation → Continuation) → Takes choice round → Keeps round → (next : Next) (text : List ℕ)
    → tried (before_next next) (choice text) ≡ round (λ front rest. next rest) [] text
taken_next choice round takes keeps next text =
    takes.takes (led_on next) [] text
    ∙ keeps.same (bare (led_on next)) (λ front rest. next rest) [] text (λ before rest le. option_map-still (next rest))

pub walks-copies : (ignore_case : Bool) (allows_zero : Bool) (atom : Atom) (items : Items) (c : ℕ) (own others : List Step) → AtomWalks ignore_case atom (Literal c ∷ own) → AreLiterals own → Walks ignore_case items others
    → Walks ignore_case (Item atom (copied allows_zero) items)
    (RepeatedLiteral (record { text = record { first = c; others = length own }; allows_zero = allows_zero }) ∷ (own ++ others))
walks-copies ignore_case allows_zero atom items c own others first plain next =
    let none : atom_group_count atom ≡ 0 = first.count ∙ literals_uncaptured own plain in
    let round : Continuation → Continuation = after_text ignore_case (c ∷ literals own) in
    let takes = looped_takes allows_zero (atom_group_count atom) (atom_ways_by ignore_case atom) round none (first.text plain) (advances-after ignore_case c (literals own)) in
    let keeps = keeps_repeated allows_zero round (advances-after ignore_case c (literals own)) in
    record {
      count = ap₂ (λ m n. m + n) first.count next.count ∙ sym (capture_count-append own others);
      text = λ plain. absurd plain;
      walks = λ after text.
          let all = (own ++ others) ++ after in
          let seam : all ≡ own ++ (others ++ after) = append_assoc own others after in
          let left : take (length own) all ≡ own = ap (take (length own)) seam ∙ take-append_seam own (others ++ after) in
          after_atom ignore_case items others next after (quantified_ways (copied allows_zero) (atom_group_count atom) (atom_ways_by ignore_case atom) text)
          ∙ taken_next _ (repeated allows_zero round) takes keeps (walk ignore_case (others ++ after)) text
          ∙ keeps.same (λ front rest. walk ignore_case (others ++ after) rest) (λ front rest. walk_after ignore_case (length own) all rest) [] text
          (λ before rest le. sym (walk_after-own ignore_case own (others ++ after) rest) ∙ ap (λ l. walk_after ignore_case (length own) l rest) (sym seam))
          ∙ ap (λ l. repeated allows_zero (after_text ignore_case (c ∷ literals l)) (λ front rest. walk_after ignore_case (length own) all rest) [] text) (sym left);
    }

-- ---- groups that match only the empty text

twice_one : {A : Type 0} (o : Option A) → option_or o o ≡ o
twice_one None = refl
twice_one (Some x) = refl

looped_nothing : (ignore_case : Bool) (atom : WaysByText) → Takes atom (after_text ignore_case []) → Takes (looped true atom) (after_text ignore_case [])
looped_nothing ignore_case atom takes = record {
  takes = λ h front text.
      let next : WaysByText = λ rest. cond (is_shorter rest text) (more_rounds true atom (length rest) rest) (empty_way 0 rest ∷ []) in
      let same : is_shorter text text ≡ false = le-ltb (length text) (length text) (omega arith) in
      tried-then h front next (atom text)
      ∙ takes.takes (then next h) front text
      ∙ ap (λ b. tried (λ more. h (front ++ more.taken) more.captures more.rest) (cond b (more_rounds true atom (length text) text) (empty_way 0 text ∷ []))) same
      ∙ tried_idle h front text;
}

or_nothing : (ignore_case : Bool) (choice : WaysByText) → Takes choice (after_text ignore_case []) → Takes (λ text. choice text ++ empty_way 0 text ∷ []) (after_text ignore_case [])
or_nothing ignore_case choice takes = record {
  takes = λ h front text.
      tried-append (given (beyond front h)) (choice text) (empty_way 0 text ∷ [])
      ∙ ap₂ option_or (takes.takes h front text) (tried_idle h front text)
      ∙ twice_one (h front [] text);
}

quantified_nothing : (ignore_case : Bool) (times : GroupQuantifier) (atom : WaysByText) → Takes atom (after_text ignore_case []) → Takes (quantified_ways (quantifier_of times) 0 atom) (after_text ignore_case [])
quantified_nothing ignore_case often.Once atom takes = takes
quantified_nothing ignore_case often.Optional atom takes = or_nothing ignore_case atom takes
quantified_nothing ignore_case often.ZeroOrMore atom takes = or_nothing ignore_case (looped true atom) (looped_nothing ignore_case atom takes)
quantified_nothing ignore_case often.OneOrMore atom takes = looped_nothing ignore_case atom takes

-- A group that matches only the empty text adds no steps, whatever its quantifier.
pub walks-nothing_grouped : (ignore_case : Bool) (times : GroupQuantifier) (inner items : Items) (others : List Step) → Walks ignore_case inner [] → Walks ignore_case items others → Walks ignore_case (Item (Grouped inner) (quantifier_of times) items) others
walks-nothing_grouped ignore_case times inner items others first next =
    let takes : Takes (quantified_ways (quantifier_of times) (group_count inner) (ways_by ignore_case inner)) (after_text ignore_case []) =
    subst (λ n. Takes (quantified_ways (quantifier_of times) n (ways_by ignore_case inner)) (after_text ignore_case [])) (sym first.count) (quantified_nothing ignore_case times (ways_by ignore_case inner) (first.text tt)) in
    record {
      count = ap₂ (λ m n. m + n) first.count next.count ∙ zero-add (capture_count others);
      text = λ plain. let both = takes-then _ (ways_by ignore_case items) (after_text ignore_case []) (after_text ignore_case (literals others)) takes (keeps-after ignore_case []) (next.text plain) in record { takes = both.takes };
      walks = λ after text.
          after_atom ignore_case items others next after (quantified_ways (quantifier_of times) (group_count inner) (ways_by ignore_case inner) text)
          ∙ taken_next _ (after_text ignore_case []) takes (keeps-after ignore_case []) (walk ignore_case (others ++ after)) text;
    }
