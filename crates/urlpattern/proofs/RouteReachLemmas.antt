-- Lemmas on the routes that are looked at for a method, and on the automata of their patterns.
use Rattle.std.proofs.Common.{[], ◌≡◌, ◌∙◌, ◌++◌, ◌∷◌, ◌+◌, ◌<◌, ℕ, List, ap, arith, get_or, inl, inr, length, map, refl, subst, sym}
use Rattle.std.proofs.lemmas.Bool.{cases_lt}
use Rattle.std.proofs.lemmas.Grind.{flat_map-append}
use Rattle.std.proofs.lemmas.List.Elements.{All-append, All-cons, All-head, All-nil, All-tail, All-weaker, Contains-append_left, Contains-get_or, Contains-push}
use Rattle.std.proofs.lemmas.Option.{same_Some, slice_get-get_or, slice_get-map, slice_get_cases, slice_get_within}
use Rattle.std.specs.Map.{keys_of}
use Rattle.std.specs.Option.{option_to_list}
use Rattle.std.specs.Prelude.{◌⊎◌, All, Contains, None, Option, Some, option_map, slice_get}
use Rattle.urlpattern.proofs.ListedParts.{zip_push}
use Rattle.urlpattern.specs.Reached.{HasAutomata, HaveAllAutomata}
use Rattle.urlpattern.specs.RouteReach.{AddsRoute, AreIndicesOf}
use Rattle.urlpattern.specs.Routes.{Routes}
use Rattle.urlpattern.specs.declared.router.route.Route.{Route}
use Rattle.urlpattern_compare.specs.CoveringTogether.{AreAscending, at_each}
use Rattle.urlpattern_compare.specs.declared.common_texts.PatternAutomata.{PatternAutomata}
use Rattle.urlpattern_compare.specs.declared.pattern_parts.PatternParts.{PatternParts}
use Rattle.urlpattern_matcher.specs.declared.regexp.RegExp.{Ghosts as Engine}
use Rattle.urlpattern_pattern.specs.UrlPatterns.{UrlPattern}

pub ascending-last : (indices : List ℕ) (last : ℕ) → AreAscending indices → All (λ index. index < last) indices → AreAscending (indices ++ last ∷ [])
ascending-last [] last are below = (All-nil (λ other. last < other), tt)
ascending-last (index ∷ others) last (less, are) below = (
  All-append (λ other. index < other) others (last ∷ []) less
      (All-cons (λ other. index < other) last [] (All-head (λ one. one < last) index others below) (All-nil (λ other. index < other))),
  ascending-last others last are (All-tail (λ one. one < last) index others below),
)

at_each-last : {X : Type 0} (xs : List X) (indices : List ℕ) (last : ℕ) (x : X) → slice_get xs last ≡ Some x → at_each xs (indices ++ last ∷ []) ≡ at_each xs indices ++ x ∷ []
at_each-last {X} xs indices last x is =
    flat_map-append (λ index. option_to_list (slice_get xs index)) indices (last ∷ []) ∙ ap (λ (found : Option X). at_each xs indices ++ (option_to_list found ++ [])) is

module _ {E T : Type 0} (routes : Routes E T) where
  -- A route is at each index within.
  pub there-is : (index : ℕ) → index < length routes → (entry : UrlPattern E × Route T) × (slice_get routes index ≡ Some entry)
  there-is index within = elim (slice_get_cases routes index).1 [
    | inl (entry, inside, there, same) ↦ (entry, there)
    | inr (beyond, none) ↦ absurd (omega (arith, within, beyond))
  ]

  -- Two entries at one index.
  same_entry : (index other : ℕ) (entry another : UrlPattern E × Route T) → index ≡ other → slice_get routes index ≡ Some entry → slice_get routes other ≡ Some another → another ≡ entry
  same_entry index other entry another same is also = same_Some another entry (sym also ∙ ap (slice_get routes) (sym same) ∙ is)

module _ {E T : Type 0} (engine : Engine E) (routes : Routes E T) (Is : Route T → Type 0) where
  abbrev IsOne : ℕ → Type 0
  IsOne index = (entry : UrlPattern E × Route T) × (slice_get routes index ≡ Some entry) × Is entry.1

  -- What is known of the indices and the automata, after the routes before an index.
  pub record AreBefore (end : ℕ) (indices : List ℕ) (all : List PatternAutomata) : Type 0 where
    pub ascending : AreAscending indices
    pub below : All (λ index. index < end) indices
    pub are : All IsOne indices
    pub each : (index : ℕ) (entry : UrlPattern E × Route T) → index < end → slice_get routes index ≡ Some entry → Is entry.1 → Contains indices index
    pub have : HaveAllAutomata engine (at_each (keys_of routes) indices) all

  pub before-none : AreBefore 0 [] []
  before-none =
      record { ascending = tt; below = All-nil (λ index. index < 0); are = All-nil IsOne; each = λ index entry lt is has. absurd (omega (arith, lt)); have = tt }

  passed : (end : ℕ) (indices : List ℕ) (all : List PatternAutomata) (entry : UrlPattern E × Route T) → slice_get routes end ≡ Some entry → ¬ Is entry.1 → AreBefore end indices all
      → AreBefore (end + 1) indices all
  passed end indices all entry there lacks before = record {
    ascending = before.ascending;
    below = All-weaker (λ index. index < end) (λ index. index < end + 1) (λ index lt. omega (arith, lt)) indices before.below;
    are = before.are;
    each = λ index other lt is has. elim (cases_lt index end) [
      | inl earlier ↦ before.each index other earlier is has
      | inr later ↦
          let same : index ≡ end = omega (arith, lt, later) in
          absurd (lacks (subst (λ (one : UrlPattern E × Route T). Is one.1) (same_entry routes end index entry other (sym same) there is) has))
    ];
    have = before.have;
  }

  added : (end : ℕ) (indices : List ℕ) (all : List PatternAutomata) (entry : UrlPattern E × Route T) (automata : PatternAutomata) → slice_get routes end ≡ Some entry → Is entry.1
      → HasAutomata engine entry.0 automata → AreBefore end indices all → AreBefore (end + 1) (indices ++ end ∷ []) (all ++ automata ∷ [])
  added end indices all entry automata there holds has_automata before =
      let key : slice_get (keys_of routes) end ≡ Some entry.0 =
      slice_get-map (λ (entry : UrlPattern E × Route T). entry.0) routes end ∙ ap (option_map (λ (entry : UrlPattern E × Route T). entry.0)) there in
      record {
        ascending = ascending-last indices end before.ascending before.below;
        below = All-append (λ index. index < end + 1) indices (end ∷ [])
            (All-weaker (λ index. index < end) (λ index. index < end + 1) (λ index lt. omega (arith, lt)) indices before.below)
            (All-cons (λ index. index < end + 1) end [] (omega arith) (All-nil (λ index. index < end + 1)));
        are = All-append IsOne indices (end ∷ []) before.are (All-cons IsOne end [] (entry, there, holds) (All-nil IsOne));
        each = λ index other lt is has. elim (cases_lt index end) [
          | inl earlier ↦ Contains-append_left indices (end ∷ []) index (before.each index other earlier is has)
          | inr later ↦
              let same : end ≡ index = omega (arith, lt, later) in
              subst (Contains (indices ++ end ∷ [])) same (Contains-push indices end)
        ];
        have = subst (λ patterns. HaveAllAutomata engine patterns (all ++ automata ∷ [])) (sym (at_each-last (keys_of routes) indices end entry.0 key))
            (zip_push (HasAutomata engine) (at_each (keys_of routes) indices) all entry.0 automata before.have has_automata);
      }

  -- The route at an index is passed over or added.
  pub before-more : (end : ℕ) (old new : List ℕ) (all more : List PatternAutomata) (entry : UrlPattern E × Route T) → slice_get routes end ≡ Some entry → AddsRoute engine routes Is end old all new more
      → AreBefore end old all → AreBefore (end + 1) new more
  before-more end old new all more entry there adds before = elim (adds entry there) [
    | inl (lacks, same, same_all) ↦
        subst (λ list. AreBefore (end + 1) list more) (sym same) (subst (λ list. AreBefore (end + 1) old list) (sym same_all) (passed end old all entry there lacks before))
    | inr (holds, longer, automata, longer_all, has) ↦
        subst (λ list. AreBefore (end + 1) list more) (sym longer)
        (subst (λ list. AreBefore (end + 1) (old ++ end ∷ []) list) (sym longer_all) (added end old all entry automata there holds has before))
  ]

  -- After all routes.
  pub all-before : (end : ℕ) (indices : List ℕ) (all : List PatternAutomata) → end ≡ length routes → AreBefore end indices all → AreIndicesOf routes Is indices
  all-before end indices all is_end before = record {
    ascending = before.ascending;
    are = before.are;
    each = λ index entry is has.
        let within = slice_get_within routes index entry is in
        before.each index entry (omega (arith, within, is_end)) is has;
  }
