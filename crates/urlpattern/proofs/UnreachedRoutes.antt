-- Routes that are never reached serve no request.
use Rattle.std.proofs.Common.{◌≡◌, ◌∙◌, ◌<◌, ℕ, zero, suc, List, [], ◌∷◌, inl, inr, refl, subst, sym}
use Rattle.std.proofs.lemmas.List.Elements.{All-append, All-cons, All-contains, All-head, All-nil, All-tail, All-weaker}
use Rattle.std.proofs.lemmas.Option.{none-some, same_Some}
use Rattle.std.specs.Borrow.{Bor}
use Rattle.std.specs.List.{range_with_len}
use Rattle.std.specs.Map.{keys_of}
use Rattle.std.specs.Option.{option_to_list}
use Rattle.std.specs.Prelude.{All, Option, None, Some, Vec, codes, slice_get}
use Rattle.std.specs.declared.alloc.Global.{Global}
use Rattle.urlpattern.proofs.ConflictLemmas.{kept-all, range-below}
use Rattle.urlpattern.proofs.ReachedLaws.{HasView, SameMatch, some_match}
use Rattle.urlpattern.specs.Conflicts.{AreEarlier, IsOneUnreached, OfRoutes, Reports, TakesAllOf, UnreachedServeNothing}
use Rattle.urlpattern.specs.Reached.{HasAutomata, HaveAllAutomata}
use Rattle.urlpattern.specs.Routes.{DoesNotServe, IsRouteFound, NoneServesBefore, Routes, Takes}
use Rattle.urlpattern.specs.declared.router.UrlPatternRouter.{UrlPatternRouter}
use Rattle.urlpattern.specs.declared.router.route.Route.{Route}
use Rattle.urlpattern.specs.declared.router.route_conflicts.Unreached.{Unreached}
use Rattle.urlpattern.specs.declared.router.route_conflicts.Unreached.TheVariants.{Never}
use Rattle.urlpattern_compare.proofs.TogetherLemmas.{all_each}
use Rattle.urlpattern_compare.specs.Candidates.{AreLines}
use Rattle.urlpattern_compare.specs.CoveringTogether.{AreCovering, at_each}
use Rattle.urlpattern_compare.specs.Reaching.{IsReach}
use Rattle.urlpattern_compare.specs.declared.candidates.Limits.{Limits}
use Rattle.urlpattern_compare.specs.declared.common_texts.PatternAutomata.{PatternAutomata}
use Rattle.urlpattern_compare.specs.declared.reaching.Reach.{Reach}
use Rattle.urlpattern_compare.specs.declared.reaching.Reach.TheVariants as reaches
use Rattle.urlpattern_components.specs.Eight.{Texts, at}
use Rattle.urlpattern_components.specs.declared.eight.ComponentName.{ComponentName}
use Rattle.urlpattern_laws.specs.PartReadings.{OwnPartsMean}
use Rattle.urlpattern_matcher.specs.declared.regexp.RegExp.{Ghosts as Engine}
use Rattle.urlpattern_matches.specs.declared.captures.UrlPatternCaptures.{UrlPatternCaptures}
use Rattle.urlpattern_meaning.specs.Matching.{IsMatched}
use Rattle.urlpattern_pattern.specs.Patterns.{PatternView, pattern_view}
use Rattle.urlpattern_pattern.specs.UrlPatterns.{UrlPattern}

-- What holds for the values at indices.
all-at : {X : Type 0} (P : X → Type 0) (xs : List X) (indices : List ℕ) → All (λ index. (x : X) → slice_get xs index ≡ Some x → P x) indices → All P (at_each xs indices)
all-at P xs [] each = All-nil P
all-at {X} P xs (index ∷ indices) each =
    All-append P (option_to_list (slice_get xs index)) (at_each xs indices) (by (slice_get xs index) refl)
    (all-at P xs indices (All-tail (λ index. (x : X) → slice_get xs index ≡ Some x → P x) index indices each))
  where
    by : (found : Option X) → slice_get xs index ≡ found → All P (option_to_list found)
    by None there = All-nil P
    by (Some x) there = All-cons P x [] (All-head (λ index. (x : X) → slice_get xs index ≡ Some x → P x) index indices each x there) (All-nil P)

-- The patterns that cover a route that is never reached.
covered : (limits : Limits) (patterns : List PatternAutomata) (earlier : List ℕ) (asked : PatternAutomata) (why : Unreached) (by : Vec ℕ Global) (reach : Reach) → IsReach limits patterns asked reach → Reports earlier reach (Some why)
    → why ≡ Never by → (places : List ℕ) × AreCovering (at_each patterns places) asked
covered limits patterns earlier asked why by (reaches.First texts) is says never = absurd cc
covered limits patterns earlier asked why by (reaches.Never places) is says never = (places.items, is.cover)
covered limits patterns earlier asked why by (reaches.Unknown doubt) is says never = absurd cc

module _ {E : Type 0} (engine : Engine E) where
  abbrev Matched : Texts → PatternView E → Type 0
  Matched texts view = (name : ComponentName) → IsMatched engine.answer (view name).matcher (at texts name)

  abbrev Unmatched : Texts → PatternView E → Type 0
  Unmatched texts view = ¬ Matched texts view

module _ {E T : Type 0} (engine : Engine E) where
  automata_at : (routes : Routes E T) (all : List PatternAutomata) → HaveAllAutomata engine (keys_of routes) all → (index : ℕ) (entry : UrlPattern E × Route T) → slice_get routes index ≡ Some entry
      → (it : PatternAutomata) → slice_get all index ≡ Some it → HasAutomata engine entry.0 it
  automata_at [] all have index entry there it it_there = absurd (none-some entry there)
  automata_at (own ∷ routes) [] have index entry there it it_there = absurd have
  automata_at (own ∷ routes) (other ∷ all) have zero entry there it it_there =
      let same : own ≡ entry = same_Some own entry there in
      let also : other ≡ it = same_Some other it it_there in
      subst (λ (one : UrlPattern E × Route T). HasAutomata engine one.0 it) same (subst (HasAutomata engine own.0) also have.0)
  automata_at (own ∷ routes) (other ∷ all) have (suc index) entry there it it_there = automata_at routes all have.1 index entry there it it_there

  unmatched : (texts : Texts) (Is : Route T → Type 0) (entry : UrlPattern E × Route T) → DoesNotServe engine.answer Is texts entry → Is entry.1 → Unmatched engine texts (pattern_view entry.0)
  unmatched texts Is (pattern, route) none holds = λ each. elim none [
    | inl lacks ↦ lacks holds
    | inr (name, refused) ↦ refused (each name).0 (each name).1
  ]

  -- An earlier route that takes each method of one that is served does not match.
  earlier_fails : (routes : Routes E T) (all : List PatternAutomata) → HaveAllAutomata engine (keys_of routes) all → (index : ℕ) (entry : UrlPattern E × Route T) → slice_get routes index ≡ Some entry
      → (texts : Texts) (method : List ℕ) → Takes method entry.1 → NoneServesBefore engine.answer routes (Takes method) texts index
      → (before : ℕ) → (before < index) × OfRoutes routes TakesAllOf before index → (it : PatternAutomata) → slice_get all before ≡ Some it → HasView engine (Unmatched engine texts) it
  earlier_fails routes all have index entry there texts method takes none before (lt, (one, another, one_there, another_there, takes_all)) it it_there =
      let same : another ≡ entry = same_Some another entry (sym another_there ∙ there) in
      let also : Takes method one.1 = takes_all method (subst (λ (it : UrlPattern E × Route T). Takes method it.1) (sym same) takes) in
      (pattern_view one.0, (automata_at routes all have before one one_there it it_there).made, unmatched texts (Takes method) one (none before one lt one_there) also)

  module _ (mean : OwnPartsMean engine) (same_match : SameMatch engine) where
    not_found : (routes : Routes E T) (all : List PatternAutomata) → HaveAllAutomata engine (keys_of routes) all → (index : ℕ) (asked : PatternAutomata) → slice_get all index ≡ Some asked
        → (earlier places : List ℕ) → AreEarlier routes index earlier → AreCovering (at_each (at_each all earlier) places) asked → (texts : Texts) → AreLines (λ name. at texts name)
        → (method : List ℕ) (value : Bor T) (captures : UrlPatternCaptures) → ¬ IsRouteFound engine.answer routes (Takes method) texts (Some (index, value, captures))
    not_found routes all have index asked asked_there earlier places are cover texts lines method value captures ((entry, there, takes, same, match, groups), none) =
        let Fails : PatternAutomata → Type 0 = HasView engine (Unmatched engine texts) in
        let each : All (λ before. (before < index) × OfRoutes routes TakesAllOf before index) earlier =
        kept-all (λ before. OfRoutes routes TakesAllOf before index) (λ before. before < index) (range_with_len 0 index) earlier (range-below index) are in
        let all_fail : All Fails (at_each all earlier) =
        all-at Fails all earlier (All-weaker (λ before. (before < index) × OfRoutes routes TakesAllOf before index) (λ before. (it : PatternAutomata) → slice_get all before ≡ Some it → Fails it)
        (earlier_fails routes all have index entry there texts method takes none) earlier each) in
        some_match engine mean same_match (at_each (at_each all earlier) places) asked (λ name. at texts name) cover lines
        (pattern_view entry.0, (automata_at routes all have index entry there asked asked_there).made, λ name. (match.captures name, match.are_answers name))
        (all_each Fails (at_each all earlier) places all_fail)

    pub unreached_serve_nothing : (router : UrlPatternRouter T E) → UnreachedServeNothing engine router
    unreached_serve_nothing router limits found (all, have, conflicts) one by has never method texts lines value captures served =
        let (asked, asked_there, (earlier, are, (reach, is_reach, says))) = All-contains (IsOneUnreached limits router.routes all) found.unreached.items one conflicts.unreached.unreached has in
        let (places, cover) = covered limits (at_each all earlier) earlier asked one.found by reach is_reach says never in
        let missed : (method : List ℕ) → ¬ IsRouteFound engine.answer router.routes (Takes method) texts (Some (one.route, value, captures)) =
        λ method. not_found router.routes all have one.route asked asked_there earlier places are cover texts lines method value captures in
        missed method (served.other (λ head. elim (served.head head) [
          | inl own ↦ missed (codes "HEAD") own.0
          | inr (no_own, get) ↦ missed (codes "GET") get
        ]))
