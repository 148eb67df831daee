-- Lemmas on routes whose pattern is one of a path alone.
use Rattle.std.proofs.Common.{Bool, true, false, ◌≡◌, ℕ, List, ap, inl, inr, length, subst, sym, ◌∙◌}
use Rattle.std.proofs.lemmas.Option.{same_Some, slice_get-map, slice_get_within}
use Rattle.std.specs.Borrow.{Bor}
use Rattle.std.specs.Map.{keys_of}
use Rattle.std.specs.Prelude.{Option, Some, option_map, slice_get, ◌&&◌}
use Rattle.urlpattern.specs.PatternKeys.{IsTemplateAt}
use Rattle.urlpattern.specs.QuickRoutes.{Any, IsPassed, IsQuick, IsQuickAt, quick_end}
use Rattle.urlpattern.specs.Routes.{IsHead, IsRouted, NoneMatches, NoneServesAt, NoneServesBefore, Routes, Takes}
use Rattle.urlpattern.specs.declared.router.UrlPatternRouter.{UrlPatternRouter}
use Rattle.urlpattern.specs.declared.router.quick.Quick.{Quick}
use Rattle.urlpattern.specs.declared.router.quick.Quick.TheVariants.{NotFound, Served, Unknown}
use Rattle.urlpattern.specs.declared.router.route.Route.{Route}
use Rattle.urlpattern.specs.declared.router.routed.Routed.TheVariants.{Found}
use Rattle.urlpattern_components.specs.Eight.{Texts}
use Rattle.urlpattern_matches.specs.BorrowedMatches.{groups_view, pattern_captures_view}
use Rattle.urlpattern_matches.specs.MatchInput.{pathname_alone}
use Rattle.urlpattern_matches.specs.declared.captures.GroupCaptures.{GroupCaptures}
use Rattle.urlpattern_matches.specs.declared.captures.UrlPatternCaptures.{UrlPatternCaptures}
use Rattle.urlpattern_components.specs.declared.eight.ComponentName.TheVariants.{Pathname}
use Rattle.urlpattern_init.specs.UrlTexts.{IsLine}
use Rattle.urlpattern_meaning.specs.Matching.{Returns}
use Rattle.urlpattern_meaning.specs.PartMeaning.{Captures}
use Rattle.urlpattern_paths.specs.PathsAlone.{IsReadBy}
use Rattle.urlpattern_paths.specs.Templates.{template_captured}
use Rattle.urlpattern_paths.specs.declared.template.PathTemplate.{PathTemplate}
use Rattle.urlpattern_pattern.specs.Match.{AreGroupsInOrder, IsMatchOf}
use Rattle.urlpattern_pattern.specs.Patterns.{PatternView, pattern_view}
use Rattle.urlpattern_pattern.specs.UrlPatterns.{UrlPattern}

-- What the template of a pattern captures in a line is what the matcher of the path returns.
pub returned-by : {E : Type 0} (answer : E → List ℕ → Option Captures) (pattern : PatternView E) (template : PathTemplate) (path : List ℕ) (found : Option Captures) → IsReadBy answer pattern template
    → IsLine path → template_captured template path ≡ found → Returns answer (pattern Pathname).matcher path found
returned-by answer pattern template path found read line is = subst (λ (found : Option Captures). Returns answer (pattern Pathname).matcher path found) is (read.path path line)

module _ {E T : Type 0} (answer : E → List ℕ → Option Captures) where
  -- A route that is passed does not match, nor do the routes before it.
  pub next-passed : (routes : Routes E T) (Is : Route T → Type 0) (texts : Texts) (index : ℕ) (missing unmatched : Bool) → IsPassed answer routes Is texts index unmatched
      → (missing ≡ true → NoneServesBefore answer routes Any texts index) → (missing && unmatched) ≡ true → NoneServesBefore answer routes Any texts index × NoneServesAt answer routes Any texts index
  next-passed routes Is texts index true true passed none is = (none is, passed.1 is)
  next-passed routes Is texts index true false passed none is = absurd cc
  next-passed routes Is texts index false unmatched passed none is = absurd cc

  -- The pattern of a route is read by the template at its index.
  pub template-at : (routes : Routes E T) (index : ℕ) (template : PathTemplate) (pattern : UrlPattern E) (route : Route T) → IsTemplateAt answer (keys_of routes) index template
      → Some (pattern, route) ≡ slice_get routes index → IsReadBy answer (pattern_view pattern) template
  template-at routes index template pattern route read is =
      read pattern (slice_get-map (λ (one : UrlPattern E × Route T). one.0) routes index ∙ ap (option_map (λ (one : UrlPattern E × Route T). one.0)) (sym is))

  -- A route for which `Is` does not hold.
  pub refused-at : (routes : Routes E T) (Is : Route T → Type 0) (texts : Texts) (pattern : UrlPattern E) (route : Route T) (index : ℕ) → Some (pattern, route) ≡ slice_get routes index → ¬ Is route
      → NoneServesAt answer routes Is texts index
  refused-at routes Is texts pattern route index is other = λ entry there.
      inl (subst (λ (one : UrlPattern E × Route T). ¬ Is one.1) (same_Some (pattern, route) entry (is ∙ there)) other)

  -- No route matches, if none of any kind serves.
  none-of_any : (routes : Routes E T) (texts : Texts) → NoneServesBefore answer routes Any texts (length routes) → NoneMatches answer routes texts
  none-of_any routes texts none index entry there = elim (none index entry (slice_get_within routes index entry there) there) [ inl never ↦ absurd (never tt) | inr refused ↦ refused ]

  module _ (router : UrlPatternRouter T E) (method path : List ℕ) where
    -- What is said once no route is left.
    pub quick-ended : (missing : Bool) (result : Quick T E) → result ≡ quick_end missing → (missing ≡ true → NoneServesBefore answer router.routes Any (pathname_alone path) (length router.routes))
        → IsQuick answer router method path result
    quick-ended true result is none = rw is (none-of_any router.routes (pathname_alone path) (none cc))
    quick-ended false result is none = rw is tt

    -- What the pattern of a route says, where no route before it serves the request.
    pub quick-returned : (index : ℕ) (result : Quick T E) → (¬ IsHead router method) → IsQuickAt answer router.routes (Takes method) path index result
        → NoneServesBefore answer router.routes (Takes method) (pathname_alone path) index → IsQuick answer router method path result
    quick-returned index (Served number value pattern groups) other (same, at) before =
        (other, at, subst (λ n. NoneServesBefore answer router.routes (Takes method) (pathname_alone path) n) (sym same) before)
    quick-returned index NotFound other never before = absurd never
    quick-returned index Unknown other known before = tt

    -- The route that is found serves the request, with its match.
    pub quick-served : (index : ℕ) (value : Bor T) (pattern : Bor (UrlPattern E)) (captures : GroupCaptures) (found : UrlPatternCaptures) → IsQuick answer router method path (Served index value pattern captures)
        → IsMatchOf answer (pattern_view pattern.now) (pathname_alone path) (pattern_captures_view found) → AreGroupsInOrder answer (pattern_view pattern.now) (pathname_alone path) (groups_view found)
        → IsRouted answer router method (pathname_alone path) (Found index value found)
    quick-served index value pattern captures found (other, at, before) match groups = record {
      head = λ head. absurd (other head);
      other = λ _. (
        (
          at.entry,
          at.there,
          at.is,
          at.has_value,
          subst (λ (one : UrlPattern E). IsMatchOf answer (pattern_view one) (pathname_alone path) (pattern_captures_view found)) at.has_pattern match,
          subst (λ (one : UrlPattern E). AreGroupsInOrder answer (pattern_view one) (pathname_alone path) (groups_view found)) at.has_pattern groups,
        ),
        before,
      );
    }
