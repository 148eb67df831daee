-- The patterns of a case, gathered one literal after another.
use Rattle.std.proofs.Common.{◌≡◌, ◌∙◌, ◌+◌, ℕ, Bool, true, false, List, [], ◌∷◌, ◌++◌, None, Option, Some, ap, get_or, slice_get, subst, take}
use Rattle.std.proofs.lemmas.List.{append-nil, take_more}
use Rattle.std.proofs.lemmas.List.Elements.{All-get_or, filter_map-append}
use Rattle.std.proofs.lemmas.Option.{get_or_from_slice_get, none-some, slice_get_within}
use Rattle.std.specs.Bool.{beq}
use Rattle.std.specs.List.{cons_option}
use Rattle.std.specs.Prelude.{All, if◌then◌else◌}
use Rattle.urlpattern_compare.specs.declared.common_texts.PatternAutomata.{PatternAutomata}
use Rattle.urlpattern_route_analysis.proofs.FilterLemmas.{All-filter_map}
use Rattle.urlpattern_route_analysis.specs.CasePatterns.{pattern_of, patterns_in, url_pattern}
use Rattle.urlpattern_route_analysis.specs.Cases.{LiteralView}
use Rattle.urlpattern_route_analysis.specs.Formulas.{AtomView, of_name, of_url}

module _ (patterns : List PatternAutomata) (holds : Bool) where
  patterns_next : (literals : List LiteralView) (i : ℕ) (it : LiteralView) → slice_get literals i ≡ Some it
      → patterns_in patterns holds (take (i + 1) literals) ≡ patterns_in patterns holds (take i literals) ++ cons_option (pattern_of patterns holds it) []
  patterns_next literals i it there =
      ap (λ (l : List LiteralView). patterns_in patterns holds l)
      (take_more literals i it (slice_get_within literals i it there) ∙ ap (λ (l : LiteralView). take i literals ++ l ∷ []) (get_or_from_slice_get literals i it it there))
      ∙ filter_map-append (pattern_of patterns holds) (take i literals) (it ∷ [])

  -- The literal has a pattern.
  pub patterns_more : (literals : List LiteralView) (i : ℕ) (it : LiteralView) (pattern : PatternAutomata) → slice_get literals i ≡ Some it → pattern_of patterns holds it ≡ Some pattern
      → patterns_in patterns holds (take (i + 1) literals) ≡ patterns_in patterns holds (take i literals) ++ pattern ∷ []
  patterns_more literals i it pattern there is =
      patterns_next literals i it there ∙ ap (λ (o : Option PatternAutomata). patterns_in patterns holds (take i literals) ++ cons_option o []) is

  -- The literal has none.
  pub patterns_same : (literals : List LiteralView) (i : ℕ) (it : LiteralView) → slice_get literals i ≡ Some it → pattern_of patterns holds it ≡ None
      → patterns_in patterns holds (take (i + 1) literals) ≡ patterns_in patterns holds (take i literals)
  patterns_same literals i it there is =
      patterns_next literals i it there ∙ ap (λ (o : Option PatternAutomata). patterns_in patterns holds (take i literals) ++ cons_option o []) is
      ∙ append-nil (patterns_in patterns holds (take i literals))

  -- What holds of all patterns holds of those of a case.
  pub all_in_case : (P : PatternAutomata → Type 0) → All P patterns → (literals : List LiteralView) → All P (patterns_in patterns holds literals)
  all_in_case P all literals = All-filter_map P (pattern_of patterns holds) literals (λ k d lt it is. of_one (get_or literals k d).atom (beq (get_or literals k d).holds holds) it is)
    where
      of_one : (atom : AtomView) (test : Bool) (it : PatternAutomata) → (if test then url_pattern patterns atom else None) ≡ Some it → P it
      of_one (of_url k) true it is = subst P (get_or_from_slice_get patterns k it it is) (All-get_or P patterns k it (slice_get_within patterns k it is) all)
      of_one (of_name attribute name) true it is = absurd (none-some it is)
      of_one atom false it is = absurd (none-some it is)
