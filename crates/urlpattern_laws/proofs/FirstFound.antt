-- The result for items between `^` and `$`: the first of their ways that matches the whole text.
use Rattle.std.proofs.Common.{◌≡◌, ℕ, ◌≤◌, ◌<◌, List, [], ◌∷◌, ◌++◌, length, Option, None, option_map, true, cond, if◌then◌else◌, refl, ap, ◌∙◌}
use Rattle.std.proofs.lemmas.Bool.{cond-true, cond-false, cond_both}
use Rattle.std.proofs.lemmas.Str.{IsCharBoundary-start}
use Rattle.std.specs.Option.{option_or}
use lib.Utf8.{scalars, encodes}
use Rattle.regex.proofs.Utf8Lemmas.{test_of_IsCharBoundary}
use Rattle.regex_hir.proofs.OptionLemmas.{option_or-None}
use Rattle.regex_hir.specs.Find.{find_str}
use Rattle.regex_hir.specs.Looks.{holds}
use Rattle.regex_hir.specs.Meaning.{cat_all}
use Rattle.regex_hir.specs.Re.{Re, Trace, Rest, accept, attempt}
use Rattle.regex_hir.specs.Text.{is_boundary}
use Rattle.regex_hir.specs.declared.look.Look.TheVariants.{Start}
use Rattle.regex_syntax.specs.Brackets.{Nested}
use Rattle.urlpattern_laws.proofs.Choices.{HasCaptures, Cuts, Tries, attempt_append, no_byte}
use Rattle.urlpattern_laws.proofs.ItemsOf.{values, values_append}
use Rattle.urlpattern_laws.proofs.WholeRead.{between_lines}
use Rattle.urlpattern_meaning.proofs.WaysJoined.{first_of}
use Rattle.urlpattern_meaning.specs.Ways.{WaysByText}
use Rattle.urlpattern_engine.proofs.TreeSearch.{first_shown, found_at_start, not_start, starts, texts_from, to_end}
use Rattle.urlpattern_engine.proofs.TreeTextsRead.{last_line}

module _ (own : List (Nested Re)) (ways : WaysByText) (count : ℕ) (cuts : Cuts ways count) (tries : Tries 1 ways (cat_all (values own))) (text : List ℕ) (good : scalars text ≡ true) where
  abbrev hay : List ℕ
  hay = encodes text

  abbrev pattern : Re
  pattern = (between_lines own).value

  -- The attempt between `^` and `$`, and `$`.
  abbrev inside_lines : Option Trace
  inside_lines = attempt hay (cat_all (values own)) (to_end hay) 0

  abbrev at_place : Rest
  at_place i = if is_boundary hay i then attempt hay pattern accept i else None

  after_line : attempt hay (cat_all (values (own ++ last_line ∷ []))) accept 0 ≡ inside_lines
  unfolding attempt
  after_line =
      ap (λ all. attempt hay (cat_all all) accept 0) (values_append own (last_line ∷ [])) ∙ attempt_append hay (values own) (last_line.value ∷ []) accept 0

  abbrev from_line : ℕ → Option Trace
  from_line i = cond (holds Start hay i) (attempt hay (cat_all (values (own ++ last_line ∷ []))) accept i) None

  -- The pattern has a single branch.
  one_branch : (i : ℕ) → attempt hay pattern accept i ≡ from_line i
  unfolding attempt
  one_branch i = ap (option_or (from_line i)) (no_byte text good accept i) ∙ option_or-None (from_line i)

  at_start : at_place 0 ≡ inside_lines
  at_start =
      cond-true (is_boundary hay 0) (attempt hay pattern accept 0) None (test_of_IsCharBoundary hay 0 (IsCharBoundary-start hay (text, (good, refl))))
      ∙ one_branch 0 ∙ cond-true (holds Start hay 0) _ None (starts hay) ∙ after_line

  later_on : (i : ℕ) → 0 < i → i ≤ length hay → at_place i ≡ None
  later_on i p le =
      cond_both (is_boundary hay i) (attempt hay pattern accept i) None (λ (o : Option Trace). o ≡ None)
      (λ _. one_branch i ∙ cond-false (holds Start hay i) _ None (not_start hay i p le)) (λ _. refl)

  -- The groups of the match found are the captures of the first way.
  pub found_first : option_map (λ m. texts_from hay m 1 count) (find_str pattern hay 0) ≡ first_of (ways text)
  unfolding find_str
  found_first =
      found_at_start hay count at_place inside_lines at_start later_on
      ∙ first_shown text (HasCaptures count) count (λ taken captures is. is) (ways text) inside_lines (cuts text) (tries text good [] text refl (to_end hay))
