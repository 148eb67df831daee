-- The laws on custom regular expressions, for each engine.
use Rattle.std.proofs.Common.{◌≡◌, ◌↔◌, ℕ, List, ◌++◌, false, Option, Some, None, refl, ap, ◌∙◌}
use Rattle.std.specs.Prelude.{⊤, IfSome, IsTrue, Ok, Err, codes}
use Rattle.std.specs.Str.{all_scalars}
use Rattle.regex_hir.specs.Meaning.{alt_all}
use Rattle.regex_hir.specs.Re.{Re}
use Rattle.regex_syntax.specs.Brackets.{Nested, join}
use Rattle.regex_syntax.specs.Grammar.{Place, branches, join_parts}
use Rattle.urlpattern_matcher.proofs.FirstMatchers.{flags_agree}
use Rattle.urlpattern_matcher.specs.Components.{ComponentView, IsComponentOf, engine_flags}
use Rattle.urlpattern_matcher.specs.FirstWays.{KeepsCase, Acceptance}
use Rattle.urlpattern_matcher.specs.Regexes.{regex_engine}
use Rattle.urlpattern_matcher.specs.declared.regexp.RegExp.{Ghosts as Engine}
use Rattle.urlpattern_laws.proofs.CustomGroups.{custom_inside, whole_takes}
use Rattle.urlpattern_engine.proofs.ItemsRead.{at_text}
use Rattle.urlpattern_laws.proofs.FirstOfTrees.{first_of_either_case, first_of_tree}
use Rattle.urlpattern_laws.proofs.MatchersCapture.{matchers_capture}
use Rattle.urlpattern_laws.proofs.MatchersFirst.{matchers_first}
use Rattle.urlpattern_laws.proofs.MatchersTaken.{matchers_taken}
use Rattle.urlpattern_laws.proofs.ValuesByCase.{values_by_case}
use Rattle.urlpattern_laws.proofs.ValuesTaken.{first_captured, pattern_values_capture, pattern_values_first, pattern_values_taken, regex_values_capture, regex_values_first, regex_values_taken}
use Rattle.urlpattern_expressions.specs.Expressions.{ExpressionMatches, MatchesWhole}
use Rattle.urlpattern_laws.specs.LawsOfTexts.{ComponentsCapture, HasMatcherPremises, MatchersReturnIfMatched, MatchersCapture, ReadsInGroups}
use Rattle.urlpattern_pattern.specs.ByText.{AcceptedAlone}
use Rattle.urlpattern_laws.specs.LawsOfWays.{ComponentsReturnFirstOfParts, MatchersReturnFirstOfParts}
use Rattle.urlpattern_expressions.specs.PartCaptures.{IsCapturedByParts}
use Rattle.urlpattern_expressions.specs.MatchedPartTexts.{AllCaptureNothing, AllStandAlone}
use Rattle.urlpattern_expressions.specs.PartWays.{parts_first_way}
use Rattle.urlpattern_engine.specs.PatternRegexps.{pattern_engine}
use Rattle.urlpattern_meaning.specs.FirstResults.{AcceptedText}
use Rattle.urlpattern_meaning.specs.Matching.{EachResultIs, InnerView, Literal, MatcherView, RegExp, SingleCapture}
use Rattle.urlpattern_meaning.specs.PartMeaning.{Captures}
use Rattle.urlpattern_syntax.specs.{Options.OptionsView, Parts.PartView}

pub reads_in_groups : ReadsInGroups
unfolding join_parts
reads_in_groups expression rest steps names h = by (branches steps (at_text false names (expression ++ (codes ")" ++ rest)))) refl
  where
    by : (o : Option (List (Nested Re) × Place)) → branches steps (at_text false names (expression ++ (codes ")" ++ rest))) ≡ o
        → IfSome o (λ (patterns, end). (end.text ≡ codes ")" ++ rest) × ((text : List ℕ) → IsTrue (all_scalars text) → MatchesWhole (join alt_all patterns).value text ↔ ExpressionMatches expression text))
    by None e = tt
    by (Some found) e =
        let inside = (custom_inside false expression h).reads rest steps names (join alt_all found.0) found.1 (ap (join_parts alt_all) e) in (
          inside.at_close,
          λ text fine.
              let whole = whole_takes (join alt_all found.0).value inside.fulfils.plain text fine in
              let same = (inside.fulfils.denotes refl).same text fine in
              (λ takes. same.0 (whole.1 takes), λ takes. whole.0 (same.1 takes)),
        )

-- ---- values

pub ruleset first_ways = (first_captured, first_of_tree, first_of_either_case, pattern_values_first, regex_values_first, values_by_case)

-- ---- matchers

took_any : {E : Type 0} (inner : InnerView E) (P : Type 0) → P → AcceptedText (λ value. ⊤) inner → AcceptedText (λ value. P) inner
took_any (Literal literal) P p took = tt
took_any (SingleCapture filter allow_empty) P p took = tt
took_any (RegExp (Ok value)) P p took = p
took_any (RegExp (Err error)) P p took = took

pub regex_matchers_taken : MatchersReturnIfMatched regex_engine (λ options flags. AcceptedText (λ value. ⊤))
regex_matchers_taken = matchers_taken regex_engine (λ flags. ⊤) _ regex_values_taken (λ options flags inner kept took. took)

pub pattern_matchers_taken : MatchersReturnIfMatched pattern_engine AcceptedAlone
pattern_matchers_taken = matchers_taken pattern_engine KeepsCase _ pattern_values_taken (λ options flags inner kept took. took_any inner (KeepsCase flags) (took.0 ∙ kept) took.1)

pub regex_matchers_capture : MatchersCapture regex_engine (λ options flags. AcceptedText (λ value. ⊤))
regex_matchers_capture = matchers_capture regex_engine (λ flags. ⊤) _ regex_values_capture (λ options flags inner kept took. took)

pub pattern_matchers_capture : MatchersCapture pattern_engine AcceptedAlone
pattern_matchers_capture = matchers_capture pattern_engine KeepsCase _ pattern_values_capture (λ options flags inner kept took. took_any inner (KeepsCase flags) (took.0 ∙ kept) took.1)

pub regex_matchers_first : MatchersReturnFirstOfParts regex_engine (λ options flags. AcceptedText (λ value. ⊤))
regex_matchers_first = matchers_first regex_engine (λ flags. ⊤) _ regex_values_first (λ options flags inner kept took. took)

pub pattern_matchers_first : MatchersReturnFirstOfParts pattern_engine AcceptedAlone
pattern_matchers_first = matchers_first pattern_engine KeepsCase _ pattern_values_first (λ options flags inner kept took. took_any inner (KeepsCase flags) (took.0 ∙ kept) took.1)

-- ---- components

abbrev AreFirst : OptionsView → List PartView → List ℕ → Option Captures → Type 0
AreFirst options parts text result = result ≡ parts_first_way options parts text

-- A law on the results of each matcher of an engine holds of the matchers of components.
components_answer : {E : Type 0} (engine : Engine E) (Accepted : Acceptance E) (Are : OptionsView → List PartView → List ℕ → Option Captures → Type 0)
    → ((options : OptionsView) (inner : InnerView E) → AcceptedText (λ value. ⊤) inner → Accepted options (engine_flags options) inner)
    → ((options : OptionsView) (flags : List ℕ) (parts : List PartView) (matcher : MatcherView E) → HasMatcherPremises engine Accepted options flags parts matcher → AllCaptureNothing parts → EachResultIs engine.answer matcher (Are options parts))
    → (options : OptionsView) (parts : List PartView) (component : ComponentView E) → IsComponentOf engine options parts component → AllStandAlone parts → AllCaptureNothing parts
    → options.ignore_case ≡ false → AcceptedText (λ value. ⊤) component.matcher.inner → EachResultIs engine.answer component.matcher (Are options parts)
components_answer engine Accepted Are given answer options parts component is alone silent kept took =
    answer options (engine_flags options) parts component.matcher (record { is_made = is.has_matcher; alone = alone; case_kept = kept; took = given options component.matcher.inner took }) silent

pub regex_components_capture : ComponentsCapture regex_engine
regex_components_capture = components_answer regex_engine (λ options flags. AcceptedText (λ value. ⊤)) IsCapturedByParts (λ options inner took. took) regex_matchers_capture

pub pattern_components_capture : ComponentsCapture pattern_engine
pattern_components_capture = components_answer pattern_engine AcceptedAlone IsCapturedByParts (λ options inner took. (flags_agree options, took)) pattern_matchers_capture

pub regex_components_first : ComponentsReturnFirstOfParts regex_engine
regex_components_first = components_answer regex_engine (λ options flags. AcceptedText (λ value. ⊤)) AreFirst (λ options inner took. took) regex_matchers_first

pub pattern_components_first : ComponentsReturnFirstOfParts pattern_engine
pattern_components_first = components_answer pattern_engine AcceptedAlone AreFirst (λ options inner took. (flags_agree options, took)) pattern_matchers_first
