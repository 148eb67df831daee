-- Worked examples of texts that parts mean where case is ignored.
use Rattle.std.proofs.Common.{◌≡◌, ◌≢◌, ℕ, Bool, true, false, List, [], ◌∷◌, ◌++◌, ◌∙◌, ap, ap₂, append-nil, codes, inl, map, refl, subst, sym, Option, Some, None}
use Rattle.std.proofs.lemmas.Bool.{false≢true}
use Rattle.std.specs.Prelude.{◌&&◌, not}
use Rattle.urlpattern_compare.proofs.StateSets.{contains_head, contains_tail}
use Rattle.urlpattern_compare.specs.Comparing.{IsKnown}
use Rattle.urlpattern_compare.specs.MeantTexts.{MeansText, folded_options}
use Rattle.urlpattern_compare.specs.Exits.{HasCases}
use Rattle.urlpattern_meaning.specs.Matching.{folded_character}
use Rattle.urlpattern_expressions.specs.SimpleExpressions.{AreSimple}
use Rattle.urlpattern_syntax.specs.Options.{OptionsView, default_options}
use Rattle.urlpattern_syntax.specs.Parts.{PartView, parts_view}
use Rattle.urlpattern_syntax.specs.Text.{IsRepeated}
use Rattle.urlpattern_syntax.specs.declared.parts.ComponentParts.{ComponentParts}
use Rattle.urlpattern_syntax.specs.declared.parser.{PartModifier.PartModifier, PartType.PartType}

abbrev options_with : (delimiter : Option ℕ) → (ignore_case : Bool) → OptionsView
options_with delimiter ignore_case = record default_options { delimiter = delimiter; ignore_case = ignore_case }

abbrev fixed : (value : List ℕ) → PartView
fixed value = record { kind = PartType.FixedText; value = value; modifier = PartModifier.None; name = []; prefix = []; suffix = [] }

-- ---- fixed texts

meant_fixed : (ignore_case : Bool) (value text : List ℕ) → map (folded_character ignore_case) text ≡ map (folded_character ignore_case) value → MeansText (options_with None ignore_case) (fixed value ∷ []) text
meant_fixed ignore_case value text same =
    let read = map (folded_character ignore_case) value in
    let whole = sym (append-nil read) in
    (read, [], same ∙ whole, (1, refl, (read, [], whole, refl, refl)), refl)

meant_same : (ignore_case : Bool) (value text : List ℕ) → MeansText (options_with None ignore_case) (fixed value ∷ []) text → map (folded_character ignore_case) text ≡ map (folded_character ignore_case) value
meant_same ignore_case value text (first, rest, cut, (count, allowed, copies), empty) =
    let (one, more, whole, is, end) = subst (λ (n : ℕ). IsRepeated (λ (t : List ℕ). t ≡ map (folded_character ignore_case) value) n first) allowed copies in
    cut ∙ ap (λ (t : List ℕ). first ++ t) empty ∙ append-nil first ∙ whole ∙ ap₂ (λ (s t : List ℕ). s ++ t) is end ∙ append-nil (map (folded_character ignore_case) value)

apart : codes "a" ≢ codes "A"
apart same = absurd cc

-- The fixed text `Ab` is `aB` where case is ignored; `A` is not `a` where case is kept.
either_case_is_meant : MeansText (options_with None true) (fixed (codes "Ab") ∷ []) (codes "aB")
either_case_is_meant = meant_fixed true (codes "Ab") (codes "aB") refl

other_case_is_not_meant : ¬ MeansText (options_with None false) (fixed (codes "A") ∷ []) (codes "a")
other_case_is_not_meant means = apart (meant_same false (codes "A") (codes "a") means)

-- The Kelvin sign is no `k`: ASCII letters alone have two cases.
the_kelvin_sign_is_no_letter : folded_character true 8490 ≡ 8490
the_kelvin_sign_is_no_letter = refl

-- ---- the delimiter

-- The delimiter is compared in lower case too.
the_delimiter_is_folded : (folded_options (options_with (Some 65) true)).delimiter ≡ Some 97
the_delimiter_is_folded = refl

-- ---- classes of characters

-- Where case is ignored, a test that names `a` tells `A` from other characters too.
both_cases_are_named : HasCases true (10 ∷ 97 ∷ 65 ∷ []) 97
both_cases_are_named = (contains_tail 10 97 (97 ∷ 65 ∷ []) (contains_head 97 (65 ∷ [])), contains_tail 10 65 (97 ∷ 65 ∷ []) (contains_tail 97 65 (65 ∷ []) (contains_head 65 [])))

one_case_is_named : HasCases false (10 ∷ 97 ∷ []) 97
one_case_is_named = contains_tail 10 97 (97 ∷ []) (contains_head 97 [])

-- ---- engines

-- Nothing is known of a component that ignores case, and that an engine matches which keeps it.
unknown : (component : ComponentParts) → component.options.ignore_case ≡ true → component.honours_case ≡ false → ¬ IsKnown component
unknown component ignored keeps known = false≢true (sym known.case ∙ ap₂ (λ ignores honours. ignores && not honours) ignored keeps)

-- Where case is kept, no engine matters.
known : (component : ComponentParts) → AreSimple (parts_view component.parts.items) → component.options.ignore_case ≡ false → IsKnown component
known component simple kept = record { parts = record { simple = simple; by_case = inl kept }; case = ap (λ (ignores : Bool). ignores && not component.honours_case) kept }
