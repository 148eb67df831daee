-- The automaton of parts has as many states as the size of the parts.
use Rattle.std.proofs.Common.{◌≡◌, ◌∙◌, ◌+◌, ◌<◌, ◌≢◌, ℕ, Bool, List, [], ◌∷◌, ◌++◌, Option, None, ap, ap₂, arith, inr, length, length-append, map, refl, subst, sym}
use Rattle.std.proofs.lemmas.List.{length-map, length-reverse}
use Rattle.std.proofs.lemmas.List.Elements.{All-head, All-tail}
use Rattle.std.specs.List.{All}
use Rattle.urlpattern_compare.proofs.PartsRead.{part_count}
use Rattle.urlpattern_compare.specs.Cells.{cells_of, text_cells}
use Rattle.urlpattern_compare.specs.Making.{MayHaveManyStates, IsMadeOf, IsShaped, Made, ShapedPart, folded_shaped, made, unshaped}
use Rattle.urlpattern_compare.specs.MeantTexts.{folded_options, folded_part, folded_parts}
use Rattle.urlpattern_compare.specs.WorkBounds.{part_size, parts_size}
use Rattle.urlpattern_compare.specs.declared.cells.Cell.{Cell}
use Rattle.urlpattern_compare.specs.declared.cells.Cell.TheVariants.{One}
use Rattle.urlpattern_compare.specs.declared.parts_automaton.PartsAutomaton.{PartsAutomaton}
use Rattle.urlpattern_compare.specs.declared.parts_automaton.Test.TheVariants.{Only}
use Rattle.urlpattern_compare.specs.declared.parts_automaton.TheConstants.{MOST_STATES}
use Rattle.urlpattern_expressions.specs.Shapes.{Shape}
use Rattle.urlpattern_meaning.specs.Matching.{folded_character}
use Rattle.urlpattern_meaning.specs.PartMeaning.{AreGenerated}
use Rattle.urlpattern_syntax.specs.{Options.OptionsView, Parts.PartView}
use Rattle.urlpattern_syntax.specs.declared.parser.PartType.{PartType}

-- The cells of a prefix, those of a wildcard, and those of a suffix.
wrapped : (part : PartView) (middle : List Cell) (n : ℕ) → length middle ≡ n → length (text_cells part.prefix ++ middle ++ text_cells part.suffix) ≡ length part.prefix + (n + length part.suffix)
wrapped part middle n is =
    let front : length (text_cells part.prefix) ≡ length part.prefix = length-map part.prefix (λ c. One (Only c)) in
    let back : length (text_cells part.suffix) ≡ length part.suffix = length-map part.suffix (λ c. One (Only c)) in
    let outer : length (text_cells part.prefix ++ middle ++ text_cells part.suffix) ≡ length (text_cells part.prefix ++ middle) + length (text_cells part.suffix) =
    length-append (text_cells part.prefix ++ middle) (text_cells part.suffix) in
    let inner : length (text_cells part.prefix ++ middle) ≡ length (text_cells part.prefix) + length middle = length-append (text_cells part.prefix) middle in
    omega arith

cells_size : (options : OptionsView) (kind : PartType) (part : PartView) → length (cells_of options kind part) ≡ part_size kind part
cells_size options PartType.FixedText part = length-map part.value (λ c. One (Only c))
cells_size options PartType.SegmentWildcard part = wrapped part _ 2 refl
cells_size options PartType.FullWildcard part = wrapped part _ 1 refl
cells_size options PartType.Regexp part = wrapped part _ 0 refl

pub parts_states : (options : OptionsView) (parts : List PartView) → (made options (unshaped parts)).count ≡ parts_size parts
parts_states options [] = refl
parts_states options (part ∷ parts) =
    let count = part_count options part (made options (unshaped parts)) in
    let rest = parts_states options parts in
    let cells = length-reverse (cells_of options part.kind part) in
    let size = cells_size options part.kind part in
    omega arith

-- ---- with case ignored or kept

affixes_folded : (ignore_case : Bool) (part : PartView) (n : ℕ) → length (map (folded_character ignore_case) part.prefix) + (n + length (map (folded_character ignore_case) part.suffix)) ≡ length part.prefix + (n + length part.suffix)
affixes_folded ignore_case part n =
    ap₂ (λ (a b : ℕ). a + (n + b)) (length-map part.prefix (folded_character ignore_case)) (length-map part.suffix (folded_character ignore_case))

part_folded : (ignore_case : Bool) (kind : PartType) (part : PartView) → part_size kind (folded_part ignore_case part) ≡ part_size kind part
part_folded ignore_case PartType.FixedText part = length-map part.value (folded_character ignore_case)
part_folded ignore_case PartType.SegmentWildcard part = affixes_folded ignore_case part 2
part_folded ignore_case PartType.FullWildcard part = affixes_folded ignore_case part 1
part_folded ignore_case PartType.Regexp part = affixes_folded ignore_case part 0

parts_folded : (ignore_case : Bool) (parts : List PartView) → parts_size (map (folded_part ignore_case) parts) ≡ parts_size parts
parts_folded ignore_case [] = refl
parts_folded ignore_case (part ∷ parts) = ap₂ (λ (a b : ℕ). a + b) (parts_folded ignore_case parts) (part_folded ignore_case part.kind part)

folded_states : (options : OptionsView) (parts : List PartView) → (made (folded_options options) (unshaped (folded_parts options parts))).count ≡ parts_size parts
folded_states options parts = parts_states (folded_options options) (folded_parts options parts) ∙ parts_folded options.ignore_case parts

-- Parts of which none is custom have no shapes.
none_shaped : (kind : PartType) (part : PartView) (shape : Option Shape) → kind ≢ PartType.Regexp → IsShaped kind part shape → shape ≡ None
none_shaped PartType.FixedText part shape other is = is
none_shaped PartType.SegmentWildcard part shape other is = is
none_shaped PartType.FullWildcard part shape other is = is
none_shaped PartType.Regexp part shape other is = absurd (other refl)

pub all_unshaped : (options : OptionsView) (parts : List ShapedPart) → AreGenerated (map (λ (part : ShapedPart). part.0) parts) → All (λ (part : ShapedPart). IsShaped part.0.kind part.0 part.1) parts →
    folded_shaped options parts ≡ unshaped (folded_parts options (map (λ (part : ShapedPart). part.0) parts))
all_unshaped options [] generated shaped = refl
all_unshaped options (part ∷ parts) generated shaped =
    let Other : PartView → Type 0 = λ it. it.kind ≢ PartType.Regexp in
    let Is : ShapedPart → Type 0 = λ it. IsShaped it.0.kind it.0 it.1 in
    let views = map (λ (it : ShapedPart). it.0) parts in
    let none = none_shaped part.0.kind part.0 part.1 (All-head Other part.0 views generated) (All-head Is part parts shaped) in
    ap₂ (λ (shape : Option Shape) (rest : List ShapedPart). (folded_part options.ignore_case part.0, shape) ∷ rest) none (all_unshaped options parts (All-tail Other part.0 views generated) (All-tail Is part parts shaped))

pub made_states : (options : OptionsView) (parts : List PartView) (automaton : PartsAutomaton) → AreGenerated parts → IsMadeOf options parts automaton → automaton.states ≡ parts_size parts
made_states options parts automaton generated is =
    let own = subst AreGenerated (sym is.parts_are) generated in
    let same = all_unshaped options is.shaped own is.are_shaped ∙ ap (λ (l : List PartView). unshaped (folded_parts options l)) is.parts_are in
    ap (λ (it : Made). it.count) (is.view ∙ ap (made (folded_options options)) same) ∙ folded_states options parts

-- The automaton of folded parts has as many states.
pub many_folded : (options : OptionsView) (parts : List PartView) → MOST_STATES < (made (folded_options options) (unshaped (folded_parts options parts))).count → MayHaveManyStates options parts
many_folded options parts many = inr (subst (λ (n : ℕ). MOST_STATES < n) (folded_states options parts ∙ sym (parts_states options parts)) many)
