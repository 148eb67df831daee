-- Where case is ignored, a matcher of parts without a custom one matches what the parts mean.
use Rattle.std.proofs.Common.{◌≡◌, ◌≢◌, ◌∙◌, ◌↔◌, ℕ, Bool, true, false, List, [], ◌∷◌, Option, Result, Some, None, ap, ap₂, map, option_map, refl, subst, sym}
use Rattle.std.proofs.lemmas.Bool.{false≢true}
use Rattle.std.proofs.lemmas.List.Elements.{All-map}
use Rattle.std.specs.Option.{is_some}
use Rattle.std.specs.Prelude.{⊤, ◌&&◌, IsTrue, if◌then◌else◌}
use Rattle.urlpattern_compare.proofs.PartTexts.{generated_match}
use Rattle.urlpattern_compare.specs.MeantTexts.{MeansText, folded_part}
use Rattle.urlpattern_expressions.specs.MatchedPartTexts.{PartsMatch}
use Rattle.urlpattern_expressions.specs.PartWays.{parts_first_way_by}
use Rattle.urlpattern_init.specs.UrlTexts.{IsLine}
use Rattle.urlpattern_laws.proofs.ByCase.{generated_first}
use Rattle.urlpattern_laws.proofs.FirstOfTrees.{first_of_tree}
use Rattle.urlpattern_laws.proofs.MatchersFirst.{fast_first}
use Rattle.urlpattern_matcher.specs.Components.{IsEngineOf, engine_flags}
use Rattle.urlpattern_matcher.specs.FirstWays.{ValuesReturnByFlags}
use Rattle.urlpattern_matcher.specs.declared.regexp.RegExp.{Ghosts as Engine}
use Rattle.urlpattern_meaning.proofs.FirstWay.{first_way_means, no_way_means_none}
use Rattle.urlpattern_meaning.proofs.FoldedTrees.{IsAtomFolding, IsFoldedCharacter, IsFolding, first_way_folded}
use Rattle.urlpattern_meaning.proofs.MatchingLaws.{IsFast}
use Rattle.urlpattern_meaning.proofs.OneMeaning.{each_tree_means, is_tree_of}
use Rattle.urlpattern_meaning.proofs.PartTrees.{affixed_core, alone, bare_core, character, copies, fixed_tree, group_atom, group_quantifier, part_tree_by, put, segment_atom, tree_of, wildcard_items}
use Rattle.urlpattern_meaning.specs.Dialect.{Captured, Escaped, Grouped, Item, Items, Nothing, Plain, Quantifier as quantifiers, character_of}
use Rattle.urlpattern_meaning.specs.FirstResults.{AcceptedText}
use Rattle.urlpattern_meaning.specs.Matching.{IsMadeBetween, IsMadeOf, IsMadeOfOne, IsMatched, MatcherView, Returns, end_text, folded_captures, folded_character}
use Rattle.urlpattern_meaning.specs.PartMeaning.{AreGenerated, Captures, PartsMean}
use Rattle.urlpattern_meaning.specs.Ways.{first_way}
use Rattle.urlpattern_pattern.proofs.MatchersDecide.{answered}
use Rattle.urlpattern_syntax.specs.Errors.{ErrorView}
use Rattle.urlpattern_syntax.specs.Options.{OptionsView}
use Rattle.urlpattern_syntax.specs.Parts.{PartView}
use Rattle.urlpattern_syntax.specs.RegexpText.{escaped_marks, is_empty}
use Rattle.urlpattern_syntax.specs.Text.{is_among}
use Rattle.urlpattern_syntax.specs.declared.parser.PartModifier.{PartModifier}
use Rattle.urlpattern_syntax.specs.declared.parser.PartModifier.TheVariants as modifiers
use Rattle.urlpattern_syntax.specs.declared.parser.PartType.{PartType}
use Rattle.urlpattern_syntax.specs.declared.parser.PartType.TheVariants.{FixedText, Regexp, SegmentWildcard, FullWildcard}

-- ---- the tree of folded parts

abbrev lower : ℕ → ℕ
lower = folded_character true

abbrev lowered : OptionsView → OptionsView
lowered options = record options { delimiter = option_map lower options.delimiter }

written_if : (b : Bool) (c : ℕ) → character_of (if b then Escaped c else Plain c) ≡ c
written_if true c = refl
written_if false c = refl

character_folds : (marks : List ℕ) (c : ℕ) → IsFoldedCharacter (character marks c) (character marks (lower c))
character_folds marks c = written_if (is_among marks (lower c)) (lower c) ∙ sym (ap lower (written_if (is_among marks c) c))

put_folds : (marks text : List ℕ) (items others : Items) → IsFolding items others → IsFolding (put marks text items) (put marks (map lower text) others)
put_folds marks [] items others folds = folds
put_folds marks (c ∷ text) items others folds = (character_folds marks c, refl, put_folds marks text items others folds)

segment_folds : (marks : List ℕ) (delimiter : Option ℕ) → IsAtomFolding (segment_atom marks delimiter) (segment_atom marks (option_map lower delimiter))
segment_folds marks None = tt
segment_folds marks (Some c) = character_folds marks c

wildcard_folds : (options : OptionsView) (kind : PartType) → IsFolding (wildcard_items options kind) (wildcard_items (lowered options) kind)
wildcard_folds options SegmentWildcard = (segment_folds (escaped_marks options.syntax) options.delimiter, refl, tt)
wildcard_folds options FullWildcard = (tt, refl, tt)
wildcard_folds options FixedText = tt
wildcard_folds options Regexp = tt

bare_folds : (modifier : PartModifier) (piece other : Items) → IsFolding piece other → IsFolding (bare_core modifier piece) (bare_core modifier other)
bare_folds modifiers.None piece other folds = folds
bare_folds modifiers.Optional piece other folds = folds
bare_folds modifiers.ZeroOrMore piece other folds = (folds, refl, tt)
bare_folds modifiers.OneOrMore piece other folds = (folds, refl, tt)

copies_fold : (marks prefix suffix : List ℕ) (piece other : Items) → IsFolding piece other → IsFolding (copies marks prefix piece suffix) (copies marks (map lower prefix) other (map lower suffix))
copies_fold marks prefix suffix piece other folds =
    let again = put_folds marks suffix (put marks prefix (alone (Grouped piece) quantifiers.Once)) (put marks (map lower prefix) (alone (Grouped other) quantifiers.Once))
    (put_folds marks prefix (alone (Grouped piece) quantifiers.Once) (alone (Grouped other) quantifiers.Once) (folds, refl, tt)) in
    (folds, refl, (again, refl, tt))

affixed_folds : (modifier : PartModifier) (marks prefix suffix : List ℕ) (piece other : Items) → IsFolding piece other → IsFolding (affixed_core modifier marks prefix piece suffix) (affixed_core modifier marks (map lower prefix) other (map lower suffix))
affixed_folds modifiers.None marks prefix suffix piece other folds = folds
affixed_folds modifiers.Optional marks prefix suffix piece other folds = folds
affixed_folds modifiers.ZeroOrMore marks prefix suffix piece other folds = copies_fold marks prefix suffix piece other folds
affixed_folds modifiers.OneOrMore marks prefix suffix piece other folds = copies_fold marks prefix suffix piece other folds

group_folds : (bare : Bool) (modifier : PartModifier) (marks prefix suffix : List ℕ) (piece other : Items) → IsFolding piece other →
    IsAtomFolding (group_atom bare modifier marks prefix piece suffix) (group_atom bare modifier marks (map lower prefix) other (map lower suffix))
group_folds true modifier marks prefix suffix piece other folds = bare_folds modifier piece other folds
group_folds false modifier marks prefix suffix piece other folds =
    put_folds marks prefix (Item (Captured (affixed_core modifier marks prefix piece suffix)) quantifiers.Once (put marks suffix Nothing))
    (Item (Captured (affixed_core modifier marks (map lower prefix) other (map lower suffix))) quantifiers.Once (put marks (map lower suffix) Nothing))
    (affixed_folds modifier marks prefix suffix piece other folds, refl, put_folds marks suffix Nothing Nothing tt)

empty_kept : (text : List ℕ) → is_empty (map lower text) ≡ is_empty text
empty_kept [] = refl
empty_kept (c ∷ text) = refl

fixed_folds : (modifier : PartModifier) (marks value : List ℕ) (items others : Items) → IsFolding items others → IsFolding (fixed_tree modifier marks value items) (fixed_tree modifier marks (map lower value) others)
fixed_folds modifiers.None marks value items others folds = put_folds marks value items others folds
fixed_folds modifiers.Optional marks value items others folds = (put_folds marks value Nothing Nothing tt, refl, folds)
fixed_folds modifiers.ZeroOrMore marks value items others folds = (put_folds marks value Nothing Nothing tt, refl, folds)
fixed_folds modifiers.OneOrMore marks value items others folds = (put_folds marks value Nothing Nothing tt, refl, folds)

-- A group before items, by whether it has neither prefix nor suffix.
abbrev grouped : (bare : Bool) → OptionsView → PartType → PartView → Items → Items
grouped bare options kind part items =
    Item (group_atom bare part.modifier (escaped_marks options.syntax) part.prefix (wildcard_items options kind) part.suffix) (group_quantifier bare part.modifier) items

grouped_folds : (options : OptionsView) (kind : PartType) (part : PartView) (items others : Items) → IsFolding items others →
    IsFolding (grouped (is_empty part.prefix && is_empty part.suffix) options kind part items)
    (grouped (is_empty (map lower part.prefix) && is_empty (map lower part.suffix)) (lowered options) kind (folded_part true part) others)
grouped_folds options kind part items others folds =
    let bare = is_empty part.prefix && is_empty part.suffix in
    let same = ap₂ (λ (a b : Bool). a && b) (empty_kept part.prefix) (empty_kept part.suffix) in
    subst (λ (b : Bool). IsFolding (grouped bare options kind part items) (grouped b (lowered options) kind (folded_part true part) others)) (sym same)
    (group_folds bare part.modifier (escaped_marks options.syntax) part.prefix part.suffix (wildcard_items options kind) (wildcard_items (lowered options) kind) (wildcard_folds options kind), refl, folds)

part_folds : (kind : PartType) (options : OptionsView) (part : PartView) (items others : Items) → IsFolding items others → IsFolding (part_tree_by kind options part items) (part_tree_by kind (lowered options) (folded_part true part) others)
part_folds FixedText options part items others folds = fixed_folds part.modifier (escaped_marks options.syntax) part.value items others folds
part_folds SegmentWildcard options part items others folds = grouped_folds options SegmentWildcard part items others folds
part_folds FullWildcard options part items others folds = grouped_folds options FullWildcard part items others folds
part_folds Regexp options part items others folds = grouped_folds options Regexp part items others folds

parts_fold : (options : OptionsView) (parts : List PartView) → IsFolding (tree_of options parts) (tree_of (lowered options) (map (folded_part true) parts))
parts_fold options [] = tt
parts_fold options (part ∷ parts) = part_folds part.kind options part (tree_of options parts) (tree_of (lowered options) (map (folded_part true) parts)) (parts_fold options parts)

all_generated : (parts : List PartView) → AreGenerated parts → AreGenerated (map (folded_part true) parts)
all_generated parts are = All-map (λ (part : PartView). part.kind ≢ Regexp) (folded_part true) parts are

-- ---- first ways

some_mapped : {X Y : Type 0} (f : X → Y) (found : Option X) → is_some (option_map f found) ≡ is_some found
some_mapped f None = refl
some_mapped f (Some x) = refl

-- Where case is kept, there is a first way exactly if the parts mean the text.
some_means : (options : OptionsView) (parts : List PartView) (text : List ℕ) (found : Option Captures) → AreGenerated parts → first_way (tree_of options parts) text ≡ found → IsTrue (is_some found) ↔ ((captures : Captures) × PartsMean options parts text captures)
some_means options parts text None generated e =
    let tree = tree_of options parts in
    let is = is_tree_of options parts generated in
    (λ some. absurd (false≢true some), λ (captures, means). absurd (no_way_means_none tree is.1 text e captures ((each_tree_means options parts tree text captures generated is).1 means)))
some_means options parts text (Some captures) generated e =
    let tree = tree_of options parts in
    let is = is_tree_of options parts generated in
    (λ some. (captures, (each_tree_means options parts tree text captures generated is).0 (first_way_means tree is.1 text captures e)), λ means. refl)

-- Where case is ignored, there is a first way exactly if the parts mean the text.
ignored_means : (options : OptionsView) (parts : List PartView) (text : List ℕ) → AreGenerated parts → options.ignore_case ≡ true → IsTrue (is_some (parts_first_way_by true options parts text)) ↔ MeansText options parts text
ignored_means options parts text generated ignored =
    let tree = tree_of options parts in
    let folded_parts = map (folded_part true) parts in
    let other = tree_of (lowered options) folded_parts in
    let read = map lower text in
    let first = parts_first_way_by true options parts text in
    let folds : option_map folded_captures first ≡ first_way other read =
    ap (option_map folded_captures) (first_of_tree true options parts tree text generated (is_tree_of options parts generated)) ∙ first_way_folded tree other (parts_fold options parts) text in
    let found = some_means (lowered options) folded_parts read (first_way other read) (all_generated parts generated) refl in
    let same : is_some first ≡ is_some (first_way other read) = sym (some_mapped folded_captures first) ∙ ap is_some folds in
    let meant = generated_match (lowered options) folded_parts (all_generated parts generated) read in
    let Means : Bool → Type 0 = λ b. PartsMatch (record options { delimiter = option_map (folded_character b) options.delimiter }) (map (folded_part b) parts) (map (folded_character b) text) in (
      λ some. subst Means (sym ignored) (meant.1 (found.0 (sym same ∙ some))),
      λ means. same ∙ found.1 (meant.0 (subst Means ignored means)),
    )

-- ---- matchers

one_case : {E : Type 0} (IsEngine : List ℕ → Result E ErrorView → Type 0) (kind : PartType) (modifier : PartModifier) (options : OptionsView) (prefix : List ℕ) (part : PartView) (suffix : List ℕ) (matcher : MatcherView E) →
    IsMadeOfOne IsEngine kind modifier options prefix part suffix matcher → matcher.ignore_case ≡ options.ignore_case
one_case {E} IsEngine FullWildcard modifiers.None options prefix part suffix matcher is = ap (λ (it : MatcherView E). it.ignore_case) is
one_case {E} IsEngine FullWildcard modifiers.Optional options prefix part suffix matcher is = ap (λ (it : MatcherView E). it.ignore_case) is.2
one_case {E} IsEngine FullWildcard modifiers.ZeroOrMore options prefix part suffix matcher is = ap (λ (it : MatcherView E). it.ignore_case) is.2
one_case {E} IsEngine FullWildcard modifiers.OneOrMore options prefix part suffix matcher is = ap (λ (it : MatcherView E). it.ignore_case) is.2
one_case {E} IsEngine SegmentWildcard modifiers.None options prefix part suffix matcher is = ap (λ (it : MatcherView E). it.ignore_case) is
one_case {E} IsEngine SegmentWildcard modifiers.Optional options prefix part suffix matcher is = ap (λ (it : MatcherView E). it.ignore_case) is.2
one_case {E} IsEngine SegmentWildcard modifiers.ZeroOrMore options prefix part suffix matcher is = ap (λ (it : MatcherView E). it.ignore_case) is.2
one_case {E} IsEngine SegmentWildcard modifiers.OneOrMore options prefix part suffix matcher is = ap (λ (it : MatcherView E). it.ignore_case) is.2
one_case {E} IsEngine FixedText modifier options prefix part suffix matcher is = ap (λ (it : MatcherView E). it.ignore_case) is.2
one_case {E} IsEngine Regexp modifier options prefix part suffix matcher is = ap (λ (it : MatcherView E). it.ignore_case) is.2

between_case : {E : Type 0} (IsEngine : List ℕ → Result E ErrorView → Type 0) (options : OptionsView) (prefix : List ℕ) (middle : List PartView) (suffix : List ℕ) (matcher : MatcherView E) →
    IsMadeBetween IsEngine options prefix middle suffix matcher → matcher.ignore_case ≡ options.ignore_case
between_case {E} IsEngine options prefix [] suffix matcher is = ap (λ (it : MatcherView E). it.ignore_case) is
between_case {E} IsEngine options prefix (part ∷ []) suffix matcher is = one_case IsEngine part.kind part.modifier options prefix part suffix matcher is
between_case {E} IsEngine options prefix (part ∷ next ∷ parts) suffix matcher is = ap (λ (it : MatcherView E). it.ignore_case) is.2

-- A matcher ignores case if the options do.
pub made_case : {E : Type 0} (IsEngine : List ℕ → Result E ErrorView → Type 0) (options : OptionsView) (parts : List PartView) (matcher : MatcherView E) → IsMadeOf IsEngine options parts matcher → matcher.ignore_case ≡ options.ignore_case
made_case IsEngine options parts matcher made = between_case IsEngine options (end_text made.front) made.middle (end_text made.back) matcher made.is_made

whether_matched : {E : Type 0} (answer : E → List ℕ → Option Captures) (matcher : MatcherView E) (text : List ℕ) (found : Option Captures) → Returns answer matcher text found → IsTrue (is_some found) ↔ IsMatched answer matcher text
whether_matched answer matcher text None returns = (λ some. absurd (false≢true some), λ (captures, matched). absurd (returns captures matched))
whether_matched answer matcher text (Some captures) returns = (λ some. (captures, returns), λ matched. refl)

-- Where case is ignored, a matcher that returns the first way of parts matches what they mean.
first_matches : {E : Type 0} (answer : E → List ℕ → Option Captures) (options : OptionsView) (parts : List PartView) (matcher : MatcherView E) (text : List ℕ) → AreGenerated parts → options.ignore_case ≡ true →
    ((result : Option Captures) → Returns answer matcher text result → result ≡ parts_first_way_by options.ignore_case options parts text) → IsMatched answer matcher text ↔ MeansText options parts text
first_matches answer options parts matcher text generated ignored firsts =
    let whole = answered answer matcher text in
    let first : whole.0 ≡ parts_first_way_by true options parts text = firsts whole.0 whole.1 ∙ ap (λ (b : Bool). parts_first_way_by b options parts text) ignored in
    let matched = whether_matched answer matcher text whole.0 whole.1 in
    let means = ignored_means options parts text generated ignored in (
      λ is. means.0 (sym (ap is_some first) ∙ matched.1 is),
      λ is. matched.0 (ap is_some first ∙ means.1 is),
    )

-- Where case is ignored, a matcher whose engine honours the flag `i` matches what its parts mean.
pub ignored_matches : {E : Type 0} (engine : Engine E) → ValuesReturnByFlags engine → (options : OptionsView) (parts : List PartView) (matcher : MatcherView E) →
    IsMadeOf (IsEngineOf engine false (engine_flags options)) options parts matcher → AcceptedText (λ value. ⊤) matcher.inner → AreGenerated parts → options.ignore_case ≡ true →
    (text : List ℕ) → IsLine text → IsMatched engine.answer matcher text ↔ MeansText options parts text
ignored_matches engine by_flags options parts matcher made took generated ignored text line =
    first_matches engine.answer options parts matcher text generated ignored (λ result answers. generated_first engine by_flags options parts matcher made generated text line result answers took)

-- Where case is ignored, a matcher without an engine matches what its parts mean.
pub fast_matches : {E : Type 0} (engine : Engine E) (options : OptionsView) (parts : List PartView) (matcher : MatcherView E) →
    IsMadeOf (IsEngineOf engine false (engine_flags options)) options parts matcher → IsFast matcher.inner → AreGenerated parts → options.ignore_case ≡ true →
    (text : List ℕ) → IsLine text → IsMatched engine.answer matcher text ↔ MeansText options parts text
fast_matches engine options parts matcher made fast generated ignored text line =
    first_matches engine.answer options parts matcher text generated ignored
    (λ result answers. fast_first engine.answer (IsEngineOf engine false (engine_flags options)) options text result parts matcher made line.no_line_feed fast answers)
