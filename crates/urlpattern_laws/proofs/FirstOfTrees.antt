-- Without a custom part, the ways of parts are those of the tree of their regular expression.
use Rattle.std.proofs.Common.{◌≡◌, ◌≢◌, ℕ, suc, List, [], ◌∷◌, Bool, true, false, Option, Some, None, not, ◌&&◌, refl, sym, ap, ap₂, ◌∙◌, arith}
use Rattle.std.proofs.Math.Path.{fun_ext}
use Rattle.std.proofs.lemmas.List.Elements.{All-head, All-tail}
use Rattle.std.specs.Prelude.{All, option_map}
use Rattle.regex_syntax.specs.declared.Config.{Config}
use Rattle.urlpattern_laws.proofs.StrippedWays.{continued_idle, exactly_put, followed_assoc}
use Rattle.urlpattern_laws.specs.LawsOfWays.{FirstWaysAreOfEitherCase, FirstWaysAreOfTrees}
use Rattle.urlpattern_expressions.specs.Expressions.{config_for}
use Rattle.urlpattern_expressions.specs.PartWays.{affixed_ways_as, bare_ways, between_ways_as, captured_whole, copies_ways_as, exactly_as, fixed_ways_as, followed_by, is_in_segment_as, part_ways_as, parts_first_way_by, parts_ways_as, piece_ways_as, several_ways_as}
use Rattle.urlpattern_meaning.proofs.DialectUnique.{trees_are_one}
use Rattle.urlpattern_meaning.proofs.FoldedTrees.{first_way_folded, folds_itself}
use Rattle.urlpattern_meaning.proofs.OneMeaning.{is_tree_of}
use Rattle.urlpattern_meaning.proofs.PartTrees.{IsNotCustom, alone, between, character, copies, fixed_tree, further, group_atom, group_quantifier, part_tree_by, put, segment_atom, tree_of, wildcard_items}
use Rattle.urlpattern_meaning.proofs.TreeMeaning.{character_same}
use Rattle.urlpattern_meaning.proofs.WaysJoined.{both_put, both_ways, first_of}
use Rattle.urlpattern_meaning.specs.Dialect.{Quantifier, Once, Optional, ZeroOrMore, OneOrMore, LazyOneOrMore, Items, Nothing, Item, Atom, AnyBut, Captured, Dot, Grouped, atom_group_count, group_count}
use Rattle.urlpattern_meaning.specs.{Matching.folded, Matching.folded_captures, Matching.is_same_character, PartMeaning.Captures}
use Rattle.urlpattern_meaning.specs.Ways.{WaysByText, atom_ways_as, first_way, first_way_by, folded_items, one_that, quantified_ways, ways_as, ways_by}
use Rattle.urlpattern_syntax.specs.Options.{OptionsView}
use Rattle.urlpattern_syntax.specs.Parts.{PartView}
use Rattle.urlpattern_syntax.specs.RegexpText.{escaped_marks, is_empty, regexp_text}
use Rattle.urlpattern_syntax.specs.declared.parser.PartModifier.{PartModifier}
use Rattle.urlpattern_syntax.specs.declared.parser.PartModifier.TheVariants as modifiers
use Rattle.urlpattern_syntax.specs.declared.parser.PartType.{PartType}
use Rattle.urlpattern_syntax.specs.declared.parser.PartType.TheVariants.{FixedText, Regexp, SegmentWildcard, FullWildcard}

-- ---- items

put_count : (marks text : List ℕ) (items : Items) → group_count (put marks text items) ≡ group_count items
put_count marks [] items = refl
put_count marks (c ∷ text) items = omega (arith, put_count marks text items)

segment_count : (marks : List ℕ) (delimiter : Option ℕ) → group_count (alone (segment_atom marks delimiter) LazyOneOrMore) ≡ 0
segment_count marks None = refl
segment_count marks (Some c) = refl

module _ (config : Config) (same : (c given : ℕ) → Bool) where
  alone_ways : (atom : Atom) (quantifier : Quantifier) → ways_as same (alone atom quantifier) ≡ quantified_ways quantifier (atom_group_count atom) (atom_ways_as same atom)
  alone_ways atom quantifier = fun_ext (λ text. continued_idle (quantified_ways quantifier (atom_group_count atom) (atom_ways_as same atom) text))

  -- A text before items.
  text_ways : (marks text : List ℕ) (items : Items) → ways_as same (put marks text items) ≡ followed_by (exactly_as same text) (ways_as same items)
  text_ways marks text items =
      ap (ways_as same) (both_put marks text Nothing items) ∙ fun_ext (both_ways same (put marks text Nothing) items)
      ∙ ap (λ (first : WaysByText). followed_by first (ways_as same items)) (sym (exactly_put same marks text))

  -- ---- the content of groups

  atom_but : (marks : List ℕ) (c : ℕ) → atom_ways_as same (AnyBut (character marks c)) ≡ one_that (λ other. not (same other c))
  atom_but marks c = ap (λ (x : ℕ). one_that (λ other. not (same other x))) (character_same marks c)

  segment_ways : (marks : List ℕ) (delimiter : Option ℕ) → ways_as same (alone (segment_atom marks delimiter) LazyOneOrMore) ≡ quantified_ways LazyOneOrMore 0 (one_that (is_in_segment_as same delimiter))
  segment_ways marks None = alone_ways Dot LazyOneOrMore
  segment_ways marks (Some c) = alone_ways (AnyBut (character marks c)) LazyOneOrMore ∙ ap (quantified_ways LazyOneOrMore 0) (atom_but marks c)

  -- ---- groups

  module _ (marks prefix suffix : List ℕ) (items : Items) (piece : WaysByText) (none : group_count items ≡ 0) (is_piece : ways_as same items ≡ piece) where
    -- An atom with its quantifier.
    abbrev quantified : Atom → Quantifier → WaysByText
    quantified atom quantifier = quantified_ways quantifier (atom_group_count atom) (atom_ways_as same atom)

    repeated_ways : (quantifier : Quantifier) → ways_as same (alone (Grouped items) quantifier) ≡ quantified_ways quantifier 0 piece
    repeated_ways quantifier = alone_ways (Grouped items) quantifier ∙ ap₂ (λ (n : ℕ) (choice : WaysByText). quantified_ways quantifier n choice) none is_piece

    bare_same : (modifier : PartModifier) → quantified (group_atom true modifier marks prefix items suffix) (group_quantifier true modifier) ≡ bare_ways modifier piece
    bare_same modifiers.None = ap captured_whole is_piece
    bare_same modifiers.Optional = ap₂ (λ (n : ℕ) (choice : WaysByText). quantified_ways Optional n (captured_whole choice)) (ap (λ n. suc n) none) is_piece
    bare_same modifiers.ZeroOrMore = ap captured_whole (repeated_ways ZeroOrMore)
    bare_same modifiers.OneOrMore = ap captured_whole (repeated_ways OneOrMore)

    -- A capture between prefix and suffix.
    between_same : (core : Items) (choice : WaysByText) → ways_as same core ≡ choice → ways_as same (between marks prefix core suffix) ≡ between_ways_as same prefix suffix choice
    between_same core choice e =
        text_ways marks prefix (Item (Captured core) Once (put marks suffix Nothing))
        ∙ ap₂ (λ (first next : WaysByText). followed_by (exactly_as same prefix) (followed_by (captured_whole first) next)) e (sym (exactly_put same marks suffix))
        ∙ followed_assoc (exactly_as same prefix) (captured_whole choice) (exactly_as same suffix)

    between_count : (core : Items) → group_count core ≡ 0 → group_count (between marks prefix core suffix) ≡ 1
    between_count core e = omega (arith, e, put_count marks prefix (Item (Captured core) Once (put marks suffix Nothing)), put_count marks suffix Nothing)

    abbrev one_further : Items
    one_further = further marks prefix items suffix

    further_same : ways_as same one_further ≡ followed_by (followed_by (exactly_as same suffix) (exactly_as same prefix)) piece
    further_same =
        text_ways marks suffix (put marks prefix (alone (Grouped items) Once))
        ∙ ap (followed_by (exactly_as same suffix)) (text_ways marks prefix (alone (Grouped items) Once) ∙ ap (followed_by (exactly_as same prefix)) (repeated_ways Once))
        ∙ followed_assoc (exactly_as same suffix) (exactly_as same prefix) piece

    further_count : group_count one_further ≡ 0
    further_count = omega (arith, none, put_count marks suffix (put marks prefix (alone (Grouped items) Once)), put_count marks prefix (alone (Grouped items) Once))

    several_same : ways_as same (copies marks prefix items suffix) ≡ several_ways_as same prefix suffix piece
    several_same =
        ap₂ (λ (first next : WaysByText). followed_by first next) is_piece
        (alone_ways (Grouped one_further) ZeroOrMore ∙ ap₂ (λ (n : ℕ) (choice : WaysByText). quantified_ways ZeroOrMore n choice) further_count further_same)

    several_count : group_count (copies marks prefix items suffix) ≡ 0
    several_count = omega (arith, none, further_count)

    abbrev optional : (n : ℕ) → WaysByText → WaysByText
    optional n choice = quantified_ways Optional n choice

    affixed_same : (modifier : PartModifier) → quantified (group_atom false modifier marks prefix items suffix) (group_quantifier false modifier) ≡ affixed_ways_as same modifier prefix suffix piece
    affixed_same modifiers.None = between_same items piece is_piece
    affixed_same modifiers.Optional = ap₂ optional (between_count items none) (between_same items piece is_piece)
    affixed_same modifiers.OneOrMore = between_same (copies marks prefix items suffix) (several_ways_as same prefix suffix piece) several_same
    affixed_same modifiers.ZeroOrMore =
        ap₂ optional (between_count (copies marks prefix items suffix) several_count) (between_same (copies marks prefix items suffix) (several_ways_as same prefix suffix piece) several_same)

    copies_same : (is_bare : Bool) (modifier : PartModifier) → quantified (group_atom is_bare modifier marks prefix items suffix) (group_quantifier is_bare modifier) ≡ copies_ways_as same is_bare modifier prefix suffix piece
    copies_same true modifier = bare_same modifier
    copies_same false modifier = affixed_same modifier

  -- ---- parts

  repeated_text : (quantifier : Quantifier) (marks value : List ℕ) (items : Items)
      → ways_as same (Item (Grouped (put marks value Nothing)) quantifier items) ≡ followed_by (quantified_ways quantifier 0 (exactly_as same value)) (ways_as same items)
  repeated_text quantifier marks value items =
      ap₂ (λ (n : ℕ) (choice : WaysByText). followed_by (quantified_ways quantifier n choice) (ways_as same items)) (put_count marks value Nothing) (sym (exactly_put same marks value))

  fixed_same : (modifier : PartModifier) (marks value : List ℕ) (items : Items) → ways_as same (fixed_tree modifier marks value items) ≡ followed_by (fixed_ways_as same modifier value) (ways_as same items)
  fixed_same modifiers.None marks value items = text_ways marks value items
  fixed_same modifiers.Optional marks value items = repeated_text Optional marks value items
  fixed_same modifiers.ZeroOrMore marks value items = repeated_text ZeroOrMore marks value items
  fixed_same modifiers.OneOrMore marks value items = repeated_text OneOrMore marks value items

  group_same : (options : OptionsView) (kind : PartType) (part : PartView) (items : Items) → group_count (wildcard_items options kind) ≡ 0 → ways_as same (wildcard_items options kind) ≡ piece_ways_as config same options kind part.value
      → followed_by (quantified_ways (group_quantifier (is_empty part.prefix && is_empty part.suffix) part.modifier)
      (atom_group_count (group_atom (is_empty part.prefix && is_empty part.suffix) part.modifier (escaped_marks options.syntax) part.prefix (wildcard_items options kind) part.suffix))
      (atom_ways_as same (group_atom (is_empty part.prefix && is_empty part.suffix) part.modifier (escaped_marks options.syntax) part.prefix (wildcard_items options kind) part.suffix))) (ways_as same items)
      ≡ followed_by (copies_ways_as same (is_empty part.prefix && is_empty part.suffix) part.modifier part.prefix part.suffix (piece_ways_as config same options kind part.value)) (ways_as same items)
  group_same options kind part items none is_piece =
      ap (λ (first : WaysByText). followed_by first (ways_as same items))
      (copies_same (escaped_marks options.syntax) part.prefix part.suffix (wildcard_items options kind) (piece_ways_as config same options kind part.value) none is_piece (is_empty part.prefix && is_empty part.suffix) part.modifier)

  part_same : (options : OptionsView) (kind : PartType) (part : PartView) (items : Items) → kind ≢ Regexp → ways_as same (part_tree_by kind options part items) ≡ followed_by (part_ways_as config same kind options part) (ways_as same items)
  part_same options FixedText part items plain = fixed_same part.modifier (escaped_marks options.syntax) part.value items
  part_same options Regexp part items plain = absurd (plain refl)
  part_same options SegmentWildcard part items plain =
      group_same options SegmentWildcard part items (segment_count (escaped_marks options.syntax) options.delimiter) (segment_ways (escaped_marks options.syntax) options.delimiter)
  part_same options FullWildcard part items plain = group_same options FullWildcard part items refl (alone_ways Dot ZeroOrMore)

  pub ways_of_tree : (options : OptionsView) (parts : List PartView) → All IsNotCustom parts → ways_as same (tree_of options parts) ≡ parts_ways_as config same options parts
  ways_of_tree options [] plain = refl
  ways_of_tree options (part ∷ parts) plain =
      part_same options part.kind part (tree_of options parts) (All-head IsNotCustom part parts plain)
      ∙ ap (followed_by (part_ways_as config same part.kind options part)) (ways_of_tree options parts (All-tail IsNotCustom part parts plain))

pub first_of_tree : FirstWaysAreOfTrees
unfolding parts_first_way_by first_way_by
first_of_tree ignore_case options parts tree text plain is =
    ap (λ (choice : WaysByText). first_of (choice text)) (sym (ways_of_tree (config_for ignore_case) (is_same_character ignore_case) options parts plain))
    ∙ ap (λ (t : Items). first_of (ways_by ignore_case t text)) (trees_are_one (regexp_text options parts) (tree_of options parts) tree (is_tree_of options parts plain) is)

pub first_of_either_case : FirstWaysAreOfEitherCase
first_of_either_case options parts text other plain same =
    let tree = tree_of options parts in
    let is = is_tree_of options parts plain in
    let Folded : List ℕ → Option Captures = λ t. first_way (folded_items tree) (folded true t) in
    let folds : (t : List ℕ) → option_map folded_captures (parts_first_way_by true options parts t) ≡ Folded t = λ t.
    ap (option_map folded_captures) (first_of_tree true options parts tree t plain is) ∙ first_way_folded tree (folded_items tree) (folds_itself tree) t in
    folds text ∙ ap (first_way (folded_items tree)) same ∙ sym (folds other)
