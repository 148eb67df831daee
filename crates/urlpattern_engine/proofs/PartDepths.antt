-- The tree of parts is not deep, so `regex` does not reject its text for its syntax.
use Rattle.std.proofs.Common.{◌≡◌, ℕ, suc, ◌-◌, ◌^◌, ◌≤◌, ◌<◌, List, [], ◌∷◌, Option, Some, None, Bool, true, false, ◌&&◌, ◌⊎◌, inl, inr, refl, sym, ap, ◌∙◌, subst, arith, codes}
use Rattle.std.specs.Prelude.{All, IsTrue, encode_utf8_all}
use Rattle.std.specs.Str.{all_scalars}
use Rattle.regex_syntax.specs.declared.error.ErrorKind.{ErrorKind}
use Rattle.regex_syntax.specs.declared.error.ErrorKind.TheVariants.{OutOfMemory}
use Rattle.regex_syntax.specs.Verdict.{default_config, Refuses}
use lib.Utf8.{scalars}
use Rattle.urlpattern_meaning.specs.Dialect.{Captured, Grouped, Items, Item, Nothing, Quantifier, Once, Optional, ZeroOrMore, OneOrMore, LazyOneOrMore, IsTreeOf, items_text, group_count}
use Rattle.urlpattern_syntax.specs.declared.parser.PartModifier.{PartModifier}
use Rattle.urlpattern_syntax.specs.declared.parser.PartModifier.TheVariants as modifiers
use Rattle.urlpattern_syntax.specs.declared.parser.PartType.{PartType}
use Rattle.urlpattern_syntax.specs.declared.parser.PartType.TheVariants.{FixedText, Regexp, SegmentWildcard, FullWildcard}
use Rattle.urlpattern_syntax.specs.Options.{OptionsView}
use Rattle.urlpattern_syntax.specs.Parts.{PartView}
use Rattle.urlpattern_syntax.specs.RegexpText.{escaped_marks, is_empty, regexp_text}
use Rattle.urlpattern_meaning.proofs.DialectUnique.{trees_are_one}
use Rattle.urlpattern_meaning.proofs.OneMeaning.{is_tree_of}
use Rattle.urlpattern_meaning.proofs.PartTrees.{IsNotCustom, affixed_core, alone, bare_core, between, copies, fixed_tree, further, group_atom, group_quantifier, part_tree_by, put, segment_atom, tree_of, wildcard_items}
use Rattle.urlpattern_engine.proofs.TreeDepths.{atom_depth, items_depth, quantifier_depth, refused_tree}
use Rattle.urlpattern_engine.proofs.TreesRead.{scalars_parts}

put_depth : (marks text : List ℕ) (items : Items) → items_depth (put marks text items) ≡ items_depth items
put_depth marks [] items = refl
put_depth marks (c ∷ text) items = omega (arith, put_depth marks text items)

segment_depth : (marks : List ℕ) (delimiter : Option ℕ) → atom_depth (segment_atom marks delimiter) ≤ 1
segment_depth marks None = omega arith
segment_depth marks (Some c) = omega arith

wildcard_depth : (options : OptionsView) (kind : PartType) → items_depth (wildcard_items options kind) ≤ 2
wildcard_depth options SegmentWildcard = omega (arith, segment_depth (escaped_marks options.syntax) options.delimiter)
wildcard_depth options FullWildcard = omega arith
wildcard_depth options FixedText = omega arith
wildcard_depth options Regexp = omega arith

fixed_depth : (modifier : PartModifier) (marks value : List ℕ) (items : Items) → items_depth items ≤ 20 → items_depth (fixed_tree modifier marks value items) ≤ 20
fixed_depth modifiers.None marks value items le = omega (arith, put_depth marks value items, le)
fixed_depth modifiers.Optional marks value items le = omega (arith, put_depth marks value Nothing, le)
fixed_depth modifiers.ZeroOrMore marks value items le = omega (arith, put_depth marks value Nothing, le)
fixed_depth modifiers.OneOrMore marks value items le = omega (arith, put_depth marks value Nothing, le)

bare_depth : (modifier : PartModifier) (piece : Items) → items_depth piece ≤ 2 → items_depth (bare_core modifier piece) ≤ 8
bare_depth modifiers.None piece le = omega (arith, le)
bare_depth modifiers.Optional piece le = omega (arith, le)
bare_depth modifiers.ZeroOrMore piece le = omega (arith, le)
bare_depth modifiers.OneOrMore piece le = omega (arith, le)

further_depth : (marks prefix : List ℕ) (piece : Items) (suffix : List ℕ) → items_depth piece ≤ 2 → items_depth (further marks prefix piece suffix) ≤ 4
further_depth marks prefix piece suffix le =
    let outer = put_depth marks suffix (put marks prefix (alone (Grouped piece) Once)) in
    let inner = put_depth marks prefix (alone (Grouped piece) Once) in
    omega (arith, outer, inner, le)

copies_depth : (marks prefix : List ℕ) (piece : Items) (suffix : List ℕ) → items_depth piece ≤ 2 → items_depth (copies marks prefix piece suffix) ≤ 8
copies_depth marks prefix piece suffix le = omega (arith, further_depth marks prefix piece suffix le, le)

affixed_depth : (modifier : PartModifier) (marks prefix : List ℕ) (piece : Items) (suffix : List ℕ) → items_depth piece ≤ 2 → items_depth (affixed_core modifier marks prefix piece suffix) ≤ 8
affixed_depth modifiers.None marks prefix piece suffix le = omega (arith, le)
affixed_depth modifiers.Optional marks prefix piece suffix le = omega (arith, le)
affixed_depth modifiers.ZeroOrMore marks prefix piece suffix le = copies_depth marks prefix piece suffix le
affixed_depth modifiers.OneOrMore marks prefix piece suffix le = copies_depth marks prefix piece suffix le

between_depth : (marks prefix : List ℕ) (core : Items) (suffix : List ℕ) → items_depth core ≤ 8 → items_depth (between marks prefix core suffix) ≤ 10
between_depth marks prefix core suffix le =
    omega (arith, put_depth marks prefix (Item (Captured core) Once (put marks suffix Nothing)), put_depth marks suffix Nothing, le)

group_depth : (is_bare : Bool) (modifier : PartModifier) (marks prefix : List ℕ) (piece : Items) (suffix : List ℕ) → items_depth piece ≤ 2 → atom_depth (group_atom is_bare modifier marks prefix piece suffix) ≤ 12
group_depth true modifier marks prefix piece suffix le = omega (arith, bare_depth modifier piece le)
group_depth false modifier marks prefix piece suffix le =
    omega (arith, between_depth marks prefix (affixed_core modifier marks prefix piece suffix) suffix (affixed_depth modifier marks prefix piece suffix le))

quantifier_shallow : (quantifier : Quantifier) → quantifier_depth quantifier ≤ 1
quantifier_shallow Once = omega arith
quantifier_shallow Optional = omega arith
quantifier_shallow ZeroOrMore = omega arith
quantifier_shallow OneOrMore = omega arith
quantifier_shallow LazyOneOrMore = omega arith

grouped_depth : (options : OptionsView) (kind : PartType) (part : PartView) (items : Items) → items_depth items ≤ 20 →
    items_depth (Item (group_atom (is_empty part.prefix && is_empty part.suffix) part.modifier (escaped_marks options.syntax) part.prefix (wildcard_items options kind) part.suffix)
    (group_quantifier (is_empty part.prefix && is_empty part.suffix) part.modifier) items) ≤ 20
grouped_depth options kind part items le =
    let is_bare = is_empty part.prefix && is_empty part.suffix in
    omega (
      arith,
      le,
      group_depth is_bare part.modifier (escaped_marks options.syntax) part.prefix (wildcard_items options kind) part.suffix (wildcard_depth options kind),
      quantifier_shallow (group_quantifier is_bare part.modifier),
    )

part_depth : (options : OptionsView) (kind : PartType) (part : PartView) (items : Items) → items_depth items ≤ 20 → items_depth (part_tree_by kind options part items) ≤ 20
part_depth options FixedText part items le = fixed_depth part.modifier (escaped_marks options.syntax) part.value items le
part_depth options Regexp part items le = grouped_depth options Regexp part items le
part_depth options SegmentWildcard part items le = grouped_depth options SegmentWildcard part items le
part_depth options FullWildcard part items le = grouped_depth options FullWildcard part items le

-- No list of parts has a deep tree.
tree_depth : (options : OptionsView) (parts : List PartView) → items_depth (tree_of options parts) ≤ 20
tree_depth options [] = omega arith
tree_depth options (part ∷ parts) = part_depth options part.kind part (tree_of options parts) (tree_depth options parts)

abbrev IsRefusedAs : ErrorKind → List ℕ → Type 0
IsRefusedAs kind regexp = Refuses default_config (encode_utf8_all regexp) kind

pub refused_for_memory : (options : OptionsView) (parts : List PartView) (tree : Items) (kind : ErrorKind) → All IsNotCustom parts → IsTreeOf (regexp_text options parts) tree →
    IsTrue (all_scalars (regexp_text options parts)) → group_count tree < 2 ^ 32 - 1 → Refuses default_config (encode_utf8_all (regexp_text options parts)) kind → kind ≡ OutOfMemory
refused_for_memory options parts tree kind plain is characters few refuses =
    let same : tree ≡ tree_of options parts = trees_are_one (regexp_text options parts) tree (tree_of options parts) is (is_tree_of options parts plain) in
    let shallow : items_depth tree ≤ 20 = subst (λ (t : Items). items_depth t ≤ 20) (sym same) (tree_depth options parts) in
    let good : scalars (items_text tree) ≡ true = (scalars_parts (items_text tree) (codes "$") (sym (ap scalars is.0) ∙ characters)).0 in
    reason few shallow (refused_tree tree is.1 good kind (subst (IsRefusedAs kind) is.0 refuses))
  where
    reason : group_count tree < 2 ^ 32 - 1 → items_depth tree ≤ 20 → (kind ≡ OutOfMemory) ⊎ ((2 ^ 32 < suc (group_count tree)) ⊎ (250 ≤ items_depth tree)) → kind ≡ OutOfMemory
    reason few shallow (inl memory) = memory
    reason few shallow (inr (inl many)) = absurd (omega (arith, few, many))
    reason few shallow (inr (inr deep)) = absurd (omega (arith, shallow, deep))
