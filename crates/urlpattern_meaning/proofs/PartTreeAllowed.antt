-- The tree of parts is allowed: marks have a backslash, and a repeated group does not capture.
use Rattle.std.proofs.Common.{◌≡◌, ℕ, ◌+◌, List, [], ◌∷◌, ◌++◌, refl, sym, ap, Bool, true, false, Some, None, Option, ◌∙◌, arith}
use Rattle.std.proofs.lemmas.List.Elements.{All-head, All-tail}
use Rattle.std.proofs.lemmas.List.Folds.{list_any-append}
use Rattle.std.specs.Prelude.{codes, ◌≢◌, ◌==◌, ◌||◌, ◌&&◌, if◌then◌else◌, All, IsTrue}
use Rattle.urlpattern_meaning.specs.Dialect.{AllowsGroups, AreItems, Items, Nothing, IsAtom, IsCharacter, IsClassCharacter, class_marks, Plain, Escaped, LazyOneOrMore, group_count}
use Rattle.urlpattern_syntax.specs.declared.parser.PartModifier.{PartModifier}
use Rattle.urlpattern_syntax.specs.declared.parser.PartModifier.TheVariants as modifiers
use Rattle.urlpattern_syntax.specs.declared.parser.PartType.{PartType}
use Rattle.urlpattern_syntax.specs.declared.parser.PartType.TheVariants.{FixedText, Regexp, SegmentWildcard, FullWildcard}
use Rattle.urlpattern_syntax.specs.declared.parser.RegexSyntax.{RegexSyntax}
use Rattle.urlpattern_syntax.specs.declared.parser.RegexSyntax.TheVariants.{Rust, EcmaScript}
use Rattle.urlpattern_syntax.specs.Options.{OptionsView}
use Rattle.urlpattern_syntax.specs.Parts.{PartView}
use Rattle.urlpattern_syntax.specs.RegexpText.{escaped_marks, is_empty, regexp_marks, IsWildcard}
use Rattle.urlpattern_syntax.specs.Text.{is_among}
use Rattle.urlpattern_meaning.proofs.DialectLeads.{passed}
use Rattle.urlpattern_meaning.proofs.MatchingLaws.{part_of}
use Rattle.urlpattern_meaning.proofs.PartTrees.{IsNotCustom, affixed_core, alone, bare_core, copies, fixed_tree, further, group_atom, group_quantifier, part_tree, put, segment_atom, tree_of, wildcard_items}
use Rattle.urlpattern_syntax.proofs.TokenExamples.{no}

-- ---- marks

or_left : (a b : Bool) → IsTrue a → IsTrue (a || b)
or_left true b h = refl
or_left false b h = absurd (no h)

-- Each of the marks may have a backslash, and no other character needs one.
pub record AreMarks (marks : List ℕ) : Type 0 where
  pub may : (c : ℕ) → IsTrue (is_among marks c) → IsTrue (is_among (regexp_marks ++ codes "/") c)
  pub must : (c : ℕ) → IsTrue (is_among regexp_marks c) → IsTrue (is_among marks c)

among_more : (marks more : List ℕ) (c : ℕ) → IsTrue (is_among marks c) → IsTrue (is_among (marks ++ more) c)
among_more marks more c h = list_any-append (λ mark. mark == c) marks more ∙ or_left (is_among marks c) (is_among more c) h

marks_of : (syntax : RegexSyntax) → AreMarks (escaped_marks syntax)
marks_of Rust = record { may = among_more regexp_marks (codes "/"); must = λ c h. h }
marks_of EcmaScript = record { may = λ c h. h; must = among_more regexp_marks (codes "/") }

-- ---- texts

character_by : (marks : List ℕ) → AreMarks marks → (c : ℕ) (is_mark : Bool) → is_among marks c ≡ is_mark → IsCharacter (if is_mark then Escaped c else Plain c)
character_by marks are c true e = are.may c e
character_by marks are c false e = λ h. no (sym e ∙ are.must c h)

class_character_by : (marks : List ℕ) → AreMarks marks → (c : ℕ) (is_mark : Bool) → is_among marks c ≡ is_mark → IsClassCharacter (if is_mark then Escaped c else Plain c)
class_character_by marks are c true e = are.may c e
class_character_by marks are c false e = λ h. no (sym e ∙ are.must c (passed (is_among regexp_marks) class_marks refl c h))

put_allowed : (marks text : List ℕ) (items : Items) → AreMarks marks → AreItems items → AreItems (put marks text items)
put_allowed marks [] items are allowed = allowed
put_allowed marks (c ∷ text) items are allowed = (character_by marks are c (is_among marks c) refl, tt, put_allowed marks text items are allowed)

-- A text alone is allowed.
pub text_allowed : (options : OptionsView) (text : List ℕ) → AreItems (put (escaped_marks options.syntax) text Nothing)
text_allowed options text = put_allowed (escaped_marks options.syntax) text Nothing (marks_of options.syntax) tt

-- A text has no groups.
pub put_groups : (marks text : List ℕ) (items : Items) → group_count (put marks text items) ≡ group_count items
put_groups marks [] items = refl
put_groups marks (c ∷ text) items = let e : 0 + group_count (put marks text items) ≡ group_count (put marks text items) = omega arith in e ∙ put_groups marks text items

-- ---- wildcards

-- Items that are allowed, and capture nothing.
pub record AreGroupless (items : Items) : Type 0 where
  pub allowed : AreItems items
  pub no_groups : group_count items ≡ 0

segment_allowed : (marks : List ℕ) (delimiter : Option ℕ) → AreMarks marks → AreGroupless (alone (segment_atom marks delimiter) LazyOneOrMore)
segment_allowed marks None are = record { allowed = (tt, refl, tt); no_groups = refl }
segment_allowed marks (Some c) are = record { allowed = (class_character_by marks are c (is_among marks c) refl, refl, tt); no_groups = refl }

pub wildcard_allowed : (options : OptionsView) (kind : PartType) → IsWildcard kind → AreGroupless (wildcard_items options kind)
wildcard_allowed options SegmentWildcard h = segment_allowed (escaped_marks options.syntax) options.delimiter (marks_of options.syntax)
wildcard_allowed options FullWildcard h = record { allowed = (tt, refl, tt); no_groups = refl }
wildcard_allowed options kind h = absurd h

-- ---- one part

fixed_allowed : (modifier : PartModifier) (marks value : List ℕ) (items : Items) → AreMarks marks → AreItems items → AreItems (fixed_tree modifier marks value items)
fixed_allowed modifiers.None marks value items are allowed = put_allowed marks value items are allowed
fixed_allowed modifiers.Optional marks value items are allowed = (put_allowed marks value Nothing are tt, tt, allowed)
fixed_allowed modifiers.ZeroOrMore marks value items are allowed = (put_allowed marks value Nothing are tt, put_groups marks value Nothing, allowed)
fixed_allowed modifiers.OneOrMore marks value items are allowed = (put_allowed marks value Nothing are tt, put_groups marks value Nothing, allowed)

bare_allowed : (modifier : PartModifier) (piece : Items) → AreGroupless piece → AreItems (bare_core modifier piece)
bare_allowed modifiers.None piece groupless = groupless.allowed
bare_allowed modifiers.Optional piece groupless = groupless.allowed
bare_allowed modifiers.ZeroOrMore piece groupless = (groupless.allowed, groupless.no_groups, tt)
bare_allowed modifiers.OneOrMore piece groupless = (groupless.allowed, groupless.no_groups, tt)

further_groups : (marks prefix : List ℕ) (piece : Items) (suffix : List ℕ) → group_count piece ≡ 0 → group_count (further marks prefix piece suffix) ≡ 0
further_groups marks prefix piece suffix e = put_groups marks suffix _ ∙ put_groups marks prefix _ ∙ ap (λ n. n + 0) e

pub copies_groups : (marks prefix : List ℕ) (piece : Items) (suffix : List ℕ) → group_count piece ≡ 0 → group_count (copies marks prefix piece suffix) ≡ 0
copies_groups marks prefix piece suffix e =
    ap (λ n. n + (group_count (further marks prefix piece suffix) + 0)) e ∙ ap (λ n. 0 + (n + 0)) (further_groups marks prefix piece suffix e)

copies_allowed : (marks prefix : List ℕ) (piece : Items) (suffix : List ℕ) → AreMarks marks → AreGroupless piece → AreItems (copies marks prefix piece suffix)
copies_allowed marks prefix piece suffix are groupless = (
  groupless.allowed,
  tt,
  (put_allowed marks suffix _ are (put_allowed marks prefix _ are (groupless.allowed, tt, tt)), further_groups marks prefix piece suffix groupless.no_groups, tt),
)

affixed_allowed : (modifier : PartModifier) (marks prefix : List ℕ) (piece : Items) (suffix : List ℕ) → AreMarks marks → AreGroupless piece → AreItems (affixed_core modifier marks prefix piece suffix)
affixed_allowed modifiers.None marks prefix piece suffix are groupless = groupless.allowed
affixed_allowed modifiers.Optional marks prefix piece suffix are groupless = groupless.allowed
affixed_allowed modifiers.ZeroOrMore marks prefix piece suffix are groupless = copies_allowed marks prefix piece suffix are groupless
affixed_allowed modifiers.OneOrMore marks prefix piece suffix are groupless = copies_allowed marks prefix piece suffix are groupless

group_allowed : (is_bare : Bool) (modifier : PartModifier) (marks prefix : List ℕ) (piece : Items) (suffix : List ℕ) → AreMarks marks → AreGroupless piece → IsAtom (group_atom is_bare modifier marks prefix piece suffix)
group_allowed true modifier marks prefix piece suffix are groupless = bare_allowed modifier piece groupless
group_allowed false modifier marks prefix piece suffix are groupless =
    put_allowed marks prefix _ are (affixed_allowed modifier marks prefix piece suffix are groupless, tt, put_allowed marks suffix Nothing are tt)

-- The atom of a group is not repeated.
group_taken : (is_bare : Bool) (modifier : PartModifier) (groups : ℕ) → AllowsGroups (group_quantifier is_bare modifier) groups
group_taken true modifiers.None groups = tt
group_taken true modifiers.Optional groups = tt
group_taken true modifiers.ZeroOrMore groups = tt
group_taken true modifiers.OneOrMore groups = tt
group_taken false modifiers.None groups = tt
group_taken false modifiers.Optional groups = tt
group_taken false modifiers.ZeroOrMore groups = tt
group_taken false modifiers.OneOrMore groups = tt

part_allowed : (options : OptionsView) (kind : PartType) (modifier : PartModifier) (value name prefix suffix : List ℕ) (items : Items) → kind ≢ Regexp → AreItems items →
    AreItems (part_tree options (part_of kind modifier value name prefix suffix) items)
part_allowed options FixedText modifier value name prefix suffix items h allowed = fixed_allowed modifier (escaped_marks options.syntax) value items (marks_of options.syntax) allowed
part_allowed options Regexp modifier value name prefix suffix items h allowed = absurd (h refl)
part_allowed options SegmentWildcard modifier value name prefix suffix items h allowed = (
  group_allowed (is_empty prefix && is_empty suffix) modifier _ prefix _ suffix (marks_of options.syntax) (wildcard_allowed options SegmentWildcard tt),
  group_taken (is_empty prefix && is_empty suffix) modifier _,
  allowed,
)
part_allowed options FullWildcard modifier value name prefix suffix items h allowed = (
  group_allowed (is_empty prefix && is_empty suffix) modifier _ prefix _ suffix (marks_of options.syntax) (wildcard_allowed options FullWildcard tt),
  group_taken (is_empty prefix && is_empty suffix) modifier _,
  allowed,
)

-- ---- a list of parts

pub tree_allowed : (options : OptionsView) (parts : List PartView) → All IsNotCustom parts → AreItems (tree_of options parts)
tree_allowed options [] h = tt
tree_allowed options (part ∷ parts) h =
    part_allowed options part.kind part.modifier part.value part.name part.prefix part.suffix (tree_of options parts)
    (All-head IsNotCustom part parts h) (tree_allowed options parts (All-tail IsNotCustom part parts h))
