-- The trees of expressions that are generated from parts have the forms that can be parsed.
use Rattle.std.proofs.Common.{◌≡◌, ℕ, Bool, true, false, List, [], ◌∷◌, ◌++◌, Option, Some, None, refl, ap, inl, inr}
use Rattle.std.proofs.lemmas.Bool.{true≢false}
use Rattle.std.proofs.lemmas.List.Elements.{All-head, All-tail}
use Rattle.std.specs.Prelude.{◌≢◌, ◌⊎◌, ◌&&◌, All}
use Rattle.urlpattern_meaning.specs.Dialect.{AnyBut, Atom, Captured, Character, Dot, Grouped, Item, Items, LazyOneOrMore, Nothing, Once, OneOrMore, Optional, Quantifier, ZeroOrMore, character_of}
use Rattle.urlpattern_meaning.specs.Dialect as dialect
use Rattle.urlpattern_meaning.proofs.MatchingLaws.{part_of}
use Rattle.urlpattern_meaning.proofs.PartTrees.{IsNotCustom, affixed_core, affixed_quantifier, alone, bare_core, bare_quantifier, between, character, copies, fixed_tree, group_atom, group_quantifier, part_tree, put, segment_atom, tree_of, wildcard_items}
use Rattle.urlpattern_syntax.specs.declared.parser.PartModifier.{PartModifier}
use Rattle.urlpattern_syntax.specs.declared.parser.PartModifier.TheVariants as modifiers
use Rattle.urlpattern_syntax.specs.declared.parser.PartType.{PartType}
use Rattle.urlpattern_syntax.specs.declared.parser.PartType.TheVariants.{FixedText, Regexp, SegmentWildcard, FullWildcard}
use Rattle.urlpattern_syntax.specs.Options.{OptionsView}
use Rattle.urlpattern_syntax.specs.Parts.{PartView}
use Rattle.urlpattern_syntax.specs.RegexpText.{IsWildcard, escaped_marks, is_empty}
use Rattle.urlpattern_syntax.specs.Text.{line_feed}
use Rattle.urlpattern_steps.specs.declared.step_tokens.GroupQuantifier.{GroupQuantifier}
use Rattle.urlpattern_steps.specs.declared.step_tokens.GroupQuantifier.TheVariants as often
use Rattle.urlpattern_steps.specs.declared.step.Step.{Step}
use Rattle.urlpattern_steps.specs.declared.step.Step.TheVariants.{Literal, GreedyRun}
use Rattle.urlpattern_steps.specs.ReadSteps.{IsRunOf, IsStepOf, quantifier_of}
use Rattle.urlpattern_steps.specs.Walk.{capture_count}
use Rattle.urlpattern_steps.proofs.PrefixLemmas.{run_step, run_step_is}
use Rattle.urlpattern_steps.proofs.SegmentLemmas.{in_order, segment_items}
use Rattle.urlpattern_steps.proofs.StepTokenLemmas.{captures_one}

-- ---- the forms

-- An atom of one step, with its quantifier.
abbrev pub IsStep : Quantifier → Atom → Type 0
IsStep Once atom = (step : Step) × IsStepOf step atom
IsStep Optional atom = (step : Step) × IsStepOf step atom × (capture_count (step ∷ []) ≡ 1)
IsStep quantifier atom = ⊥

-- The atom captures runs with a separator of one or more characters.
pub record IsSegmentGroup (atom : Atom) : Type 0 where
  pub end : ℕ
  pub is_greedy : Bool
  pub first : Items
  pub character : Character
  pub characters : List Character
  pub last : Items
  pub is_first : IsRunOf end is_greedy first
  pub is_last : IsRunOf end is_greedy last
  pub same : atom ≡ Captured (segment_items first (character ∷ characters) last)

-- The body of a group that is matched at most once.
abbrev pub AreInside : Items → Type 0
AreInside Nothing = Unit {0}
AreInside (Item atom Once items) = (IsStep Once atom ⊎ IsSegmentGroup atom) × AreInside items
AreInside (Item atom quantifier items) = ⊥

-- The items are literal characters.
abbrev pub AreSingle : Items → Type 0
AreSingle Nothing = Unit {0}
AreSingle (Item (dialect.Literal character) Once items) = AreSingle items
AreSingle (Item atom quantifier items) = ⊥

-- The body of a group with this quantifier.
abbrev pub StandInside : GroupQuantifier → Items → Type 0
StandInside often.Once items = AreInside items
StandInside often.Optional items = AreInside items
StandInside often.ZeroOrMore items = AreSingle items
StandInside often.OneOrMore items = AreSingle items

-- The atom is a group with its quantifier.
pub record IsGroupAtom (quantifier : Quantifier) (atom : Atom) : Type 0 where
  pub times : GroupQuantifier
  pub inner : Items
  pub taken : quantifier_of times ≡ quantifier
  pub same : atom ≡ Grouped inner
  pub inside : StandInside times inner

-- The items of an expression.
abbrev pub AreReadable : Items → Type 0
AreReadable Nothing = Unit {0}
AreReadable (Item atom quantifier items) = (IsStep quantifier atom ⊎ IsGroupAtom quantifier atom) × AreReadable items

-- ---- texts

literal_step : (character : Character) → IsStep Once (dialect.Literal character)
literal_step character = (Literal (character_of character), (character, refl, refl))

put_readable : (marks text : List ℕ) (items : Items) → AreReadable items → AreReadable (put marks text items)
put_readable marks [] items are = are
put_readable marks (c ∷ text) items are = (inl (literal_step (character marks c)), put_readable marks text items are)

put_inside : (marks text : List ℕ) (items : Items) → AreInside items → AreInside (put marks text items)
put_inside marks [] items are = are
put_inside marks (c ∷ text) items are = (inl (literal_step (character marks c)), put_inside marks text items are)

put_single : (marks text : List ℕ) → AreSingle (put marks text Nothing)
put_single marks [] = tt
put_single marks (c ∷ text) = put_single marks text

fixed_readable : (modifier : PartModifier) (marks value : List ℕ) (items : Items) → AreReadable items → AreReadable (fixed_tree modifier marks value items)
fixed_readable modifiers.None marks value items are = put_readable marks value items are
fixed_readable modifiers.Optional marks value items are =
    (inr (record { times = often.Optional; inner = put marks value Nothing; taken = refl; same = refl; inside = put_inside marks value Nothing tt }), are)
fixed_readable modifiers.ZeroOrMore marks value items are =
    (inr (record { times = often.ZeroOrMore; inner = put marks value Nothing; taken = refl; same = refl; inside = put_single marks value }), are)
fixed_readable modifiers.OneOrMore marks value items are =
    (inr (record { times = often.OneOrMore; inner = put marks value Nothing; taken = refl; same = refl; inside = put_single marks value }), are)

-- ---- wildcards

pub record IsRun (items : Items) : Type 0 where
  pub end : ℕ
  pub is_greedy : Bool
  pub is_run : IsRunOf end is_greedy items

segment_run : (marks : List ℕ) (delimiter : Option ℕ) → IsRun (alone (segment_atom marks delimiter) LazyOneOrMore)
segment_run marks None = record { end = line_feed; is_greedy = false; is_run = (Dot, refl, refl) }
segment_run marks (Some c) = record { end = character_of (character marks c); is_greedy = false; is_run = (AnyBut (character marks c), refl, refl) }

wildcard_run : (options : OptionsView) (kind : PartType) → IsWildcard kind → IsRun (wildcard_items options kind)
wildcard_run options SegmentWildcard h = segment_run (escaped_marks options.syntax) options.delimiter
wildcard_run options FullWildcard h = record { end = line_feed; is_greedy = true; is_run = (refl, refl) }
wildcard_run options kind h = absurd h

run_captured : (items : Items) → IsRun items → (step : Step) × IsStepOf step (Captured items)
run_captured items run = (run_step run.end run.is_greedy, (run_step_is run.end run.is_greedy items run.is_run).1)

bare_readable : (modifier : PartModifier) (piece : Items) → IsRun piece → IsStep (bare_quantifier modifier) (Captured (bare_core modifier piece))
bare_readable modifiers.None piece run = run_captured piece run
bare_readable modifiers.Optional piece run = let step = run_captured piece run in (step.0, step.1, captures_one step.0 piece step.1)
bare_readable modifiers.ZeroOrMore piece run =
    (GreedyRun (record { end = run.end; may_be_empty = true }), (piece, run.is_greedy, ZeroOrMore, run.is_run, refl, refl))
bare_readable modifiers.OneOrMore piece run =
    (GreedyRun (record { end = run.end; may_be_empty = run.is_greedy }), (piece, run.is_greedy, OneOrMore, run.is_run, refl, refl))

-- ---- separated runs

characters_of : (marks text : List ℕ) → List Character
characters_of marks [] = []
characters_of marks (c ∷ text) = character marks c ∷ characters_of marks text

put_in_order : (marks text : List ℕ) (items : Items) → put marks text items ≡ in_order (characters_of marks text) items
unfolding characters_of
put_in_order marks [] items = refl
put_in_order marks (c ∷ text) items = ap (λ i. Item (dialect.Literal (character marks c)) Once i) (put_in_order marks text items)

puts_in_order : (marks text other : List ℕ) (items : Items) → put marks text (put marks other items) ≡ in_order (characters_of marks text ++ characters_of marks other) items
unfolding characters_of
puts_in_order marks [] other items = put_in_order marks other items
puts_in_order marks (c ∷ text) other items = ap (λ i. Item (dialect.Literal (character marks c)) Once i) (puts_in_order marks text other items)

segments_of : (piece : Items) → IsRun piece → (character : Character) (characters : List Character) (between : Items) → between ≡ in_order (character ∷ characters) (alone (Grouped piece) Once)
    → IsSegmentGroup (Captured (Item (Grouped piece) Once (alone (Grouped between) ZeroOrMore)))
segments_of piece run character characters between e = record {
  end = run.end;
  is_greedy = run.is_greedy;
  first = piece;
  character = character;
  characters = characters;
  last = piece;
  is_first = run.is_run;
  is_last = run.is_run;
  same = ap (λ i. Captured (Item (Grouped piece) Once (alone (Grouped i) ZeroOrMore))) e;
}

copies_segments : (marks prefix : List ℕ) (piece : Items) (suffix : List ℕ) → IsRun piece → (is_empty prefix && is_empty suffix) ≡ false → IsSegmentGroup (Captured (copies marks prefix piece suffix))
unfolding characters_of
copies_segments marks [] piece [] run e = absurd (true≢false e)
copies_segments marks (c ∷ prefix) piece [] run e =
    segments_of piece run (character marks c) (characters_of marks prefix) _ (put_in_order marks (c ∷ prefix) (alone (Grouped piece) Once))
copies_segments marks prefix piece (c ∷ suffix) run e =
    segments_of piece run (character marks c) (characters_of marks suffix ++ characters_of marks prefix) _ (puts_in_order marks (c ∷ suffix) prefix (alone (Grouped piece) Once))

-- ---- groups

between_inside : (marks prefix : List ℕ) (core : Items) (suffix : List ℕ) → (IsStep Once (Captured core) ⊎ IsSegmentGroup (Captured core)) → AreInside (between marks prefix core suffix)
between_inside marks prefix core suffix captured = put_inside marks prefix _ (captured, put_inside marks suffix Nothing tt)

grouped : (times : GroupQuantifier) (inner : Items) → StandInside times inner → IsGroupAtom (quantifier_of times) (Grouped inner)
grouped times inner inside = record { times = times; inner = inner; taken = refl; same = refl; inside = inside }

affixed_readable : (modifier : PartModifier) (marks prefix : List ℕ) (piece : Items) (suffix : List ℕ) → IsRun piece → (is_empty prefix && is_empty suffix) ≡ false
    → IsGroupAtom (affixed_quantifier modifier) (Grouped (between marks prefix (affixed_core modifier marks prefix piece suffix) suffix))
affixed_readable modifiers.None marks prefix piece suffix run e = grouped often.Once (between marks prefix piece suffix) (between_inside marks prefix piece suffix (inl (run_captured piece run)))
affixed_readable modifiers.Optional marks prefix piece suffix run e = grouped often.Optional (between marks prefix piece suffix) (between_inside marks prefix piece suffix (inl (run_captured piece run)))
affixed_readable modifiers.ZeroOrMore marks prefix piece suffix run e =
    grouped often.Optional _ (between_inside marks prefix (copies marks prefix piece suffix) suffix (inr (copies_segments marks prefix piece suffix run e)))
affixed_readable modifiers.OneOrMore marks prefix piece suffix run e =
    grouped often.Once _ (between_inside marks prefix (copies marks prefix piece suffix) suffix (inr (copies_segments marks prefix piece suffix run e)))

group_readable : (is_bare : Bool) (modifier : PartModifier) (marks prefix : List ℕ) (piece : Items) (suffix : List ℕ) → IsRun piece → (is_empty prefix && is_empty suffix) ≡ is_bare
    → IsStep (group_quantifier is_bare modifier) (group_atom is_bare modifier marks prefix piece suffix) ⊎ IsGroupAtom (group_quantifier is_bare modifier) (group_atom is_bare modifier marks prefix piece suffix)
group_readable true modifier marks prefix piece suffix run e = inl (bare_readable modifier piece run)
group_readable false modifier marks prefix piece suffix run e = inr (affixed_readable modifier marks prefix piece suffix run e)

part_readable : (options : OptionsView) (kind : PartType) (modifier : PartModifier) (value name prefix suffix : List ℕ) (items : Items) → kind ≢ Regexp → AreReadable items →
    AreReadable (part_tree options (part_of kind modifier value name prefix suffix) items)
part_readable options FixedText modifier value name prefix suffix items h are = fixed_readable modifier (escaped_marks options.syntax) value items are
part_readable options Regexp modifier value name prefix suffix items h are = absurd (h refl)
part_readable options SegmentWildcard modifier value name prefix suffix items h are =
    (group_readable (is_empty prefix && is_empty suffix) modifier (escaped_marks options.syntax) prefix _ suffix (wildcard_run options SegmentWildcard tt) refl, are)
part_readable options FullWildcard modifier value name prefix suffix items h are =
    (group_readable (is_empty prefix && is_empty suffix) modifier (escaped_marks options.syntax) prefix _ suffix (wildcard_run options FullWildcard tt) refl, are)

-- The tree of parts, none of them custom, has these forms.
pub tree_readable : (options : OptionsView) (parts : List PartView) → All IsNotCustom parts → AreReadable (tree_of options parts)
tree_readable options [] h = tt
tree_readable options (part ∷ parts) h =
    part_readable options part.kind part.modifier part.value part.name part.prefix part.suffix (tree_of options parts)
    (All-head IsNotCustom part parts h) (tree_readable options parts (All-tail IsNotCustom part parts h))
