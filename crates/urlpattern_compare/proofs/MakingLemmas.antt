-- The parts of an automaton under construction.
use Rattle.std.proofs.Common.{◌≡◌, ◌≢◌, ◌∙◌, ◌⊎◌, ◌<◌, List, [], ◌∷◌, ◌++◌, Bool, false, Option, Some, None, Result, Ok, Err, ap, append-nil, append_assoc, arith, inl, inr, length, map, refl, reverse, subst, sym}
use Rattle.std.proofs.lemmas.List.{length-reverse, map-append}
use Rattle.std.proofs.lemmas.List.Elements.{All-cons, All-contains, All-head, All-nil, All-tail, Contains-append_left, Contains-push}
use Rattle.std.specs.List.{All}
use Rattle.std.specs.Prelude.{IfOk, IsTrue}
use Rattle.urlpattern_compare.proofs.CandidateLemmas.{all_back}
use Rattle.urlpattern_compare.proofs.PartsRead.{many_states}
use Rattle.urlpattern_compare.proofs.WorkLemmas.{all_unshaped, many_folded}
use Rattle.urlpattern_compare.specs.Cells.{cells_of}
use Rattle.urlpattern_compare.specs.Making.{MayHaveManyStates, IsMadeOf, IsPartAdded, IsPartLarge, IsShaped, Made, ShapedPart, folded_shaped, made, made_view, with_part, with_shape}
use Rattle.urlpattern_compare.specs.MeantTexts.{folded_options, folded_part, folded_parts}
use Rattle.urlpattern_compare.specs.declared.cells.Cell.{Cell}
use Rattle.urlpattern_compare.specs.declared.parts_automaton.PartsAutomaton.{PartsAutomaton}
use Rattle.urlpattern_expressions.specs.Shapes.{IsShapeOfPart, Shape}
use Rattle.urlpattern_meaning.specs.PartMeaning.{AreGenerated}
use Rattle.urlpattern_syntax.specs.{Options.OptionsView, Parts.PartView}
use Rattle.urlpattern_syntax.specs.declared.parser.PartType.{PartType}

-- A part of too many cells, which are in reverse order, is large.
pub plain_large : (options : OptionsView) (part : PartView) (made : Made) (cells : List Cell) → cells ≡ reverse (cells_of options part.kind part) → (10000 < length cells) ⊎ (10000 < made.count) → IsPartLarge options part made
plain_large options part made cells e large = elim large [
  | inl many ↦ let size : length cells ≡ length (cells_of options part.kind part) = ap (λ (l : List Cell). length l) e ∙ length-reverse (cells_of options part.kind part) in inl (omega arith)
  | inr states ↦ inr states
]

-- Each part has a shape if it is custom.
abbrev pub AreShaped : List ShapedPart → Type 0
AreShaped parts = All (λ part. IsShaped part.0.kind part.0 part.1) parts

-- The parts that are made so far, after those that are left: `parts` are all.
pub record IsMadeSoFar (options : OptionsView) (parts left : List PartView) (so_far : Made) : Type 0 where
  pub shaped : List ShapedPart
  pub cut : parts ≡ left ++ map (λ (part : ShapedPart). part.0) shaped
  pub are_shaped : AreShaped shaped
  pub view : so_far ≡ made (folded_options options) (folded_shaped options shaped)

other_shaped : (kind : PartType) (part : PartView) → kind ≢ PartType.Regexp → IsShaped kind part None
other_shaped PartType.FixedText part other = refl
other_shaped PartType.SegmentWildcard part other = refl
other_shaped PartType.FullWildcard part other = refl
other_shaped PartType.Regexp part other = absurd (other refl)

custom_shaped : (kind : PartType) (part : PartView) (shape : Shape) → kind ≡ PartType.Regexp → IsShapeOfPart part shape → IsShaped kind part (Some shape)
custom_shaped PartType.Regexp part shape e is = is
custom_shaped PartType.FixedText part shape e is = absurd cc
custom_shaped PartType.SegmentWildcard part shape e is = absurd cc
custom_shaped PartType.FullWildcard part shape e is = absurd cc

pub none_made : (options : OptionsView) (parts : List PartView) (so_far : Made) → so_far ≡ made (folded_options options) [] → IsMadeSoFar options parts parts so_far
none_made options parts so_far is = record {
  shaped = [];
  cut = sym (append-nil parts);
  are_shaped = All-nil (λ (part : ShapedPart). IsShaped part.0.kind part.0 part.1);
  view = is;
}

-- A further part was made.
one_made : (options : OptionsView) (parts left before : List PartView) (part : PartView) (shape : Option Shape) (so_far next : Made) → (is : IsMadeSoFar options parts left so_far) → left ≡ before ++ part ∷ [] →
    IsShaped part.kind part shape → next ≡ with_part (folded_options options) so_far (folded_part options.ignore_case part) shape → IsMadeSoFar options parts before next
one_made options parts left before part shape so_far next is cut shaped e = record {
  shaped = (part, shape) ∷ is.shaped;
  cut = is.cut ∙ ap (λ (l : List PartView). l ++ map (λ (it : ShapedPart). it.0) is.shaped) cut ∙ append_assoc before (part ∷ []) (map (λ (it : ShapedPart). it.0) is.shaped);
  are_shaped = All-cons (λ (it : ShapedPart). IsShaped it.0.kind it.0 it.1) (part, shape) is.shaped shaped is.are_shaped;
  view = e ∙ ap (λ (it : Made). with_part (folded_options options) it (folded_part options.ignore_case part) shape) is.view;
}

-- The next part was added.
pub part_added : (options : OptionsView) (parts left before : List PartView) (part : PartView) (so_far next : Made) → IsMadeSoFar options parts left so_far → left ≡ before ++ part ∷ [] → IsPartAdded options part so_far next →
    IsMadeSoFar options parts before next
part_added options parts left before part so_far next is cut (shape, shaped, e) = one_made options parts left before part shape so_far next is cut shaped e

-- A part that is not custom is added by its cells.
pub plain_added : (options : OptionsView) (part : PartView) (old new : Made) → part.kind ≢ PartType.Regexp → new ≡ with_part (folded_options options) old (folded_part options.ignore_case part) None → IsPartAdded options part old new
plain_added options part old new other e = (None, other_shaped part.kind part other, e)

-- A custom part is added by its shape.
pub custom_added : (options : OptionsView) (part : PartView) (old new : Made) (shape : Shape) → part.kind ≡ PartType.Regexp → IsShapeOfPart part shape → new ≡ with_shape old shape → IsPartAdded options part old new
custom_added options part old new shape custom is e = (Some shape, custom_shaped part.kind part shape custom is, e)

-- What is known of a tree is known of a shape.
pub shape_given : {E : Type 0} (part : PartView) (old new : Made) (shape : Shape) (result : Result Bool E) → IsShapeOfPart part shape → IfOk result (λ added. IsTrue added → new ≡ with_shape old shape)
    → IfOk result (λ added. IsTrue added → (it : Shape) × IsShapeOfPart part it × (new ≡ with_shape old it))
shape_given part old new shape (Ok added) known e = λ is. (shape, known, e is)
shape_given part old new shape (Err lack) known e = tt

-- A custom part is added, or not.
pub custom_result : {E : Type 0} (options : OptionsView) (part : PartView) (old new : Made) (result : Result Bool E) → part.kind ≡ PartType.Regexp
    → IfOk result (λ added. IsTrue added → (it : Shape) × IsShapeOfPart part it × (new ≡ with_shape old it)) → IfOk result (λ added. IsTrue added → IsPartAdded options part old new)
custom_result options part old new (Ok added) custom found = λ is. let (shape, known, e) = found is in custom_added options part old new shape custom known e
custom_result options part old new (Err lack) custom found = tt

pub custom_missed : {E : Type 0} (part : PartView) (Large : Type 0) (result : Result Bool E) → part.kind ≡ PartType.Regexp → IfOk result (λ added. added ≡ false → (part.kind ≡ PartType.Regexp) ⊎ Large)
custom_missed part Large (Ok added) custom = λ e. inl custom
custom_missed part Large (Err lack) custom = tt

-- A part that is not custom is added, or not.
pub plain_result : {E : Type 0} (options : OptionsView) (part : PartView) (old new : Made) (result : Result Bool E) → part.kind ≢ PartType.Regexp
    → IfOk result (λ added. IsTrue added → new ≡ with_part (folded_options options) old (folded_part options.ignore_case part) None) → IfOk result (λ added. IsTrue added → IsPartAdded options part old new)
plain_result options part old new (Ok added) other e = λ is. plain_added options part old new other (e is)
plain_result options part old new (Err lack) other e = tt

pub plain_missed : {E : Type 0} (part : PartView) (Large : Type 0) (result : Result Bool E) → IfOk result (λ added. added ≡ false → Large) → IfOk result (λ added. added ≡ false → (part.kind ≡ PartType.Regexp) ⊎ Large)
plain_missed part Large (Ok added) large = λ e. inr (large e)
plain_missed part Large (Err lack) large = tt

-- All parts were made.
pub all_made : (options : OptionsView) (parts : List PartView) (so_far : Made) (automaton : PartsAutomaton) → IsMadeSoFar options parts [] so_far → made_view automaton ≡ so_far → automaton.ignore_case ≡ options.ignore_case → IsMadeOf options parts automaton
all_made options parts so_far automaton is e case = record {
  shaped = is.shaped;
  parts_are = sym is.cut;
  are_shaped = is.are_shaped;
  view = e ∙ is.view;
  case = case;
}

-- ---- too many states

pub generated_or_not : (parts : List PartView) → AreGenerated parts ⊎ ¬ AreGenerated parts
generated_or_not [] = inl (All-nil (λ (it : PartView). it.kind ≢ PartType.Regexp))
generated_or_not (part ∷ parts) = by (one part.kind) (generated_or_not parts)
  where
    one : (kind : PartType) → (kind ≡ PartType.Regexp) ⊎ (kind ≢ PartType.Regexp)
    one PartType.Regexp = inl refl
    one PartType.FixedText = inr (λ e. cc)
    one PartType.SegmentWildcard = inr (λ e. cc)
    one PartType.FullWildcard = inr (λ e. cc)

    by : (part.kind ≡ PartType.Regexp) ⊎ (part.kind ≢ PartType.Regexp) → AreGenerated parts ⊎ ¬ AreGenerated parts → AreGenerated (part ∷ parts) ⊎ ¬ AreGenerated (part ∷ parts)
    by (inl custom) rest = inr (λ are. All-head (λ (it : PartView). it.kind ≢ PartType.Regexp) part parts are custom)
    by (inr other) (inl are) = inl (All-cons (λ (it : PartView). it.kind ≢ PartType.Regexp) part parts other are)
    by (inr other) (inr not_all) = inr (λ are. not_all (All-tail (λ (it : PartView). it.kind ≢ PartType.Regexp) part parts are))

-- A custom part is among the parts.
custom_among : (options : OptionsView) (parts left before : List PartView) (part : PartView) (so_far : Made) → IsMadeSoFar options parts left so_far → left ≡ before ++ part ∷ [] → part.kind ≡ PartType.Regexp → MayHaveManyStates options parts
custom_among options parts left before part so_far is cut custom = inl (λ are.
    let views = map (λ (it : ShapedPart). it.0) is.shaped in
    let all = subst AreGenerated (is.cut ∙ ap (λ (l : List PartView). l ++ views) cut) are in
    All-contains (λ (it : PartView). it.kind ≢ PartType.Regexp) ((before ++ part ∷ []) ++ views) part all (Contains-append_left (before ++ part ∷ []) views part (Contains-push before part)) custom)

-- A part that is too large, or before which too many states were made.
large_among : (options : OptionsView) (parts left before : List PartView) (part : PartView) (so_far : Made) → IsMadeSoFar options parts left so_far → left ≡ before ++ part ∷ [] →
    IsPartLarge (folded_options options) (folded_part options.ignore_case part) so_far → MayHaveManyStates options parts
large_among options parts left before part so_far is cut large = elim (generated_or_not parts) [
  | inr custom ↦ inl custom
  | inl generated ↦
      let views = map (λ (it : ShapedPart). it.0) is.shaped in
      let folds = folded_parts options in
      let whole : parts ≡ (before ++ part ∷ []) ++ views = is.cut ∙ ap (λ (l : List PartView). l ++ views) cut in
      let all = subst AreGenerated whole generated in
      let rest = all_back (λ (it : PartView). it.kind ≢ PartType.Regexp) (before ++ part ∷ []) views all in
      let same = all_unshaped options is.shaped rest is.are_shaped in
      let folded_whole : folds parts ≡ (folds before ++ folded_part options.ignore_case part ∷ []) ++ folds views =
      ap folds whole ∙ map-append (folded_part options.ignore_case) (before ++ part ∷ []) views ∙ ap (λ (l : List PartView). l ++ folds views) (map-append (folded_part options.ignore_case) before (part ∷ [])) in
      let count = ap (λ (it : Made). it.count) (is.view ∙ ap (made (folded_options options)) same) in
      many_folded options parts (many_states (folded_options options) (folds parts) (folds before) (folds views) (folded_part options.ignore_case part) folded_whole
      (elim large [ inl cells ↦ inl cells | inr states ↦ inr (subst (λ n. 10000 < n) count states) ]))
]

-- A part that was not added.
pub not_added : (options : OptionsView) (parts left before : List PartView) (part : PartView) (so_far : Made) → IsMadeSoFar options parts left so_far → left ≡ before ++ part ∷ [] →
    (part.kind ≡ PartType.Regexp) ⊎ IsPartLarge (folded_options options) (folded_part options.ignore_case part) so_far → MayHaveManyStates options parts
not_added options parts left before part so_far is cut why = elim why [
  | inl custom ↦ custom_among options parts left before part so_far is cut custom
  | inr large ↦ large_among options parts left before part so_far is cut large
]
