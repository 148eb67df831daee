-- The texts that the cells of parts read, and the texts that parts mean.
use Rattle.std.proofs.Common.{◌≡◌, ◌≢◌, ℕ, zero, suc, true, List, [], ◌∷◌, ◌++◌, Some, None, map, refl, sym, subst, ap, ◌∙◌, ◌↔◌, append_assoc, reverse}
use Rattle.std.proofs.lemmas.List.Elements.{All-head, All-tail}
use Rattle.std.specs.List.{All, list_all}
use lib.Utf8.{scalars}
use Rattle.std.specs.Prelude.{◌&&◌, IsTrue, unwrap_or}
use Rattle.urlpattern_compare.specs.Automata.{passes}
use Rattle.urlpattern_compare.specs.Cells.{cells_of, has_one, text_cells, wildcard_cells}
use Rattle.urlpattern_compare.specs.Making.{IsShaped, ShapedPart}
use Rattle.urlpattern_compare.specs.declared.parts_automaton.Test.TheVariants.{AnyBut}
use Rattle.urlpattern_compare.specs.declared.cells.Cell.{Cell}
use Rattle.urlpattern_compare.specs.declared.cells.Cell.TheVariants.{One, Many}
use Rattle.urlpattern_compare.proofs.CellTexts.{CellsThen, InOrder, OneThen, RunThen, Texts, TimesThen, in_order, one_after, one_reversed, order_append, pieces_run, run_pieces, text_then, times_none, times_run}
use Rattle.urlpattern_compare.proofs.ComparedCopies.{Absorbs, CopiesThen}
use Rattle.urlpattern_compare.proofs.ShapeStates.{ShapeThen}
use Rattle.urlpattern_compare.proofs.StateSets.{both}
use Rattle.urlpattern_expressions.proofs.PartShapes.{scalars_parts}
use Rattle.urlpattern_expressions.specs.MatchedPartTexts.{IsMatchedCopy, PartsMatch}
use Rattle.urlpattern_expressions.specs.Shapes.{IsShapeOfPart, Shape}
use Rattle.urlpattern_meaning.specs.PartMeaning.{AreCaptures, AreCopies, AreGenerated, Captures, IsCopyOf, IsWildcardText, PartsMean, capture_of_no_copies}
use Rattle.urlpattern_meaning.proofs.Copies.{copies_core}
use Rattle.urlpattern_syntax.specs.declared.parser.PartModifier.{PartModifier}
use Rattle.urlpattern_syntax.specs.declared.parser.PartType.{PartType}
use Rattle.urlpattern_syntax.specs.{Options.OptionsView, Parts.PartView}
use Rattle.urlpattern_syntax.specs.Text.{IsRepeated, lacks, line_feed}

-- The text begins with a text of which `Is` holds, and one of the texts follows.
abbrev pub BeginsBy : (List ℕ → Type 0) → Texts → List ℕ → Type 0
BeginsBy Is Rest text = (first rest : List ℕ) × (text ≡ first ++ rest) × Is first × Rest rest

-- ---- wildcards

segment_forth : (d : ℕ) (Rest : Texts) (text : List ℕ) → OneThen (AnyBut d) (RunThen (AnyBut d) Rest) text → BeginsBy (λ piece. (piece ≢ []) × IsTrue (lacks d piece)) Rest text
segment_forth d Rest [] is = absurd is
segment_forth d Rest (c ∷ text) (passed, run) =
    let (piece, rest, e, all, after) = run_pieces (AnyBut d) Rest text run in
    let whole : IsTrue (list_all (passes (AnyBut d)) (c ∷ piece)) = ap (λ b. b && list_all (passes (AnyBut d)) piece) passed ∙ all in
    (c ∷ piece, rest, ap (λ (l : List ℕ). c ∷ l) e, (λ empty. cc, whole), after)

segment_back : (d : ℕ) (Rest : Texts) (text piece rest : List ℕ) → text ≡ piece ++ rest → piece ≢ [] → IsTrue (lacks d piece) → Rest rest → OneThen (AnyBut d) (RunThen (AnyBut d) Rest) text
segment_back d Rest text [] rest e some all is = absurd (some refl)
segment_back d Rest [] (x ∷ piece) rest e some all is = absurd cc
segment_back d Rest (c ∷ text) (x ∷ piece) rest e some all is =
    let two = both (passes (AnyBut d) x) (list_all (passes (AnyBut d)) piece) all in
    let same : x ≡ c = cc in
    let tail : text ≡ piece ++ rest = cc in
    (subst (λ y. IsTrue (passes (AnyBut d) y)) same two.0, pieces_run (AnyBut d) Rest text piece rest tail two.1 is)

-- The kind is a wildcard.
abbrev IsGroup : PartType → Type 0
IsGroup PartType.SegmentWildcard = Unit {0}
IsGroup PartType.FullWildcard = Unit {0}
IsGroup kind = ⊥

wildcard_then : (options : OptionsView) (kind : PartType) → IsGroup kind → (Rest : Texts) (text : List ℕ) → InOrder (wildcard_cells options kind) Rest text ↔ BeginsBy (IsWildcardText options kind) Rest text
wildcard_then options PartType.SegmentWildcard is Rest text =
    let d = unwrap_or options.delimiter line_feed in
    (segment_forth d Rest text, λ (piece, rest, e, (some, all), after). segment_back d Rest text piece rest e some all after)
wildcard_then options PartType.FullWildcard is Rest text = (
  λ run. let (piece, rest, e, all, after) = run_pieces (AnyBut line_feed) Rest text run in (piece, rest, e, all, after),
  λ (piece, rest, e, all, after). pieces_run (AnyBut line_feed) Rest text piece rest e all after,
)
wildcard_then options PartType.FixedText is Rest text = absurd is
wildcard_then options PartType.Regexp is Rest text = absurd is

-- ---- one copy

abbrev IsBetween : (List ℕ → Type 0) → (prefix suffix text : List ℕ) → Type 0
IsBetween Is prefix suffix text = (piece : List ℕ) × (text ≡ prefix ++ piece ++ suffix) × Is piece

regroup : (a b c d : List ℕ) → a ++ (b ++ (c ++ d)) ≡ (a ++ b ++ c) ++ d
regroup a b c d = simp append_assoc

between_then : (options : OptionsView) (kind : PartType) → IsGroup kind → (prefix suffix : List ℕ) (Rest : Texts) (text : List ℕ) →
    InOrder (text_cells prefix ++ wildcard_cells options kind ++ text_cells suffix) Rest text ↔ BeginsBy (IsBetween (IsWildcardText options kind) prefix suffix) Rest text
between_then options kind is prefix suffix Rest text =
    let wild = wildcard_cells options kind in
    let Ended : Texts = InOrder (text_cells suffix) Rest in
    let outer = order_append (text_cells prefix ++ wild) (text_cells suffix) Rest text in
    let inner = order_append (text_cells prefix) wild Ended text in
    let front = text_then prefix (InOrder wild Ended) text in (
      λ cells.
          let (after, e, rest) = front.0 (inner.0 (outer.0 cells)) in
          let (piece, ended, f, wildcard, last) = (wildcard_then options kind is Ended after).0 rest in
          let (end, g, done) = (text_then suffix Rest ended).0 last in
          (prefix ++ piece ++ suffix, end, e ∙ ap (λ t. prefix ++ t) (f ∙ ap (λ t. piece ++ t) g) ∙ regroup prefix piece suffix end, (piece, refl, wildcard), done),
      λ (first, end, e, (piece, f, wildcard), done).
          let ended : Ended (suffix ++ end) = (text_then suffix Rest (suffix ++ end)).1 (end, refl, done) in
          let rest = (wildcard_then options kind is Ended (piece ++ (suffix ++ end))).1 (piece, suffix ++ end, refl, wildcard, ended) in
          let whole : text ≡ prefix ++ (piece ++ (suffix ++ end)) = e ∙ ap (λ t. t ++ end) f ∙ sym (regroup prefix piece suffix end) in
          outer.1 (inner.1 (front.1 (piece ++ (suffix ++ end), whole, rest))),
    )

copy_in_order : (options : OptionsView) (kind : PartType) (part : PartView) → kind ≢ PartType.Regexp → (Rest : Texts) (text : List ℕ) →
    InOrder (cells_of options kind part) Rest text ↔ BeginsBy (IsCopyOf options kind part) Rest text
copy_in_order options PartType.FixedText part other Rest text =
    let same = text_then part.value Rest text in (
      λ cells. let (rest, e, after) = same.0 cells in (part.value, rest, e, refl, after),
      λ (first, rest, e, f, after). same.1 (rest, e ∙ ap (λ t. t ++ rest) f, after),
    )
copy_in_order options PartType.Regexp part other Rest text = absurd (other refl)
copy_in_order options kind part other Rest text = between_then options kind tt part.prefix part.suffix Rest text

pub copy_then : (options : OptionsView) (part : PartView) → part.kind ≢ PartType.Regexp → (Rest : Texts) (text : List ℕ) →
    CellsThen (reverse (cells_of options part.kind part)) Rest text ↔ BeginsBy (IsCopyOf options part.kind part) Rest text
copy_then options part other Rest text =
    let order = in_order (cells_of options part.kind part) Rest text in
    let copy = copy_in_order options part.kind part other Rest text in
    (λ cells. copy.0 (order.0 cells), λ begins. order.1 (copy.1 begins))

-- ---- copies

pub times_then : (options : OptionsView) (part : PartView) → part.kind ≢ PartType.Regexp → (n : ℕ) (Rest : Texts) (text : List ℕ) →
    TimesThen (reverse (cells_of options part.kind part)) n Rest text ↔ BeginsBy (AreCopies options part n) Rest text
times_then options part other zero Rest text = (
  λ is. ([], text, refl, refl, is),
  λ (first, rest, e, f, after). subst Rest (sym (e ∙ ap (λ t. t ++ rest) f)) after,
)
times_then options part other (suc n) Rest text =
    let cells = reverse (cells_of options part.kind part) in
    let copy = copy_then options part other (TimesThen cells n Rest) text in (
      λ is.
          let (first, more, e, one, times) = copy.0 is in
          let (others, rest, f, copies, after) = (times_then options part other n Rest more).0 times in
          (first ++ others, rest, e ∙ ap (λ t. first ++ t) f ∙ sym (append_assoc first others rest), (first, others, refl, one, copies), after),
      λ (whole, rest, e, (first, others, f, one, copies), after).
          let times = (times_then options part other n Rest (others ++ rest)).1 (others, rest, refl, copies, after) in
          copy.1 (first, others ++ rest, e ∙ ap (λ t. t ++ rest) f ∙ append_assoc first others rest, one, times),
    )

-- ---- copies that read no more than one copy

absorbs_by : (options : OptionsView) (kind : PartType) (value prefix suffix name : List ℕ) (modifier : PartModifier) (Rest : Texts) →
    Absorbs (reverse (cells_of options kind (record { kind = kind; value = value; modifier = modifier; name = name; prefix = prefix; suffix = suffix }))) Rest
absorbs_by options PartType.FixedText [] prefix suffix name modifier Rest none n text times = times_none n Rest text times
absorbs_by options PartType.FixedText (c ∷ value) prefix suffix name modifier Rest none n text times =
    let one : has_one (reverse (text_cells (c ∷ value))) ≡ true = one_reversed (text_cells (c ∷ value)) refl in absurd cc
absorbs_by options PartType.Regexp value [] [] name modifier Rest none n text times = times_none n Rest text times
absorbs_by options PartType.Regexp value [] (c ∷ suffix) name modifier Rest none n text times =
    let one : has_one (reverse (text_cells (c ∷ suffix))) ≡ true = one_reversed (text_cells (c ∷ suffix)) refl in absurd cc
absorbs_by options PartType.Regexp value (c ∷ prefix) suffix name modifier Rest none n text times =
    let one : has_one (reverse (text_cells (c ∷ prefix) ++ [] ++ text_cells suffix)) ≡ true = one_reversed (text_cells (c ∷ prefix) ++ [] ++ text_cells suffix) refl in absurd cc
absorbs_by options PartType.SegmentWildcard value prefix suffix name modifier Rest none n text times =
    let test = AnyBut (unwrap_or options.delimiter line_feed) in
    let cells : List Cell = text_cells prefix ++ (One test ∷ Many test ∷ []) ++ text_cells suffix in
    let there : has_one cells ≡ true = subst (λ l. has_one l ≡ true) (sym (append_assoc (text_cells prefix) (One test ∷ Many test ∷ []) (text_cells suffix))) (one_after (text_cells prefix) test (Many test ∷ text_cells suffix)) in
    let one : has_one (reverse cells) ≡ true = one_reversed cells there in absurd cc
absorbs_by options PartType.FullWildcard value [] [] name modifier Rest none n text times = times_run (AnyBut line_feed) n Rest text times
absorbs_by options PartType.FullWildcard value [] (c ∷ suffix) name modifier Rest none n text times =
    let cells : List Cell = [] ++ (Many (AnyBut line_feed) ∷ []) ++ text_cells (c ∷ suffix) in
    let one : has_one (reverse cells) ≡ true = one_reversed cells refl in absurd cc
absorbs_by options PartType.FullWildcard value (c ∷ prefix) suffix name modifier Rest none n text times =
    let cells : List Cell = text_cells (c ∷ prefix) ++ (Many (AnyBut line_feed) ∷ []) ++ text_cells suffix in
    let one : has_one (reverse cells) ≡ true = one_reversed cells refl in absurd cc

pub absorbs : (options : OptionsView) (part : PartView) (Rest : Texts) → Absorbs (reverse (cells_of options part.kind part)) Rest
absorbs options part Rest = absorbs_by options part.kind part.value part.prefix part.suffix part.name part.modifier Rest

-- ---- parts

-- The texts that the cells of the parts read, or of which their shapes are.
abbrev pub PartsThen : OptionsView → List ShapedPart → List ℕ → Type 0
PartsThen options [] text = text ≡ []
PartsThen options ((part, None) ∷ parts) text = CopiesThen part.modifier (reverse (cells_of options part.kind part)) (PartsThen options parts) text
PartsThen options ((part, Some shape) ∷ parts) text = ShapeThen shape (PartsThen options parts) text

-- A copy of a part that is not custom.
copy_matched : (options : OptionsView) (kind : PartType) (part : PartView) → kind ≢ PartType.Regexp → (text : List ℕ) → IsCopyOf options kind part text → IsMatchedCopy options kind part text
copy_matched options PartType.FixedText part other text is = is
copy_matched options PartType.Regexp part other text is = absurd (other refl)
copy_matched options PartType.SegmentWildcard part other text is = is
copy_matched options PartType.FullWildcard part other text is = is

matched_copy : (options : OptionsView) (kind : PartType) (part : PartView) → kind ≢ PartType.Regexp → (text : List ℕ) → IsMatchedCopy options kind part text → IsCopyOf options kind part text
matched_copy options PartType.FixedText part other text is = is
matched_copy options PartType.Regexp part other text is = absurd (other refl)
matched_copy options PartType.SegmentWildcard part other text is = is
matched_copy options PartType.FullWildcard part other text is = is

repeated_as : (Is Other : List ℕ → Type 0) → ((text : List ℕ) → Is text → Other text) → (n : ℕ) (text : List ℕ) → IsRepeated Is n text → IsRepeated Other n text
repeated_as Is Other weaker zero text ended = ended
repeated_as Is Other weaker (suc n) text (first, rest, cut, is, more) = (first, rest, cut, weaker first is, repeated_as Is Other weaker n rest more)

copies_matched : (options : OptionsView) (part : PartView) → part.kind ≢ PartType.Regexp → (n : ℕ) (text : List ℕ) → AreCopies options part n text ↔ IsRepeated (IsMatchedCopy options part.kind part) n text
copies_matched options part other n text = (
  repeated_as (IsCopyOf options part.kind part) (IsMatchedCopy options part.kind part) (copy_matched options part.kind part other) n text,
  repeated_as (IsMatchedCopy options part.kind part) (IsCopyOf options part.kind part) (matched_copy options part.kind part other) n text,
)

-- A part without shape is not custom.
unshaped_other : (kind : PartType) (part : PartView) → IsShaped kind part None → kind ≢ PartType.Regexp
unshaped_other PartType.FixedText part is e = cc
unshaped_other PartType.SegmentWildcard part is e = cc
unshaped_other PartType.FullWildcard part is e = cc
unshaped_other PartType.Regexp part is e = is

shape_of_part : (kind : PartType) (part : PartView) (shape : Shape) → IsShaped kind part (Some shape) → IsShapeOfPart part shape
shape_of_part PartType.FixedText part shape is = absurd cc
shape_of_part PartType.SegmentWildcard part shape is = absurd cc
shape_of_part PartType.FullWildcard part shape is = absurd cc
shape_of_part PartType.Regexp part shape is = is

-- The cells and shapes of parts read the texts of characters that the parts match.
pub parts_then : (options : OptionsView) (parts : List ShapedPart) → All (λ (part : ShapedPart). IsShaped part.0.kind part.0 part.1) parts → (text : List ℕ) → scalars text ≡ true →
    PartsThen options parts text ↔ PartsMatch options (map (λ (part : ShapedPart). part.0) parts) text
parts_then options [] shaped text good = (λ e. e, λ e. e)
parts_then options ((part, None) ∷ parts) shaped text good =
    let Is : ShapedPart → Type 0 = λ it. IsShaped it.0.kind it.0 it.1 in
    let other = unshaped_other part.kind part (All-head Is (part, None) parts shaped) in
    let more = All-tail Is (part, None) parts shaped in (
      λ (n, allowed, times).
          let (first, rest, e, copies, others) = (times_then options part other n (PartsThen options parts) text).0 times in
          let both = scalars_parts first rest (ap scalars (sym e) ∙ good) in
          (first, rest, e, (n, allowed, (copies_matched options part other n first).0 copies), (parts_then options parts more rest both.1).0 others),
      λ (first, rest, e, (n, allowed, copies), others).
          let both = scalars_parts first rest (ap scalars (sym e) ∙ good) in
          (n, allowed, (times_then options part other n (PartsThen options parts) text).1 (first, rest, e, (copies_matched options part other n first).1 copies, (parts_then options parts more rest both.1).1 others)),
    )
parts_then options ((part, Some shape) ∷ parts) shaped text good =
    let Is : ShapedPart → Type 0 = λ it. IsShaped it.0.kind it.0 it.1 in
    let own = shape_of_part part.kind part shape (All-head Is (part, Some shape) parts shaped) in
    let more = All-tail Is (part, Some shape) parts shaped in (
      λ (first, rest, e, takes, others).
          let both = scalars_parts first rest (ap scalars (sym e) ∙ good) in
          (first, rest, e, (own options first both.0).0 takes, (parts_then options parts more rest both.1).0 others),
      λ (first, rest, e, matches, others).
          let both = scalars_parts first rest (ap scalars (sym e) ∙ good) in
          (first, rest, e, (own options first both.0).1 matches, (parts_then options parts more rest both.1).1 others),
    )

-- ---- captures

capture_of : (options : OptionsView) (kind : PartType) (value prefix suffix name : List ℕ) (modifier : PartModifier) → kind ≢ PartType.Regexp → (n : ℕ) (text : List ℕ) →
    let part : PartView = record { kind = kind; value = value; modifier = modifier; name = name; prefix = prefix; suffix = suffix } in
    AreCopies options part n text → (captures : Captures) × AreCaptures kind part n text captures
capture_of options PartType.FixedText value prefix suffix name modifier other n text copies = ([], refl)
capture_of options PartType.Regexp value prefix suffix name modifier other n text copies = absurd (other refl)
capture_of options kind value prefix suffix name modifier other zero text copies =
    let part : PartView = record { kind = kind; value = value; modifier = modifier; name = name; prefix = prefix; suffix = suffix } in
    (capture_of_no_copies part ∷ [], (capture_of_no_copies part, refl, refl))
capture_of options kind value prefix suffix name modifier other (suc n) text copies =
    let core = copies_core (IsWildcardText options kind) prefix suffix n text copies in
    (Some core.0 ∷ [], (Some core.0, (core.0, core.1, refl), refl))

-- Parts of which none is custom match the texts that they mean.
pub generated_match : (options : OptionsView) (parts : List PartView) → AreGenerated parts → (text : List ℕ) → PartsMatch options parts text ↔ ((captures : Captures) × PartsMean options parts text captures)
generated_match options [] generated text = (λ e. ([], (e, refl)), λ means. means.1.0)
generated_match options (part ∷ parts) generated text =
    let Is : PartView → Type 0 = λ it. it.kind ≢ PartType.Regexp in
    let other = All-head Is part parts generated in
    let rest_same = generated_match options parts (All-tail Is part parts generated) in (
      λ (first, rest, e, (n, allowed, matched), more).
          let copies = (copies_matched options part other n first).1 matched in
          let own = capture_of options part.kind part.value part.prefix part.suffix part.name part.modifier other n first copies in
          let others = (rest_same rest).0 more in
          (own.0 ++ others.0, (first, rest, own.0, others.0, e, refl, record { count = n; allowed = allowed; are_copies = copies; are_captures = own.1 }, others.1)),
      λ (captures, (first, rest, own, others, e, f, mean, means)).
          (first, rest, e, (mean.count, mean.allowed, (copies_matched options part other mean.count first).0 mean.are_copies), (rest_same rest).1 (others, means)),
    )
