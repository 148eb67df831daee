-- From the text of an expression to a tree and its steps.
use Rattle.std.proofs.Common.{◌≡◌, ℕ, ◌≤◌, List, [], ◌∷◌, ◌++◌, length, take, drop, Option, Some, None, Bool, true, false, refl, sym, ap, ap₂, ◌∙◌, subst, inl, inr, append-nil, append_assoc, length-append, codes, arith}
use Rattle.std.proofs.lemmas.List.{take-append-le, drop-append-le}
use Rattle.std.proofs.Math.Nat.{le_refl}
use Rattle.std.proofs.Math.Seq.{take-length, drop-length}
use Rattle.urlpattern_meaning.specs.Dialect.{AreItems, AllowsGroups, Atom, Captured, Grouped, IsAtom, IsTreeOf, Item, Items, Nothing, Once, Optional, Quantifier, atom_group_count, group_count, atom_text, items_text, quantifier_text}
use Rattle.urlpattern_steps.specs.declared.step_tokens.GroupQuantifier.{GroupQuantifier}
use Rattle.urlpattern_steps.specs.declared.step_tokens.GroupQuantifier.TheVariants as often
use Rattle.urlpattern_steps.specs.declared.step_tokens.StepToken.TheVariants.{OptionalStep}
use Rattle.urlpattern_steps.specs.declared.step.Group.{Group}
use Rattle.urlpattern_steps.specs.declared.step.Step.{Step}
use Rattle.urlpattern_steps.specs.declared.step.Step.TheVariants.{Literal, OptionalGroup}
use Rattle.urlpattern_steps.specs.ReadSteps.{quantifier_of, AreCopySteps, AreStepsOf, BeginsSegments, EndsSegments, characters_text, IsStepGroup, IsSomeGroup, IsToken, SpellsStep, group_quantifier_text}
use Rattle.urlpattern_steps.specs.Walk.{capture_count}
use Rattle.urlpattern_steps.proofs.LongestLemmas.{run_uncaptured}
use Rattle.urlpattern_steps.proofs.RepeatLemmas.{copied, walks-copies, walks-nothing_grouped}
use Rattle.urlpattern_steps.proofs.SegmentLemmas.{in_order, in_order_count, segment_items, walks-segments}
use Rattle.urlpattern_steps.proofs.Walks.{AtomWalks, EitherWalks, Walks, literals_uncaptured, walks-nothing, walks-inside, walks-once, walks-maybe, walks-step, walk_is_first}
use Rattle.urlpattern_steps.proofs.SegmentTextLemmas.{in_order_text, in_order_allowed, spelled_segments}

-- ---- a tree and its steps

-- The text begins with items, followed by the remaining text, with their steps.
abbrev pub StandBefore : (remaining text : List ℕ) → List Step → Type 0
StandBefore remaining text steps = (tree : Items) × (text ≡ items_text tree ++ remaining) × AreItems tree × EitherWalks tree steps

-- The end of an expression outside of a group, with its steps.
abbrev pub IsEnd : (text : List ℕ) → List Step → Type 0
IsEnd text steps = StandBefore (codes "$") text steps

-- The end of an expression inside of a group, up to the closing parenthesis and after it, with its
-- steps.
abbrev pub IsInnerEnd : (text : List ℕ) → (own : List Step) → GroupQuantifier → (others : List Step) → Type 0
IsInnerEnd text own times others = (outer : List ℕ) × StandBefore (codes ")" ++ (group_quantifier_text times ++ outer)) text own × IsEnd outer others

-- A whole expression with its steps.
abbrev pub IsWhole : (regexp : List ℕ) → List Step → Type 0
IsWhole regexp steps = (tree : Items) × IsTreeOf regexp tree × EitherWalks tree steps

-- However the rest is read, the whole is read with the steps so far. Inside of a group, the steps
-- of the group begin at `first`.
abbrev pub IsBegun : (regexp : List ℕ) → (opened : Option ℕ) → (rest : List ℕ) → List Step → Type 0
IsBegun regexp None rest done = (steps : List Step) → IsEnd rest steps → IsWhole regexp (done ++ steps)
IsBegun regexp (Some first) rest done =
    (first ≤ length done)
    × ((own : List Step) (times : GroupQuantifier) (group others : List Step) → IsStepGroup times (drop first done ++ own) group → IsInnerEnd rest own times others
    → IsWhole regexp (take first done ++ (group ++ others)))

-- The text spells an atom with its quantifier, with its steps.
pub record SpellsAll (own : List Step) (front : List ℕ) : Type 0 where
  pub atom : Atom
  pub quantifier : Quantifier
  pub is_atom : IsAtom atom
  pub allows : AllowsGroups quantifier (atom_group_count atom)
  pub spelled : front ≡ atom_text atom ++ quantifier_text quantifier
  pub walks : (items : Items) (others : List Step) → EitherWalks items others → EitherWalks (Item atom quantifier items) (own ++ others)

before-more : (own : List Step) (remaining text front rest : List ℕ) (steps : List Step) → SpellsAll own front → text ≡ front ++ rest
    → StandBefore remaining rest steps → StandBefore remaining text (own ++ steps)
before-more own remaining text front rest steps spells e (tree, f, are, walks) = (
  Item spells.atom spells.quantifier tree,
  e ∙ ap (λ t. t ++ rest) spells.spelled ∙ ap (λ t. (atom_text spells.atom ++ quantifier_text spells.quantifier) ++ t) f
      ∙ sym (append_assoc (atom_text spells.atom ++ quantifier_text spells.quantifier) (items_text tree) remaining),
  (spells.is_atom, spells.allows, are),
  spells.walks tree steps walks,
)

pub spells-once : (step : Step) (front : List ℕ) → SpellsStep step front → SpellsAll (step ∷ []) front
spells-once step front (atom, is, of, f) = record {
  atom = atom;
  quantifier = Once;
  is_atom = is;
  allows = tt;
  spelled = f ∙ sym (append-nil (atom_text atom));
  walks = λ items others next ignore_case. walks-once ignore_case atom items (step ∷ []) others (walks-step ignore_case step atom of) (next ignore_case);
}

pub spells-maybe : (step : Step) (group : Group) (front : List ℕ) → group.steps ≡ 1 → group.captures ≡ capture_count (step ∷ []) → IsToken (OptionalStep step) front
    → SpellsAll (OptionalGroup group ∷ step ∷ []) front
spells-maybe step group front e f (inner, one, (atom, is, of, g), h) = record {
  atom = atom;
  quantifier = Optional;
  is_atom = is;
  allows = tt;
  spelled = h ∙ ap (λ t. t ++ codes "?") g;
  walks = λ items others next ignore_case. walks-maybe ignore_case atom items group (step ∷ []) others (walks-step ignore_case step atom of) (next ignore_case) e f;
}

-- The text of a group with its quantifier.
grouped_text : (inner others : List ℕ) → codes "(?:" ++ (inner ++ (codes ")" ++ others)) ≡ (codes "(?:" ++ (inner ++ codes ")")) ++ others
grouped_text inner others = ap (λ t. codes "(?:" ++ t) (sym (append_assoc inner (codes ")") others))

-- A group that matches only the empty text has no steps.
nothing-spells : (times : GroupQuantifier) (inner : Items) → AreItems inner → EitherWalks inner [] → SpellsAll [] (codes "(?:" ++ (items_text inner ++ (codes ")" ++ group_quantifier_text times)))
nothing-spells times inner are walks = record {
  atom = Grouped inner;
  quantifier = quantifier_of times;
  is_atom = are;
  allows = allowed times (walks false).count;
  spelled = grouped_text (items_text inner) (group_quantifier_text times);
  walks = λ items further next ignore_case. walks-nothing_grouped ignore_case times inner items further (walks ignore_case) (next ignore_case);
}
  where
    allowed : (times : GroupQuantifier) → group_count inner ≡ 0 → AllowsGroups (quantifier_of times) (group_count inner)
    allowed often.Once none = tt
    allowed often.Optional none = tt
    allowed often.ZeroOrMore none = none
    allowed often.OneOrMore none = none

copies-spell : (allows_zero : Bool) (inner : Items) (own group : List Step) → AreItems inner → EitherWalks inner own → AreCopySteps allows_zero own group
    → SpellsAll group (codes "(?:" ++ (items_text inner ++ (codes ")" ++ quantifier_text (copied allows_zero))))
copies-spell allows_zero inner own group are walks (c, others, first, plain, is) =
    let inside : (ignore_case : Bool) → AtomWalks ignore_case (Grouped inner) (Literal c ∷ others) =
    λ ignore_case. walks-inside ignore_case inner (Literal c ∷ others) (subst (Walks ignore_case inner) first (walks ignore_case)) in
    let none : atom_group_count (Grouped inner) ≡ 0 = (inside false).count ∙ literals_uncaptured others plain in
    subst (λ (steps : List Step). SpellsAll steps (codes "(?:" ++ (items_text inner ++ (codes ")" ++ quantifier_text (copied allows_zero))))) (sym is)
    (record {
      atom = Grouped inner;
      quantifier = copied allows_zero;
      is_atom = are;
      allows = copied_allows allows_zero (atom_group_count (Grouped inner)) none;
      spelled = grouped_text (items_text inner) (quantifier_text (copied allows_zero));
      walks = λ items further next ignore_case. walks-copies ignore_case allows_zero (Grouped inner) items c others further (inside ignore_case) plain (next ignore_case);
    })
  where
    copied_allows : (allows_zero : Bool) (groups : ℕ) → groups ≡ 0 → AllowsGroups (copied allows_zero) groups
    copied_allows true groups e = e
    copied_allows false groups e = e

some-spells : (times : GroupQuantifier) (inner : Items) (own group : List Step) → AreItems inner → EitherWalks inner own → IsSomeGroup times own group
    → SpellsAll group (codes "(?:" ++ (items_text inner ++ (codes ")" ++ group_quantifier_text times)))
some-spells often.Once inner own group are walks is = record {
  atom = Grouped inner;
  quantifier = Once;
  is_atom = are;
  allows = tt;
  spelled = grouped_text (items_text inner) [];
  walks = λ items others next ignore_case. subst (λ (steps : List Step). Walks ignore_case (Item (Grouped inner) Once items) (steps ++ others)) (sym is)
      (walks-once ignore_case (Grouped inner) items own others (walks-inside ignore_case inner own (walks ignore_case)) (next ignore_case));
}
some-spells often.Optional inner own group are walks is =
    let missing : Group = record { steps = length own; captures = capture_count own } in
    record {
      atom = Grouped inner;
      quantifier = Optional;
      is_atom = are;
      allows = tt;
      spelled = grouped_text (items_text inner) (codes "?");
      walks = λ items others next ignore_case. subst (λ (steps : List Step). Walks ignore_case (Item (Grouped inner) Optional items) (steps ++ others)) (sym is)
          (walks-maybe ignore_case (Grouped inner) items missing own others (walks-inside ignore_case inner own (walks ignore_case)) (next ignore_case) refl refl);
    }
some-spells often.ZeroOrMore inner own group are walks is = copies-spell true inner own group are walks is
some-spells often.OneOrMore inner own group are walks is = copies-spell false inner own group are walks is

grouped-spells : (times : GroupQuantifier) (inner : Items) (own group : List Step) → AreItems inner → EitherWalks inner own → IsStepGroup times own group
    → SpellsAll group (codes "(?:" ++ (items_text inner ++ (codes ")" ++ group_quantifier_text times)))
grouped-spells times inner own group are walks (inl (none, same)) =
    subst (λ (steps : List Step). SpellsAll steps (codes "(?:" ++ (items_text inner ++ (codes ")" ++ group_quantifier_text times)))) (sym same)
    (nothing-spells times inner are (subst (EitherWalks inner) none walks))
grouped-spells times inner own group are walks (inr some) = some-spells times inner own group are walks some

pub begun : (regexp rest : List ℕ) → regexp ≡ codes "^" ++ rest → IsBegun regexp None rest []
begun regexp rest e steps (tree, f, are, walks) = (tree, (e ∙ ap (λ t. codes "^" ++ t) f, are), walks)

pub begun-more : (regexp : List ℕ) (opened : Option ℕ) (text front rest : List ℕ) (done own : List Step) → IsBegun regexp opened text done → SpellsAll own front → text ≡ front ++ rest
    → IsBegun regexp opened rest (done ++ own)
begun-more regexp None text front rest done own so_far spells e =
    λ steps end. subst (IsWhole regexp) (sym (append_assoc done own steps)) (so_far (own ++ steps) (before-more own (codes "$") text front rest steps spells e end))
begun-more regexp (Some first) text front rest done own (le, so_far) spells e = (
  omega (arith, le, length-append done own),
  λ others times group further is (outer, inner, end).
      let front_same : take first (done ++ own) ≡ take first done = take-append-le first done own le in
      let back_same : drop first (done ++ own) ++ others ≡ drop first done ++ (own ++ others) =
      ap (λ l. l ++ others) (drop-append-le first done own le) ∙ append_assoc (drop first done) own others in
      subst (λ (l : List Step). IsWhole regexp (l ++ (group ++ further))) (sym front_same)
      (so_far (own ++ others) times group further (subst (λ (l : List Step). IsStepGroup times l group) back_same is)
      (outer, before-more own (codes ")" ++ (group_quantifier_text times ++ outer)) text front rest others spells e inner, end)),
)

pub begun-open : (regexp text front rest : List ℕ) (done : List Step) → IsBegun regexp None text done → front ≡ codes "(?:" → text ≡ front ++ rest
    → IsBegun regexp (Some (length done)) rest done
begun-open regexp text front rest done so_far f e = (
  le_refl (length done),
  λ own times group others is (outer, (inner, g, are, walks), end).
      let spells = grouped-spells times inner own group are walks (subst (λ (l : List Step). IsStepGroup times (l ++ own) group) (drop-length done) is) in
      let whole : text ≡ (codes "(?:" ++ (items_text inner ++ (codes ")" ++ group_quantifier_text times))) ++ outer =
      e ∙ ap (λ t. t ++ rest) f
      ∙ ap (λ t. codes "(?:" ++ t)
      (g ∙ ap (λ t. items_text inner ++ t) (sym (append_assoc (codes ")") (group_quantifier_text times) outer))
      ∙ sym (append_assoc (items_text inner) (codes ")" ++ group_quantifier_text times) outer)) in
      subst (λ (l : List Step). IsWhole regexp (l ++ (group ++ others))) (sym (take-length done))
      (so_far (group ++ others) (before-more group (codes "$") text _ outer others spells whole end)),
)

pub begun-close : (regexp text front rest : List ℕ) (first : ℕ) (times : GroupQuantifier) (done group : List Step) → IsBegun regexp (Some first) text done
    → IsStepGroup times (drop first done) group → front ≡ codes ")" ++ group_quantifier_text times → text ≡ front ++ rest
    → IsBegun regexp None rest (take first done ++ group)
begun-close regexp text front rest first times done group (le, so_far) is f e steps end =
    let whole : text ≡ codes ")" ++ (group_quantifier_text times ++ rest) = e ∙ ap (λ t. t ++ rest) f ∙ append_assoc (codes ")") (group_quantifier_text times) rest in
    subst (IsWhole regexp) (sym (append_assoc (take first done) group steps))
    (so_far [] times group steps (subst (λ (l : List Step). IsStepGroup times l group) (sym (append-nil (drop first done))) is) (rest, (Nothing, whole, tt, λ ignore_case. walks-nothing ignore_case), end))

pub begun-ends : (regexp rest : List ℕ) (done : List Step) → IsBegun regexp None rest done → rest ≡ codes "$" → AreStepsOf regexp done
begun-ends regexp rest done so_far e =
    let whole : IsWhole regexp done = subst (IsWhole regexp) (append-nil done) (so_far [] (Nothing, e, tt, λ ignore_case. walks-nothing ignore_case)) in
    record { tree = whole.0; is_tree = whole.1; answers = λ ignore_case text. walk_is_first ignore_case whole.0 done (whole.2 ignore_case) text }

-- ---- separated runs

pub segments-spell : (end : ℕ) (is_greedy : Bool) (front : List ℕ) → BeginsSegments end is_greedy front → (own : List Step) (text rest : List ℕ) → EndsSegments end is_greedy own text rest
    → (whole : List ℕ) × SpellsAll own whole × (front ++ text ≡ whole ++ rest)
segments-spell end is_greedy front (first, first_are, one, e) own text rest (characters, second, all, second_are, two, steps, f) =
    let last : Items = Item (Grouped second) Once Nothing in
    let inner : Items = in_order characters last in
    let atom : Atom = Captured (segment_items first characters second) in
    let atom_walks : (ignore_case : Bool) → AtomWalks ignore_case atom own = λ ignore_case. walks-segments ignore_case end is_greedy first characters second own one two steps in
    let none : group_count inner ≡ 0 = in_order_count characters last ∙ (let second_none = run_uncaptured end is_greedy second two in omega (arith, second_none)) in (
      atom_text atom ++ [],
      record {
        atom = atom;
        quantifier = Once;
        is_atom = (first_are, tt, (in_order_allowed characters last all (second_are, tt, tt), none, tt));
        allows = tt;
        spelled = refl;
        walks = λ items others next ignore_case. walks-once ignore_case atom items own others (atom_walks ignore_case) (next ignore_case);
      },
      ap₂ (λ a b. a ++ b) e f
          ∙ spelled_segments (items_text first) (characters_text characters) (items_text second) rest
          ∙ ap (λ t. ((codes "(" ++ ((((codes "(?:" ++ (items_text first ++ codes ")")) ++ []) ++ (((codes "(?:" ++ (t ++ codes ")")) ++ codes "*") ++ [])) ++ codes ")")) ++ []) ++ rest) (sym (in_order_text characters last)),
    )
