-- The texts that the states of a shape read.
use Rattle.std.proofs.Common.{◌≡◌, ℕ, zero, suc, ◌+◌, ◌<◌, ◌≤◌, Bool, true, false, List, [], ◌∷◌, ◌++◌, length, refl, sym, subst, ap, ◌∙◌, ◌⊎◌, inl, inr, ◌↔◌, arith, append-nil, append_assoc, length-append}
use Rattle.std.proofs.lemmas.List.Elements.{Contains-append_cases, Contains-append_left, Contains-append_right}
use Rattle.std.specs.List.{Contains}
use Rattle.std.specs.Prelude.{if◌then◌else◌}
use Rattle.regex_class.specs.Ranges.{in_ranges}
use Rattle.urlpattern_compare.specs.Automata.{Leads, LeadsFrom}
use Rattle.urlpattern_compare.specs.Making.{Made, begins, heads, shape_edges, shape_size, takes_empty, with_shape}
use Rattle.urlpattern_compare.specs.declared.parts_automaton.Edge.{Edge}
use Rattle.urlpattern_compare.proofs.Blocks.{IsMade, from_append, from_none, from_one}
use Rattle.urlpattern_compare.proofs.MadeStates.{IsPartOf}
use Rattle.urlpattern_compare.proofs.CellTexts.{Texts}
use Rattle.urlpattern_compare.proofs.ShapeEdges.{empty_taken, shape_from, taken_empty, within_edge, within_has}
use Rattle.urlpattern_compare.proofs.StateSets.{contains_cons}
use Rattle.urlpattern_expressions.specs.Shapes.{Shape, Takes, choice, nothing, one_of, sequence, several}
use Rattle.urlpattern_syntax.specs.Text.{IsRepeated}

-- The text begins with a text of the shape, and one of the texts follows.
abbrev pub ShapeThen : Shape → Texts → List ℕ → Type 0
ShapeThen shape Rest text = (first rest : List ℕ) × (text ≡ first ++ rest) × Takes shape first × Rest rest

-- The text begins with a text of the shape that is not empty, and one of the texts follows.
abbrev pub SomeThen : Shape → Texts → List ℕ → Type 0
SomeThen shape Rest text = (c : ℕ) × (first rest : List ℕ) × (text ≡ c ∷ (first ++ rest)) × Takes shape (c ∷ first) × Rest rest

-- ---- what the states read

module _ (all : List Edge) where
  -- The edges that leave the states from `low` up to but not including `high` are these.
  pub record AreEdges (edges : List Edge) (low high : ℕ) : Type 0 where
    pub kept : (edge : Edge) → Contains edges edge → Contains all edge
    pub only : (edge : Edge) → low ≤ edge.from → edge.from < high → Contains all edge → Contains edges edge

  -- The edges of a shape are those that leave its states.
  abbrev pub HasShape : Shape → (count : ℕ) → (starts : List ℕ) → Type 0
  HasShape shape count starts = AreEdges (shape_edges shape count starts) count (count + shape_size shape)

  -- Edges that are those of two shapes, which leave states apart.
  first_edges : (edges others : List Edge) (low high low_own high_own : ℕ) → AreEdges (edges ++ others) low high → low ≤ low_own → high_own ≤ high →
      ((edge : Edge) → Contains others edge → low_own ≤ edge.from → edge.from < high_own → ⊥) → AreEdges edges low_own high_own
  first_edges edges others low high low_own high_own are from to apart = record {
    kept = λ edge has. are.kept edge (Contains-append_left edges others edge has);
    only = λ edge le lt has. elim (Contains-append_cases edges others edge (are.only edge (omega arith) (omega arith) has)) [
      | inl here ↦ here
      | inr there ↦ absurd (apart edge there le lt)
    ];
  }

  second_edges : (edges others : List Edge) (low high low_own high_own : ℕ) → AreEdges (edges ++ others) low high → low ≤ low_own → high_own ≤ high →
      ((edge : Edge) → Contains edges edge → low_own ≤ edge.from → edge.from < high_own → ⊥) → AreEdges others low_own high_own
  second_edges edges others low high low_own high_own are from to apart = record {
    kept = λ edge has. are.kept edge (Contains-append_right edges others edge has);
    only = λ edge le lt has. elim (Contains-append_cases edges others edge (are.only edge (omega arith) (omega arith) has)) [
      | inl here ↦ absurd (apart edge here le lt)
      | inr there ↦ there
    ];
  }

  sequence_other : (one other : Shape) (count : ℕ) (starts : List ℕ) → HasShape (sequence one other) count starts → HasShape other count starts
  sequence_other one other count starts has =
      let middle = count + shape_size other in
      let more = shape_edges one middle (begins other count starts) in
      first_edges (shape_edges other count starts) more count (count + (shape_size one + shape_size other)) count middle has (omega arith) (omega arith)
      (λ edge there le lt. let own = shape_from one middle (begins other count starts) edge there in let low = own.0 in omega arith)

  sequence_one : (one other : Shape) (count : ℕ) (starts : List ℕ) → HasShape (sequence one other) count starts → HasShape one (count + shape_size other) (begins other count starts)
  sequence_one one other count starts has =
      let middle = count + shape_size other in
      second_edges (shape_edges other count starts) (shape_edges one middle (begins other count starts)) count (count + (shape_size one + shape_size other)) middle (middle + shape_size one) has (omega arith) (omega arith)
      (λ edge here le lt. let own = shape_from other count starts edge here in let high = own.1 in omega arith)

  choice_one : (one other : Shape) (count : ℕ) (starts : List ℕ) → HasShape (choice one other) count starts → HasShape one count starts
  choice_one one other count starts has =
      let middle = count + shape_size one in
      first_edges (shape_edges one count starts) (shape_edges other middle starts) count (count + (shape_size one + shape_size other)) count middle has (omega arith) (omega arith)
      (λ edge there le lt. let own = shape_from other middle starts edge there in let low = own.0 in omega arith)

  choice_other : (one other : Shape) (count : ℕ) (starts : List ℕ) → HasShape (choice one other) count starts → HasShape other (count + shape_size one) starts
  choice_other one other count starts has =
      let middle = count + shape_size one in
      second_edges (shape_edges one count starts) (shape_edges other middle starts) count (count + (shape_size one + shape_size other)) middle (middle + shape_size other) has (omega arith) (omega arith)
      (λ edge here le lt. let own = shape_from one count starts edge here in let high = own.1 in omega arith)

  -- ---- with what follows

  -- The states at which a shape begins read its texts, followed by those that follow, if those at
  -- which its texts begin that are not empty read these.
  then_read : (shape : Shape) (count : ℕ) (starts : List ℕ) → ((text : List ℕ) → LeadsFrom all (heads shape count) text ↔ SomeThen shape (LeadsFrom all starts) text) → (text : List ℕ) →
      LeadsFrom all (begins shape count starts) text ↔ ShapeThen shape (LeadsFrom all starts) text
  then_read shape count starts some text = forth_back (takes_empty shape) refl
    where
      taken : (first rest : List ℕ) → text ≡ first ++ rest → Takes shape first → LeadsFrom all starts rest → ((takes_empty shape ≡ true) × LeadsFrom all starts text) ⊎ LeadsFrom all (heads shape count) text
      taken [] rest cut takes leads = inl (taken_empty shape [] refl takes, subst (LeadsFrom all starts) (sym cut) leads)
      taken (c ∷ first) rest cut takes leads = inr ((some text).1 (c, first, rest, cut, takes, leads))

      some_shape : LeadsFrom all (heads shape count) text → ShapeThen shape (LeadsFrom all starts) text
      some_shape leads = let (c, first, rest, cut, takes, more) = (some text).0 leads in (c ∷ first, rest, cut, takes, more)

      forth_back : (b : Bool) → takes_empty shape ≡ b → LeadsFrom all (heads shape count ++ (if takes_empty shape then starts else [])) text ↔ ShapeThen shape (LeadsFrom all starts) text
      forth_back true e =
          let same : (heads shape count ++ (if takes_empty shape then starts else [])) ≡ heads shape count ++ starts = ap (λ b. heads shape count ++ (if b then starts else [])) e in
          let split = from_append all (heads shape count) starts text in (
            λ leads. elim (split.0 (subst (λ l. LeadsFrom all l text) same leads)) [
              | inl here ↦ some_shape here
              | inr after ↦ ([], text, refl, empty_taken shape e, after)
            ],
            λ (first, rest, cut, takes, more). subst (λ l. LeadsFrom all l text) (sym same) (elim (taken first rest cut takes more) [
              | inl none ↦ split.1 (inr none.1)
              | inr here ↦ split.1 (inl here)
            ]),
          )
      forth_back false e =
          let same : (heads shape count ++ (if takes_empty shape then starts else [])) ≡ heads shape count ++ [] = ap (λ b. heads shape count ++ (if b then starts else [])) e in
          let split = from_append all (heads shape count) [] text in (
            λ leads. elim (split.0 (subst (λ l. LeadsFrom all l text) same leads)) [
              | inl here ↦ some_shape here
              | inr none ↦ absurd (from_none all text none)
            ],
            λ (first, rest, cut, takes, more). subst (λ l. LeadsFrom all l text) (sym same) (elim (taken first rest cut takes more) [
              | inl none ↦ absurd (let never = none.0 in cc)
              | inr here ↦ split.1 (inl here)
            ]),
          )

  -- ---- one character

  one_read : (ranges : List (ℕ × ℕ)) (count : ℕ) (starts : List ℕ) → HasShape (one_of ranges) count starts → 0 < count → (text : List ℕ) →
      LeadsFrom all (count ∷ []) text ↔ SomeThen (one_of ranges) (LeadsFrom all starts) text
  one_read ranges count starts has some [] = (
    λ leads. let e : count ≡ 0 = (from_one all count []).0 leads in absurd (omega arith),
    λ (c, first, rest, cut, takes, more). absurd cc,
  )
  one_read ranges count starts has some (c ∷ text) = (
    λ leads.
        let (edge, in_all, from, passed, more) = (from_one all count (c ∷ text)).0 leads in
        let (own_from, tests, own_to) = within_has count ranges starts edge (has.only edge (omega arith) (omega arith) in_all) in
        (c, [], text, refl, (c, refl, tests c passed), (edge.to, own_to, more)),
    λ (d, first, rest, cut, (e, is, inside), (to, in_starts, more)).
        let same : c ≡ e = cc in
        let none : first ≡ [] = cc in
        let left : text ≡ rest = (let tail : text ≡ first ++ rest = cc in tail) ∙ ap (λ t. t ++ rest) none in
        let found = within_edge count ranges starts to c in_starts (subst (λ x. in_ranges ranges x ≡ true) (sym same) inside) in
        (from_one all count (c ∷ text)).1 (found.0, has.kept found.0 found.1, found.2, found.3, subst (λ s. Leads all s text) (sym found.4) (subst (Leads all to) (sym left) more)),
  )

  -- ---- one or more

  module _ (one : Shape) (count : ℕ) (starts : List ℕ) (reads : (text : List ℕ) → LeadsFrom all (heads one count) text ↔ SomeThen one (LeadsFrom all (starts ++ heads one count)) text) where
    more_forth : (limit : ℕ) (text : List ℕ) → length text ≤ limit → LeadsFrom all (heads one count) text → SomeThen (several one) (LeadsFrom all starts) text
    more_forth zero [] le leads = let (c, first, rest, cut, takes, more) = (reads []).0 leads in absurd cc
    more_forth zero (d ∷ text) le leads = absurd (omega arith)
    more_forth (suc limit) text le leads =
        let (c, first, rest, cut, takes, more) = (reads text).0 leads in
        elim ((from_append all starts (heads one count) rest).0 more) [
          | inl left ↦ (c, first, rest, cut, (0, (c ∷ first, [], sym (append-nil (c ∷ first)), takes, refl)), left)
          | inr again ↦
              let shorter : length rest ≤ limit = omega (arith, ap length cut, length-append first rest) in
              let (d, next, last, other_cut, (n, are), left) = more_forth limit rest shorter again in
              let whole : text ≡ c ∷ ((first ++ d ∷ next) ++ last) = cut ∙ ap (λ t. c ∷ (first ++ t)) other_cut ∙ ap (λ t. c ∷ t) (sym (append_assoc first (d ∷ next) last)) in
              (c, first ++ d ∷ next, last, whole, (suc n, (c ∷ first, d ∷ next, refl, takes, are)), left)
        ]

    more_back : (n : ℕ) (taken rest : List ℕ) → IsRepeated (Takes one) n taken → LeadsFrom all starts rest → ((taken ≡ []) × LeadsFrom all starts rest) ⊎ LeadsFrom all (heads one count) (taken ++ rest)
    more_back zero taken rest ended left = inl (ended, left)
    more_back (suc n) taken rest (first, others, cut, takes, are) left = round first cut takes (more_back n others rest are left)
      where
        either : ((others ≡ []) × LeadsFrom all starts rest) ⊎ LeadsFrom all (heads one count) (others ++ rest) → LeadsFrom all (starts ++ heads one count) (others ++ rest)
        either (inl (none, leaves)) = (from_append all starts (heads one count) (others ++ rest)).1 (inl (subst (LeadsFrom all starts) (ap (λ t. t ++ rest) (sym none)) leaves))
        either (inr again) = (from_append all starts (heads one count) (others ++ rest)).1 (inr again)

        round : (first : List ℕ) → taken ≡ first ++ others → Takes one first → ((others ≡ []) × LeadsFrom all starts rest) ⊎ LeadsFrom all (heads one count) (others ++ rest) →
            ((taken ≡ []) × LeadsFrom all starts rest) ⊎ LeadsFrom all (heads one count) (taken ++ rest)
        round [] cut takes (inl (none, leaves)) = inl (cut ∙ none, leaves)
        round [] cut takes (inr again) = inr (subst (λ t. LeadsFrom all (heads one count) (t ++ rest)) (sym cut) again)
        round (c ∷ first) cut takes later =
            inr ((reads (taken ++ rest)).1 (c, first, others ++ rest, ap (λ t. t ++ rest) cut ∙ append_assoc (c ∷ first) others rest, takes, either later))

    more_read : (text : List ℕ) → LeadsFrom all (heads one count) text ↔ SomeThen (several one) (LeadsFrom all starts) text
    more_read text = (
      λ leads. more_forth (length text) text (omega arith) leads,
      λ (c, first, rest, cut, (n, are), left). elim (more_back (suc n) (c ∷ first) rest are left) [
        | inl none ↦ absurd (let never = none.0 in cc)
        | inr leads ↦ subst (LeadsFrom all (heads one count)) (sym cut) leads
      ],
    )

  -- ---- one after the other

  module _ (one other : Shape) (count : ℕ) (starts : List ℕ) (own : (text : List ℕ) → LeadsFrom all (heads one (count + shape_size other)) text ↔ SomeThen one (LeadsFrom all (begins other count starts)) text)
      (last : (text : List ℕ) → LeadsFrom all (heads other count) text ↔ SomeThen other (LeadsFrom all starts) text) where
    -- The states of the second text that are first too.
    abbrev second_heads : Bool → List ℕ
    second_heads empty = if empty then heads other count else []

    second_forth : (b : Bool) → takes_empty one ≡ b → (text : List ℕ) → LeadsFrom all (second_heads b) text → SomeThen (sequence one other) (LeadsFrom all starts) text
    second_forth true e text leads =
        let (c, first, rest, cut, takes, done) = (last text).0 leads in
        (c, first, rest, cut, ([], c ∷ first, refl, empty_taken one e, takes), done)
    second_forth false e text leads = absurd (from_none all text leads)

    sequence_back : (text : List ℕ) (c : ℕ) (first rest : List ℕ) → text ≡ c ∷ (first ++ rest) → (front back : List ℕ) → c ∷ first ≡ front ++ back → Takes one front → Takes other back → LeadsFrom all starts rest →
        LeadsFrom all (heads one (count + shape_size other)) text ⊎ LeadsFrom all (second_heads (takes_empty one)) text
    sequence_back text c first rest cut [] back parts takes other_takes done =
        inr (subst (λ b. LeadsFrom all (second_heads b) text) (sym (taken_empty one [] refl takes)) ((last text).1 (c, first, rest, cut, subst (Takes other) (sym parts) other_takes, done)))
    sequence_back text c first rest cut (d ∷ front) back parts takes other_takes done =
        let whole : text ≡ d ∷ (front ++ (back ++ rest)) = cut ∙ ap (λ t. t ++ rest) parts ∙ ap (λ t. d ∷ t) (append_assoc front back rest) in
        let ends = then_read other count starts last (back ++ rest) in
        inl ((own text).1 (d, front, back ++ rest, whole, takes, ends.1 (back, rest, refl, other_takes, done)))

    sequence_read : (text : List ℕ) → LeadsFrom all (heads (sequence one other) count) text ↔ SomeThen (sequence one other) (LeadsFrom all starts) text
    sequence_read text =
        let split = from_append all (heads one (count + shape_size other)) (second_heads (takes_empty one)) text in (
          λ leads. elim (split.0 leads) [
            | inl here ↦
                let (c, first, rest, cut, takes, more) = (own text).0 here in
                let (second, left, other_cut, other_takes, done) = (then_read other count starts last rest).0 more in
                (c, first ++ second, left, cut ∙ ap (λ t. c ∷ (first ++ t)) other_cut ∙ ap (λ t. c ∷ t) (sym (append_assoc first second left)), (c ∷ first, second, refl, takes, other_takes), done)
            | inr there ↦ second_forth (takes_empty one) refl text there
          ],
          λ (c, first, rest, cut, (front, back, parts, takes, other_takes), done). split.1 (sequence_back text c first rest cut front back parts takes other_takes done),
        )

  -- ---- shapes

  -- The states at which texts of the shape begin that are not empty read these, followed by what
  -- follows.
  pub heads_read : (shape : Shape) (count : ℕ) (starts : List ℕ) → HasShape shape count starts → 0 < count → (text : List ℕ) →
      LeadsFrom all (heads shape count) text ↔ SomeThen shape (LeadsFrom all starts) text
  heads_read nothing count starts has some text = (
    λ leads. absurd (from_none all text leads),
    λ (c, first, rest, cut, takes, more). absurd cc,
  )
  heads_read (one_of ranges) count starts has some text = one_read ranges count starts has some text
  heads_read (sequence one other) count starts has some text =
      let own = heads_read one (count + shape_size other) (begins other count starts) (sequence_one one other count starts has) (omega arith) in
      let last = heads_read other count starts (sequence_other one other count starts has) some in
      sequence_read one other count starts own last text
  heads_read (choice one other) count starts has some text =
      let middle = count + shape_size one in
      let own = heads_read one count starts (choice_one one other count starts has) some text in
      let its = heads_read other middle starts (choice_other one other count starts has) (omega arith) text in
      let split = from_append all (heads one count) (heads other middle) text in (
        λ leads. elim (split.0 leads) [
          | inl here ↦ let (c, first, rest, cut, takes, done) = own.0 here in (c, first, rest, cut, inl takes, done)
          | inr there ↦ let (c, first, rest, cut, takes, done) = its.0 there in (c, first, rest, cut, inr takes, done)
        ],
        λ (c, first, rest, cut, takes, done). elim takes [
          | inl here ↦ split.1 (inl (own.1 (c, first, rest, cut, here, done)))
          | inr there ↦ split.1 (inr (its.1 (c, first, rest, cut, there, done)))
        ],
      )
  heads_read (several one) count starts has some text =
      let reads = heads_read one count (starts ++ heads one count) (record { kept = has.kept; only = has.only }) some in
      more_read one count starts reads text

  -- The states at which the shape begins read its texts, followed by what follows.
  pub begins_read : (shape : Shape) (count : ℕ) (starts : List ℕ) → HasShape shape count starts → 0 < count → (text : List ℕ) →
      LeadsFrom all (begins shape count starts) text ↔ ShapeThen shape (LeadsFrom all starts) text
  begins_read shape count starts has some text = then_read shape count starts (heads_read shape count starts has some) text

-- ---- states below their number

if_heads : (b : Bool) (states : List ℕ) (state : ℕ) → Contains (if b then states else []) state → Contains states state
if_heads true states state has = has
if_heads false states state (k, lt, e) = absurd (omega arith)

heads_below : (shape : Shape) (count state : ℕ) → Contains (heads shape count) state → (count ≤ state) × (state < count + shape_size shape)
heads_below nothing count state (k, lt, e) = absurd (omega arith)
heads_below (one_of ranges) count state has = elim (contains_cons count state [] has) [
  | inl e ↦ (omega arith, omega arith)
  | inr (k, lt, e) ↦ absurd (omega arith)
]
heads_below (sequence one other) count state has = elim (Contains-append_cases (heads one (count + shape_size other)) (if takes_empty one then heads other count else []) state has) [
  | inl here ↦ let (low, high) = heads_below one (count + shape_size other) state here in (omega arith, omega arith)
  | inr there ↦ let (low, high) = heads_below other count state (if_heads (takes_empty one) (heads other count) state there) in (low, omega arith)
]
heads_below (choice one other) count state has = elim (Contains-append_cases (heads one count) (heads other (count + shape_size one)) state has) [
  | inl here ↦ let (low, high) = heads_below one count state here in (low, omega arith)
  | inr there ↦ let (low, high) = heads_below other (count + shape_size one) state there in (omega arith, omega arith)
]
heads_below (several one) count state has = heads_below one count state has

-- States below a limit.
abbrev AreBelow : (limit : ℕ) → List ℕ → Type 0
AreBelow limit states = (state : ℕ) → Contains states state → state < limit

both_below : (limit : ℕ) (states others : List ℕ) → AreBelow limit states → AreBelow limit others → AreBelow limit (states ++ others)
both_below limit states others all more state has = elim (Contains-append_cases states others state has) [ inl here ↦ all state here | inr there ↦ more state there ]

pub begins_below : (limit : ℕ) (shape : Shape) (count : ℕ) (starts : List ℕ) → AreBelow limit starts → count + shape_size shape ≤ limit → AreBelow limit (begins shape count starts)
begins_below limit shape count starts all le =
    both_below limit (heads shape count) (if takes_empty shape then starts else [])
    (λ state has. let (low, high) = heads_below shape count state has in omega arith)
    (λ state has. all state (if_heads (takes_empty shape) starts state has))

pub shape_below : (limit : ℕ) (shape : Shape) (count : ℕ) (starts : List ℕ) → AreBelow limit starts → count + shape_size shape ≤ limit →
    (edge : Edge) → Contains (shape_edges shape count starts) edge → edge.to < limit
shape_below limit nothing count starts all le edge (k, lt, e) = absurd (omega arith)
shape_below limit (one_of ranges) count starts all le edge has = all edge.to (within_has count ranges starts edge has).2
shape_below limit (sequence one other) count starts all le edge has = elim (Contains-append_cases (shape_edges other count starts) (shape_edges one (count + shape_size other) (begins other count starts)) edge has) [
  | inl here ↦ shape_below limit other count starts all (omega arith) edge here
  | inr there ↦ shape_below limit one (count + shape_size other) (begins other count starts) (begins_below limit other count starts all (omega arith)) (omega arith) edge there
]
shape_below limit (choice one other) count starts all le edge has = elim (Contains-append_cases (shape_edges one count starts) (shape_edges other (count + shape_size one) starts) edge has) [
  | inl here ↦ shape_below limit one count starts all (omega arith) edge here
  | inr there ↦ shape_below limit other (count + shape_size one) starts all (omega arith) edge there
]
shape_below limit (several one) count starts all le edge has =
    shape_below limit one count (starts ++ heads one count)
    (both_below limit starts (heads one count) all (λ state head. let (low, high) = heads_below one count state head in omega arith)) le edge has

-- ---- what is made with a shape

pub shape_made : (made : Made) (shape : Shape) → IsMade made → IsMade (with_shape made shape)
shape_made made shape is = record {
  below = λ edge has. elim (Contains-append_cases made.edges (shape_edges shape made.count made.starts) edge has) [
    | inl before ↦ let lt = is.below edge before in omega arith
    | inr new ↦ let (low, high) = shape_from shape made.count made.starts edge new in high
  ];
  some = let h = is.some in omega arith;
}

-- What was made before the shape is a part of all edges.
pub shape_before : (all : List Edge) (made : Made) (shape : Shape) → IsMade made → IsPartOf all (with_shape made shape) → IsPartOf all made
shape_before all made shape is within =
    let more = shape_edges shape made.count made.starts in
    record {
      kept = λ edge has. within.kept edge (Contains-append_left made.edges more edge has);
      only = λ edge lt has. elim (Contains-append_cases made.edges more edge (within.only edge (omega arith) has)) [
        | inl before ↦ before
        | inr new ↦ let (low, high) = shape_from shape made.count made.starts edge new in absurd (omega arith)
      ];
      below = is.below;
      some = is.some;
    }

shape_has : (all : List Edge) (made : Made) (shape : Shape) → IsMade made → IsPartOf all (with_shape made shape) → HasShape all shape made.count made.starts
shape_has all made shape is within =
    let more = shape_edges shape made.count made.starts in
    record {
      kept = λ edge has. within.kept edge (Contains-append_right made.edges more edge has);
      only = λ edge low lt has. elim (Contains-append_cases made.edges more edge (within.only edge lt has)) [
        | inl before ↦ let under = is.below edge before in absurd (omega arith)
        | inr new ↦ new
      ];
    }

-- The starts after the shape read its texts, followed by what was made.
pub shape_read : (all : List Edge) (made : Made) (shape : Shape) → IsMade made → IsPartOf all (with_shape made shape) → (text : List ℕ) →
    LeadsFrom all (with_shape made shape).starts text ↔ ShapeThen shape (LeadsFrom all made.starts) text
shape_read all made shape is within text = begins_read all shape made.count made.starts (shape_has all made shape is within) is.some text
