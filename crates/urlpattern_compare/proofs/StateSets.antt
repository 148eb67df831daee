-- Sets of states, with a flag for each state.
use Rattle.std.proofs.Common.{◌≡◌, ℕ, zero, suc, ◌+◌, ◌<◌, ◌≤◌, Bool, true, false, List, [], ◌∷◌, get_or, length, map, replicate, refl, sym, subst, ap, ◌∙◌, ◌⊎◌, inl, inr, ◌↔◌, arith, length-set, if◌then◌else◌, take, take_all}
use Rattle.std.proofs.lemmas.List.{length-replicate, take_more}
use Rattle.std.proofs.lemmas.List.Elements.{All-head, All-tail, Contains-push_cases}
use Rattle.std.specs.List.{All, Contains}
use Rattle.std.specs.Prelude.{◌&&◌, IsTrue, slice_set}
use Rattle.urlpattern_compare.specs.Automata.{AcceptsText, IsWithin, Leads, passes}
use Rattle.urlpattern_compare.specs.Searching.{is_in, moved, starts_of, with_moves, with_states}
use Rattle.urlpattern_compare.specs.declared.parts_automaton.PartsAutomaton.{PartsAutomaton}
use Rattle.urlpattern_compare.specs.declared.parts_automaton.Edge.{Edge}
use Rattle.urlpattern_meaning.specs.Matching.{folded_character}

-- ---- elements

pub contains_head : {X : Type 0} (x : X) (xs : List X) → Contains (x ∷ xs) x
contains_head x xs = (0, omega arith, refl)

pub contains_tail : {X : Type 0} (y x : X) (xs : List X) → Contains xs x → Contains (y ∷ xs) x
contains_tail y x xs (k, lt, e) = (suc k, omega arith, e)

pub contains_cons : {X : Type 0} (y x : X) (xs : List X) → Contains (y ∷ xs) x → (y ≡ x) ⊎ Contains xs x
contains_cons y x xs (zero, lt, e) = inl e
contains_cons y x xs (suc k, lt, e) = inr (k, omega arith, e)

-- A further element.
pub contains_more : {X : Type 0} (xs : List X) (i : ℕ) (d x : X) → i < length xs → Contains (take (i + 1) xs) x → Contains (take i xs) x ⊎ (get_or xs i d ≡ x)
contains_more xs i d x lt has = Contains-push_cases (take i xs) (get_or xs i d) x (subst (λ l. Contains l x) (take_more xs i d lt) has)

-- All elements.
pub contains_all : {X : Type 0} (xs : List X) (i : ℕ) (x : X) → length xs ≤ i → Contains xs x → Contains (take i xs) x
contains_all xs i x le has = subst (λ l. Contains l x) (sym (take_all i xs le)) has

-- The edges lead from a state of the set to state 0 by the text.
abbrev pub LeadsIn : List Edge → (flags : List Bool) → (text : List ℕ) → Type 0
LeadsIn edges flags text = (state : ℕ) × IsTrue (is_in flags state) × Leads edges state text

-- ---- a further state

kept : (flags : List Bool) (state q : ℕ) → IsTrue (is_in flags q) → IsTrue (is_in (slice_set flags state true) q)
kept [] state q h = h
kept (b ∷ flags) zero zero h = refl
kept (b ∷ flags) zero (suc q) h = h
kept (b ∷ flags) (suc state) zero h = h
kept (b ∷ flags) (suc state) (suc q) h = kept flags state q h

added : (flags : List Bool) (state : ℕ) → state < length flags → IsTrue (is_in (slice_set flags state true) state)
added [] state lt = absurd (omega arith)
added (b ∷ flags) zero lt = refl
added (b ∷ flags) (suc state) lt = added flags state (omega arith)

adds : (flags : List Bool) (state q : ℕ) → IsTrue (is_in (slice_set flags state true) q) → IsTrue (is_in flags q) ⊎ (state ≡ q)
adds [] state q h = inl h
adds (b ∷ flags) zero zero h = inr refl
adds (b ∷ flags) zero (suc q) h = inl h
adds (b ∷ flags) (suc state) zero h = inl h
adds (b ∷ flags) (suc state) (suc q) h = elim (adds flags state q h) [ inl old ↦ inl old | inr e ↦ inr (ap suc e) ]

none_in : (n q : ℕ) → ¬ IsTrue (is_in (replicate n false) q)
none_in zero q h = cc
none_in (suc n) zero h = cc
none_in (suc n) (suc q) h = none_in n q h

-- ---- several states

states_kept : (flags : List Bool) (states : List ℕ) (q : ℕ) → IsTrue (is_in flags q) → IsTrue (is_in (with_states flags states) q)
states_kept flags [] q h = h
states_kept flags (state ∷ states) q h = states_kept (slice_set flags state true) states q (kept flags state q h)

states_in : (n : ℕ) (flags : List Bool) (states : List ℕ) (q : ℕ) → length flags ≡ n → All (λ state. state < n) states → Contains states q → IsTrue (is_in (with_states flags states) q)
states_in n flags [] q e all (k, lt, f) = absurd (omega arith)
states_in n flags (state ∷ states) q e all has = elim (contains_cons state q states has) [
  | inl same ↦ states_kept (slice_set flags state true) states q (subst (λ s. IsTrue (is_in (slice_set flags state true) s)) same
      (added flags state (subst (λ m. state < m) (sym e) (All-head (λ s. s < n) state states all))))
  | inr later ↦ states_in n (slice_set flags state true) states q (length-set flags state true ∙ e) (All-tail (λ s. s < n) state states all) later
]

in_states : (flags : List Bool) (states : List ℕ) (q : ℕ) → IsTrue (is_in (with_states flags states) q) → IsTrue (is_in flags q) ⊎ Contains states q
in_states flags [] q h = inl h
in_states flags (state ∷ states) q h = elim (in_states (slice_set flags state true) states q h) [
  | inl old ↦ elim (adds flags state q old) [
    | inl older ↦ inl older
    | inr e ↦ inr (subst (Contains (state ∷ states)) e (contains_head state states))
  ]
  | inr later ↦ inr (contains_tail state q states later)
]

pub length_states : (flags : List Bool) (states : List ℕ) → length (with_states flags states) ≡ length flags
length_states flags [] = refl
length_states flags (state ∷ states) = length_states (slice_set flags state true) states ∙ length-set flags state true

-- ---- moves

-- The edge leads to the state from one of the set, by the character.
abbrev pub MovesTo : (from : List Bool) (c : ℕ) → Edge → ℕ → Type 0
MovesTo from c edge q = IsTrue (is_in from edge.from) × IsTrue (passes edge.test c) × (edge.to ≡ q)

pub both : (a b : Bool) → IsTrue (a && b) → IsTrue a × IsTrue b
both true b h = (refl, h)
both false b h = absurd cc

if_kept : (b : Bool) (flags : List Bool) (state q : ℕ) → IsTrue (is_in flags q) → IsTrue (is_in (if b then slice_set flags state true else flags) q)
if_kept true flags state q h = kept flags state q h
if_kept false flags state q h = h

if_adds : (b : Bool) (flags : List Bool) (state q : ℕ) → IsTrue (is_in (if b then slice_set flags state true else flags) q) → IsTrue (is_in flags q) ⊎ (IsTrue b × (state ≡ q))
if_adds true flags state q h = elim (adds flags state q h) [ inl old ↦ inl old | inr e ↦ inr (refl, e) ]
if_adds false flags state q h = inl h

if_added : (a b : Bool) (flags : List Bool) (state : ℕ) → IsTrue a → IsTrue b → state < length flags → IsTrue (is_in (if a && b then slice_set flags state true else flags) state)
if_added true true flags state h k lt = added flags state lt
if_added true false flags state h k lt = absurd cc
if_added false b flags state h k lt = absurd cc

if_length : (b : Bool) (flags : List Bool) (state : ℕ) → length (if b then slice_set flags state true else flags) ≡ length flags
if_length true flags state = length-set flags state true
if_length false flags state = refl

moves_kept : (flags from : List Bool) (c : ℕ) (edges : List Edge) (q : ℕ) → IsTrue (is_in flags q) → IsTrue (is_in (with_moves flags from c edges) q)
moves_kept flags from c [] q h = h
moves_kept flags from c (edge ∷ edges) q h =
    let b = is_in from edge.from && passes edge.test c in
    moves_kept (if b then slice_set flags edge.to true else flags) from c edges q (if_kept b flags edge.to q h)

pub length_moves : (flags from : List Bool) (c : ℕ) (edges : List Edge) → length (with_moves flags from c edges) ≡ length flags
length_moves flags from c [] = refl
length_moves flags from c (edge ∷ edges) =
    let b = is_in from edge.from && passes edge.test c in
    length_moves (if b then slice_set flags edge.to true else flags) from c edges ∙ if_length b flags edge.to

moves_in : (n : ℕ) (flags from : List Bool) (c : ℕ) (edges : List Edge) (edge : Edge) (q : ℕ) → length flags ≡ n → All (λ edge. edge.to < n) edges → Contains edges edge → MovesTo from c edge q →
    IsTrue (is_in (with_moves flags from c edges) q)
moves_in n flags from c [] edge q e all (k, lt, f) moves = absurd (omega arith)
moves_in n flags from c (first ∷ edges) edge q e all has moves =
    let b = is_in from first.from && passes first.test c in
    elim (contains_cons first edge edges has) [
      | inl same ↦
          let here : MovesTo from c first q = subst (λ (it : Edge). MovesTo from c it q) (sym same) moves in
          moves_kept (if b then slice_set flags first.to true else flags) from c edges q (subst (λ s. IsTrue (is_in (if b then slice_set flags first.to true else flags) s)) here.2
          (if_added (is_in from first.from) (passes first.test c) flags first.to here.0 here.1 (subst (λ m. first.to < m) (sym e) (All-head (λ (it : Edge). it.to < n) first edges all))))
      | inr later ↦
          moves_in n (if b then slice_set flags first.to true else flags) from c edges edge q (if_length b flags first.to ∙ e) (All-tail (λ (it : Edge). it.to < n) first edges all) later moves
    ]

in_moves : (flags from : List Bool) (c : ℕ) (edges : List Edge) (q : ℕ) → IsTrue (is_in (with_moves flags from c edges) q) →
    IsTrue (is_in flags q) ⊎ ((edge : Edge) × Contains edges edge × MovesTo from c edge q)
in_moves flags from c [] q h = inl h
in_moves flags from c (edge ∷ edges) q h =
    let b = is_in from edge.from && passes edge.test c in
    elim (in_moves (if b then slice_set flags edge.to true else flags) from c edges q h) [
      | inl old ↦ elim (if_adds b flags edge.to q old) [
        | inl older ↦ inl older
        | inr (holds, e) ↦ let two = both (is_in from edge.from) (passes edge.test c) holds in inr (edge, contains_head edge edges, (two.0, two.1, e))
      ]
      | inr (later, has, moves) ↦ inr (later, contains_tail edge later edges has, moves)
    ]

-- ---- texts from sets

-- A text leads from the set after a character if the text with that character leads from the set
-- before it.
pub leads_moved : (edges : List Edge) (from : List Bool) (c : ℕ) (text : List ℕ) → All (λ edge. edge.to < length from) edges →
    LeadsIn edges (moved edges from c) text ↔ LeadsIn edges from (c ∷ text)
leads_moved edges from c text all = (
  λ leads. elim (in_moves (replicate (length from) false) from c edges leads.0 leads.1) [
    | inl old ↦ absurd (none_in (length from) leads.0 old)
    | inr (edge, has, moves) ↦ (edge.from, moves.0, (edge, has, refl, moves.1, subst (λ s. Leads edges s text) (sym moves.2) leads.2))
  ],
  λ leads.
      let (edge, has, from_is, passes, more) = leads.2 in (
        edge.to,
        moves_in (length from) (replicate (length from) false) from c edges edge edge.to (length-replicate (length from) false) all has
            (subst (λ s. IsTrue (is_in from s)) (sym from_is) leads.1, passes, refl),
        more,
      ),
)

pub length_moved : (edges : List Edge) (from : List Bool) (c : ℕ) → length (moved edges from c) ≡ length from
length_moved edges from c = length_moves (replicate (length from) false) from c edges ∙ length-replicate (length from) false

-- A text is accepted if it leads from the set of starts.
pub leads_starts : (automaton : PartsAutomaton) (text : List ℕ) → IsWithin automaton → AcceptsText automaton text ↔ LeadsIn automaton.edges.items (starts_of automaton) (map (folded_character automaton.ignore_case) text)
leads_starts automaton text within =
    let starts = automaton.starts.items in
    let n = automaton.states in (
      λ leads. (leads.0, states_in n (replicate n false) starts leads.0 (length-replicate n false) within.starts leads.1, leads.2),
      λ leads. elim (in_states (replicate n false) starts leads.0 leads.1) [
        | inl old ↦ absurd (none_in n leads.0 old)
        | inr has ↦ (leads.0, has, leads.2)
      ],
    )

pub length_starts : (automaton : PartsAutomaton) → length (starts_of automaton) ≡ automaton.states
length_starts automaton = length_states (replicate automaton.states false) automaton.starts.items ∙ length-replicate automaton.states false
