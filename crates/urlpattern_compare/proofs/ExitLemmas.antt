-- Where characters lead by exits.
use Rattle.std.proofs.Common.{◌≡◌, ◌≢◌, ◌∙◌, ℕ, ◌+◌, ◌<◌, ◌≤◌, ◌⊎◌, Bool, true, false, List, [], ◌∷◌, ◌++◌, ap, ap₂, append_assoc, append-nil, arith, drop, get_or, if◌then◌else◌, inl, inr, le-leb, length, map, refl, replicate, subst, sym, take, true≢false}
use Rattle.std.proofs.lemmas.Bool.{cases_lt, lt-leb}
use Rattle.std.proofs.lemmas.List.{drop_all, drop_more, take-append-drop, take_more}
use Rattle.std.proofs.lemmas.List.Elements.{All-contains, Contains-append_cases}
use Rattle.std.specs.List.{All, Contains, filter}
use Rattle.std.specs.Prelude.{◌&&◌, ◌||◌, nat_le, slice_set}
use Rattle.urlpattern_compare.proofs.TakenLemmas.{contains_map}
use Rattle.urlpattern_compare.specs.Automata.{passes}
use Rattle.urlpattern_compare.specs.Conditions.{joint_moved}
use Rattle.urlpattern_compare.specs.Exits.{AreKeptIn, HasAlike, joint_moved_by, moved_by, with_ends}
use Rattle.urlpattern_compare.specs.Moves.{AreMoves, AreNear, HasMove, may_pass}
use Rattle.urlpattern_compare.specs.Searching.{is_in, moved, with_moves}
use Rattle.urlpattern_compare.specs.declared.condition.Condition.{Condition}
use Rattle.urlpattern_compare.specs.declared.exits.Exits.{Exits}
use Rattle.urlpattern_compare.specs.declared.moves.Move.{Move}
use Rattle.urlpattern_compare.specs.declared.parts_automaton.Edge.{Edge}
use Rattle.urlpattern_compare.specs.declared.parts_automaton.PartsAutomaton.{PartsAutomaton}
use Rattle.urlpattern_compare.specs.declared.parts_automaton.Test.{Test}
use Rattle.urlpattern_compare.specs.declared.parts_automaton.Test.TheVariants.{Only, AnyBut, Within}
use Rattle.urlpattern_meaning.specs.Matching.{folded_character}
use Rattle.urlpattern_syntax.specs.Text.{line_feed}

-- ---- exits of a set

-- An edge that does not leave the set leads nowhere.
leaving_step : (b : Bool) (flags : List Bool) (c : ℕ) (edge : Edge) (rest : List Edge) →
    with_ends flags c (if b then edge ∷ rest else rest) ≡ with_ends (if b && passes edge.test c then slice_set flags edge.to true else flags) c rest
leaving_step true flags c edge rest = refl
leaving_step false flags c edge rest = refl

leaving : (flags from : List Bool) (c : ℕ) (edges : List Edge) → with_ends flags c (filter (λ edge. is_in from edge.from) edges) ≡ with_moves flags from c edges
leaving flags from c [] = refl
leaving flags from c (edge ∷ edges) =
    leaving_step (is_in from edge.from) flags c edge (filter (λ edge. is_in from edge.from) edges)
    ∙ leaving (if is_in from edge.from && passes edge.test c then slice_set flags edge.to true else flags) from c edges

-- Where a character leads by edges, a number of states and the case of an automaton.
abbrev leads : (states : ℕ) → (ignore_case : Bool) → List Edge → (c : ℕ) → List Bool
leads states ignore_case edges c = with_ends (replicate states false) (folded_character ignore_case c) edges

leads_by : (one : Exits) (states : ℕ) (ignore_case : Bool) (edges : List Edge) (c : ℕ) → one.states ≡ states → one.ignore_case ≡ ignore_case → one.edges.items ≡ edges → moved_by one c ≡ leads states ignore_case edges c
leads_by one states ignore_case edges c same case are =
    ap (λ n. leads n one.ignore_case one.edges.items c) same ∙ ap (λ b. leads states b one.edges.items c) case ∙ ap (λ l. leads states ignore_case l c) are

-- A character leads by the exits of an automaton as by all of its edges.
pub exits_lead : (own : Exits) (automaton : PartsAutomaton) (from : List Bool) (c : ℕ) → own.edges.items ≡ filter (λ edge. is_in from edge.from) automaton.edges.items → own.states ≡ length from → own.ignore_case ≡ automaton.ignore_case →
    moved_by own c ≡ moved automaton.edges.items from (folded_character automaton.ignore_case c)
exits_lead own automaton from c are states case =
    leads_by own (length from) automaton.ignore_case (filter (λ edge. is_in from edge.from) automaton.edges.items) c states case are
    ∙ leaving (replicate (length from) false) from (folded_character automaton.ignore_case c) automaton.edges.items

joint_push : (exits : List Exits) (own : Exits) (c : ℕ) → joint_moved_by (exits ++ own ∷ []) c ≡ joint_moved_by exits c ++ moved_by own c
joint_push [] own c = append-nil (moved_by own c)
joint_push (first ∷ exits) own c = ap (λ l. moved_by first c ++ l) (joint_push exits own c) ∙ sym (append_assoc (moved_by first c) (joint_moved_by exits c) (moved_by own c))

-- The exits of a further automaton.
pub exits_more : (conditions : List Condition) (i : ℕ) (it : Condition) (exits : List Exits) (own : Exits) (left : List Bool) (c : ℕ) → i < length conditions → it ≡ get_or conditions i it →
    moved_by own c ≡ moved it.automaton.now.edges.items (take it.automaton.now.states left) (folded_character it.automaton.now.ignore_case c) →
    joint_moved_by (exits ++ own ∷ []) c ++ joint_moved (drop (i + 1) conditions) (drop it.automaton.now.states left) c ≡ joint_moved_by exits c ++ joint_moved (drop i conditions) left c
exits_more conditions i it exits own left c lt at same =
    let rest = joint_moved (drop (i + 1) conditions) (drop it.automaton.now.states left) c in
    let dropped : drop i conditions ≡ it ∷ drop (i + 1) conditions = drop_more conditions i it lt ∙ ap (λ x. x ∷ drop (i + 1) conditions) (sym at) in
    ap (λ l. l ++ rest) (joint_push exits own c)
    ∙ append_assoc (joint_moved_by exits c) (moved_by own c) rest
    ∙ ap (λ l. joint_moved_by exits c ++ l) (ap (λ l. l ++ rest) same ∙ sym (ap (λ l. joint_moved l left c) dropped))

-- The exits of all automata.
pub none_left : (conditions : List Condition) (i : ℕ) (exits : List Exits) (left : List Bool) (c : ℕ) → length conditions ≤ i → joint_moved_by exits c ≡ joint_moved_by exits c ++ joint_moved (drop i conditions) left c
none_left conditions i exits left c le = sym (ap (λ l. joint_moved_by exits c ++ joint_moved l left c) (drop_all i conditions le) ∙ append-nil (joint_moved_by exits c))

-- ---- near characters

and_none : (b : Bool) → (b && false) ≡ false
and_none true = refl
and_none false = refl

-- A character passes no range that has none of those from the least to the greatest.
missed : (test : Test) (least greatest c : ℕ) → least ≤ c → c ≤ greatest → may_pass test least greatest ≡ false → passes test c ≡ false
missed (Only d) least greatest c low high none = absurd (true≢false none)
missed (AnyBut d) least greatest c low high none = absurd (true≢false none)
missed (Within first last) least greatest c low high none = elim (cases_lt c first) [
  | inl below ↦ ap (λ b. b && nat_le c last) (lt-leb first c below)
  | inr from ↦ elim (cases_lt last c) [
    | inl above ↦ ap (λ b. nat_le first c && b) (lt-leb c last above) ∙ and_none (nat_le first c)
    | inr to ↦ absurd (true≢false (sym (ap₂ ◌&&◌ (le-leb first greatest (omega arith)) (le-leb least last (omega arith))) ∙ none))
  ]
]

kept_out : (ignore_case : Bool) (test : Test) (least greatest c : ℕ) → least ≤ c → c ≤ greatest → (ignore_case || may_pass test least greatest) ≡ false → passes test (folded_character ignore_case c) ≡ false
kept_out true test least greatest c low high none = absurd (true≢false none)
kept_out false test least greatest c low high none = missed test least greatest c low high none

near_step : (b : Bool) (flags : List Bool) (c : ℕ) (edge : Edge) (rest : List Edge) → (b ≡ false → passes edge.test c ≡ false) →
    with_ends flags c (if b then edge ∷ rest else rest) ≡ with_ends (if passes edge.test c then slice_set flags edge.to true else flags) c rest
near_step true flags c edge rest none = refl
near_step false flags c edge rest none = ap (λ p. with_ends (if p then slice_set flags edge.to true else flags) c rest) (sym (none refl))

nearby : (keep : Edge → Bool) (flags : List Bool) (c : ℕ) (edges : List Edge) → ((edge : Edge) → keep edge ≡ false → passes edge.test c ≡ false) → with_ends flags c (filter keep edges) ≡ with_ends flags c edges
nearby keep flags c [] none = refl
nearby keep flags c (edge ∷ edges) none =
    near_step (keep edge) flags c edge (filter keep edges) (none edge) ∙ nearby keep (if passes edge.test c then slice_set flags edge.to true else flags) c edges none

-- A character leads by near exits as by all.
near_leads : (own near : Exits) (least greatest c : ℕ) → near.edges.items ≡ filter (λ edge. own.ignore_case || may_pass edge.test least greatest) own.edges.items → near.states ≡ own.states → near.ignore_case ≡ own.ignore_case →
    least ≤ c → c ≤ greatest → moved_by near c ≡ moved_by own c
near_leads own near least greatest c are states case low high =
    let keep : Edge → Bool = λ edge. own.ignore_case || may_pass edge.test least greatest in
    leads_by near own.states own.ignore_case (filter keep own.edges.items) c states case are
    ∙ nearby keep (replicate own.states false) (folded_character own.ignore_case c) own.edges.items (λ edge none. kept_out own.ignore_case edge.test least greatest c low high none)

-- The near exits of a further automaton.
pub near_more : (exits near : List Exits) (i : ℕ) (own own_near : Exits) (least greatest : ℕ) → i < length exits → own ≡ get_or exits i own → AreNear (take i exits) least greatest near →
    own_near.edges.items ≡ filter (λ edge. own.ignore_case || may_pass edge.test least greatest) own.edges.items → own_near.states ≡ own.states → own_near.ignore_case ≡ own.ignore_case → AreNear (take (i + 1) exits) least greatest (near ++ own_near ∷ [])
near_more exits near i own own_near least greatest lt at before are states case c low high =
    let more : take (i + 1) exits ≡ take i exits ++ own ∷ [] = take_more exits i own lt ∙ ap (λ x. take i exits ++ x ∷ []) (sym at) in
    joint_push near own_near c ∙ ap₂ (λ (l m : List Bool). l ++ m) (before c low high) (near_leads own own_near least greatest c are states case low high)
    ∙ sym (joint_push (take i exits) own c) ∙ sym (ap (λ l. joint_moved_by l c) more)

-- ---- moves

-- What moves lead to, more moves lead to.
pub move_kept : (old new : List Move) (flags : List Bool) → AreKeptIn old new → HasMove old flags → HasMove new flags
move_kept old new flags kept (it, has, same) = (it, kept it has, same)

-- Characters of a list that have a move, or are of the rest.
pub moves_or_left : (exits : List Exits) (old new : List Move) (left : List ℕ) (n c : ℕ) → AreKeptIn old new → All (λ d. d ≢ line_feed → HasMove new (joint_moved_by exits d)) (take n left) → c ≢ line_feed →
    Contains left c ⊎ HasMove old (joint_moved_by exits c) → Contains (drop n left) c ⊎ HasMove new (joint_moved_by exits c)
moves_or_left exits old new left n c kept added plain (inr has) = inr (move_kept old new (joint_moved_by exits c) kept has)
moves_or_left exits old new left n c kept added plain (inl has) = elim (Contains-append_cases (take n left) (drop n left) c (subst (λ l. Contains l c) (sym (take-append-drop n left)) has)) [
  | inl first ↦ inr (All-contains (λ d. d ≢ line_feed → HasMove new (joint_moved_by exits d)) (take n left) c added first plain)
  | inr later ↦ inl later
]

-- A character has a move if none is left.
pub has_move : (exits : List Exits) (moves : List Move) (left : List ℕ) (c : ℕ) → length left ≤ 0 → Contains left c ⊎ HasMove moves (joint_moved_by exits c) → HasMove moves (joint_moved_by exits c)
has_move exits moves left c none (inl (k, lt, e)) = absurd (omega arith)
has_move exits moves left c none (inr has) = has

-- The characters of moves have one like each that has a move.
pub moves_alike : (exits : List Exits) (moves : List Move) (c : ℕ) → AreMoves exits moves → HasMove moves (joint_moved_by exits c) → HasAlike exits (map (λ it. it.c) moves) c
moves_alike exits moves c are (it, has, same) =
    let is = All-contains (λ (one : Move). (one.c ≢ line_feed) × (one.flags.items ≡ joint_moved_by exits one.c)) moves it are has in
    (it.c, contains_map (λ (one : Move). one.c) moves it has, is.0, sym is.1 ∙ same)
