-- What a text does to several automata.
use Rattle.std.proofs.Common.{◌≡◌, ℕ, zero, suc, ◌+◌, ◌≤◌, Bool, true, false, List, [], ◌∷◌, ◌++◌, length, map, refl, sym, ap, ap₂, ◌∙◌, ◌↔◌, arith, append_assoc, append-nil, take, drop, take_at, drop_at, length-append, length-drop, length-take-le, replicate, if◌then◌else◌}
use Rattle.std.proofs.lemmas.List.Elements.{All-cons, All-head, All-nil, All-tail}
use Rattle.std.specs.List.{list_any}
use Rattle.std.specs.Prelude.{◌&&◌, ◌||◌, IsTrue, not, slice_set}
use Rattle.urlpattern_compare.specs.Automata.{passes}
use Rattle.urlpattern_compare.specs.Conditions.{Meets, are_met, are_open, is_as, is_met, joint_after, joint_moved, joint_starts, states_after, states_by}
use Rattle.urlpattern_compare.specs.Searching.{is_in, moved, starts_of, with_moves}
use Rattle.urlpattern_compare.specs.TextSearch.{LeadAlike}
use Rattle.urlpattern_compare.specs.declared.condition.Condition.{Condition}
use Rattle.urlpattern_compare.specs.declared.parts_automaton.PartsAutomaton.{PartsAutomaton}
use Rattle.urlpattern_compare.specs.declared.parts_automaton.Edge.{Edge}
use Rattle.urlpattern_compare.proofs.StateSets.{both, length_moved, length_starts}
use Rattle.urlpattern_meaning.specs.Matching.{folded_character}

-- ---- one automaton

states_push : (edges : List Edge) (read : ℕ → ℕ) (from : List Bool) (text : List ℕ) (c : ℕ) → states_by edges from (map read (text ++ c ∷ [])) ≡ moved edges (states_by edges from (map read text)) (read c)
states_push edges read from [] c = refl
states_push edges read from (d ∷ text) c = states_push edges read (moved edges from (read d)) text c

length_by : (edges : List Edge) (from : List Bool) (text : List ℕ) → length (states_by edges from text) ≡ length from
length_by edges from [] = refl
length_by edges from (c ∷ text) = length_by edges (moved edges from c) text ∙ length_moved edges from c

pub length_after : (automaton : PartsAutomaton) (text : List ℕ) → length (states_after automaton text) ≡ automaton.states
length_after automaton text = length_by automaton.edges.items (starts_of automaton) (map (folded_character automaton.ignore_case) text) ∙ length_starts automaton

-- ---- several automata

-- Cuts the sets at the width of the first automaton.
cut : {X : Type 0} (F : (own others : List Bool) → X) (own others : List Bool) (n : ℕ) → length own ≡ n → F (take n (own ++ others)) (drop n (own ++ others)) ≡ F own others
cut F own others n e = ap₂ F (take_at own others n e) (drop_at own others n e)

pub starts_after : (conditions : List Condition) → joint_starts conditions ≡ joint_after conditions []
starts_after [] = refl
starts_after (it ∷ others) = ap (λ l. starts_of it.automaton.now ++ l) (starts_after others)

-- A further character moves the sets.
pub moved_after : (conditions : List Condition) (text : List ℕ) (c : ℕ) → joint_moved conditions (joint_after conditions text) c ≡ joint_after conditions (text ++ c ∷ [])
moved_after [] text c = refl
moved_after (it ∷ others) text c =
    let one = it.automaton.now in
    cut (λ own rest. moved one.edges.items own (folded_character one.ignore_case c) ++ joint_moved others rest c) (states_after one text) (joint_after others text) one.states (length_after one text)
    ∙ ap₂ (λ (own rest : List Bool). own ++ rest) (sym (states_push one.edges.items (folded_character one.ignore_case) (starts_of one) text c)) (moved_after others text c)

met_is : (it : Condition) (others : List Condition) (text : List ℕ) → are_met (it ∷ others) (joint_after (it ∷ others) text) ≡ (is_met it text && are_met others (joint_after others text))
met_is it others text =
    let one = it.automaton.now in
    cut (λ own rest. is_as it.is_accepted (is_in own 0) && are_met others rest) (states_after one text) (joint_after others text) one.states (length_after one text)

-- The sets of a text tell whether it meets the conditions.
pub met_after : (conditions : List Condition) (text : List ℕ) → IsTrue (are_met conditions (joint_after conditions text)) ↔ Meets conditions text
met_after [] text = (λ h. All-nil (λ (it : Condition). IsTrue (is_met it text)), λ met. refl)
met_after (it ∷ others) text =
    let P : Condition → Type 0 = λ one. IsTrue (is_met one text) in
    let rest = met_after others text in
    let e = met_is it others text in (
      λ h. let two = both (is_met it text) (are_met others (joint_after others text)) (sym e ∙ h) in All-cons P it others two.0 (rest.0 two.1),
      λ met. e ∙ ap₂ (λ a b. a && b) (All-head P it others met) (rest.1 (All-tail P it others met)),
    )

-- Texts that lead each automaton to the same states lead to the same sets.
pub alike_after : (conditions : List Condition) (text other : List ℕ) → LeadAlike conditions text other → joint_after conditions text ≡ joint_after conditions other
alike_after [] text other alike = refl
alike_after (it ∷ others) text other alike =
    let P : Condition → Type 0 = λ one. states_after one.automaton.now text ≡ states_after one.automaton.now other in
    ap₂ (λ (own rest : List Bool). own ++ rest) (All-head P it others alike) (alike_after others text other (All-tail P it others alike))

-- ---- texts from sets

-- The sets to which the text leads from the sets `from`.
abbrev pub joint_by : List Condition → (from : List Bool) → (text : List ℕ) → List Bool
joint_by conditions from [] = from
joint_by conditions from (c ∷ text) = joint_by conditions (joint_moved conditions from c) text

pub after_by : (conditions : List Condition) (text rest : List ℕ) → joint_after conditions (text ++ rest) ≡ joint_by conditions (joint_after conditions text) rest
after_by conditions text [] = ap (λ t. joint_after conditions t) (append-nil text)
after_by conditions text (c ∷ rest) =
    ap (λ t. joint_after conditions t) (sym (append_assoc text (c ∷ []) rest))
    ∙ after_by conditions (text ++ c ∷ []) rest
    ∙ ap (λ f. joint_by conditions f rest) (sym (moved_after conditions text c))

-- ---- the width of sets

-- The number of states of all automata.
abbrev pub width : List Condition → ℕ
width [] = 0
width (it ∷ others) = it.automaton.now.states + width others

pub length_joint : (conditions : List Condition) (text : List ℕ) → length (joint_after conditions text) ≡ width conditions
length_joint [] text = refl
length_joint (it ∷ others) text =
    let own = length_after it.automaton.now text in
    let rest = length_joint others text in
    let all = length-append (states_after it.automaton.now text) (joint_after others text) in
    omega arith

pub length_joint_moved : (conditions : List Condition) (from : List Bool) (c : ℕ) → length from ≡ width conditions → length (joint_moved conditions from c) ≡ width conditions
length_joint_moved [] from c e = refl
length_joint_moved (it ∷ others) from c e =
    let n = it.automaton.now.states in
    let le : n ≤ length from = omega arith in
    let first = length-take-le n from le in
    let d = folded_character it.automaton.now.ignore_case c in
    let own = length_moved it.automaton.now.edges.items (take n from) d in
    let dropped = length-drop n from in
    let rest = length_joint_moved others (drop n from) c (omega arith) in
    let all = length-append (moved it.automaton.now.edges.items (take n from) d) (joint_moved others (drop n from) c) in
    omega arith

-- ---- sets without a state

none_is_in : (from : List Bool) (q : ℕ) → list_any (λ flag. flag) from ≡ false → is_in from q ≡ false
none_is_in [] q h = refl
none_is_in (true ∷ from) q h = absurd cc
none_is_in (false ∷ from) zero h = refl
none_is_in (false ∷ from) (suc q) h = none_is_in from q h

none_moves : (flags from : List Bool) (c : ℕ) (edges : List Edge) → list_any (λ flag. flag) from ≡ false → with_moves flags from c edges ≡ flags
none_moves flags from c [] h = refl
none_moves flags from c (edge ∷ edges) h =
    ap (λ b. with_moves (if b && passes edge.test c then slice_set flags edge.to true else flags) from c edges) (none_is_in from edge.from h)
    ∙ none_moves flags from c edges h

none_replicate : (n : ℕ) → list_any (λ flag. flag) (replicate n false) ≡ false
none_replicate zero = refl
none_replicate (suc n) = none_replicate n

-- No state leads to no state.
none_moved : (edges : List Edge) (from : List Bool) (c : ℕ) → list_any (λ flag. flag) from ≡ false → list_any (λ flag. flag) (moved edges from c) ≡ false
none_moved edges from c h = ap (λ l. list_any (λ flag. flag) l) (none_moves (replicate (length from) false) from c edges h) ∙ none_replicate (length from)

-- Without a state no text is accepted.
pub none_after : (edges : List Edge) (from : List Bool) (text : List ℕ) → list_any (λ flag. flag) from ≡ false → is_in (states_by edges from text) 0 ≡ false
none_after edges from [] h = none_is_in from 0 h
none_after edges from (c ∷ text) h = none_after edges (moved edges from c) text (none_moved edges from c h)

and_false : (b : Bool) → (b && false) ≡ false
and_false true = refl
and_false false = refl

closed_and : (asked a b x y : Bool) → ((not asked || a) && x) ≡ false → (a ≡ false → b ≡ false) → (x ≡ false → y ≡ false) → ((not asked || b) && y) ≡ false
closed_and true true b x y h first rest = ap (λ v. b && v) (rest h) ∙ and_false b
closed_and true false b x y h first rest = ap (λ v. v && y) (first refl)
closed_and false a b x y h first rest = rest h

unmet_and : (asked a b x y : Bool) → ((not asked || a) && x) ≡ false → (a ≡ false → b ≡ false) → (x ≡ false → y ≡ false) → (is_as asked b && y) ≡ false
unmet_and true true b x y h first rest = ap (λ v. b && v) (rest h) ∙ and_false b
unmet_and true false b x y h first rest = ap (λ v. v && y) (first refl)
unmet_and false a b x y h first rest = ap (λ v. not b && v) (rest h) ∙ and_false (not b)

-- Sets in which an automaton that has to accept has no state stay so.
closed_moved : (conditions : List Condition) (from : List Bool) (c : ℕ) → length from ≡ width conditions → are_open conditions from ≡ false → are_open conditions (joint_moved conditions from c) ≡ false
closed_moved [] from c e h = absurd cc
closed_moved (it ∷ others) from c e h =
    let n = it.automaton.now.states in
    let own = take n from in
    let rest = drop n from in
    let edges = it.automaton.now.edges.items in
    let d = folded_character it.automaton.now.ignore_case c in
    let le : n ≤ length from = omega arith in
    let dropped = length-drop n from in
    let long : length (moved edges own d) ≡ n = length_moved edges own d ∙ length-take-le n from le in
    cut (λ a b. (not it.is_accepted || list_any (λ flag. flag) a) && are_open others b) (moved edges own d) (joint_moved others rest c) n long
    ∙ closed_and it.is_accepted (list_any (λ flag. flag) own) (list_any (λ flag. flag) (moved edges own d)) (are_open others rest) (are_open others (joint_moved others rest c)) h
    (none_moved edges own d) (closed_moved others rest c (omega arith))

closed_unmet : (conditions : List Condition) (from : List Bool) → are_open conditions from ≡ false → are_met conditions from ≡ false
closed_unmet [] from h = absurd cc
closed_unmet (it ∷ others) from h =
    let n = it.automaton.now.states in
    unmet_and it.is_accepted (list_any (λ flag. flag) (take n from)) (is_in (take n from) 0) (are_open others (drop n from)) (are_met others (drop n from)) h
    (none_is_in (take n from) 0) (closed_unmet others (drop n from))

-- From them no text meets the conditions.
pub never_met : (conditions : List Condition) (from : List Bool) (text : List ℕ) → length from ≡ width conditions → are_open conditions from ≡ false → are_met conditions (joint_by conditions from text) ≡ false
never_met conditions from [] e h = closed_unmet conditions from h
never_met conditions from (c ∷ text) e h = never_met conditions (joint_moved conditions from c) text (length_joint_moved conditions from c e) (closed_moved conditions from c e h)
