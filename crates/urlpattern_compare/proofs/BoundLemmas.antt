-- A question about common texts needs at most as many sets of states, and as many texts, as there
-- are lists of flags.
use Rattle.std.proofs.Common.{◌≡◌, ◌∙◌, ◌<◌, ◌≤◌, ◌+◌, ◌^◌, ℕ, zero, suc, Bool, true, List, [], ◌∷◌, ◌++◌, Option, Some, None, ap, arith, get_or, inl, inr, length, length-append, map, refl, subst, sym, take, take_at, drop, drop_at}
use Rattle.std.proofs.lemmas.List.{length-map}
use Rattle.std.proofs.lemmas.List.Elements.{All-cons, All-contains, All-head, All-nil, All-tail}
use Rattle.std.proofs.lemmas.List.Sums.{sum_by-cons}
use Rattle.std.proofs.Math.Nat.{pow-le-pow_right}
use Rattle.std.specs.List.{All, sum_by}
use Rattle.urlpattern_compare.proofs.CommonLemmas.{accepts_means}
use Rattle.urlpattern_compare.proofs.ConditionLemmas.{length_after}
use Rattle.urlpattern_compare.proofs.DependsLemmas.{slice_contains}
use Rattle.urlpattern_compare.proofs.Numbers.{at_most, code, code_below, code_one, doubled, doubled_is}
use Rattle.urlpattern_compare.proofs.TakenLemmas.{automata_of}
use Rattle.urlpattern_compare.proofs.WorkLemmas.{parts_states}
use Rattle.urlpattern_compare.specs.Candidates.{AreLines, TextAt}
use Rattle.urlpattern_compare.specs.CommonLaws.{AreCounted, FewNeedFewTexts, IsSmall, MatchesAnything, SmallHaveAutomata, SmallNeedFewSets, joint_size}
use Rattle.urlpattern_compare.specs.CommonTexts.{AcceptsAlike, AreAutomata, IsAutomatonOrLacks, LacksBy, LeadsAlike, TakeAlike}
use Rattle.urlpattern_compare.specs.Conditions.{accepts, states_after}
use Rattle.urlpattern_compare.specs.TextSearch.{AreUnlike, IsLine}
use Rattle.urlpattern_compare.specs.WorkBounds.{component_size}
use Rattle.urlpattern_compare.specs.declared.common_texts.PatternAutomata.{PatternAutomata}
use Rattle.urlpattern_compare.specs.declared.parts_automaton.PartsAutomaton.{PartsAutomaton}
use Rattle.urlpattern_components.specs.Eight.{at}
use Rattle.urlpattern_components.specs.declared.eight.ComponentName.{ComponentName}
use Rattle.urlpattern_meaning.specs.PartMeaning.{AreGenerated}
use Rattle.urlpattern_syntax.specs.Options.{options_view}
use Rattle.urlpattern_syntax.specs.Parts.{parts_view}
use Rattle.urlpattern_syntax.specs.declared.parts.ComponentParts.{ComponentParts}
use native.Mathlib.Nat as nat

-- ---- lists of flags

apart_at : {X : Type 0} (R : X → X → Type 0) (xs : List X) (d : X) → AreUnlike R xs → (i j : ℕ) → i < j → j < length xs → ¬ R (get_or xs i d) (get_or xs j d)
apart_at R [] d apart i j lt within = absurd (omega arith)
apart_at R (x ∷ xs) d apart i zero lt within = absurd (omega arith)
apart_at R (x ∷ xs) d apart zero (suc j) lt within = apart.0 j d (omega arith)
apart_at R (x ∷ xs) d apart (suc i) (suc j) lt within = apart_at R xs d apart.1 i j (omega arith) (omega arith)

-- At most 2 to the power of `m` values have different lists of `m` flags.
pub few_values : {X : Type 0} (R : X → X → Type 0) (f : X → List Bool) (m : ℕ) (xs : List X) → ((x y : X) → f x ≡ f y → R x y) → ((x : X) → length (f x) ≡ m) → AreUnlike R xs → length xs ≤ 2 ^ m
few_values R f m [] alike long apart = omega arith
few_values R f m (first ∷ xs) alike long apart =
    let every = first ∷ xs in
    let number : ℕ → ℕ = λ i. code 0 (f (get_or every i first)) in
    let few = at_most (length every) (doubled 1 m) number
    (λ i lt. subst (λ k. number i < doubled 1 k) (long (get_or every i first)) (code_below 1 0 (f (get_or every i first)) (omega arith)))
    (λ i j p q same.
    let one = code_one 0 0 (f (get_or every i first)) (f (get_or every j first)) (long (get_or every i first) ∙ sym (long (get_or every j first))) same in
    let before : ¬ (i < j) = λ lt. apart_at R every first apart i j lt q (alike (get_or every i first) (get_or every j first) one.1) in
    let after : ¬ (j < i) = λ lt. apart_at R every first apart j i lt p (alike (get_or every j first) (get_or every i first) (sym one.1)) in
    omega (arith, before, after)) in
    let bound : doubled 1 m ≡ 2 ^ m = doubled_is 1 m ∙ nat.one-mul (2 ^ m) in
    omega arith

-- Lists that begin with lists of one length are equal in both pieces.
pub pieces : (n : ℕ) (own other rest others : List Bool) → length own ≡ n → length other ≡ n → own ++ rest ≡ other ++ others → (own ≡ other) × (rest ≡ others)
pieces n own other rest others long other_long e = (
  sym (take_at own rest n long) ∙ ap (λ l. take n l) e ∙ take_at other others n other_long,
  sym (drop_at own rest n long) ∙ ap (λ l. drop n l) e ∙ drop_at other others n other_long,
)

-- ---- sets of states

abbrev own_states : Option PartsAutomaton → (text : List ℕ) → List Bool
own_states None text = []
own_states (Some automaton) text = states_after automaton text

abbrev own_width : Option PartsAutomaton → ℕ
own_width None = 0
own_width (Some automaton) = automaton.states

own_long : (found : Option PartsAutomaton) (text : List ℕ) → length (own_states found text) ≡ own_width found
own_long None text = refl
own_long (Some automaton) text = length_after automaton text

own_alike : (found : Option PartsAutomaton) (text other : List ℕ) → own_states found text ≡ own_states found other → LeadsAlike text other found
own_alike None text other e = tt
own_alike (Some automaton) text other e = e

own_within : (component : ComponentParts) (found : Option PartsAutomaton) → AreGenerated (parts_view component.parts.items) → IsAutomatonOrLacks component found → own_width found ≤ component_size component
own_within component None generated made = omega arith
own_within component (Some automaton) generated made = let size = made.size generated in omega arith

abbrev sets : List PatternAutomata → ComponentName → (text : List ℕ) → List Bool
sets [] name text = []
sets (it ∷ others) name text = own_states (at it.automata name) text ++ sets others name text

abbrev width : List PatternAutomata → ComponentName → ℕ
width [] name = 0
width (it ∷ others) name = own_width (at it.automata name) + width others name

sets_long : (patterns : List PatternAutomata) (name : ComponentName) (text : List ℕ) → length (sets patterns name text) ≡ width patterns name
sets_long [] name text = refl
sets_long (it ∷ others) name text =
    let own = own_long (at it.automata name) text in
    let rest = sets_long others name text in
    let all = length-append (own_states (at it.automata name) text) (sets others name text) in
    omega arith

sets_alike : (patterns : List PatternAutomata) (name : ComponentName) (text other : List ℕ) → sets patterns name text ≡ sets patterns name other → All (λ automata. LeadsAlike text other (at automata name)) (automata_of patterns)
sets_alike [] name text other e = All-nil (λ automata. LeadsAlike text other (at automata name))
sets_alike (it ∷ others) name text other e =
    let found = at it.automata name in
    let two = pieces (own_width found) (own_states found text) (own_states found other) (sets others name text) (sets others name other) (own_long found text) (own_long found other) e in
    All-cons (λ automata. LeadsAlike text other (at automata name)) it.automata (automata_of others) (own_alike found text other two.0) (sets_alike others name text other two.1)

width_within : (patterns : List PatternAutomata) (name : ComponentName) → All AreAutomata patterns → All (λ (it : PatternAutomata). AreGenerated (parts_view (at it.parts.components name).parts.items)) patterns → width patterns name ≤ joint_size patterns name
width_within [] name made generated = omega arith
width_within (it ∷ others) name made generated =
    let Is : PatternAutomata → Type 0 = λ it. AreGenerated (parts_view (at it.parts.components name).parts.items) in
    let own = own_within (at it.parts.components name) (at it.automata name) (All-head Is it others generated) (All-head AreAutomata it others made name) in
    let rest = width_within others name (All-tail AreAutomata it others made) (All-tail Is it others generated) in
    let sum : joint_size (it ∷ others) name ≡ component_size (at it.parts.components name) + joint_size others name = sum_by-cons (λ (p : PatternAutomata). component_size (at p.parts.components name)) it others in
    omega arith

pub few_sets : SmallNeedFewSets
few_sets all_of none_of limits name made generated small (texts, many, lines, apart) =
    let patterns = all_of ++ none_of in
    let few = few_values (λ text other. All (λ automata. LeadsAlike text other (at automata name)) (automata_of patterns)) (sets patterns name) (width patterns name) texts
    (sets_alike patterns name) (sets_long patterns name) apart in
    let power : 2 ^ width patterns name ≤ 2 ^ joint_size patterns name = pow-le-pow_right (omega arith) (width_within patterns name made generated) in
    omega arith

-- ---- texts

abbrev taken : Option PartsAutomaton → (text : List ℕ) → Bool
taken None text = true
taken (Some automaton) text = accepts automaton text

taken_alike : (found : Option PartsAutomaton) (text other : List ℕ) → taken found text ≡ taken found other → AcceptsAlike text other found
taken_alike None text other e = tt
taken_alike (Some automaton) text other e = e

abbrev first_flag : List Bool → Bool
first_flag [] = true
first_flag (flag ∷ flags) = flag

abbrev rest_flags : List Bool → List Bool
rest_flags [] = []
rest_flags (flag ∷ flags) = flags

same_flags : {X : Type 0} (f g : X → Bool) (xs : List X) → map f xs ≡ map g xs → All (λ x. f x ≡ g x) xs
same_flags f g [] e = All-nil (λ x. f x ≡ g x)
same_flags f g (x ∷ xs) e = All-cons (λ it. f it ≡ g it) x xs (ap first_flag e) (same_flags f g xs (ap rest_flags e))

-- A component that matches anything accepts both texts.
anything_alike : (component : ComponentParts) (found : Option PartsAutomaton) (text other : List ℕ) → IsAutomatonOrLacks component found → MatchesAnything component →
    IsLine text → IsLine other → AcceptsAlike text other found
anything_alike component None text other made anything line other_line = tt
anything_alike component (Some automaton) text other made anything line other_line =
    (accepts_means component automaton text line.scalars made).1 (anything made.known text line) ∙ sym ((accepts_means component automaton other other_line.scalars made).1 (anything made.known other other_line))

-- No two values of those of which `P` holds are alike.
apart_among : {X : Type 0} (P : X → Type 0) (R : X → X → Type 0) (xs : List X) → All P xs → AreUnlike R xs → AreUnlike (λ x y. P x → P y → R x y) xs
apart_among P R [] all apart = tt
apart_among P R (x ∷ xs) all (first, apart) =
    let rest = All-tail P x xs all in
    (λ k d lt near. first k d lt (near (All-head P x xs all) (rest k d lt)), apart_among P R xs rest apart)

module _ (counted : PatternAutomata → List ComponentName) where
  abbrev own_flags : PatternAutomata → TextAt → List Bool
  own_flags it texts = map (λ name. taken (at it.automata name) (texts name)) (counted it)

  abbrev flags : List PatternAutomata → TextAt → List Bool
  flags [] texts = []
  flags (it ∷ others) texts = own_flags it texts ++ flags others texts

  own_flags_long : (it : PatternAutomata) (texts : TextAt) → length (own_flags it texts) ≡ length (counted it)
  own_flags_long it texts = length-map (counted it) (λ name. taken (at it.automata name) (texts name))

  flags_long : (patterns : List PatternAutomata) (texts : TextAt) → length (flags patterns texts) ≡ sum_by (λ it. length (counted it)) patterns
  flags_long [] texts = refl
  flags_long (it ∷ others) texts =
      let own = own_flags_long it texts in
      let rest = flags_long others texts in
      let all = length-append (own_flags it texts) (flags others texts) in
      let sum = sum_by-cons (λ (p : PatternAutomata). length (counted p)) it others in
      omega arith

  own_taken_alike : (it : PatternAutomata) (texts others : TextAt) → AreAutomata it → AreCounted (counted it) it → AreLines texts → AreLines others → own_flags it texts ≡ own_flags it others →
      (name : ComponentName) → AcceptsAlike (texts name) (others name) (at it.automata name)
  own_taken_alike it texts others made are lines other_lines e name =
      let found = at it.automata name in
      elim (are name) [
        | inl has ↦ taken_alike found (texts name) (others name)
            (All-contains (λ n. taken (at it.automata n) (texts n) ≡ taken (at it.automata n) (others n)) (counted it) name
            (same_flags (λ n. taken (at it.automata n) (texts n)) (λ n. taken (at it.automata n) (others n)) (counted it) e) has)
        | inr anything ↦ anything_alike (at it.parts.components name) found (texts name) (others name) (made name) anything (lines name) (other_lines name)
      ]

  flags_alike : (patterns : List PatternAutomata) (texts others : TextAt) → All AreAutomata patterns → All (λ it. AreCounted (counted it) it) patterns → AreLines texts → AreLines others →
      flags patterns texts ≡ flags patterns others → TakeAlike (automata_of patterns) texts others
  flags_alike [] texts others made are lines other_lines e = All-nil (λ automata. (name : ComponentName) → AcceptsAlike (texts name) (others name) (at automata name))
  flags_alike (it ∷ patterns) texts others made are lines other_lines e =
      let two = pieces (length (counted it)) (own_flags it texts) (own_flags it others) (flags patterns texts) (flags patterns others) (own_flags_long it texts) (own_flags_long it others) e in
      All-cons (λ automata. (name : ComponentName) → AcceptsAlike (texts name) (others name) (at automata name)) it.automata (automata_of patterns)
      (own_taken_alike it texts others (All-head AreAutomata it patterns made) (All-head (λ p. AreCounted (counted p) p) it patterns are) lines other_lines two.0)
      (flags_alike patterns texts others (All-tail AreAutomata it patterns made) (All-tail (λ p. AreCounted (counted p) p) it patterns are) lines other_lines two.1)

pub few_texts : FewNeedFewTexts
few_texts all_of none_of limits counted made are few (found, many, lines, taken, apart) =
    let most = few_values (λ texts others. AreLines texts → AreLines others → TakeAlike (automata_of none_of) texts others) (flags counted none_of) (sum_by (λ it. length (counted it)) none_of) found
    (λ texts others e line other_line. flags_alike counted none_of texts others made are line other_line e) (flags_long counted none_of) (apart_among AreLines (TakeAlike (automata_of none_of)) found lines apart) in
    omega arith

-- ---- states

pub small_automata : SmallHaveAutomata
small_automata patterns lack small (pattern, there, (none, lacks)) many =
    let component = at pattern.parts.components lack.component in
    let has = slice_contains patterns lack.pattern pattern there in
    let is = All-contains (λ (it : PatternAutomata). IsSmall (at it.parts.components lack.component)) patterns pattern small has in
    let size = is.small in
    let states = parts_states (options_view component.options) (parts_view component.parts.items) in
    elim (subst (λ reason. LacksBy component reason) many lacks).1 [
      | inl custom ↦ absurd (custom is.generated)
      | inr above ↦ absurd (omega arith)
    ]
