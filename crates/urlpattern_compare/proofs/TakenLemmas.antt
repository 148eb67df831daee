-- Conditions that are made of patterns, and what a search for them says of the patterns.
use Rattle.std.proofs.Common.{◌≡◌, ℕ, ◌+◌, ◌<◌, Bool, true, List, [], ◌∷◌, ◌++◌, length, refl, sym, subst, ap, ◌∙◌, ◌⊎◌, inl, inr, ◌↔◌, append_assoc, append-nil, arith, get_or, map, Option, Some, take, take_all, ◌≤◌}
use Rattle.std.proofs.lemmas.List.{map-append, take_more}
use Rattle.std.proofs.lemmas.List.Elements.{All-append, All-cons, All-contains, All-head, All-nil, All-push, All-tail, All-weaker, Contains-append_left, Contains-append_right, Contains-push}
use Rattle.std.specs.List.{All, Contains}
use Rattle.std.specs.Prelude.{IsTrue}
use Rattle.std.specs.declared.alloc.Global.{Global}
use Rattle.std.specs.declared.vec.Vec.{Vec}
use Rattle.urlpattern_compare.proofs.CandidateLemmas.{MeetsOne, all_back, all_front, all_last, apart_weaker}
use Rattle.urlpattern_compare.proofs.CommonLemmas.{all_unmap}
use Rattle.urlpattern_compare.proofs.StateSets.{contains_cons, contains_head, contains_tail}
use Rattle.urlpattern_compare.specs.Candidates.{HasManySetsAt, HasManyTexts, IsFoundTexts, MeetAlike, MeetsEach, TextAt, all_conditions, text_at}
use Rattle.urlpattern_compare.specs.CommonTexts.{AcceptsAlike, AreAdded, AreConditionsOf, AreLists, HasAutomata, IsConditionOf, IsFoundTaken, IsSure, LeadsAlike, NeedsManySets, NeedsManyTexts, TakeAlike, TakesAll, TakesEach, TakesNone}
use Rattle.urlpattern_compare.specs.Conditions.{accepts, is_as, is_met, states_after}
use Rattle.urlpattern_compare.specs.TextSearch.{LeadAlike}
use Rattle.urlpattern_compare.specs.declared.candidates.FoundTexts.{FoundTexts}
use Rattle.urlpattern_compare.specs.declared.candidates.FoundTexts.TheVariants as founds
use Rattle.urlpattern_compare.specs.declared.candidates.Limits.{Limits}
use Rattle.urlpattern_compare.specs.declared.common_texts.PatternAutomata.{PatternAutomata}
use Rattle.urlpattern_compare.specs.declared.condition.Condition.{Condition}
use Rattle.urlpattern_compare.specs.declared.parts_automaton.PartsAutomaton.{PartsAutomaton}
use Rattle.urlpattern_components.specs.Eight.{at}
use Rattle.urlpattern_components.specs.declared.eight.ComponentName.{ComponentName}
use Rattle.urlpattern_components.specs.declared.eight.Eight.{Eight}

-- ---- lists

pub contains_map : {X Y : Type 0} (f : X → Y) (xs : List X) (x : X) → Contains xs x → Contains (map f xs) (f x)
contains_map f [] x (k, lt, e) = absurd (omega arith)
contains_map f (y ∷ xs) x has = elim (contains_cons y x xs has) [
  | inl e ↦ subst (λ z. Contains (f y ∷ map f xs) z) (ap f e) (contains_head (f y) (map f xs))
  | inr later ↦ contains_tail (f y) (f x) (map f xs) (contains_map f xs x later)
]

pub map_more : {X Y : Type 0} (f : X → Y) (xs : List X) (i : ℕ) (x : X) → i < length xs → x ≡ get_or xs i x → map f (take (i + 1) xs) ≡ map f (take i xs) ++ f x ∷ []
map_more f xs i x lt there = ap (λ l. map f l) (take_more xs i x lt ∙ ap (λ y. take i xs ++ y ∷ []) (sym there)) ∙ map-append f (take i xs) (x ∷ [])

pub all_map_more : {X Y : Type 0} (P : Y → Type 0) (f : X → Y) (xs : List X) (i : ℕ) (x : X) → i < length xs → x ≡ get_or xs i x → All P (map f (take i xs)) → P (f x) → All P (map f (take (i + 1) xs))
all_map_more P f xs i x lt there all here = subst (All P) (sym (map_more f xs i x lt there)) (All-push P (map f (take i xs)) (f x) all here)

pub map_whole : {X Y : Type 0} (f : X → Y) (xs : List X) (i : ℕ) → length xs ≤ i → map f (take i xs) ≡ map f xs
map_whole f xs i le = ap (λ l. map f l) (take_all i xs le)

-- ---- conditions that are added

pub none_added : (pattern : PatternAutomata) (Is : TextAt → Type 0) (old : List Condition) → ((texts : TextAt) → Is texts) → AreAdded pattern Is old old
none_added pattern Is old always = ([], sym (append-nil old), All-nil (IsConditionOf pattern), λ texts. (λ met. always texts, λ is. All-nil (MeetsOne texts)))

pub one_added : (pattern : PatternAutomata) (Is : TextAt → Type 0) (old : List Condition) (it : Condition) → it.is_accepted ≡ true → IsConditionOf pattern it →
    ((texts : TextAt) → IsTrue (accepts it.automaton.now (texts it.component)) ↔ Is texts) → AreAdded pattern Is old (old ++ it ∷ [])
one_added pattern Is old it accepted on same = (
  it ∷ [],
  refl,
  All-cons (IsConditionOf pattern) it [] on (All-nil (IsConditionOf pattern)),
  λ texts.
      let is : is_met it (texts it.component) ≡ accepts it.automaton.now (texts it.component) = ap (λ b. is_as b (accepts it.automaton.now (texts it.component))) accepted in (
        λ met. (same texts).0 (sym is ∙ All-head (MeetsOne texts) it [] met),
        λ holds. All-cons (MeetsOne texts) it [] (is ∙ (same texts).1 holds) (All-nil (MeetsOne texts)),
      ),
)

pub added_more : (pattern : PatternAutomata) (One Two Is : TextAt → Type 0) (old mid new : List Condition) → AreAdded pattern One old mid → AreAdded pattern Two mid new →
    ((texts : TextAt) → (One texts × Two texts) ↔ Is texts) → AreAdded pattern Is old new
added_more pattern One Two Is old mid new (first, e, on, met) (more, f, on_more, met_more) same = (
  first ++ more,
  f ∙ ap (λ l. l ++ more) e ∙ append_assoc old first more,
  All-append (IsConditionOf pattern) first more on on_more,
  λ texts. (
    λ all. (same texts).0 ((met texts).0 (all_front (MeetsOne texts) first more all), (met_more texts).0 (all_back (MeetsOne texts) first more all)),
    λ is. let both = (same texts).1 is in All-append (MeetsOne texts) first more ((met texts).1 both.0) ((met_more texts).1 both.1),
  ),
)

pub added_same : (pattern : PatternAutomata) (One Is : TextAt → Type 0) (old new : List Condition) → AreAdded pattern One old new → ((texts : TextAt) → One texts ↔ Is texts) → AreAdded pattern Is old new
added_same pattern One Is old new (more, e, on, met) same = (more, e, on, λ texts. (λ all. (same texts).0 ((met texts).0 all), λ is. (met texts).1 ((same texts).1 is)))

pub all_more_back : {X : Type 0} (P : X → Type 0) (xs : List X) (i : ℕ) (d : X) → i < length xs → All P (take (i + 1) xs) → All P (take i xs) × P (get_or xs i d)
all_more_back P xs i d lt all =
    let here = subst (All P) (take_more xs i d lt) all in
    (all_front P (take i xs) (get_or xs i d ∷ []) here, all_last P (take i xs) (get_or xs i d) here)

-- ---- patterns in turn

-- The condition is on the automaton of a pattern.
abbrev pub IsOfSome : List PatternAutomata → Condition → Type 0
IsOfSome patterns it = (pattern : PatternAutomata) × Contains patterns pattern × IsConditionOf pattern it

takes_alone : (nobody : List PatternAutomata) (pattern : PatternAutomata) (texts : TextAt) → nobody ≡ [] → TakesEach nobody pattern texts ↔ TakesAll pattern texts
takes_alone nobody pattern texts e = (
  λ each name. elim (each name) [
    | inl (one, has, same) ↦ let (k, lt, at_k) = subst (λ l. Contains l one) e has in absurd (omega arith)
    | inr takes ↦ takes
  ],
  λ all name. inr (all name),
)

pub sure_alone : (nobody : List PatternAutomata) (pattern : PatternAutomata) → nobody ≡ [] → IsSure nobody pattern → HasAutomata pattern
sure_alone nobody pattern e sure name = elim (sure name) [
  | inl (one, has, same) ↦ let (k, lt, at_k) = subst (λ l. Contains l one) e has in absurd (omega arith)
  | inr some ↦ some
]

pub on_more : (patterns nobody : List PatternAutomata) (pattern : PatternAutomata) (old new : List Condition) → Contains patterns pattern → All (IsOfSome patterns) old →
    AreAdded pattern (TakesEach nobody pattern) old new → All (IsOfSome patterns) new
on_more patterns nobody pattern old new there on (more, e, on_pattern, met) =
    subst (All (IsOfSome patterns)) (sym e) (All-append (IsOfSome patterns) old more on (All-weaker (IsConditionOf pattern) (IsOfSome patterns) (λ it one. (pattern, there, one)) more on_pattern))

pub meant_more : (front nobody : List PatternAutomata) (pattern : PatternAutomata) (texts : TextAt) (old new : List Condition) → nobody ≡ [] → MeetsEach old texts ↔ All (λ it. TakesAll it texts) front →
    AreAdded pattern (TakesEach nobody pattern) old new → MeetsEach new texts ↔ All (λ it. TakesAll it texts) (front ++ pattern ∷ [])
meant_more front nobody pattern texts old new none before (more, e, on_pattern, met) =
    let P : PatternAutomata → Type 0 = λ it. TakesAll it texts in
    let alone = takes_alone nobody pattern texts none in (
      λ all.
          let both = subst (λ l. MeetsEach l texts) e all in
          All-push P front pattern (before.0 (all_front (MeetsOne texts) old more both)) (alone.0 ((met texts).0 (all_back (MeetsOne texts) old more both))),
      λ taken.
          subst (λ l. MeetsEach l texts) (sym e)
          (All-append (MeetsOne texts) old more (before.1 (all_front P front (pattern ∷ []) taken)) ((met texts).1 (alone.1 (all_last P front pattern taken)))),
    )

pub conditions_of : (all_of : List PatternAutomata) (pattern : PatternAutomata) (old new : List Condition) → old ≡ [] → AreAdded pattern (TakesEach all_of pattern) old new → AreConditionsOf all_of pattern new
conditions_of all_of pattern old new none (more, e, on, met) =
    let same : new ≡ more = e ∙ ap (λ l. l ++ more) none in
    record {
      on = subst (All (IsConditionOf pattern)) (sym same) on;
      meant = λ texts. (λ all. (met texts).0 (subst (λ l. MeetsEach l texts) same all), λ takes. subst (λ l. MeetsEach l texts) (sym same) ((met texts).1 takes));
    }

-- What is said of a list of the patterns that count, and of a pattern that has one.
abbrev pub IsListed : (all_of none_of : List PatternAutomata) → (is_sure : Bool) → Vec Condition Global → Type 0
IsListed all_of none_of is_sure list =
    (pattern : PatternAutomata) × Contains none_of pattern × AreConditionsOf all_of pattern list.items × (IsTrue is_sure → IsSure all_of pattern)

abbrev pub HasList : (all_of : List PatternAutomata) → (is_sure : Bool) → List (Vec Condition Global) → PatternAutomata → Type 0
HasList all_of is_sure lists pattern =
    (IsTrue is_sure → IsSure all_of pattern) → TakesNone all_of pattern ⊎ ((list : Vec Condition Global) × Contains lists list × AreConditionsOf all_of pattern list.items)

listed_longer : (all_of front back : List PatternAutomata) (is_sure : Bool) (list : Vec Condition Global) → IsListed all_of front is_sure list → IsListed all_of (front ++ back) is_sure list
listed_longer all_of front back is_sure list (pattern, has, are, sure) = (pattern, Contains-append_left front back pattern has, are, sure)

list_longer : (all_of : List PatternAutomata) (is_sure : Bool) (lists more : List (Vec Condition Global)) (pattern : PatternAutomata) → HasList all_of is_sure lists pattern → HasList all_of is_sure (lists ++ more) pattern
list_longer all_of is_sure lists more pattern has sure = elim (has sure) [
  | inl none ↦ inl none
  | inr (list, there, are) ↦ inr (list, Contains-append_left lists more list there, are)
]

pub lists_skipped : (all_of front : List PatternAutomata) (is_sure : Bool) (pattern : PatternAutomata) (lists : List (Vec Condition Global)) → ((IsTrue is_sure → IsSure all_of pattern) → TakesNone all_of pattern) →
    AreLists all_of front is_sure lists → AreLists all_of (front ++ pattern ∷ []) is_sure lists
lists_skipped all_of front is_sure pattern lists none are = record {
  of_patterns = All-weaker (IsListed all_of front is_sure) (IsListed all_of (front ++ pattern ∷ []) is_sure) (listed_longer all_of front (pattern ∷ []) is_sure) lists are.of_patterns;
  of_lists = All-push (HasList all_of is_sure lists) front pattern are.of_lists (λ sure. inl (none sure));
}

pub lists_more : (all_of front : List PatternAutomata) (is_sure : Bool) (pattern : PatternAutomata) (lists : List (Vec Condition Global)) (list : Vec Condition Global) → (IsTrue is_sure → IsSure all_of pattern) →
    AreConditionsOf all_of pattern list.items → AreLists all_of front is_sure lists → AreLists all_of (front ++ pattern ∷ []) is_sure (lists ++ list ∷ [])
lists_more all_of front is_sure pattern lists list counted conditions are = record {
  of_patterns = All-push (IsListed all_of (front ++ pattern ∷ []) is_sure) lists list
      (All-weaker (IsListed all_of front is_sure) (IsListed all_of (front ++ pattern ∷ []) is_sure) (listed_longer all_of front (pattern ∷ []) is_sure) lists are.of_patterns)
      (pattern, Contains-push front pattern, conditions, counted);
  of_lists = All-push (HasList all_of is_sure (lists ++ list ∷ [])) front pattern
      (All-weaker (HasList all_of is_sure lists) (HasList all_of is_sure (lists ++ list ∷ [])) (list_longer all_of is_sure lists (list ∷ [])) front are.of_lists)
      (λ sure. inr (list, Contains-push lists list, conditions));
}

-- ---- bounds

abbrev pub automata_of : List PatternAutomata → List (Eight (Option PartsAutomaton))
automata_of patterns = map (λ it. it.automata) patterns

lead_at : (text other : List ℕ) (found : Option PartsAutomaton) (automaton : PartsAutomaton) → found ≡ Some automaton → LeadsAlike text other found → states_after automaton text ≡ states_after automaton other
lead_at text other found automaton e alike = subst (LeadsAlike text other) e alike

accept_at : (text other : List ℕ) (found : Option PartsAutomaton) (automaton : PartsAutomaton) → found ≡ Some automaton → AcceptsAlike text other found → accepts automaton text ≡ accepts automaton other
accept_at text other found automaton e alike = subst (AcceptsAlike text other) e alike

some_longer : (front back : List PatternAutomata) (it : Condition) → IsOfSome front it → IsOfSome (front ++ back) it
some_longer front back it (pattern, has, on) = (pattern, Contains-append_left front back pattern has, on)

some_back : (front back : List PatternAutomata) (it : Condition) → IsOfSome back it → IsOfSome (front ++ back) it
some_back front back it (pattern, has, on) = (pattern, Contains-append_right front back pattern has, on)

all_of_some : (all_of none_of : List PatternAutomata) (is_sure : Bool) (first : List Condition) (lists : List (Vec Condition Global)) → All (IsOfSome all_of) first →
    All (λ list. (pattern : PatternAutomata) × Contains none_of pattern × AreConditionsOf all_of pattern list.items × (IsTrue is_sure → IsSure all_of pattern)) lists →
    All (IsOfSome (all_of ++ none_of)) (all_conditions first lists)
all_of_some all_of none_of is_sure first [] on listed = All-weaker (IsOfSome all_of) (IsOfSome (all_of ++ none_of)) (some_longer all_of none_of) first on
all_of_some all_of none_of is_sure first (list ∷ lists) on listed =
    let P : Vec Condition Global → Type 0 = λ them. (pattern : PatternAutomata) × Contains none_of pattern × AreConditionsOf all_of pattern them.items × (IsTrue is_sure → IsSure all_of pattern) in
    let (pattern, has, are, sure) = All-head P list lists listed in
    All-append (IsOfSome (all_of ++ none_of)) (all_conditions first lists) list.items
    (all_of_some all_of none_of is_sure first lists on (All-tail P list lists listed))
    (All-weaker (IsConditionOf pattern) (IsOfSome (all_of ++ none_of)) (λ it one. some_back all_of none_of it (pattern, has, one)) list.items are.on)

-- Texts that lead all automata of a component alike lead those of conditions on it alike.
pub sets_needed : (patterns : List PatternAutomata) (all : List Condition) (name : ComponentName) (most : ℕ) → All (IsOfSome patterns) all → HasManySetsAt all name most → NeedsManySets (automata_of patterns) name most
sets_needed patterns all name most of_some (own, within, (texts, many, lines, apart)) = (
  texts,
  many,
  lines,
  apart_weaker (LeadAlike own) (λ text other. All (λ automata. LeadsAlike text other (at automata name)) (automata_of patterns)) texts
      (λ text other alike k d lt.
      let it = get_or own k d in
      let (here, (one, has, component, automaton)) = within k d lt in
      let (pattern, there, on) = All-contains (IsOfSome patterns) all one of_some has in
      let each = all_unmap (λ automata. LeadsAlike text other (at automata name)) (λ (p : PatternAutomata). p.automata) patterns alike in
      let mine = All-contains (λ (p : PatternAutomata). LeadsAlike text other (at p.automata name)) patterns pattern each there in
      lead_at text other (at pattern.automata name) it.automaton.now (ap (λ n. at pattern.automata n) (sym here ∙ sym component) ∙ on ∙ ap Some automaton) mine)
      apart,
)

pub texts_needed : (all_of none_of : List PatternAutomata) (is_sure : Bool) (first : List Condition) (lists : List (Vec Condition Global)) (most : ℕ) →
    ((texts : TextAt) → MeetsEach first texts ↔ All (λ pattern. TakesAll pattern texts) all_of) → AreLists all_of none_of is_sure lists → HasManyTexts first lists most → NeedsManyTexts all_of none_of most
texts_needed all_of none_of is_sure first lists most meant are (found, many, lines, met, apart) = (
  found,
  many,
  lines,
  All-weaker (MeetsEach first) (λ texts. All (λ pattern. TakesAll pattern texts) all_of) (λ texts. (meant texts).0) found met,
  apart_weaker (MeetAlike lists) (TakeAlike (automata_of none_of)) found
      (λ texts others alike k d lt j e there.
      let it = get_or (get_or lists k d).items j e in
      let (pattern, has, conditions, sure) = are.of_patterns k d lt in
      let each = all_unmap (λ automata. (name : ComponentName) → AcceptsAlike (texts name) (others name) (at automata name)) (λ (p : PatternAutomata). p.automata) none_of alike in
      let mine = All-contains (λ (p : PatternAutomata). (name : ComponentName) → AcceptsAlike (texts name) (others name) (at p.automata name)) none_of pattern each has in
      ap (λ b. is_as it.is_accepted b)
      (accept_at (texts it.component) (others it.component) (at pattern.automata it.component) it.automaton.now (conditions.on j e there) (mine it.component)))
      apart,
)

-- ---- results

pub found_taken : (all_of none_of : List PatternAutomata) (is_sure : Bool) (limits : Limits) (first : List Condition) (lists : List (Vec Condition Global)) (found : FoundTexts) →
    All (IsOfSome all_of) first → ((texts : TextAt) → MeetsEach first texts ↔ All (λ pattern. TakesAll pattern texts) all_of) → AreLists all_of none_of is_sure lists →
    IsFoundTexts first lists limits found → IsFoundTaken all_of none_of is_sure limits found
found_taken all_of none_of is_sure limits first lists (founds.Texts texts) on meant are (lines, answer) = (
  lines,
  record {
    taken = (meant (text_at texts)).0 answer.met;
    refused = λ k d lt sure takes. elim (are.of_lists k d lt sure) [
      | inl none ↦ none (text_at texts) lines ((meant (text_at texts)).0 answer.met) takes
      | inr (list, has, conditions) ↦
          All-contains (λ (it : Vec Condition Global). ¬ MeetsEach it.items (text_at texts)) lists list answer.unmet has ((conditions.meant (text_at texts)).1 takes)
    ];
  },
)
found_taken all_of none_of is_sure limits first lists founds.Nothing on meant are nothing = λ texts lines taken.
    nothing texts lines (record {
      met = (meant texts).1 taken.taken;
      unmet = λ k d lt met.
          let (pattern, has, conditions, sure) = are.of_patterns k d lt in
          All-contains (λ (it : PatternAutomata). (IsTrue is_sure → IsSure all_of it) → ¬ TakesEach all_of it texts) none_of pattern taken.refused has sure ((conditions.meant texts).0 met);
    })
found_taken all_of none_of is_sure limits first lists (founds.TooManySets name) on meant are many =
    sets_needed (all_of ++ none_of) (all_conditions first lists) name limits.sets (all_of_some all_of none_of is_sure first lists on are.of_patterns) many
found_taken all_of none_of is_sure limits first lists founds.TooManyTexts on meant are many = texts_needed all_of none_of is_sure first lists limits.texts meant are many
