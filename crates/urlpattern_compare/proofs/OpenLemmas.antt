-- Open candidates, and eight texts that were tried.
use Rattle.std.proofs.Common.{◌≡◌, ℕ, ◌+◌, ◌<◌, List, [], ◌∷◌, ◌++◌, length, refl, sym, subst, ◌∙◌, ◌⊎◌, inl, inr, arith, get_or, Option, None}
use Rattle.std.proofs.lemmas.Bool.{false≢true}
use Rattle.std.proofs.lemmas.List.Elements.{All-append, All-cons, All-contains, All-nil, All-weaker, Contains-append_cases, Contains-append_left, Contains-append_right, Contains-get_or, Contains-push_cases}
use Rattle.std.specs.List.{All, Contains}
use Rattle.std.specs.Option.{IsSome, option_or}
use Rattle.std.specs.Prelude.{IfSome}
use Rattle.std.specs.declared.alloc.Global.{Global}
use Rattle.std.specs.declared.vec.Vec.{Vec}
use Rattle.urlpattern_compare.specs.Candidates.{AlikeBy, AreCandidates, AreLines, HasManySetsAt, HasManyTexts, IsAmong, IsAnswer, IsCandidateOf, IsInside, IsSplit, MeetAlike, MeetsEach, ShareBy, TextAt, all_conditions, text_at}
use Rattle.urlpattern_compare.specs.TextSearch.{AreUnlike}
use Rattle.urlpattern_compare.specs.declared.candidates.Candidate.{Candidate}
use Rattle.urlpattern_compare.specs.declared.candidates.Limits.{Limits}
use Rattle.urlpattern_compare.specs.declared.condition.Condition.{Condition}
use Rattle.urlpattern_components.specs.declared.eight.ComponentName.{ComponentName}
use Rattle.urlpattern_compare.proofs.CandidateLemmas.{all_front, all_last, alike_met, apart_append, apart_weaker, either_some, inside_longer, many_among, some_left, some_right, some_weaker}
use Rattle.urlpattern_compare.proofs.StateSets.{contains_cons}

-- ---- what is open

-- An open candidate: its texts, which have no line feed, meet its conditions, which are on automata
-- of all; what meets these meets the first conditions too.
pub record IsOpen (first all : List Condition) (it : Candidate) : Type 0 where
  pub lines : AreLines (text_at it.texts)
  pub met : MeetsEach it.conditions.items (text_at it.texts)
  pub within : (texts : TextAt) → MeetsEach it.conditions.items texts → MeetsEach first texts
  pub among : All (IsAmong all) it.conditions.items

-- Texts of the one candidate and of the other meet the same conditions of `refused`.
abbrev pub ShareAll : (refused : List (Vec Condition Global)) → (it other : Candidate) → Type 0
ShareAll refused it other =
    (texts others : TextAt) × MeetsEach it.conditions.items texts × MeetsEach other.conditions.items others × MeetAlike refused texts others

-- Texts of the candidate meet the same conditions of `refused` as those that were tried.
abbrev pub IsNear : (refused : List (Vec Condition Global)) → (tried : TextAt) → Candidate → Type 0
IsNear refused tried it = (texts : TextAt) × MeetsEach it.conditions.items texts × MeetAlike refused tried texts

-- The open candidates, and the texts that were tried: all are apart.
pub record AreOpen (first : List Condition) (refused : List (Vec Condition Global)) (candidates : List Candidate) (tried : List TextAt) : Type 0 where
  pub each : All (IsOpen first (all_conditions first refused)) candidates
  pub tried_lines : All AreLines tried
  pub met : All (MeetsEach first) tried
  pub tried_apart : AreUnlike (MeetAlike refused) tried
  pub far : All (λ it. All (λ one. ¬ IsNear refused one it) tried) candidates
  pub apart : AreUnlike (ShareAll refused) candidates

-- Each answer is in an open candidate, unless a search was given up.
pub record IsDividing (first : List Condition) (refused : List (Vec Condition Global)) (limits : Limits) (candidates : List Candidate) (tried : List TextAt) (left : ℕ)
    (doubt : Option ComponentName) : Type 0 where
  pub counted : length tried + left ≡ limits.texts
  pub opened : AreOpen first refused candidates tried
  pub covered : (texts : TextAt) → AreLines texts → IsAnswer first refused texts → IsSome doubt ⊎ IsInside candidates texts
  pub many : IfSome doubt (λ component. HasManySetsAt (all_conditions first refused) component limits.sets)

-- ---- conditions

among_all : (all conditions others : List Condition) → All (IsAmong all) conditions → ((one : Condition) → Contains others one → Contains all one) → (it : Condition) → IsAmong (conditions ++ others) it → IsAmong all it
among_all all conditions others among there it (one, has, component, automaton) = elim (Contains-append_cases conditions others one has) [
  | inl front ↦ let (wide, has_wide, component_wide, automaton_wide) = All-contains (IsAmong all) conditions one among front in (wide, has_wide, component_wide ∙ component, automaton_wide ∙ automaton)
  | inr back ↦ (one, there one back, component, automaton)
]

pub first_among : (first : List Condition) (refused : List (Vec Condition Global)) (one : Condition) → Contains first one → Contains (all_conditions first refused) one
first_among first [] one has = has
first_among first (them ∷ others) one has = Contains-append_left (all_conditions first others) them.items one (first_among first others one has)

refused_among : (first : List Condition) (refused : List (Vec Condition Global)) (them : Vec Condition Global) → Contains refused them → (one : Condition) → Contains them.items one → Contains (all_conditions first refused) one
refused_among first [] them (k, lt, e) one has = absurd (omega arith)
refused_among first (next ∷ others) them there one has = elim (contains_cons next them others there) [
  | inl e ↦ Contains-append_right (all_conditions first others) next.items one (subst (λ (v : Vec Condition Global). Contains v.items one) (sym e) has)
  | inr later ↦ Contains-append_left (all_conditions first others) next.items one (refused_among first others them later one has)
]

alike_back : (refused : List (Vec Condition Global)) (texts others : TextAt) → MeetAlike refused texts others → MeetAlike refused others texts
alike_back refused texts others alike = λ k d lt j e there. sym (alike k d lt j e there)

alike_at : (refused : List (Vec Condition Global)) (them : Vec Condition Global) (texts others : TextAt) → Contains refused them → MeetAlike refused texts others → AlikeBy them.items texts others
alike_at refused them texts others there alike = All-contains (λ (it : Vec Condition Global). AlikeBy it.items texts others) refused them alike there

-- ---- a candidate is tried

apart_pushed : {X : Type 0} (R : X → X → Type 0) (xs : List X) (y : X) → AreUnlike R (xs ++ y ∷ []) → AreUnlike R xs × All (λ x. ¬ R x y) xs
apart_pushed R [] y apart = (tt, All-nil (λ x. ¬ R x y))
apart_pushed R (x ∷ xs) y (first, apart) =
    let rest = apart_pushed R xs y apart in
    ((all_front (λ other. ¬ R x other) xs (y ∷ []) first, rest.0), All-cons (λ it. ¬ R it y) x xs (all_last (λ other. ¬ R x other) xs y first) rest.1)

module _ (first : List Condition) (refused : List (Vec Condition Global)) (rest : List Candidate) (parent : Candidate) (tried : List TextAt)
    (opened : AreOpen first refused (rest ++ parent ∷ []) tried) where
  abbrev all : List Condition
  all = all_conditions first refused

  abbrev texts_now : TextAt
  texts_now = text_at parent.texts

  parent_open : IsOpen first all parent
  parent_open = all_last (IsOpen first all) rest parent opened.each

  parent_far : All (λ one. ¬ IsNear refused one parent) tried
  parent_far = all_last (λ (it : Candidate). All (λ one. ¬ IsNear refused one it) tried) rest parent opened.far

  tried_lines : All AreLines (texts_now ∷ tried)
  tried_lines = All-cons AreLines texts_now tried parent_open.lines opened.tried_lines

  tried_met : All (MeetsEach first) (texts_now ∷ tried)
  tried_met = All-cons (MeetsEach first) texts_now tried (parent_open.within texts_now parent_open.met) opened.met

  tried_apart : AreUnlike (MeetAlike refused) (texts_now ∷ tried)
  tried_apart = (λ k d lt alike. parent_far k d lt (texts_now, parent_open.met, alike_back refused texts_now (get_or tried k d) alike), opened.tried_apart)

  module _ (them : Vec Condition Global) (there : Contains refused them) (taken : MeetsEach them.items texts_now) where
    child_open : (it : Candidate) → IsCandidateOf parent.conditions.items them.items it → IsOpen first all it
    child_open it is = record {
      lines = is.lines;
      met = is.met;
      within = λ texts met. parent_open.within texts (is.within texts met);
      among = All-weaker (IsAmong (parent.conditions.items ++ them.items)) (IsAmong all)
          (among_all all parent.conditions.items them.items parent_open.among (refused_among first refused them there)) it.conditions.items is.among;
    }

    child_far : (it : Candidate) → IsCandidateOf parent.conditions.items them.items it → All (λ one. ¬ IsNear refused one it) (texts_now ∷ tried)
    child_far it is =
        All-cons (λ one. ¬ IsNear refused one it) texts_now tried
        (λ (texts, met, alike). is.failing texts met (alike_met them.items texts texts_now (alike_at refused them texts texts_now there (alike_back refused texts_now texts alike)) taken))
        (λ k d lt (texts, met, alike). parent_far k d lt (texts, is.within texts met, alike))

    rest_far : (k : ℕ) (d : Candidate) → k < length rest → All (λ one. ¬ IsNear refused one (get_or rest k d)) (texts_now ∷ tried)
    rest_far k d lt =
        let it = get_or rest k d in
        let (apart, unshared) = apart_pushed (ShareAll refused) rest parent opened.apart in
        All-cons (λ one. ¬ IsNear refused one it) texts_now tried
        (λ (texts, met, alike). unshared k d lt (texts, texts_now, met, parent_open.met, alike_back refused texts_now texts alike))
        (all_front (λ (one : Candidate). All (λ other. ¬ IsNear refused other one) tried) rest (parent ∷ []) opened.far k d lt)

    opened_more : (more : List Candidate) → All (IsCandidateOf parent.conditions.items them.items) more → AreUnlike (ShareBy them.items) more → AreOpen first refused (rest ++ more) (texts_now ∷ tried)
    opened_more more children apart =
        let (rest_apart, unshared) = apart_pushed (ShareAll refused) rest parent opened.apart in
        record {
          each = All-append (IsOpen first all) rest more (all_front (IsOpen first all) rest (parent ∷ []) opened.each)
              (All-weaker (IsCandidateOf parent.conditions.items them.items) (IsOpen first all) child_open more children);
          tried_lines = tried_lines;
          met = tried_met;
          tried_apart = tried_apart;
          far = All-append (λ (it : Candidate). All (λ one. ¬ IsNear refused one it) (texts_now ∷ tried)) rest more rest_far
              (All-weaker (IsCandidateOf parent.conditions.items them.items) (λ (it : Candidate). All (λ one. ¬ IsNear refused one it) (texts_now ∷ tried)) child_far more children);
          apart = apart_append (ShareAll refused) rest more rest_apart
              (apart_weaker (ShareBy them.items) (ShareAll refused) more
              (λ x y (texts, others, met, met_too, alike). (texts, others, met, met_too, alike_at refused them texts others there alike)) apart)
              (λ k d lt j e within (texts, others, met, met_too, alike). unshared k d lt (texts, others, met, (children j e within).within others met_too, alike));
        }

-- ---- steps

pub dividing_more : (first : List Condition) (refused : List (Vec Condition Global)) (limits : Limits) (rest new : List Candidate) (parent : Candidate) (tried : List TextAt) (left more_left : ℕ)
    (doubt found : Option ComponentName) (them : Vec Condition Global) → IsDividing first refused limits (rest ++ parent ∷ []) tried left doubt → left ≡ more_left + 1 → Contains refused them →
    MeetsEach them.items (text_at parent.texts) → AreCandidates parent.conditions.items them.items rest new → IsSplit parent.conditions.items them.items (IsSome found) new →
    IfSome found (λ component. HasManySetsAt (parent.conditions.items ++ them.items) component limits.sets) →
    IsDividing first refused limits new (text_at parent.texts ∷ tried) more_left (option_or found doubt)
dividing_more first refused limits rest new parent tried left more_left doubt found them is count there taken (more, e, children, apart) split many =
    let all = all_conditions first refused in
    let here = parent_open first refused rest parent tried is.opened in
    record {
      counted = let before = is.counted in omega arith;
      opened = subst (λ l. AreOpen first refused l (text_at parent.texts ∷ tried)) (sym e) (opened_more first refused rest parent tried is.opened them there taken more children apart);
      covered = λ texts lines answer. elim (is.covered texts lines answer) [
        | inl some ↦ inl (some_right found doubt some)
        | inr (it, has, met) ↦ elim (Contains-push_cases rest parent it has) [
          | inl before ↦ inr (subst (λ l. IsInside l texts) (sym e) (inside_longer rest more texts (it, before, met)))
          | inr same ↦ elim (split texts lines (subst (λ (c : Candidate). MeetsEach c.conditions.items texts) (sym same) met)
              (All-contains (λ (one : Vec Condition Global). ¬ MeetsEach one.items texts) refused them answer.unmet there)) [
                | inl some ↦ inl (some_left found doubt some)
                | inr inside ↦ inr inside
              ]
        ]
      ];
      many = either_some (λ (component : ComponentName). HasManySetsAt all component limits.sets) found doubt
          (some_weaker (λ component. HasManySetsAt (parent.conditions.items ++ them.items) component limits.sets) (λ component. HasManySetsAt all component limits.sets) found
          (λ component. many_among (parent.conditions.items ++ them.items) all component limits.sets
          (among_all all parent.conditions.items them.items here.among (refused_among first refused them there))) many)
          is.many;
    }

pub many_tried : (first : List Condition) (refused : List (Vec Condition Global)) (limits : Limits) (rest : List Candidate) (parent : Candidate) (tried : List TextAt) (doubt : Option ComponentName) →
    IsDividing first refused limits (rest ++ parent ∷ []) tried 0 doubt → HasManyTexts first refused limits.texts
many_tried first refused limits rest parent tried doubt is = (
  text_at parent.texts ∷ tried,
  (let before = is.counted in omega arith),
  tried_lines first refused rest parent tried is.opened,
  tried_met first refused rest parent tried is.opened,
  tried_apart first refused rest parent tried is.opened,
)

pub parent_answer : (first : List Condition) (refused : List (Vec Condition Global)) (limits : Limits) (rest : List Candidate) (parent : Candidate) (tried : List TextAt) (left : ℕ)
    (doubt : Option ComponentName) → IsDividing first refused limits (rest ++ parent ∷ []) tried left doubt → All (λ them. ¬ MeetsEach them.items (text_at parent.texts)) refused →
    AreLines (text_at parent.texts) × IsAnswer first refused (text_at parent.texts)
parent_answer first refused limits rest parent tried left doubt is unmet =
    let here = parent_open first refused rest parent tried is.opened in
    (here.lines, record { met = here.within (text_at parent.texts) here.met; unmet = unmet })

pub parent_is : (first : List Condition) (refused : List (Vec Condition Global)) (limits : Limits) (rest : List Candidate) (parent : Candidate) (tried : List TextAt) (left : ℕ)
    (doubt : Option ComponentName) → IsDividing first refused limits (rest ++ parent ∷ []) tried left doubt → IsOpen first (all_conditions first refused) parent
parent_is first refused limits rest parent tried left doubt is = parent_open first refused rest parent tried is.opened

pub none_left : (first : List Condition) (refused : List (Vec Condition Global)) (limits : Limits) (tried : List TextAt) (left : ℕ) → IsDividing first refused limits [] tried left None →
    (texts : TextAt) → AreLines texts → ¬ IsAnswer first refused texts
none_left first refused limits tried left is texts lines answer = elim (is.covered texts lines answer) [
  | inl some ↦ false≢true some
  | inr (it, (k, lt, e), met) ↦ absurd (omega arith)
]

pub first_dividing : (it : Candidate) (refused : List (Vec Condition Global)) (limits : Limits) → AreLines (text_at it.texts) → MeetsEach it.conditions.items (text_at it.texts) →
    IsDividing it.conditions.items refused limits (it ∷ []) [] limits.texts None
first_dividing it refused limits lines met =
    let first = it.conditions.items in
    let all = all_conditions first refused in
    record {
      counted = omega arith;
      opened = record {
        each = All-cons (IsOpen first all) it [] (record {
          lines = lines;
          met = met;
          within = λ texts meets. meets;
          among = λ k d lt. let one = get_or first k d in (one, first_among first refused one (Contains-get_or first k d lt), refl, refl);
        }) (All-nil (IsOpen first all));
        tried_lines = All-nil AreLines;
        met = All-nil (MeetsEach first);
        tried_apart = tt;
        far = All-cons (λ (one : Candidate). All (λ other. ¬ IsNear refused other one) []) it [] (All-nil (λ other. ¬ IsNear refused other it)) (All-nil (λ (one : Candidate). All (λ other. ¬ IsNear refused other one) []));
        apart = (All-nil (λ other. ¬ ShareAll refused it other), tt);
      };
      covered = λ texts plain answer. inr (it, (0, omega arith, refl), answer.met);
      many = tt;
    }
