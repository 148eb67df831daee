-- Conditions on eight texts, and what candidates divide.
use Rattle.std.proofs.Common.{◌≡◌, ℕ, ◌+◌, Bool, true, false, List, [], ◌∷◌, ◌++◌, refl, sym, subst, ap, ◌∙◌, ◌⊎◌, inl, inr, ◌↔◌, append_assoc, eqb-true, get_or, drop, if◌then◌else◌, take, Option, Some, None}
use Rattle.std.proofs.lemmas.Bool.{eqb-false, false≢true}
use Rattle.std.proofs.lemmas.List.{take-append-drop}
use Rattle.std.proofs.lemmas.List.Elements.{All-append, All-cons, All-contains, All-head, All-nil, All-push, All-tail, All-weaker, Contains-append_left, Contains-append_right, Contains-get_or, Contains-push, Contains-push_cases}
use Rattle.std.specs.List.{All, Contains}
use Rattle.std.specs.Option.{IsSome, option_or}
use Rattle.std.specs.Prelude.{◌==◌, IfErr, IfOk, IfSome, IsTrue, Result, Ok, Err, not}
use Rattle.std.specs.declared.alloc.Global.{Global}
use Rattle.std.specs.declared.vec.Vec.{Vec}
use Rattle.urlpattern_compare.specs.Candidates.{AlikeBy, AreCandidates, AreFirstTexts, AreLines, HasManySetsAt, IsAmong, IsCandidateOf, IsFirstText, IsFoundAt, IsInside, IsSplit, IsWithText, MeetsAt, MeetsEach, ShareBy, TextAt, negated, text_at}
use Rattle.urlpattern_compare.specs.Conditions.{Meets, accepts, is_as, is_met}
use Rattle.urlpattern_compare.specs.TextSearch.{AreUnlike, IsFoundText, IsLine}
use Rattle.urlpattern_compare.specs.declared.candidates.Candidate.{Candidate}
use Rattle.urlpattern_compare.specs.declared.candidates.NoTexts.{NoTexts}
use Rattle.urlpattern_compare.specs.declared.candidates.NoTexts.TheVariants as lacking
use Rattle.urlpattern_compare.specs.declared.condition.Condition.{Condition}
use Rattle.urlpattern_compare.specs.declared.search.Found.{Found}
use Rattle.urlpattern_compare.specs.declared.search.Found.TheVariants.{Text, Nothing, TooMany}
use Rattle.urlpattern_components.proofs.EightLemmas.{by_name}
use Rattle.urlpattern_components.specs.Eight.{at}
use Rattle.urlpattern_components.specs.declared.eight.ComponentName.{ComponentName}
use Rattle.urlpattern_components.specs.declared.eight.Eight.{Eight}
use Rattle.urlpattern_components.specs.declared.eight.ComponentName.TheVariants.{Protocol, Username, Password, Hostname, Port, Pathname, Search, Hash}

-- ---- elements

pub all_front : {X : Type 0} (P : X → Type 0) (xs ys : List X) → All P (xs ++ ys) → All P xs
all_front P xs ys all = λ k d lt. All-contains P (xs ++ ys) (get_or xs k d) all (Contains-append_left xs ys (get_or xs k d) (Contains-get_or xs k d lt))

pub all_back : {X : Type 0} (P : X → Type 0) (xs ys : List X) → All P (xs ++ ys) → All P ys
all_back P xs ys all = λ k d lt. All-contains P (xs ++ ys) (get_or ys k d) all (Contains-append_right xs ys (get_or ys k d) (Contains-get_or ys k d lt))

pub all_last : {X : Type 0} (P : X → Type 0) (xs : List X) (y : X) → All P (xs ++ y ∷ []) → P y
all_last P xs y all = All-contains P (xs ++ y ∷ []) y all (Contains-push xs y)

-- ---- components

abbrev number : ComponentName → ℕ
number Protocol = 0
number Username = 1
number Password = 2
number Hostname = 3
number Port = 4
number Pathname = 5
number Search = 6
number Hash = 7

abbrev numbered : ℕ → ComponentName
numbered n =
    if n == 0 then Protocol else (if n == 1 then Username else (if n == 2 then Password else (if n == 3 then Hostname else (if n == 4 then Port else (if n == 5 then Pathname else (if n == 6 then Search else Hash))))))

numbered_is : (name : ComponentName) → numbered (number name) ≡ name
numbered_is = by_name (λ name. numbered (number name) ≡ name) refl refl refl refl refl refl refl refl

name_by : (a b : ComponentName) (same : Bool) → (number a == number b) ≡ same → (a ≡ b) ⊎ (¬ (a ≡ b))
name_by a b true e = inl (sym (numbered_is a) ∙ ap numbered (eqb-true (number a) (number b) e) ∙ numbered_is b)
name_by a b false e = inr (λ same. eqb-false (number a) (number b) e (ap number same))

-- Two components are equal, or they are not.
pub name_cases : (a b : ComponentName) → (a ≡ b) ⊎ (¬ (a ≡ b))
name_cases a b = name_by a b (number a == number b) refl

-- ---- conditions

is_not : (asked found : Bool) → is_as (not asked) found ≡ not (is_as asked found)
is_not true found = refl
is_not false true = refl
is_not false false = refl

negated_is : (it : Condition) (text : List ℕ) → is_met (negated it) text ≡ not (is_met it text)
negated_is it text = is_not it.is_accepted (accepts it.automaton.now text)

not_by : (b : Bool) → ¬ IsTrue b → IsTrue (not b)
not_by true h = absurd (h refl)
not_by false h = refl

by_not : (b : Bool) → IsTrue (not b) → ¬ IsTrue b
by_not true h k = cc
by_not false h k = cc

pub not_met : (it : Condition) (text : List ℕ) → ¬ IsTrue (is_met it text) → IsTrue (is_met (negated it) text)
not_met it text unmet = negated_is it text ∙ not_by (is_met it text) unmet

pub met_not : (it : Condition) (text : List ℕ) → IsTrue (is_met (negated it) text) → ¬ IsTrue (is_met it text)
met_not it text met = by_not (is_met it text) (sym (negated_is it text) ∙ met)

-- What eight texts have to do for a condition.
abbrev pub MeetsOne : TextAt → Condition → Type 0
MeetsOne texts it = IsTrue (is_met it (texts it.component))

each_by : (it : Condition) (others : List Condition) (texts : TextAt) (b : Bool) → is_met it (texts it.component) ≡ b → MeetsEach others texts ⊎ (¬ MeetsEach others texts) →
    MeetsEach (it ∷ others) texts ⊎ (¬ MeetsEach (it ∷ others) texts)
each_by it others texts true e (inl rest) = inl (All-cons (MeetsOne texts) it others e rest)
each_by it others texts true e (inr rest) = inr (λ met. rest (All-tail (MeetsOne texts) it others met))
each_by it others texts false e rest = inr (λ met. false≢true (sym e ∙ All-head (MeetsOne texts) it others met))

-- Eight texts meet all conditions, or they do not.
pub each_or : (conditions : List Condition) (texts : TextAt) → MeetsEach conditions texts ⊎ (¬ MeetsEach conditions texts)
each_or [] texts = inl (All-nil (MeetsOne texts))
each_or (it ∷ others) texts = each_by it others texts (is_met it (texts it.component)) refl (each_or others texts)

pub meets_at : (conditions : List Condition) (texts : TextAt) (name : ComponentName) → MeetsEach conditions texts → MeetsAt conditions name (texts name)
meets_at conditions texts name met = λ k d lt. λ e. subst (λ n. IsTrue (is_met (get_or conditions k d) (texts n))) e (met k d lt)

-- ---- conditions on one component

abbrev pub MeetsIf : (component : ComponentName) → (text : List ℕ) → Condition → Type 0
MeetsIf component text it = it.component ≡ component → IsTrue (is_met it text)

-- A further condition, which is on the component.
pub at_pushed : (own front : List Condition) (it : Condition) (component : ComponentName) (text : List ℕ) → it.component ≡ component → Meets own text ↔ MeetsAt front component text →
    Meets (own ++ it ∷ []) text ↔ MeetsAt (front ++ it ∷ []) component text
at_pushed own front it component text here before =
    let P : Condition → Type 0 = λ one. IsTrue (is_met one text) in (
      λ met. All-push (MeetsIf component text) front it (before.0 (all_front P own (it ∷ []) met)) (λ e. all_last P own it met),
      λ met. All-push P own it (before.1 (all_front (MeetsIf component text) front (it ∷ []) met)) (all_last (MeetsIf component text) front it met here),
    )

-- A further condition, which is on another component.
pub at_skipped : (own front : List Condition) (it : Condition) (component : ComponentName) (text : List ℕ) → ¬ (it.component ≡ component) → Meets own text ↔ MeetsAt front component text →
    Meets own text ↔ MeetsAt (front ++ it ∷ []) component text
at_skipped own front it component text other before = (
  λ met. All-push (MeetsIf component text) front it (before.0 met) (λ e. absurd (other e)),
  λ met. before.1 (all_front (MeetsIf component text) front (it ∷ []) met),
)

pub many_among : (conditions others : List Condition) (component : ComponentName) (most : ℕ) → ((it : Condition) → IsAmong conditions it → IsAmong others it) →
    HasManySetsAt conditions component most → HasManySetsAt others component most
many_among conditions others component most wider (own, all, many) = (
  own,
  All-weaker (λ (it : Condition). (it.component ≡ component) × IsAmong conditions it) (λ (it : Condition). (it.component ≡ component) × IsAmong others it) (λ it here. (here.0, wider it here.1)) own all,
  many,
)

pub among_longer : (conditions others : List Condition) (it : Condition) → IsAmong conditions it → IsAmong (conditions ++ others) it
among_longer conditions others it (one, has, component, automaton) = (one, Contains-append_left conditions others one has, component, automaton)

pub among_negated : (conditions : List Condition) (condition it : Condition) → IsAmong (conditions ++ negated condition ∷ []) it → IsAmong (conditions ++ condition ∷ []) it
among_negated conditions condition it (one, has, component, automaton) = elim (Contains-push_cases conditions (negated condition) one has) [
  | inl before ↦ (one, Contains-append_left conditions (condition ∷ []) one before, component, automaton)
  | inr e ↦ (condition, Contains-push conditions condition, ap (λ (c : Condition). c.component) e ∙ component, ap (λ (c : Condition). c.automaton.now) e ∙ automaton)
]

pub found_at : (conditions own : List Condition) (component : ComponentName) (most : ℕ) (found : Found) → ((text : List ℕ) → Meets own text ↔ MeetsAt conditions component text) →
    All (λ it. (it.component ≡ component) × Contains conditions it) own → IsFoundText own most found → IsFoundAt conditions component most found
found_at conditions own component most (Text text) meets within is = ((meets text.items).0 is.0, is.1)
found_at conditions own component most Nothing meets within is = λ text line met. is text line ((meets text).1 met)
found_at conditions own component most TooMany meets within is = (
  own,
  All-weaker (λ (it : Condition). (it.component ≡ component) × Contains conditions it) (λ (it : Condition). (it.component ≡ component) × IsAmong conditions it)
      (λ it here. (here.0, (it, here.1, refl, refl))) own within,
  is,
)

-- ---- a further candidate

pub push_negated : (conditions : List Condition) (condition : Condition) (texts : TextAt) → MeetsEach conditions texts → ¬ MeetsEach (condition ∷ []) texts → MeetsEach (conditions ++ negated condition ∷ []) texts
push_negated conditions condition texts met unmet =
    All-push (MeetsOne texts) conditions (negated condition) met
    (not_met condition (texts condition.component) (λ h. unmet (All-cons (MeetsOne texts) condition [] h (All-nil (MeetsOne texts)))))

with_met : (conditions : List Condition) (it : Condition) (old new : TextAt) (text : List ℕ) → MeetsEach conditions old → IsWithText old it.component text new →
    MeetsAt (conditions ++ it ∷ []) it.component text → MeetsEach (conditions ++ it ∷ []) new
with_met conditions it old new text met is here = λ k d lt.
    let one = get_or (conditions ++ it ∷ []) k d in
    elim (name_cases one.component it.component) [
      | inl same ↦ subst (λ t. IsTrue (is_met one t)) (sym ((is one.component).0 same)) (here k d lt same)
      | inr other ↦ elim (Contains-push_cases conditions it one (Contains-get_or (conditions ++ it ∷ []) k d lt)) [
        | inl has ↦ subst (λ t. IsTrue (is_met one t)) (sym ((is one.component).1 other)) (All-contains (MeetsOne old) conditions one met has)
        | inr e ↦ absurd (other (ap (λ (c : Condition). c.component) (sym e)))
      ]
    ]

with_lines : (component : ComponentName) (old new : TextAt) (text : List ℕ) → AreLines old → IsLine text → IsWithText old component text new → AreLines new
with_lines component old new text lines plain is = λ name.
    elim (name_cases name component) [
      | inl same ↦ subst IsLine (sym ((is name).0 same)) plain
      | inr other ↦ subst IsLine (sym ((is name).1 other)) (lines name)
    ]

among_itself : (conditions : List Condition) → All (IsAmong conditions) conditions
among_itself conditions = λ k d lt. (get_or conditions k d, Contains-get_or conditions k d lt, refl, refl)

-- The candidate that does not meet a further condition.
pub rejecting : (conditions : List Condition) (condition : Condition) (old : TextAt) (text : List ℕ) (it : Candidate) → AreLines old → MeetsEach conditions old →
    it.conditions.items ≡ conditions ++ negated condition ∷ [] → IsWithText old condition.component text (text_at it.texts) →
    MeetsAt (conditions ++ negated condition ∷ []) condition.component text → IsLine text → IsCandidateOf conditions (condition ∷ []) it
rejecting conditions condition old text it lines met e is here plain =
    let longer = conditions ++ negated condition ∷ [] in
    record {
      lines = with_lines condition.component old (text_at it.texts) text lines plain is;
      met = subst (λ l. MeetsEach l (text_at it.texts)) (sym e) (with_met conditions (negated condition) old (text_at it.texts) text met is here);
      within = λ texts inside. all_front (MeetsOne texts) conditions (negated condition ∷ []) (subst (λ l. MeetsEach l texts) e inside);
      failing = λ texts inside refused. met_not condition (texts condition.component) (all_last (MeetsOne texts) conditions (negated condition) (subst (λ l. MeetsEach l texts) e inside))
          (All-head (MeetsOne texts) condition [] refused);
      among = subst (λ l. All (IsAmong (conditions ++ condition ∷ [])) l) (sym e)
          (All-weaker (IsAmong longer) (IsAmong (conditions ++ condition ∷ [])) (λ one has. among_negated conditions condition one has) longer (among_itself longer));
    }

-- ---- several candidates

pub inside_longer : (old more : List Candidate) (texts : TextAt) → IsInside old texts → IsInside (old ++ more) texts
inside_longer old more texts (it, has, met) = (it, Contains-append_left old more it has, met)

-- ---- candidates that are apart

pub apart_weaker : {X : Type 0} (R S : X → X → Type 0) (xs : List X) → ((x y : X) → S x y → R x y) → AreUnlike R xs → AreUnlike S xs
apart_weaker R S [] weaker apart = tt
apart_weaker R S (x ∷ xs) weaker (first, apart) =
    (All-weaker (λ other. ¬ R x other) (λ other. ¬ S x other) (λ other none same. none (weaker x other same)) xs first, apart_weaker R S xs weaker apart)

pub apart_append : {X : Type 0} (R : X → X → Type 0) (xs ys : List X) → AreUnlike R xs → AreUnlike R ys → All (λ x. All (λ y. ¬ R x y) ys) xs → AreUnlike R (xs ++ ys)
apart_append R [] ys apart others cross = others
apart_append R (x ∷ xs) ys (first, apart) others cross = (
  All-append (λ other. ¬ R x other) xs ys first (All-head (λ it. All (λ y. ¬ R it y) ys) x xs cross),
  apart_append R xs ys apart others (All-tail (λ it. All (λ y. ¬ R it y) ys) x xs cross),
)

-- Texts meet conditions that others meet which are alike.
pub alike_met : (conditions : List Condition) (texts others : TextAt) → AlikeBy conditions texts others → MeetsEach conditions others → MeetsEach conditions texts
alike_met conditions texts others alike met = λ k d lt. alike k d lt ∙ met k d lt

share_front : (front back : List Condition) (it other : Candidate) → ShareBy (front ++ back) it other → ShareBy front it other
share_front front back it other (texts, others, met, met_too, alike) =
    (texts, others, met, met_too, all_front (λ (one : Condition). is_met one (texts one.component) ≡ is_met one (others one.component)) front back alike)

share_back : (front back : List Condition) (it other : Candidate) → ShareBy (front ++ back) it other → ShareBy back it other
share_back front back it other (texts, others, met, met_too, alike) =
    (texts, others, met, met_too, all_back (λ (one : Condition). is_met one (texts one.component) ≡ is_met one (others one.component)) front back alike)

-- Candidates that were added to others that were added.
pub candidates_more : (wide refused : List Condition) (condition : Condition) (old mid new : List Candidate) →
    AreCandidates wide refused old mid → AreCandidates (wide ++ refused) (condition ∷ []) mid new → AreCandidates wide (refused ++ condition ∷ []) old new
candidates_more wide refused condition old mid new (first, e, all, apart) (more, f, others, others_apart) =
    let longer = refused ++ condition ∷ [] in
    let assoc : (wide ++ refused) ++ condition ∷ [] ≡ wide ++ longer = append_assoc wide refused (condition ∷ []) in
    let one : (it : Candidate) → IsCandidateOf wide refused it → IsCandidateOf wide longer it = λ it is. record {
      lines = is.lines;
      met = is.met;
      within = is.within;
      failing = λ texts met every. is.failing texts met (all_front (MeetsOne texts) refused (condition ∷ []) every);
      among = All-weaker (IsAmong (wide ++ refused)) (IsAmong (wide ++ longer)) (λ (c : Condition) has. subst (λ l. IsAmong l c) assoc (among_longer (wide ++ refused) (condition ∷ []) c has)) it.conditions.items is.among;
    } in
    let two : (it : Candidate) → IsCandidateOf (wide ++ refused) (condition ∷ []) it → IsCandidateOf wide longer it = λ it is. record {
      lines = is.lines;
      met = is.met;
      within = λ texts met. all_front (MeetsOne texts) wide refused (is.within texts met);
      failing = λ texts met every. is.failing texts met (all_back (MeetsOne texts) refused (condition ∷ []) every);
      among = subst (λ l. All (IsAmong l) it.conditions.items) assoc is.among;
    } in (
      first ++ more,
      f ∙ ap (λ l. l ++ more) e ∙ append_assoc old first more,
      All-append (IsCandidateOf wide longer) first more
          (All-weaker (IsCandidateOf wide refused) (IsCandidateOf wide longer) one first all)
          (All-weaker (IsCandidateOf (wide ++ refused) (condition ∷ [])) (IsCandidateOf wide longer) two more others),
      apart_append (ShareBy longer) first more
          (apart_weaker (ShareBy refused) (ShareBy longer) first (λ x y both. share_front refused (condition ∷ []) x y both) apart)
          (apart_weaker (ShareBy (condition ∷ [])) (ShareBy longer) more (λ x y both. share_back refused (condition ∷ []) x y both) others_apart)
          (λ k d lt j e there. λ both.
          let x = get_or first k d in
          let y = get_or more j e in
          let (texts, theirs, met, met_too, alike) = share_front refused (condition ∷ []) x y both in
          (all k d lt).failing texts met (alike_met refused texts theirs alike (all_back (MeetsOne theirs) wide refused ((others j e there).within theirs met_too)))),
    )

pub some_left : {X : Type 0} (found doubt : Option X) → IsSome found → IsSome (option_or found doubt)
some_left (Some x) doubt h = h
some_left None doubt h = absurd cc

pub some_right : {X : Type 0} (found doubt : Option X) → IsSome doubt → IsSome (option_or found doubt)
some_right (Some x) doubt h = refl
some_right None doubt h = h

pub either_some : {X : Type 0} (P : X → Type 0) (found doubt : Option X) → IfSome found P → IfSome doubt P → IfSome (option_or found doubt) P
either_some P (Some x) doubt h k = h
either_some P None doubt h k = k

-- A further condition of `refused`.
pub split_more : (wide refused : List Condition) (condition : Condition) (found doubt : Option ComponentName) (mid new : List Candidate) → ((texts : TextAt) → IsInside mid texts → IsInside new texts) →
    IsSplit wide refused (IsSome doubt) mid → IsSplit (wide ++ refused) (condition ∷ []) (IsSome found) new → IsSplit wide (refused ++ condition ∷ []) (IsSome (option_or found doubt)) new
split_more wide refused condition found doubt mid new kept before after texts lines met unmet = elim (each_or refused texts) [
  | inl here ↦ elim (after texts lines (All-append (MeetsOne texts) wide refused met here)
      (λ one. unmet (All-append (MeetsOne texts) refused (condition ∷ []) here one))) [
        | inl some ↦ inl (some_left found doubt some)
        | inr inside ↦ inr inside
      ]
  | inr not_here ↦ elim (before texts lines met not_here) [
    | inl some ↦ inl (some_right found doubt some)
    | inr inside ↦ inr (kept texts inside)
  ]
]

pub some_weaker : {X : Type 0} (P Q : X → Type 0) (o : Option X) → ((x : X) → P x → Q x) → IfSome o P → IfSome o Q
some_weaker P Q (Some x) weaker h = weaker x h
some_weaker P Q None weaker h = h

-- Conditions up to an index are among all.
pub among_wide : (wide refused : List Condition) (i : ℕ) (it one : Condition) → take (i + 1) refused ≡ take i refused ++ it ∷ [] → IsAmong ((wide ++ take i refused) ++ it ∷ []) one → IsAmong (wide ++ refused) one
among_wide wide refused i it one next has =
    let front = (wide ++ take i refused) ++ it ∷ [] in
    let rest = drop (i + 1) refused in
    let e : front ++ rest ≡ wide ++ refused =
    ap (λ l. l ++ rest) (append_assoc wide (take i refused) (it ∷ []) ∙ ap (λ l. wide ++ l) (sym next))
    ∙ append_assoc wide (take (i + 1) refused) rest
    ∙ ap (λ l. wide ++ l) (take-append-drop (i + 1) refused) in
    subst (λ l. IsAmong l one) e (among_longer front rest one has)

-- ---- the first texts

none_first : (conditions : List Condition) (most : ℕ) (name : ComponentName) (lack : NoTexts) → IsFirstText conditions most name (Err lack) → AreFirstTexts conditions most (Err lack)
none_first conditions most name lacking.Nothing is = λ texts lines met. is (texts name) (lines name) (meets_at conditions texts name met)
none_first conditions most name lacking.OutOfMemory is = tt

pub error_first : (conditions : List Condition) (most : ℕ) (name : ComponentName) (result : Result (Result (Vec ℕ Global) ComponentName) NoTexts) → IsFirstText conditions most name result →
    IfErr result (λ lack. AreFirstTexts conditions most (Err lack))
error_first conditions most name (Ok text) is = tt
error_first conditions most name (Err lack) is = none_first conditions most name lack is

pub all_first : (conditions : List Condition) (most : ℕ) (texts : Eight (Result (Vec ℕ Global) ComponentName)) (result : Result (Eight (Vec ℕ Global)) ComponentName) →
    ((name : ComponentName) → IsFirstText conditions most name (Ok (at texts name))) → IfOk result (λ known. (name : ComponentName) → at texts name ≡ Ok (at known name)) →
    IfErr result (λ doubt. (name : ComponentName) × (at texts name ≡ Err doubt)) → AreFirstTexts conditions most (Ok result)
all_first conditions most texts (Ok known) are known_are doubt_is =
    let each = λ (name : ComponentName). subst (λ r. IsFirstText conditions most name (Ok r)) (known_are name) (are name) in
    (λ name. (each name).1, λ k d lt. (each (get_or conditions k d).component).0 k d lt refl)
all_first conditions most texts (Err doubt) are known_are (name, e) = subst (λ r. IsFirstText conditions most name (Ok r)) e (are name)
