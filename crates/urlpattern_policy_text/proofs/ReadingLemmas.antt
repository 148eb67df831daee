-- Lemmas on reading a text line by line.
use Rattle.std.proofs.Common.{Bor, ◌≡◌, ◌≢◌, ◌==◌, ◌∙◌, ◌⊎◌, ◌<◌, ◌≤◌, ◌+◌, ℕ, zero, suc, All, Bool, true, false, Contains, List, [], ◌∷◌, ◌++◌, None, Option, Some, Result, Ok, Err, ap, option_map, append-nil, arith, inl, inr, length, map, refl, slice_get, subst, sym, take, take_all}
use Rattle.std.proofs.lemmas.Bool.{eqb-true}
use Rattle.std.proofs.lemmas.List.{flat_map_more, length-map, map-append, take-map, take_more}
use Rattle.std.proofs.lemmas.List.Elements.{All-append, All-cons, All-head, All-nil, All-tail, All-weaker, Contains-append_left, Contains-push}
use Rattle.std.proofs.lemmas.Option.{get_or_from_slice_get, slice_get-map, slice_get_within}
use Rattle.std.specs.List.{AllZip, flat_map}
use Rattle.std.specs.Option.{option_to_list}
use Rattle.std.specs.Prelude.{IfOk}
use Rattle.std.specs.Str.Lines.{lines}
use Rattle.urlpattern.proofs.ListedParts.{zip_push}
use Rattle.urlpattern_compare.specs.CoveringTogether.{AreAscending}
use Rattle.urlpattern_differences.specs.declared.rules.Effect.{Effect}
use Rattle.urlpattern_matcher.specs.declared.regexp.RegExp.{Ghosts as Engine}
use Rattle.urlpattern_pattern.specs.UrlPatterns.{UrlPattern}
use Rattle.urlpattern_policy_text.specs.PolicyTexts.{AddsOutcome, AreFaultsOf, HasFaultAt, IsFaultAt, IsFine, IsFineAt, IsOutcome, IsOutcomeAt, IsOutcomeOf, IsRule, IsUsedBase, rule_in, rules_in, statements_in}
use Rattle.urlpattern_policy_text.specs.Statements.{StatementView, statement_of, statement_view}
use Rattle.urlpattern_policy_text.specs.declared.statement.Statement.{Statement}
use Rattle.urlpattern_policy_text.specs.declared.outcome.Outcome.{Outcome}
use Rattle.urlpattern_policy_text.specs.declared.outcome.Outcome.TheVariants as outcomes
use Rattle.urlpattern_policy_text.specs.declared.policy_fault.PolicyFault.{PolicyFault}

-- ---- lines and statements

map_twice : {X Y Z : Type 0} (f : Y → Z) (g : X → Y) (xs : List X) → map f (map g xs) ≡ map (λ x. f (g x)) xs
map_twice f g [] = refl
map_twice f g (x ∷ xs) = ap (λ l. f (g x) ∷ l) (map_twice f g xs)

-- What all lines say.
pub all_said : (items : List (Bor (List ℕ))) (statements : List Statement) (text : List ℕ) → map (λ line. line.now) items ≡ lines text → map statement_view statements ≡ map (λ line. statement_of line.now) items
    → map statement_view statements ≡ statements_in text
all_said items statements text are say = say ∙ sym (map_twice statement_of (λ line. line.now) items) ∙ ap (map statement_of) are

-- Each line has a statement.
pub said_count : (items : List (Bor (List ℕ))) (statements : List Statement) → map statement_view statements ≡ map (λ line. statement_of line.now) items → length statements ≡ length items
said_count items statements say = sym (length-map statements statement_view) ∙ ap length say ∙ length-map items (λ line. statement_of line.now)

-- What a line adds, by its place in the text.
pub outcome_there : {E M : Type 0} (engine : Engine E) (base : Option (List ℕ)) (items : List (Bor (List ℕ))) (statements : List Statement) (index : ℕ) (line : List ℕ) (result : Result (Outcome E) M) → slice_get (map (λ it. it.now) items) index ≡ Some line
    → IfOk result (IsOutcome engine base (map statement_view (take index statements)) line) → IfOk result (IsOutcomeAt engine base (map (λ it. it.now) items) (map statement_view statements) index)
outcome_there engine base items statements index line (Ok outcome) there is =
    (line, there, subst (λ (before : List StatementView). IsOutcome engine base before line outcome) (sym (take-map statement_view index statements)) is)
outcome_there engine base items statements index line (Err memory) there is = tt

-- The index is past all lines.
pub all_past : (items : List (Bor (List ℕ))) (text : List ℕ) (i : ℕ) → map (λ line. line.now) items ≡ lines text → length items ≤ i → length (lines text) ≤ i
all_past items text i are past = let count : length (lines text) ≡ length items = sym (ap length are) ∙ length-map items (λ line. line.now) in omega (arith, count, past)

-- ---- whether there are faults

is_zero : (n : ℕ) → (n == 0) ≡ true → n ≡ 0
is_zero n is = eqb-true n 0 is

pub no_items : {X : Type 0} (xs : List X) (len : ℕ) (test : Bool) → length xs ≡ len → test ≡ (len == 0) → test ≡ true → xs ≡ []
no_items [] len test count is empty = refl
no_items (x ∷ xs) len test count is empty = absurd (omega (arith, count, is_zero len (sym is ∙ empty)))

not_zero : (n : ℕ) → (n == 0) ≡ false → n ≡ 0 → ⊥
not_zero zero is same = cc
not_zero (suc n) is same = cc

pub some_items : {X : Type 0} (xs : List X) (len : ℕ) (test : Bool) → length xs ≡ len → test ≡ (len == 0) → test ≡ false → xs ≢ []
some_items xs len test count is full = λ none. not_zero len (sym is ∙ full) (sym count ∙ ap length none)

-- ---- what is read

-- What the first lines add: their rules, if none of them is at fault, and their faults.
pub record AreReadTo {E : Type 0} (engine : Engine E) (text : List ℕ) (base : Option (List ℕ)) (index : ℕ) (rules : List (UrlPattern E × Effect)) (faults : List PolicyFault) : Type 0 where
  pub in_order : AreAscending (map (λ fault. fault.line) faults)
  pub below : All (λ line. line < index + 1) (map (λ fault. fault.line) faults)
  pub each : All (λ fault. (k : ℕ) × IsFaultAt engine text base k fault) faults
  pub all : (k : ℕ) → k < index → IsFineAt engine text base k ⊎ HasFaultAt faults k
  pub own : faults ≡ [] → AllZip (IsRule engine base) (rules_in (take index (statements_in text))) rules

ascending_push : (xs : List ℕ) (n : ℕ) → AreAscending xs → All (λ line. line < n) xs → AreAscending (xs ++ n ∷ [])
ascending_push [] n up below = (All-nil (λ (other : ℕ). n < other), tt)
ascending_push (x ∷ xs) n up below = (
  All-append (λ other. x < other) xs (n ∷ []) up.0 (All-cons (λ other. x < other) n [] (All-head (λ line. line < n) x xs below) (All-nil (λ other. x < other))),
  ascending_push xs n up.1 (All-tail (λ line. line < n) x xs below),
)

not_pushed : {X : Type 0} (xs : List X) (x : X) → xs ++ x ∷ [] ≢ []
not_pushed [] x is = absurd cc
not_pushed (y ∷ xs) x is = absurd cc

lt_or_le : (k i : ℕ) → (k < i) ⊎ (i ≤ k)
lt_or_le k zero = inr (omega arith)
lt_or_le zero (suc i) = inl (omega arith)
lt_or_le (suc k) (suc i) = elim (lt_or_le k i) [
  | inl less ↦ inl (omega (arith, less))
  | inr more ↦ inr (omega (arith, more))
]

last_or_before : (k i : ℕ) → k < i + 1 → (k < i) ⊎ (k ≡ i)
last_or_before k zero lt = inr (omega (arith, lt))
last_or_before zero (suc i) lt = inl (omega arith)
last_or_before (suc k) (suc i) lt = elim (last_or_before k i (omega (arith, lt))) [
  | inl less ↦ inl (omega (arith, less))
  | inr same ↦ inr (ap suc same)
]

module _ {E : Type 0} (engine : Engine E) (text : List ℕ) (base : Option (List ℕ)) where
  pub nothing_read : (rules : List (UrlPattern E × Effect)) (faults : List PolicyFault) → rules ≡ [] → faults ≡ [] → AreReadTo engine text base 0 rules faults
  nothing_read rules faults none faultless = subst (λ (them : List (UrlPattern E × Effect)). AreReadTo engine text base 0 them faults) (sym none) (subst (λ (them : List PolicyFault). AreReadTo engine text base 0 [] them) (sym faultless) (record {
    in_order = tt;
    below = All-nil (λ (line : ℕ). line < 1);
    each = All-nil (λ (fault : PolicyFault). (k : ℕ) × IsFaultAt engine text base k fault);
    all = λ k lt. absurd (omega arith);
    own = λ same. tt;
  }))

  -- ---- one line more

  module _ (i : ℕ) (line : List ℕ) (there : slice_get (lines text) i ≡ Some line) where
    statements_more : take (i + 1) (statements_in text) ≡ take i (statements_in text) ++ statement_of line ∷ []
    statements_more =
        let has : slice_get (statements_in text) i ≡ Some (statement_of line) = slice_get-map statement_of (lines text) i ∙ ap (λ found. option_map statement_of found) there in
        take_more (statements_in text) i (statement_of line) (slice_get_within (statements_in text) i (statement_of line) has)
        ∙ ap (λ one. take i (statements_in text) ++ one ∷ []) (get_or_from_slice_get (statements_in text) i (statement_of line) (statement_of line) has)

    rules_more : rules_in (take (i + 1) (statements_in text)) ≡ rules_in (take i (statements_in text)) ++ option_to_list (rule_in (statement_of line))
    rules_more = ap rules_in statements_more ∙ sym (flat_map_more (λ statement. option_to_list (rule_in statement)) [] (take i (statements_in text)) (statement_of line))

    fine_here : IsFine engine base (take i (statements_in text)) (statement_of line) → IsFineAt engine text base i
    fine_here fine = λ other is.
        let both : Some line ≡ Some other = sym there ∙ is in
        let same : line ≡ other = cc in
        subst (λ one. IsFine engine base (take i (statements_in text)) (statement_of one)) same fine

    all_more : (faults more : List PolicyFault) → IsFineAt engine text base i ⊎ HasFaultAt (faults ++ more) i → ((k : ℕ) → k < i → IsFineAt engine text base k ⊎ HasFaultAt faults k)
        → (k : ℕ) → k < i + 1 → IsFineAt engine text base k ⊎ HasFaultAt (faults ++ more) k
    all_more faults more here before k lt = elim (last_or_before k i lt) [
      | inl less ↦ elim (before k less) [
        | inl fine ↦ inl fine
        | inr has ↦ inr (has.0, Contains-append_left faults more has.0 has.1, has.2)
      ]
      | inr same ↦ subst (λ n. IsFineAt engine text base n ⊎ HasFaultAt (faults ++ more) n) (sym same) here
    ]

    below_more : (lines_so_far : List ℕ) → All (λ n. n < i + 1) lines_so_far → All (λ n. n < (i + 1) + 1) lines_so_far
    below_more lines_so_far below = All-weaker (λ (n : ℕ). n < i + 1) (λ (n : ℕ). n < (i + 1) + 1) (λ n lt. omega (arith, lt)) lines_so_far below

    kept_faults : (rules new : List (UrlPattern E × Effect)) (faults : List PolicyFault) → AreReadTo engine text base i rules faults → IsFineAt engine text base i
        → (faults ≡ [] → AllZip (IsRule engine base) (rules_in (take (i + 1) (statements_in text))) new) → AreReadTo engine text base (i + 1) new faults
    kept_faults rules new faults before fine own = record {
      in_order = before.in_order;
      below = below_more (map (λ fault. fault.line) faults) before.below;
      each = before.each;
      all = λ k lt. elim (last_or_before k i lt) [
        | inl less ↦ before.all k less
        | inr same ↦ inl (subst (λ n. IsFineAt engine text base n) (sym same) fine)
      ];
      own = own;
    }

    read_nothing : (rules : List (UrlPattern E × Effect)) (faults : List PolicyFault) → AreReadTo engine text base i rules faults → IsFine engine base (take i (statements_in text)) (statement_of line)
        → rule_in (statement_of line) ≡ None → AreReadTo engine text base (i + 1) rules faults
    read_nothing rules faults before fine none =
        let same : rules_in (take (i + 1) (statements_in text)) ≡ rules_in (take i (statements_in text)) =
        rules_more ∙ ap (λ found. rules_in (take i (statements_in text)) ++ option_to_list found) none ∙ append-nil (rules_in (take i (statements_in text))) in
        kept_faults rules rules faults before (fine_here fine) (λ faultless. subst (λ asked. AllZip (IsRule engine base) asked rules) (sym same) (before.own faultless))

    read_rule : (rules : List (UrlPattern E × Effect)) (faults : List PolicyFault) (effect : Effect) (pattern : UrlPattern E) → AreReadTo engine text base i rules faults
        → IsOutcome engine base (take i (statements_in text)) line (outcomes.Rule effect pattern) → AreReadTo engine text base (i + 1) (rules ++ (pattern, effect) ∷ []) faults
    read_rule rules faults effect pattern before (own, says, compiled) =
        let more : rules_in (take (i + 1) (statements_in text)) ≡ rules_in (take i (statements_in text)) ++ (effect, own) ∷ [] =
        rules_more ∙ ap (λ statement. rules_in (take i (statements_in text)) ++ option_to_list (rule_in statement)) says in
        let fine : IsFine engine base (take i (statements_in text)) (statement_of line) = subst (IsFine engine base (take i (statements_in text))) (sym says) (pattern, compiled) in
        kept_faults rules (rules ++ (pattern, effect) ∷ []) faults before (fine_here fine) (λ faultless.
        subst (λ asked. AllZip (IsRule engine base) asked (rules ++ (pattern, effect) ∷ [])) (sym more)
        (zip_push (IsRule engine base) (rules_in (take i (statements_in text))) rules (effect, own) (pattern, effect) (before.own faultless) (refl, compiled)))

    read_fault : (rules : List (UrlPattern E × Effect)) (faults : List PolicyFault) (fault : PolicyFault) → AreReadTo engine text base i rules faults → IsFaultAt engine text base i fault
        → AreReadTo engine text base (i + 1) rules (faults ++ fault ∷ [])
    read_fault rules faults fault before is =
        let number = is.number in
        let shown : map (λ (it : PolicyFault). it.line) (faults ++ fault ∷ []) ≡ map (λ (it : PolicyFault). it.line) faults ++ (i + 1) ∷ [] =
        map-append (λ (it : PolicyFault). it.line) faults (fault ∷ []) ∙ ap (λ n. map (λ (it : PolicyFault). it.line) faults ++ n ∷ []) number in
        record {
          in_order = subst AreAscending (sym shown) (ascending_push (map (λ it. it.line) faults) (i + 1) before.in_order before.below);
          below = subst (λ them. All (λ n. n < (i + 1) + 1) them) (sym shown)
              (All-append (λ n. n < (i + 1) + 1) (map (λ it. it.line) faults) ((i + 1) ∷ []) (below_more (map (λ it. it.line) faults) before.below)
              (All-cons (λ n. n < (i + 1) + 1) (i + 1) [] (omega arith) (All-nil (λ n. n < (i + 1) + 1))));
          each = All-append (λ it. (k : ℕ) × IsFaultAt engine text base k it) faults (fault ∷ []) before.each
              (All-cons (λ it. (k : ℕ) × IsFaultAt engine text base k it) fault [] (i, is) (All-nil (λ it. (k : ℕ) × IsFaultAt engine text base k it)));
          all = all_more faults (fault ∷ []) (inr (fault, Contains-push faults fault, number)) before.all;
          own = λ none. absurd (not_pushed faults fault none);
        }

    pub read_more : (outcome : Outcome E) (old new : List (UrlPattern E × Effect)) (old_faults new_faults : List PolicyFault) → AreReadTo engine text base i old old_faults
        → IsOutcome engine base (take i (statements_in text)) line outcome → AddsOutcome i outcome old new old_faults new_faults → AreReadTo engine text base (i + 1) new new_faults
    read_more outcomes.Nothing old new old_faults new_faults before is adds =
        subst (λ them. AreReadTo engine text base (i + 1) them new_faults) (sym adds.0)
        (subst (λ them. AreReadTo engine text base (i + 1) old them) (sym adds.1) (read_nothing old old_faults before is.0 is.1))
    read_more (outcomes.Rule effect pattern) old new old_faults new_faults before is adds =
        subst (λ them. AreReadTo engine text base (i + 1) them new_faults) (sym adds.0)
        (subst (λ them. AreReadTo engine text base (i + 1) (old ++ (pattern, effect) ∷ []) them) (sym adds.1) (read_rule old old_faults effect pattern before is))
    read_more (outcomes.Fault column reason) old new old_faults new_faults before is adds =
        let fault : PolicyFault = record { line = i + 1; column = column; reason = reason } in
        subst (λ them. AreReadTo engine text base (i + 1) them new_faults) (sym adds.0)
        (subst (λ them. AreReadTo engine text base (i + 1) old them) (sym adds.1)
        (read_fault old old_faults fault before (record { line = line; there = there; number = refl; reason = is })))

  -- The line at the index, by the lines and the statements that the function has.
  pub line_more : (i : ℕ) (them : List (List ℕ)) (statements : List StatementView) (outcome : Outcome E) (old new : List (UrlPattern E × Effect)) (old_faults new_faults : List PolicyFault)
      → them ≡ lines text → statements ≡ statements_in text → AreReadTo engine text base i old old_faults → IsOutcomeAt engine base them statements i outcome → AddsOutcome i outcome old new old_faults new_faults
      → AreReadTo engine text base (i + 1) new new_faults
  line_more i them statements outcome old new old_faults new_faults are say before (line, there, is) adds =
      read_more i line (subst (λ (all : List (List ℕ)). slice_get all i ≡ Some line) are there) outcome old new old_faults new_faults before
      (subst (λ (all : List StatementView). IsOutcome engine base (take i all) line outcome) say is) adds

  -- ---- all lines

  no_element : {X : Type 0} (x : X) → ¬ Contains [] x
  no_element x has = let lt = has.1 in absurd (omega (arith, lt))

  past : (k : ℕ) → length (lines text) ≤ k → IsFineAt engine text base k
  past k le = λ line is. let within = slice_get_within (lines text) k line is in absurd (omega (arith, le, within))

  pub each_line : (i : ℕ) (rules : List (UrlPattern E × Effect)) (faults : List PolicyFault) → length (lines text) ≤ i → AreReadTo engine text base i rules faults
      → (k : ℕ) → IsFineAt engine text base k ⊎ HasFaultAt faults k
  each_line i rules faults whole read k = elim (lt_or_le k i) [
    | inl less ↦ read.all k less
    | inr more ↦ inl (past k (omega (arith, whole, more)))
  ]

  pub each_fine : (i : ℕ) (rules : List (UrlPattern E × Effect)) (faults : List PolicyFault) → length (lines text) ≤ i → AreReadTo engine text base i rules faults → faults ≡ []
      → (k : ℕ) → IsFineAt engine text base k
  each_fine i rules faults whole read none k = elim (each_line i rules faults whole read k) [
    | inl fine ↦ fine
    | inr has ↦ absurd (no_element has.0 (subst (λ them. Contains them has.0) none has.1))
  ]

  pub all_rules : (i : ℕ) (rules : List (UrlPattern E × Effect)) (faults : List PolicyFault) → length (lines text) ≤ i → AreReadTo engine text base i rules faults → faults ≡ []
      → AllZip (IsRule engine base) (rules_in (statements_in text)) rules
  all_rules i rules faults whole read none =
      let count = length-map (lines text) statement_of in
      subst (λ asked. AllZip (IsRule engine base) (rules_in asked) rules) (take_all i (statements_in text) (omega (arith, whole, count))) (read.own none)

  pub all_faults : (i : ℕ) (rules : List (UrlPattern E × Effect)) (faults : List PolicyFault) → length (lines text) ≤ i → AreReadTo engine text base i rules faults → faults ≢ []
      → IsUsedBase (statements_in text) base → AreFaultsOf engine text faults
  all_faults i rules faults whole read some used = record {
    base = base;
    is_used = used;
    some = some;
    in_order = read.in_order;
    each = read.each;
    all = each_line i rules faults whole read;
  }
