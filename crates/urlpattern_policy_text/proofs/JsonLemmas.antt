-- Lemmas on reading the rules of JSON one by one.
use Rattle.std.proofs.Common.{◌≡◌, ◌∙◌, ◌<◌, ◌≤◌, ◌+◌, ℕ, zero, suc, List, [], ◌∷◌, ◌++◌, Ok, Err, Option, Some, None, Result, append_assoc, append-nil, ap, arith, get_or, length, map, refl, subst, sym, take, take_all}
use Rattle.std.proofs.lemmas.List.{get_or-map, length-map, length-take-le, map-append, take_more}
use Rattle.std.specs.List.{AllZip}
use Rattle.serde_json.specs.Data.{Data}
use Rattle.serde_json.specs.View.{view}
use Rattle.serde_json.specs.declared.value.Value.{Value}
use Rattle.urlpattern.proofs.ListedParts.{zip_push}
use Rattle.urlpattern_diagnosis.specs.declared.diagnosis.Diagnosis.{Diagnosis}
use Rattle.urlpattern_differences.specs.declared.rules.Effect.{Effect}
use Rattle.urlpattern_matcher.specs.declared.regexp.RegExp.{Ghosts as Engine}
use Rattle.urlpattern_pattern.specs.UrlPatterns.{UrlPattern}
use Rattle.urlpattern_policy_json.specs.PolicyViews.{FaultView, fault_view}
use Rattle.urlpattern_policy_json.specs.PolicyViews.{Rule as RuleAt}
use Rattle.urlpattern_policy_json.specs.declared.fault.JsonFault.{JsonFault}
use Rattle.urlpattern_policy_json.specs.declared.fault.JsonReason.{JsonReason}
use Rattle.urlpattern_policy_json.specs.ReadPolicies.{member_faults, rules_in, settings_read}
use Rattle.urlpattern_policy_text.specs.PolicyJson.{AddsRead, AreReadFrom, GainsBase, IsBaseRead, IsRead, base_fault, faults_from, placed, rules_of}
use Rattle.urlpattern_policy_text.specs.PolicyTexts.{IsRejectedBase}

zip_length : {A B : Type 0} (R : A → B → Type 0) (xs : List A) (ys : List B) → AllZip R xs ys → length ys ≡ length xs
zip_length R [] [] all = refl
zip_length R [] (y ∷ ys) all = absurd all
zip_length R (x ∷ xs) [] all = absurd all
zip_length R (x ∷ xs) (y ∷ ys) all = ap suc (zip_length R xs ys all.1)

rules_more : {R : Type 0} (read : List (Result R JsonReason)) (rule : R) → rules_of (read ++ Ok rule ∷ []) ≡ rules_of read ++ rule ∷ []
rules_more [] rule = refl
rules_more (Ok other ∷ read) rule = ap (λ rest. other ∷ rest) (rules_more read rule)
rules_more (Err reason ∷ read) rule = rules_more read rule

rules_kept : {R : Type 0} (read : List (Result R JsonReason)) (reason : JsonReason) → rules_of (read ++ Err reason ∷ []) ≡ rules_of read
rules_kept [] reason = refl
rules_kept (Ok other ∷ read) reason = ap (λ rest. other ∷ rest) (rules_kept read reason)
rules_kept (Err other ∷ read) reason = rules_kept read reason

faults_kept : {R : Type 0} (index : ℕ) (read : List (Result R JsonReason)) (rule : R) → faults_from index (read ++ Ok rule ∷ []) ≡ faults_from index read
faults_kept index [] rule = refl
faults_kept index (Ok other ∷ read) rule = faults_kept (index + 1) read rule
faults_kept index (Err reason ∷ read) rule = ap (λ rest. placed (RuleAt index) reason ∷ rest) (faults_kept (index + 1) read rule)

faults_more : {R : Type 0} (index : ℕ) (read : List (Result R JsonReason)) (reason : JsonReason) (last : ℕ) → last ≡ index + length read
    → faults_from index (read ++ Err reason ∷ []) ≡ faults_from index read ++ placed (RuleAt last) reason ∷ []
faults_more index [] reason last is = let same : last ≡ index = omega (arith, is) in ap (λ at. placed (RuleAt at) reason ∷ []) (sym same)
faults_more index (Ok other ∷ read) reason last is = faults_more (index + 1) read reason last (omega (arith, is))
faults_more index (Err other ∷ read) reason last is = ap (λ rest. placed (RuleAt index) other ∷ rest) (faults_more (index + 1) read reason last (omega (arith, is)))

-- The items are read as these rules and these faults.
pub record AreReadTo {E : Type 0} (engine : Engine E) (base : Option (List ℕ)) (items : List Data) (rules : List (UrlPattern E × Effect)) (found : List FaultView) : Type 0 where
  pub read : List (Result (UrlPattern E × Effect) JsonReason)
  pub each : AllZip (IsRead engine base) items read
  pub rules_are : rules ≡ rules_of read
  pub found_are : found ≡ faults_from 0 read

-- The fault of a base URL that is rejected is appended.
pub gains_fault : (text : List ℕ) (old new : List JsonFault) (fault : JsonFault) (diagnosis : Diagnosis) → IsRejectedBase (Some text) diagnosis → fault_view fault ≡ base_fault diagnosis → new ≡ old ++ fault ∷ []
    → GainsBase (Some text) None (map fault_view old) (map fault_view new)
gains_fault text old new fault diagnosis rejected is grown = (
  base_fault diagnosis ∷ [],
  (diagnosis, rejected, refl),
  ap (map fault_view) grown ∙ map-append fault_view old (fault ∷ []) ∙ ap (λ one. map fault_view old ++ one ∷ []) is,
)

module _ {E : Type 0} (engine : Engine E) (base : Option (List ℕ)) where
  pub nothing_read : (rules : List (UrlPattern E × Effect)) → rules ≡ [] → AreReadTo engine base [] rules []
  nothing_read rules none = record { read = []; each = tt; rules_are = none; found_are = refl }

  read_more : (items : List Data) (tree : Data) (old new : List (UrlPattern E × Effect)) (old_found new_found : List FaultView) (outcome : Result (UrlPattern E × Effect) JsonReason)
      → AreReadTo engine base items old old_found → IsRead engine base tree outcome → AddsRead (length items) outcome old new old_found new_found → AreReadTo engine base (items ++ tree ∷ []) new new_found
  read_more items tree old new old_found new_found (Ok rule) before is (grown, same) = record {
    read = before.read ++ Ok rule ∷ [];
    each = zip_push (IsRead engine base) items before.read tree (Ok rule) before.each is;
    rules_are = grown ∙ ap (λ rules. rules ++ rule ∷ []) before.rules_are ∙ sym (rules_more before.read rule);
    found_are = same ∙ before.found_are ∙ sym (faults_kept 0 before.read rule);
  }
  read_more items tree old new old_found new_found (Err reason) before is (same, grown) = record {
    read = before.read ++ Err reason ∷ [];
    each = zip_push (IsRead engine base) items before.read tree (Err reason) before.each is;
    rules_are = same ∙ before.rules_are ∙ sym (rules_kept before.read reason);
    found_are = grown ∙ ap (λ found. found ++ placed (RuleAt (length items)) reason ∷ []) before.found_are
        ∙ sym (faults_more 0 before.read reason (length items) (omega (arith, zip_length (IsRead engine base) items before.read before.each)));
  }

  -- What is read of the items before an index, and the faults, which follow `front`.
  pub record AreReadBefore (trees : List Data) (index : ℕ) (rules : List (UrlPattern E × Effect)) (front faults : List FaultView) : Type 0 where
    pub own : List FaultView
    pub are : AreReadTo engine base (take index trees) rules own
    pub whole : faults ≡ front ++ own

  pub none_before : (trees : List Data) (rules : List (UrlPattern E × Effect)) (front : List FaultView) → rules ≡ [] → AreReadBefore trees 0 rules front front
  none_before trees rules front none = record { own = []; are = nothing_read rules none; whole = sym (append-nil front) }

  adds_after : (index : ℕ) (outcome : Result (UrlPattern E × Effect) JsonReason) (old new : List (UrlPattern E × Effect)) (front own old_faults new_faults : List FaultView) → old_faults ≡ front ++ own
      → AddsRead index outcome old new old_faults new_faults → (more : List FaultView) × AddsRead index outcome old new own more × (new_faults ≡ front ++ more)
  adds_after index (Ok rule) old new front own old_faults new_faults whole (grown, same) = (own, (grown, refl), same ∙ whole)
  adds_after index (Err reason) old new front own old_faults new_faults whole (same, grown) =
      (own ++ placed (RuleAt index) reason ∷ [], (same, refl), grown ∙ ap (λ found. found ++ placed (RuleAt index) reason ∷ []) whole ∙ append_assoc front own (placed (RuleAt index) reason ∷ []))

  pub one_more : (items : List Value) (trees : List Data) (index : ℕ) (item : Value) (outcome : Result (UrlPattern E × Effect) JsonReason) (old new : List (UrlPattern E × Effect)) (front old_faults new_faults : List FaultView)
      → map view items ≡ trees → index < length items → item ≡ get_or items index item
      → AreReadBefore trees index old front old_faults → IsRead engine base (view item) outcome → AddsRead index outcome old new old_faults new_faults → AreReadBefore trees (index + 1) new front new_faults
  one_more items trees index item outcome old new front old_faults new_faults are within is before read added =
      let inside : index < length trees = subst (λ (all : List Data). index < length all) are (omega (arith, length-map items view)) in
      let item_is : get_or trees index (view item) ≡ view item = ap (λ (all : List Data). get_or all index (view item)) (sym are) ∙ get_or-map view items index item (view item) within ∙ ap view (sym is) in
      let seen : take (index + 1) trees ≡ take index trees ++ view item ∷ [] = take_more trees index (view item) inside ∙ ap (λ one. take index trees ++ one ∷ []) item_is in
      let count : length (take index trees) ≡ index = length-take-le index trees (omega (arith, inside)) in
      let (more, own_added, whole) = adds_after index outcome old new front before.own old_faults new_faults before.whole added in
      let grown = read_more (take index trees) (view item) old new before.own more outcome before.are read (subst (λ (at : ℕ). AddsRead at outcome old new before.own more) (sym count) own_added) in
      record { own = more; are = subst (λ (all : List Data). AreReadTo engine base all new more) (sym seen) grown; whole = whole }

  pub all_read : (items : List Value) (trees : List Data) (index : ℕ) (rules : List (UrlPattern E × Effect)) (front faults : List FaultView) → map view items ≡ trees → length items ≤ index
      → AreReadBefore trees index rules front faults → (own : List FaultView) × AreReadTo engine base trees rules own × (faults ≡ front ++ own)
  all_read items trees index rules front faults are past before =
      let count : length trees ≡ length items = ap length (sym are) ∙ length-map items view in
      (before.own, subst (λ (all : List Data). AreReadTo engine base all rules before.own) (take_all index trees (omega (arith, count, past))) before.are, before.whole)

  -- All that the JSON is read as.
  pub read_from : (tree : Data) (given : Option (List ℕ)) (items : List Value) (index : ℕ) (rules : List (UrlPattern E × Effect)) (first front faults : List FaultView) → given ≡ (settings_read tree).base → first ≡ member_faults tree
      → GainsBase given base first front → map view items ≡ rules_in tree → length items ≤ index → AreReadBefore (rules_in tree) index rules front faults → AreReadFrom engine tree rules faults
  read_from tree given items index rules first front faults is_given members (base_faults, is_base, gained) are past before =
      let (own, read, whole) = all_read items (rules_in tree) index rules front faults are past before in
      record {
        base = base;
        base_faults = base_faults;
        is_base = subst (λ (it : Option (List ℕ)). IsBaseRead it base base_faults) is_given is_base;
        read = read.read;
        are_read = read.each;
        rules_are = read.rules_are;
        found_are = whole ∙ ap (λ (f : List FaultView). f ++ own) (gained ∙ ap (λ (f : List FaultView). f ++ base_faults) members) ∙ ap (λ (o : List FaultView). (member_faults tree ++ base_faults) ++ o) read.found_are;
      }
