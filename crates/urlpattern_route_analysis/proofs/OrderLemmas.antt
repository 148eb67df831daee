-- The order in which cases are gone through, in which none comes twice.
use Rattle.std.proofs.Common.{◌≡◌, ◌∙◌, ◌⊎◌, ℕ, suc, true, true≢false, List, [], ◌∷◌, ◌++◌, Err, ap, append_assoc, arith, inl, inr, length, refl, subst, sym}
use Rattle.std.proofs.lemmas.List.Elements.{All-cons, All-nil, All-weaker}
use Rattle.std.specs.Prelude.{◌<◌, All}
use Rattle.urlpattern_compare.specs.TextSearch.{AreUnlike}
use Rattle.urlpattern_route_analysis.proofs.LeftLemmas.{held, refused}
use Rattle.urlpattern_route_analysis.specs.Cases.{IsCase, IsCaseAfter, IsTurned, LiteralView, NeedManyCases, known_both}
use Rattle.urlpattern_route_analysis.specs.Formulas.{AtomView, FormulaView}

-- The case is gone through before the other one: it is a part of its front, or an atom holds in it
-- that does not in the other one, after the same front.
abbrev pub IsBefore : (done literals : List LiteralView) → Type 0
IsBefore [] [] = ⊥
IsBefore [] (it ∷ rest) = Unit {0}
IsBefore (it ∷ rest) [] = ⊥
IsBefore (it ∷ rest) (other ∷ others) = ((it ≡ other) × IsBefore rest others) ⊎ ((it.holds ≡ true) × (other ≡ refused it.atom))

pub never_itself : (literals : List LiteralView) → ¬ IsBefore literals literals
never_itself [] before = before
never_itself (it ∷ rest) (inl (same, before)) = never_itself rest before
never_itself (it ∷ rest) (inr (holds, other)) = true≢false (sym holds ∙ ap (λ (l : LiteralView). l.holds) other)

pub itself_before_more : (literals : List LiteralView) (atom : AtomView) → IsBefore literals (literals ++ held atom ∷ [])
itself_before_more [] atom = tt
itself_before_more (it ∷ rest) atom = inl (refl, itself_before_more rest atom)

pub before_more : (done literals : List LiteralView) (atom : AtomView) → IsBefore done literals → IsBefore done (literals ++ held atom ∷ [])
before_more [] [] atom before = absurd before
before_more [] (it ∷ rest) atom before = tt
before_more (it ∷ rest) [] atom before = absurd before
before_more (it ∷ rest) (other ∷ others) atom (inl (same, before)) = inl (same, before_more rest others atom before)
before_more (it ∷ rest) (other ∷ others) atom (inr differ) = inr differ

itself_turned : (front : List LiteralView) (atom : AtomView) (back : List LiteralView) → IsBefore (front ++ held atom ∷ back) (front ++ refused atom ∷ [])
itself_turned [] atom back = inr (refl, refl)
itself_turned (it ∷ front) atom back = inl (refl, itself_turned front atom back)

turned_after : (done front : List LiteralView) (atom : AtomView) (back : List LiteralView) → IsBefore done (front ++ held atom ∷ back) → IsBefore done (front ++ refused atom ∷ [])
turned_after [] [] atom back before = tt
turned_after [] (it ∷ front) atom back before = tt
turned_after (it ∷ rest) [] atom back (inl (same, before)) = inr (ap (λ (l : LiteralView). l.holds) same, ap (λ (l : LiteralView). refused l.atom) (sym same))
turned_after (it ∷ rest) [] atom back (inr (holds, other)) = absurd (true≢false (ap (λ (l : LiteralView). l.holds) other))
turned_after (it ∷ rest) (other ∷ front) atom back (inl (same, before)) = inl (same, turned_after rest front atom back before)
turned_after (it ∷ rest) (other ∷ front) atom back (inr differ) = inr differ

pub itself_before_turned : (old new : List LiteralView) → IsTurned old new true → IsBefore old new
itself_before_turned old new (front, atom, back, was, none, now) = subst (λ o. IsBefore o new) (sym was) (subst (IsBefore (front ++ held atom ∷ back)) (sym now) (itself_turned front atom back))

pub before_turned : (done old new : List LiteralView) → IsTurned old new true → IsBefore done old → IsBefore done new
before_turned done old new (front, atom, back, was, none, now) before =
    subst (IsBefore done) (sym now) (turned_after done front atom back (subst (IsBefore done) was before))

module _ (ones others : List FormulaView) where
  case_more_after : (front literals : List LiteralView) (atom : AtomView) → IsCaseAfter ones others front literals → known_both (front ++ literals) ones others ≡ Err atom
      → IsCaseAfter ones others front (literals ++ held atom ∷ [])
  case_more_after front [] atom is asks = (subst (λ l. known_both l ones others ≡ Err atom) (append_nil front) asks, tt)
    where
      append_nil : (l : List LiteralView) → l ++ [] ≡ l
      append_nil [] = refl
      append_nil (x ∷ l) = ap (λ rest. x ∷ rest) (append_nil l)
  case_more_after front (it ∷ rest) atom (asked, is) asks =
      (asked, case_more_after (front ++ it ∷ []) rest atom is (subst (λ l. known_both l ones others ≡ Err atom) (sym (append_assoc front (it ∷ []) rest)) asks))

  pub case_more : (literals : List LiteralView) (atom : AtomView) → IsCase ones others literals → known_both literals ones others ≡ Err atom → IsCase ones others (literals ++ held atom ∷ [])
  case_more literals atom is asks = case_more_after [] literals atom is asks

  case_turned_after : (before front : List LiteralView) (atom : AtomView) (back : List LiteralView) → IsCaseAfter ones others before (front ++ held atom ∷ back) → IsCaseAfter ones others before (front ++ refused atom ∷ [])
  case_turned_after before [] atom back (asked, is) = (asked, tt)
  case_turned_after before (it ∷ front) atom back (asked, is) = (asked, case_turned_after (before ++ it ∷ []) front atom back is)

  pub case_turned : (old new : List LiteralView) → IsTurned old new true → IsCase ones others old → IsCase ones others new
  case_turned old new (front, atom, back, was, none, now) is =
      subst (IsCase ones others) (sym now) (case_turned_after [] front atom back (subst (IsCase ones others) was is))

  -- As many cases were gone through, each before the case of the literals, and none twice.
  pub record AreSeen (literals : List LiteralView) (seen : ℕ) : Type 0 where
    pub done : List (List LiteralView)
    pub count : length done ≡ seen
    pub apart : AreUnlike (λ one other. one ≡ other) done
    pub cases : All (IsCase ones others) done
    pub before : All (λ one. IsBefore one literals) done
    pub is_case : IsCase ones others literals

  pub none_seen : AreSeen [] 0
  none_seen = record { done = []; count = refl; apart = tt; cases = All-nil (IsCase ones others); before = All-nil (λ one. IsBefore one []); is_case = tt }

  -- The case of the literals is another one than those before it.
  another : (literals : List LiteralView) (seen : ℕ) → (are : AreSeen literals seen) → All (λ one. ¬ (literals ≡ one)) are.done
  another literals seen are = All-weaker (λ one. IsBefore one literals) (λ one. ¬ (literals ≡ one)) (λ one before same. never_itself literals (subst (λ l. IsBefore l literals) (sym same) before)) are.done are.before

  -- The next case, before which come this one and those before it.
  pub seen_next : (literals next : List LiteralView) (seen : ℕ) → AreSeen literals seen → IsBefore literals next → ((one : List LiteralView) → IsBefore one literals → IsBefore one next)
      → IsCase ones others next → AreSeen next (suc seen)
  seen_next literals next seen are itself earlier is_case = record {
    done = literals ∷ are.done;
    count = ap (λ n. suc n) are.count;
    apart = (another literals seen are, are.apart);
    cases = All-cons (IsCase ones others) literals are.done are.is_case are.cases;
    before = All-cons (λ one. IsBefore one next) literals are.done itself (All-weaker (λ one. IsBefore one literals) (λ one. IsBefore one next) earlier are.done are.before);
    is_case = is_case;
  }

  -- With the case of the literals there are more cases than were gone through.
  pub many : (literals : List LiteralView) (seen most : ℕ) → AreSeen literals seen → most ≡ seen → NeedManyCases ones others most
  many literals seen most are enough =
      (literals ∷ are.done, more (length are.done) most (enough ∙ sym are.count), (another literals seen are, are.apart), All-cons (IsCase ones others) literals are.done are.is_case are.cases)
    where
      more : (n m : ℕ) → m ≡ n → m < suc n
      more n m same = omega (arith, same)
