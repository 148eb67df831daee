-- The search for the copies in a capture: the text is split where the character occurs that no
-- copy's text has.
use Rattle.std.proofs.lemmas.Bool.{false≢true}
use Rattle.std.proofs.Common.{◌≡◌, ◌↔◌, ℕ, zero, suc, Bool, true, false, List, [], ◌∷◌, ◌++◌, append_assoc, refl, sym, ap, ◌∙◌, subst, IsTrue}
use Rattle.std.proofs.lemmas.List.{append_cancel_left, append_cancel_right}
use Rattle.std.proofs.lemmas.List.Folds.{list_all-append}
use Rattle.std.specs.Prelude.{◌&&◌, ◌==◌, not}
use Rattle.std.specs.Str.{chars}
use Rattle.urlpattern_generate.specs.CopySearch.{AreSomeWith, IsCutAtFirst, IsTextWithout}
use Rattle.urlpattern_generate.specs.Links.{AreTextsWith}
use Rattle.urlpattern_meaning.proofs.MatchingLaws.{and_left, and_right, lacks_left, lacks_right}
use Rattle.urlpattern_meaning.specs.Matching.{MayBeEmpty}
use Rattle.urlpattern_syntax.specs.Text.{lacks}
use Rattle.urlpattern_matcher.proofs.MatcherTexts.{eqb-self}

-- ---- texts that lack a character

both : (a b : Bool) → IsTrue a → IsTrue b → IsTrue (a && b)
both true b h k = k
both false b h k = h

lacks_both : (c : ℕ) (text more : List ℕ) → IsTrue (lacks c text) → IsTrue (lacks c more) → IsTrue (lacks c (text ++ more))
lacks_both c text more h k = list_all-append (λ other. not (other == c)) text more ∙ both (lacks c text) (lacks c more) h k

-- A text with this first character does not lack the character.
stands_first : (c : ℕ) (text : List ℕ) → ¬ IsTrue (lacks c (c ∷ text))
stands_first c text h = false≢true (sym (ap not (eqb-self c)) ∙ and_left (not (c == c)) (lacks c text) h)

stands_in : (c : ℕ) (front text : List ℕ) → ¬ IsTrue (lacks c (front ++ c ∷ text))
stands_in c front text h = stands_first c text (lacks_right c front (c ∷ text) h)

same_head : (c d : ℕ) (text other : List ℕ) → c ∷ text ≡ d ∷ other → c ≡ d
same_head c d text other e = cc e

same_tail : (c d : ℕ) (text other : List ℕ) → c ∷ text ≡ d ∷ other → text ≡ other
same_tail c d text other e = cc e

-- A text has one split at the first such character.
cut_once : (c : ℕ) (a b p q : List ℕ) → IsTrue (lacks c a) → IsTrue (lacks c p) → a ++ c ∷ b ≡ p ++ c ∷ q → (a ≡ p) × (b ≡ q)
cut_once c [] b [] q h k e = (refl, same_tail c c b q e)
cut_once c [] b (d ∷ p) q h k e = absurd (stands_first c p (subst (λ x. IsTrue (lacks c (x ∷ p))) (sym (same_head c d b (p ++ c ∷ q) e)) k))
cut_once c (d ∷ a) b [] q h k e = absurd (stands_first c a (subst (λ x. IsTrue (lacks c (x ∷ a))) (same_head d c (a ++ c ∷ b) q e) h))
cut_once c (d ∷ a) b (x ∷ p) q h k e =
    let more = cut_once c a b p q (and_right (not (d == c)) (lacks c a) h) (and_right (not (x == c)) (lacks c p) k) (same_tail d x (a ++ c ∷ b) (p ++ c ∷ q) e) in
    (ap (λ y. y ∷ a) (same_head d x (a ++ c ∷ b) (p ++ c ∷ q) e) ∙ ap (λ t. x ∷ t) more.0, more.1)

-- ---- a separator that lacks the character too

longer_left : (may_be_empty : Bool) (text more : List ℕ) → MayBeEmpty may_be_empty text → MayBeEmpty may_be_empty (text ++ more)
longer_left true text more h = tt
longer_left false [] more h = absurd (h refl)
longer_left false (c ∷ text) more h = λ e. cc e

one_of : (mark : ℕ) (may_be_empty : Bool) (between : List ℕ) → IsTrue (lacks mark between) → (n : ℕ) (text : List ℕ) →
    AreTextsWith (IsTextWithout mark may_be_empty) between n text → IsTextWithout mark may_be_empty text
one_of mark may_be_empty between h zero text is = is
one_of mark may_be_empty between h (suc n) text (first, rest, cut, is, more) =
    let last = one_of mark may_be_empty between h n rest more in
    subst (IsTextWithout mark may_be_empty) (sym cut) (
      longer_left may_be_empty first (between ++ rest) is.0,
      lacks_both mark first (between ++ rest) is.1 (lacks_both mark between rest h last.1),
    )

pub one_where_lacking : (mark : ℕ) (may_be_empty : Bool) (between text : List ℕ) → IsTrue (lacks mark between) →
    IsTextWithout mark may_be_empty text ↔ AreSomeWith (IsTextWithout mark may_be_empty) between text
one_where_lacking mark may_be_empty between text h = (λ is. (0, is), λ are. one_of mark may_be_empty between h are.0 text are.1)

-- ---- a separator with the character

parts_of : (first before : List ℕ) (mark : ℕ) (after rest : List ℕ) → first ++ ((before ++ mark ∷ after) ++ rest) ≡ (first ++ before) ++ mark ∷ (after ++ rest)
parts_of first before mark after rest = simp append_assoc

-- The last text.
pub one_where_last : (mark : ℕ) (may_be_empty : Bool) (before after between text : List ℕ) → between ≡ before ++ mark ∷ after → IsTrue (lacks mark text) →
    MayBeEmpty may_be_empty text ↔ AreSomeWith (IsTextWithout mark may_be_empty) between text
one_where_last mark may_be_empty before after between text e h = (λ may. (0, (may, h)), λ are. by_count are.0 are.1)
  where
    by_count : (n : ℕ) → AreTextsWith (IsTextWithout mark may_be_empty) between n text → MayBeEmpty may_be_empty text
    by_count zero is = is.0
    by_count (suc n) (first, rest, cut, is, more) =
        absurd (stands_in mark (first ++ before) (after ++ rest)
        (subst (λ t. IsTrue (lacks mark t)) (cut ∙ ap (λ t. first ++ (t ++ rest)) e ∙ parts_of first before mark after rest) h))

-- The first of such texts is cut off.
record IsFirstCut (mark : ℕ) (may_be_empty : Bool) (before after between front behind : List ℕ) : Type 0 where
  first : List ℕ
  later : List ℕ
  is_front : front ≡ first ++ before
  is_behind : behind ≡ after ++ later
  may : MayBeEmpty may_be_empty first
  are : AreSomeWith (IsTextWithout mark may_be_empty) between later

-- The separator and the texts are split at the first occurrence of the character.
module _ {mark : ℕ} {between before after text front behind : List ℕ} (may_be_empty : Bool) (whole : IsCutAtFirst mark between before after) (here : IsCutAtFirst mark text front behind) where
  first_cut : AreSomeWith (IsTextWithout mark may_be_empty) (chars between) (chars text) → IsFirstCut mark may_be_empty (chars before) (chars after) (chars between) (chars front) (chars behind)
  first_cut (zero, is) = absurd (stands_in mark (chars front) (chars behind) (subst (λ t. IsTrue (lacks mark t)) here.cut is.1))
  first_cut (suc n, (first, rest, also, is, more)) =
      let one = cut_once mark (chars front) (chars behind) (first ++ chars before) (chars after ++ rest) here.is_first (lacks_both mark first (chars before) is.1 whole.is_first)
      (sym here.cut ∙ also ∙ ap (λ t. first ++ (t ++ rest)) whole.cut ∙ parts_of first (chars before) mark (chars after) rest) in
      record { first = first; later = rest; is_front = one.0; is_behind = one.1; may = is.0; are = (n, more) }

  -- The first text is cut off.
  pub more_where_cut : (first later : List ℕ) → chars front ≡ first ++ chars before → chars behind ≡ chars after ++ later → MayBeEmpty may_be_empty first →
      AreSomeWith (IsTextWithout mark may_be_empty) (chars between) (chars text) ↔ AreSomeWith (IsTextWithout mark may_be_empty) (chars between) later
  more_where_cut first later is_front is_behind may = (
    λ are.
        let found = first_cut are in
        subst (AreSomeWith (IsTextWithout mark may_be_empty) (chars between)) (append_cancel_left (chars after) found.later later (sym found.is_behind ∙ is_behind)) found.are,
    λ (n, are). (
      suc n,
      (
        first,
        later,
        here.cut ∙ ap (λ t. t ++ mark ∷ chars behind) is_front ∙ ap (λ t. (first ++ chars before) ++ mark ∷ t) is_behind ∙ sym (parts_of first (chars before) mark (chars after) later)
            ∙ ap (λ t. first ++ (t ++ later)) (sym whole.cut),
        (may, lacks_left mark first (chars before) (subst (λ t. IsTrue (lacks mark t)) is_front here.is_first)),
        are,
      ),
    ),
  )

  pub none_where_no_front : ((first : List ℕ) → ¬ (chars front ≡ first ++ chars before)) → ¬ AreSomeWith (IsTextWithout mark may_be_empty) (chars between) (chars text)
  none_where_no_front never are = let found = first_cut are in never found.first found.is_front

  pub none_where_no_behind : ((later : List ℕ) → ¬ (chars behind ≡ chars after ++ later)) → ¬ AreSomeWith (IsTextWithout mark may_be_empty) (chars between) (chars text)
  none_where_no_behind never are = let found = first_cut are in never found.later found.is_behind

  pub none_where_short : (first : List ℕ) → chars front ≡ first ++ chars before → ¬ MayBeEmpty may_be_empty first → ¬ AreSomeWith (IsTextWithout mark may_be_empty) (chars between) (chars text)
  none_where_short first is_front short are =
      let found = first_cut are in
      short (subst (MayBeEmpty may_be_empty) (append_cancel_right found.first first (chars before) (sym found.is_front ∙ is_front)) found.may)

-- `false` decides a fact that does not hold.
pub refuted : {Is : Type 0} → ¬ Is → IsTrue false ↔ Is
refuted never = (λ t. absurd (false≢true t), λ is. absurd (never is))
