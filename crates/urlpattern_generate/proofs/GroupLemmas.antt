-- What a group may capture, by the steps of the code.
use Rattle.std.proofs.Common.{◌≡◌, ◌↔◌, ◌⊎◌, ℕ, zero, suc, Bool, true, false, List, [], ◌∷◌, ◌++◌, append_assoc, arith, ap, inl, inr, refl, sym, subst, length, ◌∙◌, Some, None, Result, Ok, Err}
use Rattle.std.proofs.lemmas.Bool.{false≢true}
use Rattle.std.specs.Prelude.{◌&&◌, ◌==◌, IfOk, IsTrue, not, unwrap_or}
use Rattle.std.specs.Str.{IsUtf8, chars}
use Rattle.urlpattern_generate.specs.CopySearch.{AreSomeWith, IsTextWithout}
use Rattle.urlpattern_generate.specs.Links.{AreTextsWith, IsCopyText, IsOfCopies, fewest_copies}
use Rattle.urlpattern_meaning.specs.Matching.{MayBeEmpty}
use Rattle.urlpattern_meaning.specs.PartMeaning.{Allows, capture_of_none}
use Rattle.urlpattern_syntax.proofs.StringTexts.{is_empty-str}
use Rattle.urlpattern_syntax.specs.declared.parser.PartModifier.{PartModifier}
use Rattle.urlpattern_syntax.specs.declared.parser.PartModifier.TheVariants as modifiers
use Rattle.urlpattern_syntax.specs.declared.parser.PartType.{PartType}
use Rattle.urlpattern_syntax.specs.declared.parser.PartType.TheVariants.{FullWildcard, SegmentWildcard}
use Rattle.urlpattern_syntax.specs.Options.{OptionsView}
use Rattle.urlpattern_syntax.specs.Parts.{PartView}
use Rattle.urlpattern_syntax.specs.RegexpText.{is_empty}
use Rattle.urlpattern_syntax.specs.Text.{line_feed}

-- ---- texts that may be empty

some_chars : (text : List ℕ) → IsTrue (not (is_empty text)) ↔ (¬ (text ≡ []))
some_chars [] = (λ h. absurd (false≢true h), λ h. absurd (h refl))
some_chars (c ∷ text) = (λ h e. cc e, λ h. refl)

pub long_enough : (may_be_empty : Bool) (text : List ℕ) → IsUtf8 text → may_be_empty ≡ false → IsTrue (not (length text == 0)) ↔ MayBeEmpty may_be_empty (chars text)
long_enough true text u e = absurd (false≢true (sym e))
long_enough false text u e = subst (λ b. IsTrue (not b) ↔ (¬ (chars text ≡ []))) (is_empty-str text u) (some_chars (chars text))

-- A known fact and a tested one hold together.
pub beside : {P Q : Type 0} (r : Bool) → P → IsTrue r ↔ Q → IsTrue r ↔ (P × Q)
beside r p tested = (λ t. (p, tested.0 t), λ both. tested.1 both.1)

-- ---- zero copies

none_by : (bare : Bool) (text : List ℕ) → IsTrue (bare && is_empty text) ↔ (Unit {0} × (Some text ≡ capture_of_none modifiers.ZeroOrMore bare))
none_by true [] = (λ h. (tt, refl), λ h. refl)
none_by true (c ∷ text) = (λ h. absurd (false≢true h), λ h. cc h.1)
none_by false text = (λ h. absurd (false≢true h), λ h. cc h.1)

-- The test for the capture of zero copies.
pub none_tested : (modifier : PartModifier) (bare found : Bool) (text : List ℕ) (r : Bool) → modifier ≡ modifiers.ZeroOrMore → found ≡ bare → r ≡ (found && is_empty text) →
    IsTrue r ↔ (Allows modifier 0 × (Some text ≡ capture_of_none modifier bare))
none_tested modifier bare found text r e f g =
    subst (λ m. IsTrue r ↔ (Allows m 0 × (Some text ≡ capture_of_none m bare))) (sym e)
    (subst (λ b. IsTrue b ↔ (Unit {0} × (Some text ≡ capture_of_none modifiers.ZeroOrMore bare))) (sym (g ∙ ap (λ b. b && is_empty text) f)) (none_by bare text))

missing_by : (bare : Bool) → IsTrue (not bare) ↔ ((Unit {0} × (None ≡ capture_of_none modifiers.ZeroOrMore bare)) ⊎ ⊥)
missing_by true = (λ h. absurd (false≢true h), λ h. elim h [ inl p ↦ cc p.1 | inr n ↦ absurd n ])
missing_by false = (λ h. inl (tt, refl), λ h. refl)

pub missing_tested : (modifier : PartModifier) (bare found : Bool) → modifier ≡ modifiers.ZeroOrMore → found ≡ bare →
    IsTrue (not found) ↔ ((Allows modifier 0 × (None ≡ capture_of_none modifier bare)) ⊎ ⊥)
missing_tested modifier bare found e f =
    subst (λ m. IsTrue (not found) ↔ ((Allows m 0 × (None ≡ capture_of_none m bare)) ⊎ ⊥)) (sym e)
    (subst (λ b. IsTrue (not b) ↔ ((Unit {0} × (None ≡ capture_of_none modifiers.ZeroOrMore bare)) ⊎ ⊥)) (sym f) (missing_by bare))

-- ---- copies

abbrev pub IsRepeatedBy : PartModifier → Type 0
IsRepeatedBy modifier = (modifier ≡ modifiers.ZeroOrMore) ⊎ (modifier ≡ modifiers.OneOrMore)

allows_more : (modifier : PartModifier) (n : ℕ) → IsRepeatedBy modifier → Allows modifier (suc n)
allows_more modifier n (inl e) = subst (λ m. Allows m (suc n)) (sym e) tt
allows_more modifier n (inr e) = subst (λ m. Allows m (suc n)) (sym e) (omega arith)

-- A repeated group may capture any number of texts.
pub copies_tested : (Is : List ℕ → Type 0) (part : PartView) (between text : List ℕ) (r : Bool) → IsRepeatedBy part.modifier → between ≡ part.suffix ++ part.prefix →
    IsTrue r ↔ AreSomeWith Is between text → IsTrue r ↔ IsOfCopies Is part (Some text)
copies_tested Is part between text r repeated e tested = (
  λ t. let are = tested.0 t in (are.0, allows_more part.modifier are.0 repeated, subst (λ b. AreTextsWith Is b are.0 text) e are.1),
  λ are. tested.1 (are.0, subst (λ b. AreTextsWith Is b are.0 text) (sym e) are.2),
)

texts_weaker : (Is Also : List ℕ → Type 0) (between : List ℕ) → ((text : List ℕ) → Is text → Also text) → (n : ℕ) (text : List ℕ) → AreTextsWith Is between n text → AreTextsWith Also between n text
texts_weaker Is Also between weaker zero text is = weaker text is
texts_weaker Is Also between weaker (suc n) text (first, rest, cut, is, more) = (first, rest, cut, weaker first is, texts_weaker Is Also between weaker n rest more)

copies_same : (Is Also : List ℕ → Type 0) (part : PartView) (text : List ℕ) → ((other : List ℕ) → Is other ↔ Also other) → IsOfCopies Is part (Some text) ↔ IsOfCopies Also part (Some text)
copies_same Is Also part text same = (
  λ are. (are.0, are.1, texts_weaker Is Also (part.suffix ++ part.prefix) (λ t. (same t).0) are.0 text are.2),
  λ are. (are.0, are.1, texts_weaker Also Is (part.suffix ++ part.prefix) (λ t. (same t).1) are.0 text are.2),
)

-- A result that decides a fact also decides an equivalent one.
answer_weaker : {Fault : Type 0} (r : Result Bool Fault) (P Q : Type 0) → P ↔ Q → IfOk r (λ are. IsTrue are ↔ P) → IfOk r (λ are. IsTrue are ↔ Q)
answer_weaker (Ok are) P Q same h = (λ t. same.0 (h.0 t), λ q. h.1 (same.1 q))
answer_weaker (Err fault) P Q same h = tt

pub segment_tested : {Fault : Type 0} (options : OptionsView) (kind : PartType) (part : PartView) (mark : ℕ) (text : List ℕ) (r : Result Bool Fault) → kind ≡ SegmentWildcard →
    mark ≡ unwrap_or options.delimiter line_feed → IfOk r (λ are. IsTrue are ↔ IsOfCopies (IsTextWithout mark false) part (Some text)) →
    IfOk r (λ are. IsTrue are ↔ IsOfCopies (IsCopyText options kind) part (Some text))
segment_tested options kind part mark text r e f tested =
    subst (λ k. IfOk r (λ are. IsTrue are ↔ IsOfCopies (IsCopyText options k) part (Some text))) (sym e)
    (subst (λ m. IfOk r (λ are. IsTrue are ↔ IsOfCopies (IsTextWithout m false) part (Some text))) f tested)

pub full_tested : {Fault : Type 0} (options : OptionsView) (kind : PartType) (part : PartView) (text : List ℕ) (r : Result Bool Fault) → kind ≡ FullWildcard →
    IfOk r (λ are. IsTrue are ↔ IsOfCopies (IsTextWithout line_feed true) part (Some text)) → IfOk r (λ are. IsTrue are ↔ IsOfCopies (IsCopyText options kind) part (Some text))
full_tested options kind part text r e tested =
    subst (λ k. IfOk r (λ are. IsTrue are ↔ IsOfCopies (IsCopyText options k) part (Some text))) (sym e)
    (answer_weaker r _ _ (copies_same (IsTextWithout line_feed true) (IsCopyText options FullWildcard) part text (λ other. (λ is. is.1, λ is. (tt, is)))) tested)

-- ---- what is written

pub fewest_one : (modifier : PartModifier) (text : List ℕ) → (modifier ≡ modifiers.None) ⊎ (modifier ≡ modifiers.OneOrMore) → fewest_copies modifier text ≡ text
fewest_one modifier text (inl e) = ap (λ m. fewest_copies m text) e
fewest_one modifier text (inr e) = ap (λ m. fewest_copies m text) e

pub after_three : (old prefix between suffix first second third : List ℕ) → first ≡ old ++ prefix → second ≡ first ++ between → third ≡ second ++ suffix →
    third ≡ old ++ (prefix ++ between ++ suffix)
after_three old prefix between suffix first second third e f g =
    g ∙ ap (λ t. t ++ suffix) (f ∙ ap (λ t. t ++ between) e) ∙ (let same : ((old ++ prefix) ++ between) ++ suffix ≡ old ++ (prefix ++ between ++ suffix) = simp append_assoc in same)
