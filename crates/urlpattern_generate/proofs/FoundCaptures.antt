-- Whether captures are the requested ones, part by part.
use Rattle.std.proofs.Common.{◌≡◌, ◌+◌, ◌∙◌, ◌<◌, ◌≤◌, ◌-◌, ℕ, suc, Bool, true, false, List, [], ◌∷◌, add-one, ap, arith, drop, get_or, length, map, refl, sym, subst, Option, Some, None}
use Rattle.std.proofs.Math.Seq.{drop-cons}
use Rattle.std.proofs.lemmas.Bool.{false≢true}
use Rattle.std.proofs.lemmas.List.{drop-map, drop_all, length-drop}
use Rattle.std.proofs.lemmas.Bool.Decides.{nat_tests}
use Rattle.std.specs.Borrow.{Bor}
use Rattle.std.specs.Prelude.{◌↔◌, ◌==◌, IsTrue}
use Rattle.urlpattern_generate.specs.Requested.{AreRequested, IsRequested}
use Rattle.urlpattern_generate.specs.WriteSettings.{WriteSettings}
use Rattle.urlpattern_generate.specs.WrittenTexts.{LeavesRequested}
use Rattle.urlpattern_generate.specs.Links.{OfFirst, captures_after}
use Rattle.urlpattern_meaning.specs.PartMeaning.{Captures}
use Rattle.urlpattern_syntax.specs.declared.parser.Part.{Part}
use Rattle.urlpattern_syntax.specs.declared.parser.PartType.{PartType}
use Rattle.urlpattern_syntax.specs.declared.parser.PartType.TheVariants.{FixedText, FullWildcard, Regexp, SegmentWildcard}
use Rattle.urlpattern_syntax.specs.Parts.{PartView, parts_view}
use Rattle.urlpattern_syntax.specs.Text.{option_text}

abbrev pub Found : Type 0
Found = List (Option (Bor (List ℕ)))

-- ---- the capture at an index

left_from : (found : Found) (i : ℕ) (other : Option (Bor (List ℕ))) → i < length found → drop i (map option_text found) ≡ option_text (get_or found i other) ∷ drop (i + 1) (map option_text found)
left_from found i other within =
    drop-map option_text i found ∙ ap (map option_text) (drop-cons found i other within) ∙ ap (λ rest. option_text (get_or found i other) ∷ rest) (sym (drop-map option_text (suc i) found))
    ∙ ap (λ n. option_text (get_or found i other) ∷ drop n (map option_text found)) (sym (add-one i))

asked_by : (settings : WriteSettings) (kind : PartType) (part : PartView) (capture : Option (List ℕ)) (rest : Captures) → ¬ (kind ≡ FixedText) → IsRequested settings part capture →
    OfFirst (IsRequested settings) kind part (capture ∷ rest) × (captures_after kind (capture ∷ rest) ≡ rest)
asked_by settings FixedText part capture rest group asked = absurd (group refl)
asked_by settings Regexp part capture rest group asked = (asked, refl)
asked_by settings SegmentWildcard part capture rest group asked = (asked, refl)
asked_by settings FullWildcard part capture rest group asked = (asked, refl)

asked_of : (settings : WriteSettings) (kind : PartType) (part : PartView) (capture : Option (List ℕ)) (rest : Captures) → ¬ (kind ≡ FixedText) → OfFirst (IsRequested settings) kind part (capture ∷ rest) → IsRequested settings part capture
asked_of settings FixedText part capture rest group first = absurd (group refl)
asked_of settings Regexp part capture rest group first = first
asked_of settings SegmentWildcard part capture rest group first = first
asked_of settings FullWildcard part capture rest group first = first

module _ (settings : WriteSettings) (part : PartView) (found : Found) (i : ℕ) (other : Option (Bor (List ℕ))) (is : Bool) (group : ¬ (part.kind ≡ FixedText)) (within : i < length found)
    (tested : IsTrue is ↔ IsRequested settings part (option_text (get_or found i other))) where
  pub asked_here : is ≡ true → LeavesRequested settings part (map option_text found) i (Some (i + 1))
  asked_here e =
      subst (λ left. OfFirst (IsRequested settings) part.kind part left × (captures_after part.kind left ≡ drop (i + 1) (map option_text found))) (sym (left_from found i other within))
      (asked_by settings part.kind part (option_text (get_or found i other)) (drop (i + 1) (map option_text found)) group (tested.0 e))

  pub other_here : is ≡ false → LeavesRequested settings part (map option_text found) i None
  other_here e first =
      false≢true (sym e ∙ tested.1 (asked_of settings part.kind part (option_text (get_or found i other)) (drop (i + 1) (map option_text found)) group
      (subst (OfFirst (IsRequested settings) part.kind part) (left_from found i other within) first)))

-- ---- the remaining captures at the end

none_left : (all : Captures) (next : ℕ) → next ≤ length all → IsTrue (next == length all) ↔ (drop next all ≡ [])
none_left all next within = (
  (λ same. drop_all next all (let e : next ≡ length all = grind (arith, nat_tests) in omega arith)),
  (λ none. let many : length all - next ≡ 0 = sym (length-drop next all) ∙ ap length none in grind (arith, nat_tests)),
)

pub left_at_end : (settings : WriteSettings) (list : List Part) (all : Captures) (i next count : ℕ) (Whole : Type 0) → length list ≤ i → next ≤ length all → count ≡ length all →
    AreRequested settings (parts_view (drop i list)) (drop next all) ↔ Whole → IsTrue (next == count) ↔ Whole
left_at_end settings list all i next count Whole past within many are =
    let whole : AreRequested settings [] (drop next all) ↔ Whole = subst (λ parts. AreRequested settings (parts_view parts) (drop next all) ↔ Whole) (drop_all i list past) are in
    let none = none_left all next within in
    ((λ same. whole.0 (none.0 (subst (λ n. IsTrue (next == n)) many same))), (λ asked. subst (λ n. IsTrue (next == n)) (sym many) (none.1 (whole.1 asked))))
