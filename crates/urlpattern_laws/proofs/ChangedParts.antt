-- Parts without their plain ends, where each part is changed and plain ones stay plain.
use Rattle.std.proofs.Common.{◌≡◌, List, [], ◌∷◌, ◌++◌, map, refl, sym, ap, ◌∙◌}
use Rattle.std.proofs.lemmas.List.{map-append}
use Rattle.std.specs.Prelude.{Option, Some, None, option_map, option_to_list}
use Rattle.urlpattern_meaning.specs.Matching.{AreStripped, BeginsPlain, EndsPlain, IsRemoved}
use Rattle.urlpattern_syntax.specs.Parts.{PartView}
use Rattle.urlpattern_syntax.specs.RegexpText.{is_plain}

module _ (changed : PartView → PartView) (plain : (part : PartView) → is_plain (changed part) ≡ is_plain part) where
  list_changed : (part : Option PartView) → map changed (option_to_list part) ≡ option_to_list (option_map changed part)
  list_changed (Some part) = refl
  list_changed None = refl

  begins_changed : (parts : List PartView) → BeginsPlain (map changed parts) → BeginsPlain parts
  begins_changed [] is = is
  begins_changed (part ∷ parts) is = sym (plain part) ∙ is

  ends_changed : (parts : List PartView) → EndsPlain (map changed parts) → EndsPlain parts
  ends_changed [] is = is
  ends_changed (part ∷ []) is = sym (plain part) ∙ is
  ends_changed (part ∷ next ∷ parts) is = ends_changed (next ∷ parts) is

  removed_changed : (part : Option PartView) (There Changed : Type 0) → (Changed → There) → IsRemoved part There → IsRemoved (option_map changed part) Changed
  removed_changed (Some part) There Changed back removed = plain part ∙ removed
  removed_changed None There Changed back removed = λ there. removed (back there)

  pub peeled_changed : (parts : List PartView) (front : Option PartView) (middle : List PartView) (back : Option PartView) → AreStripped parts front middle back →
      AreStripped (map changed parts) (option_map changed front) (map changed middle) (option_map changed back)
  peeled_changed parts front middle back peeled = record {
    cut =
        ap (map changed) peeled.cut ∙ map-append changed (option_to_list front ++ middle) (option_to_list back)
        ∙ ap (λ (ps : List PartView). ps ++ map changed (option_to_list back)) (map-append changed (option_to_list front) middle)
        ∙ ap (λ (ps : List PartView). ps ++ map changed middle ++ map changed (option_to_list back)) (list_changed front)
        ∙ ap (λ (ps : List PartView). option_to_list (option_map changed front) ++ map changed middle ++ ps) (list_changed back);
    front_removed = removed_changed front (BeginsPlain parts) (BeginsPlain (map changed parts)) (begins_changed parts) peeled.front_removed;
    back_removed = removed_changed back (EndsPlain middle) (EndsPlain (map changed middle)) (ends_changed middle) peeled.back_removed;
  }
