-- Plain fixed texts are removed from the ends of parts in one way.
use Rattle.std.proofs.Common.{◌≡◌, List, [], ◌∷◌, ◌++◌, sym, subst, Some, None, Option, ◌∙◌}
use Rattle.std.proofs.lemmas.List.{append-nil, same_from_push}
use Rattle.std.specs.Prelude.{IsTrue, option_to_list}
use Rattle.urlpattern_meaning.specs.Matching.{AreStripped, BeginsPlain, EndsPlain, IsRemoved}
use Rattle.urlpattern_syntax.specs.Parts.{PartView}
use Rattle.urlpattern_syntax.specs.RegexpText.{is_plain}

-- ---- the end

ends_plain : (parts : List PartView) (last : PartView) → IsTrue (is_plain last) → EndsPlain (parts ++ last ∷ [])
ends_plain [] last h = h
ends_plain (part ∷ []) last h = h
ends_plain (part ∷ next ∷ parts) last h = ends_plain (next ∷ parts) last h

back_one : (middle other : List PartView) (back end : Option PartView) → IsRemoved back (EndsPlain middle) → IsRemoved end (EndsPlain other) →
    middle ++ option_to_list back ≡ other ++ option_to_list end → middle ≡ other
back_one middle other (Some back) (Some end) goes goes_too e = (same_from_push middle other back end e).0
back_one middle other (Some back) None goes stays e = absurd (stays (subst EndsPlain (e ∙ append-nil other) (ends_plain middle back goes)))
back_one middle other None (Some end) stays goes e = absurd (stays (subst EndsPlain (sym e ∙ append-nil middle) (ends_plain other end goes)))
back_one middle other None None stays stays_too e = sym (append-nil middle) ∙ e ∙ append-nil other

-- ---- the beginning

front_one : (parts : List PartView) (front begin : Option PartView) (middle other : List PartView) (back end : Option PartView) →
    parts ≡ option_to_list front ++ middle ++ option_to_list back → parts ≡ option_to_list begin ++ other ++ option_to_list end →
    IsRemoved front (BeginsPlain parts) → IsRemoved begin (BeginsPlain parts) → IsRemoved back (EndsPlain middle) → IsRemoved end (EndsPlain other) → middle ≡ other
front_one parts (Some front) (Some begin) middle other back end e f goes goes_too ends ends_too =
    let both : front ∷ (middle ++ option_to_list back) ≡ begin ∷ (other ++ option_to_list end) = sym e ∙ f in
    back_one middle other back end ends ends_too (cc both)
front_one parts (Some front) None middle other back end e f goes stays ends ends_too = absurd (stays (subst BeginsPlain (sym e) goes))
front_one parts None (Some begin) middle other back end e f stays goes ends ends_too = absurd (stays (subst BeginsPlain (sym f) goes))
front_one parts None None middle other back end e f stays stays_too ends ends_too = back_one middle other back end ends ends_too (sym e ∙ f)

-- At most one middle is left.
pub middle_one : (parts : List PartView) (front begin : Option PartView) (middle other : List PartView) (back end : Option PartView) →
    AreStripped parts front middle back → AreStripped parts begin other end → middle ≡ other
middle_one parts front begin middle other back end peeled peeled_too =
    front_one parts front begin middle other back end peeled.cut peeled_too.cut peeled.front_removed peeled_too.front_removed peeled.back_removed peeled_too.back_removed
