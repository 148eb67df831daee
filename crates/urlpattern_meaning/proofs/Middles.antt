-- At most one text is between the prefix and the suffix of a matcher.
use Rattle.std.proofs.Common.{◌≡◌, ℕ, ◌+◌, Bool, true, false, List, ◌++◌, length, take, drop, refl, sym, ap, ◌∙◌, arith}
use Rattle.std.proofs.lemmas.List.{drop_at, length-append, length-map, take_at}
use Rattle.std.specs.Char.{to_ascii_lowercase}
use Rattle.urlpattern_meaning.specs.Matching.{HasMiddle, IsSame, MatcherView}

-- Equal texts whose beginnings have one length have equal rests.
pub rest_one : (front other rest last : List ℕ) → length front ≡ length other → front ++ rest ≡ other ++ last → rest ≡ last
rest_one front other rest last len e =
    sym (drop_at front rest (length other) len) ∙ ap (λ t. drop (length other) t) e ∙ drop_at other last (length other) refl

front_one : (front other rest last : List ℕ) → length rest ≡ length last → front ++ rest ≡ other ++ last → front ≡ other
front_one front other rest last len e =
    let both : length front + length rest ≡ length other + length last = sym (length-append front rest) ∙ ap length e ∙ length-append other last in
    let same : length front ≡ length other = omega arith in
    sym (take_at front rest (length other) same) ∙ ap (λ t. take (length other) t) e ∙ take_at other last (length other) refl

-- Texts that are equal except for case have one length.
pub same-length : (ignore_case : Bool) (text other : List ℕ) → IsSame ignore_case text other → length text ≡ length other
same-length true text other same = sym (length-map text to_ascii_lowercase) ∙ ap length same ∙ length-map other to_ascii_lowercase
same-length false text other same = ap length same

-- At most one text is between prefix and suffix.
pub middle-one : {E : Type 0} (matcher : MatcherView E) (text one other : List ℕ) → HasMiddle matcher text one → HasMiddle matcher text other → one ≡ other
middle-one matcher text one other (front, back, e, begins, ends) (front', back', e', begins', ends') =
    let fronts : length front ≡ length front' = same-length matcher.ignore_case front matcher.prefix begins ∙ sym (same-length matcher.ignore_case front' matcher.prefix begins') in
    let backs : length back ≡ length back' = same-length matcher.ignore_case back matcher.suffix ends ∙ sym (same-length matcher.ignore_case back' matcher.suffix ends') in
    rest_one front front' one other fronts (front_one (front ++ one) (front' ++ other) back back' backs (sym e ∙ e'))
