-- Lemmas on the names of the groups of a list of parts.
use Rattle.std.proofs.Common.{◌≡◌, ◌<◌, ◌+◌, ◌∙◌, ℕ, suc, Bool, true, false, not, cond, List, [], ◌∷◌, ◌++◌, length, get_or, map, take, drop, refl, sym, ap, arith, length-append}
use Rattle.std.proofs.lemmas.List.{map-append, take_more}
use Rattle.std.proofs.lemmas.List.Elements.{filter-append}
use Rattle.std.specs.List.{filter}
use Rattle.urlpattern_syntax.proofs.Escaped.{cut_at}
use Rattle.urlpattern_syntax.specs.declared.parser.Part.{Part}
use Rattle.urlpattern_syntax.specs.Parts.{PartView, part_view}
use Rattle.urlpattern_syntax.specs.RegexpText.{group_names, is_fixed_text}
use Rattle.urlpattern_syntax.specs.Text.{text_of}

abbrev pub is_group : Part → Bool
is_group part = not (is_fixed_text part.kind)

-- The names of a list of parts.
abbrev pub names_of : List Part → List (List ℕ)
names_of parts = group_names (map part_view parts)

-- ---- one name for each group

counted_with : (b : Bool) (part : Part) (views : List PartView) (parts : List Part) → length (map (λ (view : PartView). view.name) views) ≡ length parts
    → length (map (λ (view : PartView). view.name) (cond b (part_view part ∷ views) views)) ≡ length (cond b (part ∷ parts) parts)
counted_with true part views parts e = omega (arith, e)
counted_with false part views parts e = e

pub names-counted : (parts : List Part) → length (names_of parts) ≡ length (filter is_group parts)
names-counted [] = refl
names-counted (part ∷ parts) = counted_with (is_group part) part (filter (λ (view : PartView). not (is_fixed_text view.kind)) (map part_view parts)) (filter is_group parts) (names-counted parts)

-- ---- a part, and lists of parts end to end

pub names-group : (part : Part) → is_group part ≡ true → names_of (part ∷ []) ≡ text_of part.name ∷ []
names-group part e = rw e

pub names-other : (part : Part) → is_group part ≡ false → names_of (part ∷ []) ≡ []
names-other part e = rw e

pub names-append : (xs ys : List Part) → names_of (xs ++ ys) ≡ names_of xs ++ names_of ys
names-append xs ys =
    let is_named : PartView → Bool = λ view. not (is_fixed_text view.kind) in
    ap (λ views. group_names views) (map-append part_view xs ys)
    ∙ ap (λ views. map (λ (view : PartView). view.name) views) (filter-append is_named (map part_view xs) (map part_view ys))
    ∙ map-append (λ (view : PartView). view.name) (filter is_named (map part_view xs)) (filter is_named (map part_view ys))

-- ---- in a loop over the parts

pub names-more : (list : List Part) (i : ℕ) (part : Part) → i < length list → part ≡ get_or list i part → names_of (take (i + 1) list) ≡ names_of (take i list) ++ names_of (part ∷ [])
names-more list i part below here =
    ap (λ xs. names_of xs) (take_more list i part below ∙ ap (λ x. take i list ++ x ∷ []) (sym here)) ∙ names-append (take i list) (part ∷ [])

-- The names before a group are fewer than all names.
pub names-left : (list : List Part) (i : ℕ) (part : Part) → i < length list → part ≡ get_or list i part → is_group part ≡ true → length (names_of (take i list)) < length (names_of list)
names-left list i part below here group =
    let rest = names_of (drop (suc i) list) in
    let cut : names_of list ≡ names_of (take i list) ++ (names_of (part ∷ []) ++ rest) =
    ap (λ xs. names_of xs) (cut_at list i part below here) ∙ names-append (take i list) (part ∷ drop (suc i) list)
    ∙ ap (λ names. names_of (take i list) ++ names) (names-append (part ∷ []) (drop (suc i) list)) in
    let named : names_of list ≡ names_of (take i list) ++ (text_of part.name ∷ rest) = cut ∙ ap (λ names. names_of (take i list) ++ (names ++ rest)) (names-group part group) in
    omega (arith, ap (λ names. length names) named, length-append (names_of (take i list)) (text_of part.name ∷ rest))
