-- The groups that took part.
use Rattle.std.proofs.Common.{◌≡◌, ℕ, ◌+◌, ◌<◌, List, [], ◌∷◌, ◌++◌, get_or, length, map, take, ap, sym, ◌∙◌, Bor}
use Rattle.std.proofs.lemmas.Grind.{flat_map-append}
use Rattle.std.proofs.lemmas.List.{append-nil, take_more}
use Rattle.std.proofs.lemmas.List.Elements.{filter_map-append}
use Rattle.std.specs.List.{flat_map}
use Rattle.std.specs.Prelude.{Option, String}
use Rattle.std.specs.declared.alloc.Global.{Global}
use Rattle.urlpattern_components.specs.Eight.{at}
use Rattle.urlpattern_matches.specs.ResultViews.{results_of}
use Rattle.urlpattern_matches.specs.declared.result.UrlPatternResult.{UrlPatternResult}
use Rattle.urlpattern_components.specs.declared.eight.ComponentName.{ComponentName}
use Rattle.urlpattern_matches.specs.BorrowedMatches.{GroupText, NamedGroup, all_listed_groups, borrowed_group, listed_entries, listed_groups, named_groups, text_captured, texts_captured}

abbrev pub Lent : Type 0
Lent = ComponentName × Bor (List ℕ) × Bor (List ℕ)

pub taken-end : (left : List NamedGroup) (gathered : List Lent) (all : List GroupText) → left ≡ [] → map borrowed_group gathered ++ texts_captured left ≡ all → map borrowed_group gathered ≡ all
taken-end left gathered all ends was =
    sym (append-nil (map borrowed_group gathered)) ∙ ap (λ groups. map borrowed_group gathered ++ texts_captured groups) (sym ends) ∙ was

-- ---- the groups of a map

abbrev pub Entries : Type 0
Entries = List (String Global × Option (String Global))

pub entry-end : (component : ComponentName) (left : Entries) (gathered : List Lent) (all : List GroupText) → left ≡ [] →
    map borrowed_group gathered ++ texts_captured (named_groups component (listed_entries left)) ≡ all → map borrowed_group gathered ≡ all
entry-end component left gathered all ends was =
    sym (append-nil (map borrowed_group gathered))
    ∙ ap (λ entries. map borrowed_group gathered ++ texts_captured (named_groups component (listed_entries entries))) (sym ends) ∙ was

-- ---- the groups of a further component

pub component-more : (result : UrlPatternResult) (names : List ComponentName) (i : ℕ) (d : ComponentName) (old new : List Lent) → i < length names →
    map borrowed_group old ≡ texts_captured (all_listed_groups result (take i names)) →
    map borrowed_group new ≡ map borrowed_group old ++ texts_captured (named_groups (get_or names i d) (listed_groups (at (results_of result) (get_or names i d)).groups)) →
    map borrowed_group new ≡ texts_captured (all_listed_groups result (take (i + 1) names))
component-more result names i d old new within was added =
    let groups_of = λ (component : ComponentName). named_groups component (listed_groups (at (results_of result) component).groups) in
    let before = flat_map groups_of (take i names) in
    let component = get_or names i d in
    let one : flat_map groups_of (take (i + 1) names) ≡ before ++ groups_of component =
    ap (flat_map groups_of) (take_more names i d within) ∙ flat_map-append groups_of (take i names) (component ∷ [])
    ∙ ap (λ groups. before ++ groups) (append-nil (groups_of component)) in
    added ∙ ap (λ groups. groups ++ texts_captured (groups_of component)) was
    ∙ sym (filter_map-append text_captured before (groups_of component))
    ∙ ap texts_captured (sym one)
