-- The first way is a meaning, exists wherever there is a meaning, and follows the text of the tree.
use Rattle.std.proofs.Common.{◌≡◌, ◌↔◌, ℕ, List, Option, [], ◌∷◌, ◌++◌, length, Some, None, option_map, Bool, true, false, cond, find, refl, sym, ap, ◌∙◌, subst, append-nil, inl, inr, eqb-true}
use Rattle.std.specs.List.{Contains}
use Rattle.std.specs.Prelude.{MatchOption}
use Rattle.std.proofs.lemmas.List.{nil_from_length}
use Rattle.std.proofs.lemmas.Option.{none-some, same_Some}
use Rattle.urlpattern_meaning.specs.Dialect.{Follows, Items, IsTreeOf, group_count, AreItems, Means}
use Rattle.urlpattern_meaning.specs.PartMeaning.{Captures}
use Rattle.urlpattern_meaning.specs.Ways.{Way, ways, first_way, first_way_by}
use Rattle.urlpattern_meaning.proofs.DialectUnique.{only_tree}
use Rattle.urlpattern_meaning.proofs.WayLists.{Every, Has, contains-has, every-has, has-contains}
use Rattle.urlpattern_meaning.proofs.WaysSound.{IsSound, ways-sound, means-count}
use Rattle.urlpattern_meaning.proofs.WaysComplete.{way_of, ways-complete}
use Rattle.urlpattern_meaning.proofs.WaysJoined.{takes_all}

pub found : (text : List ℕ) (Is : List ℕ → Captures → Type 0) (all : List Way) (captures : Captures) → Every (IsSound text Is) all
    → option_map (λ way. way.captures) (find takes_all all) ≡ Some captures → Is text captures
found text Is [] captures every e = absurd (none-some _ e)
found text Is (way ∷ all) captures every e = by (takes_all way) refl e (found text Is all captures every.1)
  where
    by : (b : Bool) → takes_all way ≡ b → option_map (λ (w : Way). w.captures) (cond b (Some way) (find takes_all all)) ≡ Some captures
        → (option_map (λ (w : Way). w.captures) (find takes_all all) ≡ Some captures → Is text captures) → Is text captures
    by true t f later =
        let whole : way.rest ≡ [] = nil_from_length way.rest (eqb-true _ _ t) in
        let same : text ≡ way.taken = every.0.0 ∙ ap (λ r. way.taken ++ r) whole ∙ append-nil way.taken in
        subst (λ t. Is t captures) (sym same) (subst (Is way.taken) (same_Some _ _ f) every.0.1)
    by false t f later = later f

pub first_way_means : (tree : Items) → AreItems tree → (text : List ℕ) (captures : Captures) → first_way tree text ≡ Some captures → Means tree text captures
unfolding first_way_by
first_way_means tree h text captures e = found text (Means tree) (ways tree text) captures (ways-sound tree h text) e

pub not_found : (all : List Way) (taken : List ℕ) (captures : Captures) → Has (way_of taken captures []) all
    → option_map (λ way. way.captures) (find takes_all all) ≡ None → ⊥
not_found [] taken captures h e = h
not_found (way ∷ all) taken captures (inl same) e = none-some _ (sym (subst (λ (w : Way). option_map (λ (x : Way). x.captures) (cond (takes_all w) (Some w) (find takes_all all)) ≡ None) (sym same) e))
not_found (way ∷ all) taken captures (inr h) e = by (takes_all way) e (not_found all taken captures h)
  where
    by : (b : Bool) → option_map (λ (w : Way). w.captures) (cond b (Some way) (find takes_all all)) ≡ None → (option_map (λ (w : Way). w.captures) (find takes_all all) ≡ None → ⊥) → ⊥
    by true f later = none-some _ (sym f)
    by false f later = later f

pub no_way_means_none : (tree : Items) → AreItems tree → (text : List ℕ) → first_way tree text ≡ None → (captures : Captures) → ¬ Means tree text captures
unfolding first_way_by
no_way_means_none tree h text e captures m =
    not_found (ways tree text) text captures (subst (λ t. Has (way_of text captures []) (ways tree t)) (append-nil text) (ways-complete tree h text captures [] m)) e

pub first_way_counts : (tree : Items) → AreItems tree → (text : List ℕ) (captures : Captures) → first_way tree text ≡ Some captures → length captures ≡ group_count tree
first_way_counts tree h text captures e = means-count tree h text captures (first_way_means tree h text captures e)

-- The ways are exactly the meanings of the beginnings of a text.
pub ways_are_meanings : (tree : Items) → AreItems tree → (text : List ℕ) (way : Way) → Contains (ways tree text) way ↔ ((text ≡ way.taken ++ way.rest) × Means tree way.taken way.captures)
ways_are_meanings tree h text way = (
  λ among. every-has (IsSound text (Means tree)) way (ways tree text) (ways-sound tree h text) (has-contains way (ways tree text) among),
  λ means.
      contains-has way (ways tree text)
      (subst (λ t. Has way (ways tree t)) (sym means.0) (ways-complete tree h way.taken way.captures way.rest means.1)),
)

-- ---- engines

pub meant_or_none : (tree : Items) → AreItems tree → (text : List ℕ) (answer : Option Captures) → first_way tree text ≡ answer →
    MatchOption answer ((captures : Captures) → ¬ Means tree text captures) (λ captures. Means tree text captures)
meant_or_none tree h text None e = no_way_means_none tree h text e
meant_or_none tree h text (Some captures) e = first_way_means tree h text captures e

-- A function that returns the first way follows the tree's text.
pub first_way_follows : (regexp : List ℕ) (tree : Items) → IsTreeOf regexp tree → Follows regexp (first_way tree)
first_way_follows regexp tree is = record {
  tree = tree;
  is_tree = only_tree regexp tree is;
  answers = λ text scalars. meant_or_none tree is.1 text (first_way tree text) refl;
}
