-- A request that is found is of its case, so that the two rules decide about it.
use Rattle.std.proofs.Common.{◌≡◌, ◌∙◌, ℕ, Bool, true, false, true≢false, List, None, Some, ap, get_or, inl, inr, length, map, refl, slice_get, subst, sym}
use Rattle.std.proofs.lemmas.Bool.{cases_Bool}
use Rattle.std.proofs.lemmas.List.{length-map}
use Rattle.std.specs.Bool.{beq}
use Rattle.std.specs.Prelude.{All, string_bytes, if◌then◌else◌}
use Rattle.urlpattern_compare.specs.Candidates.{TextAt}
use Rattle.urlpattern_compare.specs.CommonTexts.{MeansEach, PatternMeaning}
use Rattle.urlpattern_compare.specs.declared.pattern_parts.PatternParts.{PatternParts}
use Rattle.urlpattern_route_analysis.proofs.FilterLemmas.{each-filter_map}
use Rattle.urlpattern_route_analysis.proofs.MeaningLemmas.{at_url, each_meant, meaning_of, meanings_are, meanings_in, meant_each, meets, url_meaning}
use Rattle.urlpattern_route_analysis.proofs.NamingLemmas.{item_within, named_so, one_name}
use Rattle.urlpattern_route_analysis.specs.Cases.{AreLiteralsWithin, AreSo, IsWithin, LiteralView}
use Rattle.urlpattern_route_analysis.specs.Deciding.{FoundAreDecided, IsUrlIn, is_matched}
use Rattle.urlpattern_route_analysis.specs.Formulas.{AtomView, of_atom, of_name, of_url}
use Rattle.urlpattern_route_analysis.specs.Naming.{AreNamed, IsNamed, is_so}
use Rattle.urlpattern_urls.specs.CommonUrls.{url_at}

module _ (meant : List PatternMeaning) (texts : TextAt) (names : List (List ℕ)) where
  abbrev IsSo : LiteralView → Type 0
  IsSo it = is_so (is_matched meant texts) names it.atom ≡ it.holds

  abbrev Means : PatternMeaning → Type 0
  Means it = MeansEach it texts

  abbrev Fails : PatternMeaning → Type 0
  Fails it = ¬ MeansEach it texts

  url_so : (k : ℕ) (so : Bool) (it : PatternMeaning) → slice_get meant k ≡ Some it → (so ≡ true → Means it) → (so ≡ false → Fails it) → is_matched meant texts k ≡ so
  url_so k so it there means fails = at_url meant texts names k it there ∙ by so means fails
    where
      by : (so : Bool) → (so ≡ true → Means it) → (so ≡ false → Fails it) → meets it texts ≡ so
      by true means fails = each_meant it texts (means refl)
      by false means fails = elim (cases_Bool (meets it texts)) [ inl is ↦ absurd (fails refl (meant_each it texts is)) | inr is ↦ is ]

  -- Where a literal is of a pattern, its meaning is among those of the case.
  literal_so : (literal : LiteralView) → IsWithin (length meant) (of_atom literal.atom) → IsNamed names literal
      → ((it : PatternMeaning) → meaning_of meant true literal ≡ Some it → Means it) → ((it : PatternMeaning) → meaning_of meant false literal ≡ Some it → Fails it) → IsSo literal
  literal_so literal within named means fails = by literal.atom literal.holds within (named_so (is_matched meant texts) names literal named) means fails
    where
      by : (atom : AtomView) (so : Bool) → IsWithin (length meant) (of_atom atom) → ((attribute : ℕ) (name : List ℕ) → atom ≡ of_name attribute name → is_so (is_matched meant texts) names atom ≡ so)
          → ((it : PatternMeaning) → (if beq so true then url_meaning meant atom else None) ≡ Some it → Means it) → ((it : PatternMeaning) → (if beq so false then url_meaning meant atom else None) ≡ Some it → Fails it)
          → is_so (is_matched meant texts) names atom ≡ so
      by (of_name attribute name) so within named means fails = named attribute name refl
      by (of_url k) true within named means fails = let (it, there) = item_within meant k within in url_so k true it there (λ is. means it there) (λ is. absurd (true≢false is))
      by (of_url k) false within named means fails = let (it, there) = item_within meant k within in url_so k false it there (λ is. absurd (true≢false (sym is))) (λ is. fails it there)

  -- Common texts with the names of a case are of the case.
  pub common_so : (literals : List LiteralView) → AreLiteralsWithin (length meant) literals → AreNamed literals names → All Means (meanings_in meant true literals) → All Fails (meanings_in meant false literals)
      → AreSo (is_so (is_matched meant texts) names) literals
  common_so literals within named means fails k d lt =
      literal_so (get_or literals k d) (within k d lt) (named k d lt) (each-filter_map Means (meaning_of meant true) literals means k d lt) (each-filter_map Fails (meaning_of meant false) literals fails k d lt)

pub found_are_decided : FoundAreDecided
found_are_decided analysis ones others it url is has_url meant are =
    let texts = url_at url in
    let names = map string_bytes it.names.items in
    let common = subst (IsUrlIn analysis is.literals) has_url is.url (meanings_in meant true is.literals) (meanings_in meant false is.literals) (meanings_are analysis.patterns.items meant is.literals are) in
    let as_many : length analysis.patterns.items ≡ length meant =
    sym (length-map analysis.patterns.items (λ one. one.parts)) ∙ ap (λ (l : List PatternParts). length l) (sym are.all_parts) ∙ length-map meant (λ one. one.parts) in
    is.decided (is_so (is_matched meant texts) names) (one_name (is_matched meant texts) names)
    (common_so meant texts names is.literals (subst (λ n. AreLiteralsWithin n is.literals) as_many is.within) is.named common.meant common.unmeant)
