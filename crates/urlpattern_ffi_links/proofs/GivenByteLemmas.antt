-- Lemmas on the texts for groups.
use Rattle.std.proofs.Common.{◌≡◌, ◌+◌, ◌<◌, ◌≤◌, ℕ, List, [], ◌∷◌, ◌++◌, get_or, length, subst, sym, take, take_all}
use Rattle.std.proofs.lemmas.List.{get_or_default, take_more}
use Rattle.std.proofs.lemmas.Slice.Zip.{all_zipped_more}
use Rattle.std.specs.List.{AllZip}
use Rattle.std.specs.Prelude.{Any}
use Rattle.urlpattern_ffi_links.specs.GivenBytes.{GivesGroup, GivesNothing, GroupOfBytes}
use Rattle.urlpattern_ffi_links.specs.declared.given.GivenBytes.{GivenBytes}

module _ (text : List ℕ) where
  -- A part that gives a group is appended.
  pub given_more : (parts : List GivenBytes) (i : ℕ) (d : GivenBytes) (old new : List GroupOfBytes) (group : GroupOfBytes) → i < length parts → new ≡ old ++ group ∷ [] → GivesGroup text (get_or parts i d) group
      → AllZip (GivesGroup text) (take i parts) old → AllZip (GivesGroup text) (take (i + 1) parts) new
  given_more parts i d old new group within is_new gives was =
      subst (λ (taken : List GivenBytes). AllZip (GivesGroup text) taken new) (sym (take_more parts i d within))
      (subst (λ (all : List GroupOfBytes). AllZip (GivesGroup text) (take i parts ++ get_or parts i d ∷ []) all) (sym is_new)
      (all_zipped_more (GivesGroup text) (take i parts) old (get_or parts i d) group was gives))

  pub given_all : (parts : List GivenBytes) (i : ℕ) (groups : List GroupOfBytes) → length parts ≤ i → AllZip (GivesGroup text) (take i parts) groups → AllZip (GivesGroup text) parts groups
  given_all parts i groups past was = subst (λ (taken : List GivenBytes). AllZip (GivesGroup text) taken groups) (take_all i parts past) was

  -- A part that gives no group is an element.
  pub nothing_given : (parts : List GivenBytes) (i : ℕ) (d : GivenBytes) → i < length parts → GivesNothing text (get_or parts i d) → Any (GivesNothing text) parts
  nothing_given parts i d within nothing = (i, get_or parts i d, within, get_or_default parts i (get_or parts i d) d within, nothing)
