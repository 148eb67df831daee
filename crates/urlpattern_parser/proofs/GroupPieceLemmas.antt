-- Lemmas on a placeholder between texts, where the pending text before it is added.
use Rattle.std.proofs.Common.{◌≡◌, List, ℕ, [], ◌∷◌, ◌++◌, refl, ap, ◌∙◌, subst, inl, inr}
use Rattle.std.specs.Prelude.{Contains, Ok, Err}
use Rattle.urlpattern_syntax.specs.declared.parser.PartModifier.{PartModifier}
use Rattle.urlpattern_syntax.specs.declared.parser.PartType.{PartType}
use Rattle.urlpattern_syntax.specs.Errors.{ErrorView, ErrorView as error_views}
use Rattle.urlpattern_syntax.specs.Options.{OptionsView}
use Rattle.urlpattern_syntax.specs.Parsing.{AddsParts, PartListView, item_demands, pending_items}
use Rattle.urlpattern_syntax.specs.Pieces.{PlaceholderKindView, Placeholder}
use Rattle.urlpattern_syntax.specs.Reading.{Capture, Encoding, FirstFails, Item, capture_part, placeholder_regexp, kind_of, name_or, value_of}
use Rattle.urlpattern_syntax.specs.RegexpText.{group_names}
use Rattle.urlpattern_syntax.proofs.ReadingLemmas.{adds_item, fails_item}

-- The part of a placeholder, by its fields.
pub capture_view : (options : OptionsView) (prefix name : List ℕ) (match : PlaceholderKindView) (suffix : List ℕ) (modifier : PartModifier) (kind : PartType) (value : List ℕ) → kind ≡ kind_of options (placeholder_regexp options match) → value ≡ value_of kind (placeholder_regexp options match) → record { kind = kind; value = value; modifier = modifier; name = name; prefix = prefix; suffix = suffix } ≡ capture_part options prefix name match suffix modifier
capture_view options prefix name match suffix modifier kind value e f = λ i. record {
  kind = e i;
  value = (f ∙ ap (λ k. value_of k (placeholder_regexp options match)) e) i;
  modifier = modifier;
  name = name;
  prefix = prefix;
  suffix = suffix;
}

-- `mid` is the list after the pending text is added; the placeholder has the number that it had
-- before.
module _ (options : OptionsView) (encoding : Encoding) (old mid : PartListView) (added : AddsParts options encoding old (pending_items old.pending) mid) (same : mid.number ≡ old.number)
    (prefix : List ℕ) (placeholder : Placeholder) (suffix : List ℕ) (modifier : PartModifier) where
  abbrev name_at : ℕ → List ℕ
  name_at number = name_or placeholder.name number

  abbrev group : Item
  group = Capture prefix (name_at old.number) placeholder.matched suffix modifier

  is_new : ¬ Contains (group_names mid.parts) (name_at mid.number) → ¬ Contains (group_names mid.parts) (name_at old.number)
  is_new = subst (λ number. ¬ Contains (group_names mid.parts) (name_at number)) same

  -- A demand of the placeholder fails.
  fails_group : (error : ErrorView) → FirstFails encoding (item_demands (group_names mid.parts) (group ∷ [])) error → FirstFails encoding (item_demands (group_names old.parts) (pending_items old.pending ++ group ∷ [])) error
  fails_group error h = fails_item options encoding old mid (pending_items old.pending) added group error h

  pub name_fails : (error : ErrorView) → Contains (group_names mid.parts) (name_at mid.number) × (error ≡ error_views.DuplicateName (name_at mid.number)) →
      FirstFails encoding (item_demands (group_names old.parts) (pending_items old.pending ++ group ∷ [])) error
  name_fails error h =
      fails_group error (inl (subst (λ number. Contains (group_names mid.parts) (name_at number) × (error ≡ error_views.DuplicateName (name_at number))) same h))

  pub prefix_fails : (error : ErrorView) → ¬ Contains (group_names mid.parts) (name_at mid.number) → encoding prefix (Err error) →
      FirstFails encoding (item_demands (group_names old.parts) (pending_items old.pending ++ group ∷ [])) error
  prefix_fails error new h = fails_group error (inr (is_new new, inl h))

  pub suffix_fails : (before : List ℕ) (error : ErrorView) → ¬ Contains (group_names mid.parts) (name_at mid.number) → encoding prefix (Ok before) → encoding suffix (Err error) →
      FirstFails encoding (item_demands (group_names old.parts) (pending_items old.pending ++ group ∷ [])) error
  suffix_fails before error new h g = fails_group error (inr (is_new new, inr ((before, h), inl g)))

  -- All demands are met, and the part is after the others.
  pub adds_group : (new : PartListView) (before after : List ℕ) → ¬ Contains (group_names mid.parts) (name_at mid.number) → encoding prefix (Ok before) → encoding suffix (Ok after) →
      new.parts ≡ mid.parts ++ capture_part options before (name_at mid.number) placeholder.matched after modifier ∷ [] → new.pending ≡ mid.pending →
      AddsParts options encoding old (pending_items old.pending ++ group ∷ []) new
  adds_group new before after fresh h g parts pending =
      let part = λ (number : ℕ). capture_part options before (name_at number) placeholder.matched after modifier in
      adds_item options encoding old mid (pending_items old.pending) added new group (part old.number ∷ [])
      (before, after, [], refl, h, g, refl) (is_new fresh, ((before, h), ((after, g), tt)))
      (parts ∙ ap (λ number. mid.parts ++ part number ∷ []) same) pending
