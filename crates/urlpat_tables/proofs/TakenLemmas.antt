-- Lemmas on the texts that the groups of a second pattern take from a match of the first.
use Rattle.std.proofs.Common.{◌≡◌, ◌∙◌, ℕ, List, [], ◌∷◌, ◌++◌, None, Option, Some, ap, append-nil, false, refl, sym, true}
use Rattle.std.proofs.lemmas.Bool.{cond-false, cond-true}
use Rattle.std.proofs.lemmas.List.{map-append}
use Rattle.std.specs.Borrow.{Bor}
use Rattle.std.specs.Prelude.{IfNone, IfSome}
use Rattle.std.specs.Str.{chars}
use Rattle.urlpat_matching.specs.Groups.{HasNoSingleOwner, IsOnlyOwner, has_group, owners}
use Rattle.urlpat_tables.specs.RewriteRules.{given_to, only_of, source_of}
use Rattle.urlpattern_components.specs.declared.eight.ComponentName.{ComponentName}
use Rattle.urlpattern_generate.specs.WriteSettings.{given_groups, given_view}
use Rattle.urlpattern_pattern.specs.Patterns.{PatternView}

-- ---- sources

module _ {E : Type 0} (first : PatternView E) (component : ComponentName) (name : List ℕ) where
  -- The component itself has the group.
  pub own-source : has_group first name component ≡ true → Some component ≡ source_of first component name
  own-source has = sym (cond-true (has_group first name component) (Some component) (only_of (owners first name)) has)

  only-none : {A : Type 0} (all : List A) → ((one : A) → all ≡ one ∷ [] → ⊥) → only_of all ≡ None
  only-none [] none = refl
  only-none (one ∷ []) none = absurd (none one refl)
  only-none (one ∷ other ∷ all) none = refl

  -- The component lacks the group, which one other may have.
  pub other-source : (found : Option ComponentName) → has_group first name component ≡ false → IfSome found (IsOnlyOwner first name) → IfNone found (HasNoSingleOwner first name)
      → found ≡ source_of first component name
  other-source (Some owner) lacks alone none =
      sym (cond-false (has_group first name component) (Some component) (only_of (owners first name)) lacks ∙ ap only_of alone)
  other-source None lacks alone none =
      sym (cond-false (has_group first name component) (Some component) (only_of (owners first name)) lacks ∙ only-none (owners first name) none)

-- ---- steps

abbrev Group : Type 0
Group = ComponentName × Bor (List ℕ) × Bor (List ℕ)

-- A text that is taken is appended.
pub taken-pushed : (component : ComponentName) (name text : Bor (List ℕ)) (taken : Option (List ℕ)) (old new : List Group) → Some (chars text.now) ≡ taken → new ≡ old ++ (component, name, text) ∷ []
    → given_groups new ≡ given_groups old ++ given_to component (chars name.now) taken
taken-pushed component name text taken old new is goes =
    ap given_groups goes
    ∙ map-append given_view old ((component, name, text) ∷ [])
    ∙ ap (λ (found : Option (List ℕ)). given_groups old ++ given_to component (chars name.now) found) is

-- No text is taken.
pub none-taken : (component : ComponentName) (name : List ℕ) (taken : Option (List ℕ)) (old : List Group) → None ≡ taken
    → given_groups old ≡ given_groups old ++ given_to component name taken
none-taken component name taken old none =
    sym (append-nil (given_groups old)) ∙ ap (λ (found : Option (List ℕ)). given_groups old ++ given_to component name found) none
