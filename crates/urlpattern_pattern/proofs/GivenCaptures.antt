-- The capture of a group that is given a text, by its name.
use Rattle.std.proofs.Common.{◌≡◌, ◌⊎◌, ◌∙◌, ℕ, Bool, true, false, List, [], ◌∷◌, All, ap, bytes_eq, cond, inl, inr, map, refl, reverse, sym, subst, zip, Option, Some, None, Ok}
use Rattle.std.proofs.lemmas.Bool.{false≢true}
use Rattle.std.proofs.lemmas.List.{reverse-append}
use Rattle.std.proofs.lemmas.List.Elements.{All-cons, All-head, All-nil, All-tail}
use Rattle.std.proofs.lemmas.Slice.Eq.{bytes_eq-Decides}
use Rattle.std.specs.List.{list_any}
use Rattle.std.specs.Map.{lookup}
use Rattle.std.specs.Option.{option_or}
use Rattle.std.specs.Prelude.{◌||◌, filter, not, if◌then◌else◌}
use Rattle.urlpattern_generate.specs.Requested.{AreRequested, IsRequested, IsRequestedBy}
use Rattle.urlpattern_generate.specs.WriteSettings.{WriteSettings}
use Rattle.urlpattern_generate.specs.Links.{OfFirst, captures_after}
use Rattle.urlpattern_matches.proofs.MatchGroupLemmas.{lookup-append}
use Rattle.urlpattern_matches.specs.ResultViews.{group_of}
use Rattle.urlpattern_meaning.specs.PartMeaning.{Captures}
use Rattle.urlpattern_syntax.specs.declared.parser.PartType.{PartType}
use Rattle.urlpattern_syntax.specs.declared.parser.PartType.TheVariants.{FixedText, FullWildcard, Regexp, SegmentWildcard}
use Rattle.urlpattern_syntax.specs.Parts.{PartView}
use Rattle.urlpattern_syntax.specs.RegexpText.{group_names, is_fixed_text}

abbrev Entry : Type 0
Entry = List ℕ × Option (List ℕ)

module _ (name : List ℕ) (capture : Option (List ℕ)) where
  -- The entry has this capture if it has this name.
  abbrev HasCapture : Entry → Type 0
  HasCapture entry = entry.0 ≡ name → entry.1 ≡ capture

  -- A search finds this capture, or nothing if no entry has the name.
  abbrev IsFound : List Entry → Option (Option (List ℕ)) → Type 0
  IsFound entries found = (found ≡ Some capture) ⊎ ((found ≡ None) × (list_any (λ (entry : Entry). bytes_eq name entry.0) entries ≡ false))

  alone : (entry : Entry) (is : Bool) → bytes_eq name entry.0 ≡ is → HasCapture entry → (found : Option (Option (List ℕ))) (others : Bool) → ((found ≡ Some capture) ⊎ ((found ≡ None) × (others ≡ false))) →
      (option_or found (cond is (Some entry.1) None) ≡ Some capture) ⊎ ((option_or found (cond is (Some entry.1) None) ≡ None) × ((is || others) ≡ false))
  alone entry is e has found others (inl f) = inl (ap (λ it. option_or it (cond is (Some entry.1) None)) f)
  alone entry true e has found others (inr (f, none)) = inl (ap (λ it. option_or it (Some entry.1)) f ∙ ap (λ c. Some c) (has (sym ((bytes_eq-Decides name entry.0).0 e))))
  alone entry false e has found others (inr (f, none)) = inr (ap (λ it. option_or it None) f, none)

  pub found_last : (entries : List Entry) → All HasCapture entries → IsFound entries (lookup (bytes_eq name) (reverse entries))
  found_last [] all = inr (refl, refl)
  found_last (entry ∷ entries) all =
      subst (IsFound (entry ∷ entries)) (sym (ap (lookup (bytes_eq name)) (reverse-append (entry ∷ []) entries) ∙ lookup-append (bytes_eq name) (reverse entries) (entry ∷ [])))
      (alone entry (bytes_eq name entry.0) refl (All-head HasCapture entry entries all) (lookup (bytes_eq name) (reverse entries)) (list_any (λ (other : Entry). bytes_eq name other.0) entries)
      (found_last entries (All-tail HasCapture entry entries all)))

-- ---- the groups of parts, with what they are to capture

pub names_first : (group : Bool) (part : PartView) (parts : List PartView) → map (λ (p : PartView). p.name) (if group then part ∷ parts else parts) ≡ (if group then part.name ∷ map (λ (p : PartView). p.name) parts else map (λ (p : PartView). p.name) parts)
names_first true part parts = refl
names_first false part parts = refl

abbrev names_with : (kind : PartType) → (name : List ℕ) → (names : List (List ℕ)) → List (List ℕ)
names_with kind name names = if not (is_fixed_text kind) then name ∷ names else names

names_of : (part : PartView) (parts : List PartView) → group_names (part ∷ parts) ≡ names_with part.kind part.name (group_names parts)
names_of part parts = names_first (not (is_fixed_text part.kind)) part (filter (λ (p : PartView). not (is_fixed_text p.kind)) parts)

module _ (settings : WriteSettings) where
  first_entry : (Is : Entry → Type 0) → ((part : PartView) (capture : Option (List ℕ)) → IsRequested settings part capture → Is (part.name, capture)) → (kind : PartType) (part : PartView) (names : List (List ℕ)) (captures : Captures) →
      OfFirst (IsRequested settings) kind part captures → All Is (zip names (captures_after kind captures)) → All Is (zip (names_with kind part.name names) captures)
  first_entry Is each FixedText part names captures first rest = rest
  first_entry Is each Regexp part names [] first rest = absurd first
  first_entry Is each Regexp part names (capture ∷ captures) first rest = All-cons Is (part.name, capture) (zip names captures) (each part capture first) rest
  first_entry Is each SegmentWildcard part names [] first rest = absurd first
  first_entry Is each SegmentWildcard part names (capture ∷ captures) first rest = All-cons Is (part.name, capture) (zip names captures) (each part capture first) rest
  first_entry Is each FullWildcard part names [] first rest = absurd first
  first_entry Is each FullWildcard part names (capture ∷ captures) first rest = All-cons Is (part.name, capture) (zip names captures) (each part capture first) rest

  entries_asked : (Is : Entry → Type 0) → ((part : PartView) (capture : Option (List ℕ)) → IsRequested settings part capture → Is (part.name, capture)) → (parts : List PartView) (captures : Captures) → AreRequested settings parts captures →
      All Is (zip (group_names parts) captures)
  entries_asked Is each [] captures are = All-nil Is
  entries_asked Is each (part ∷ parts) captures (first, rest) =
      subst (λ names. All Is (zip names captures)) (sym (names_of part parts))
      (first_entry Is each part.kind part (group_names parts) captures first (entries_asked Is each parts (captures_after part.kind captures) rest))

  -- Whether an entry has this name.
  abbrev has_entry : (name : List ℕ) → List (List ℕ) → Captures → Bool
  has_entry name names captures = list_any (λ (entry : Entry). bytes_eq name entry.0) (zip names captures)

  first_kept : (name : List ℕ) (kind : PartType) (part : PartView) (names : List (List ℕ)) (captures : Captures) → OfFirst (IsRequested settings) kind part captures →
      has_entry name names (captures_after kind captures) ≡ list_any (bytes_eq name) names → has_entry name (names_with kind part.name names) captures ≡ list_any (bytes_eq name) (names_with kind part.name names)
  first_kept name FixedText part names captures first rest = rest
  first_kept name Regexp part names [] first rest = absurd first
  first_kept name Regexp part names (capture ∷ captures) first rest = ap (λ others. bytes_eq name part.name || others) rest
  first_kept name SegmentWildcard part names [] first rest = absurd first
  first_kept name SegmentWildcard part names (capture ∷ captures) first rest = ap (λ others. bytes_eq name part.name || others) rest
  first_kept name FullWildcard part names [] first rest = absurd first
  first_kept name FullWildcard part names (capture ∷ captures) first rest = ap (λ others. bytes_eq name part.name || others) rest

  names_kept : (name : List ℕ) (parts : List PartView) (captures : Captures) → AreRequested settings parts captures → has_entry name (group_names parts) captures ≡ list_any (bytes_eq name) (group_names parts)
  names_kept name [] captures are = refl
  names_kept name (part ∷ parts) captures (first, rest) =
      subst (λ names. has_entry name names captures ≡ list_any (bytes_eq name) names) (sym (names_of part parts))
      (first_kept name part.kind part (group_names parts) captures first (names_kept name parts (captures_after part.kind captures) rest))

  -- ---- the group of a name that is given

  module _ (name text : List ℕ) (given : settings.given name ≡ Some text) where
    -- An entry of the name captures the canonical form of the text.
    abbrev IsForm : Entry → Type 0
    IsForm entry = entry.0 ≡ name → (value : List ℕ) × (settings.canonical text ≡ Ok value) × (entry.1 ≡ Some value)

    form_asked : (part : PartView) (capture : Option (List ℕ)) → IsRequested settings part capture → IsForm (part.name, capture)
    form_asked part capture asked same = subst (λ of. IsRequestedBy settings.canonical of part capture) (ap settings.given same ∙ given) asked

    -- The text has a canonical form.
    abbrev HasForm : Type 0
    HasForm = (value : List ℕ) × (settings.canonical text ≡ Ok value)

    form_of_first : (entry : Entry) (is others : Bool) → bytes_eq name entry.0 ≡ is → IsForm entry → (others ≡ true → HasForm) → (is || others) ≡ true → HasForm
    form_of_first entry true others e form rest has = let found = form (sym ((bytes_eq-Decides name entry.0).0 e)) in (found.0, found.1)
    form_of_first entry false others e form rest has = rest has

    some_form : (entries : List Entry) → All IsForm entries → list_any (λ (entry : Entry). bytes_eq name entry.0) entries ≡ true → HasForm
    some_form [] all has = absurd (false≢true has)
    some_form (entry ∷ entries) all has =
        form_of_first entry (bytes_eq name entry.0) (list_any (λ (other : Entry). bytes_eq name other.0) entries) refl
        (All-head IsForm entry entries all) (some_form entries (All-tail IsForm entry entries all)) has

    one_form : (value : List ℕ) → settings.canonical text ≡ Ok value → (entries : List Entry) → All IsForm entries → All (HasCapture name (Some value)) entries
    one_form value is [] all = All-nil (HasCapture name (Some value))
    one_form value is (entry ∷ entries) all =
        All-cons (HasCapture name (Some value)) entry entries
        (λ same. let form = All-head IsForm entry entries all same in let e : form.0 ≡ value = cc (form.1, is) in form.2 ∙ ap (λ v. Some v) e)
        (one_form value is entries (All-tail IsForm entry entries all))

    -- The group of the name captures the canonical form of the text.
    pub given_captured : (parts : List PartView) (captures : Captures) → AreRequested settings parts captures → list_any (bytes_eq name) (group_names parts) ≡ true →
        (value : List ℕ) × (settings.canonical text ≡ Ok value) × (group_of (group_names parts) captures name ≡ Some (Some value))
    given_captured parts captures are has =
        let entries = zip (group_names parts) captures in
        let all = entries_asked IsForm form_asked parts captures are in
        let there : list_any (λ (entry : Entry). bytes_eq name entry.0) entries ≡ true = names_kept name parts captures are ∙ has in
        let form = some_form entries all there in
        (form.0, form.1, by form.0 (found_last name (Some form.0) entries (one_form form.0 form.1 entries all)) there)
      where
        by : (value : List ℕ) → IsFound name (Some value) (zip (group_names parts) captures) (group_of (group_names parts) captures name) →
            list_any (λ (entry : Entry). bytes_eq name entry.0) (zip (group_names parts) captures) ≡ true → group_of (group_names parts) captures name ≡ Some (Some value)
        by value (inl found) there = found
        by value (inr (none, not_there)) there = absurd (false≢true (sym not_there ∙ there))
