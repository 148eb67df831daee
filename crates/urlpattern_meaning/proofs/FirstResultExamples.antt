-- Worked examples of the first way of parts.
use Rattle.std.proofs.Common.{◌≡◌, ℕ, List, [], ◌∷◌, refl, Option, Some, None}
use Rattle.std.proofs.lemmas.List.Elements.{All-cons, All-nil}
use Rattle.std.specs.Prelude.{All, codes}
use Rattle.urlpattern_meaning.specs.FirstResults.{IsFirstOf}
use Rattle.urlpattern_meaning.specs.PartMeaning.{Captures}
use Rattle.urlpattern_meaning.specs.Ways.{first_way, first_way_by}
use Rattle.urlpattern_syntax.specs.declared.parser.PartModifier.TheVariants as modifiers
use Rattle.urlpattern_syntax.specs.declared.parser.PartType.TheVariants.{FullWildcard, SegmentWildcard}
use Rattle.urlpattern_syntax.specs.Options.{OptionsView, default_options, pathname_options}
use Rattle.urlpattern_syntax.specs.Parts.{PartView}
use Rattle.urlpattern_syntax.proofs.RegexpTextExamples.{group}
use Rattle.urlpattern_meaning.proofs.OneMeaning.{is_tree_of}
use Rattle.urlpattern_meaning.proofs.PartTrees.{IsNotCustom, tree_of}

one_plain : (part : PartView) → IsNotCustom part → All IsNotCustom (part ∷ [])
one_plain part h = All-cons IsNotCustom part [] h (All-nil IsNotCustom)

-- The pattern `:a:b` on `abc`: the first name matches as little as it can.
abbrev pub name : List ℕ → PartView
name text = group SegmentWildcard [] text [] modifiers.None

pub two_names : IsFirstOf default_options (name (codes "a") ∷ name (codes "b") ∷ []) (codes "abc") (Some (Some (codes "a") ∷ Some (codes "bc") ∷ []))
unfolding first_way_by
two_names =
    let parts : List PartView = name (codes "a") ∷ name (codes "b") ∷ [] in
    record {
      tree = tree_of default_options parts;
      is_tree = is_tree_of default_options parts (All-cons IsNotCustom (name (codes "a")) (name (codes "b") ∷ []) (λ e. cc e) (one_plain (name (codes "b")) (λ e. cc e)));
      is_first = refl;
    }

-- The first way of a single part without a custom regular expression.
first_of_one : (options : OptionsView) (part : PartView) (text : List ℕ) (result : Option Captures) → IsNotCustom part
    → result ≡ first_way (tree_of options (part ∷ [])) text → IsFirstOf options (part ∷ []) text result
first_of_one options part text result plain is_first = record {
  tree = tree_of options (part ∷ []);
  is_tree = is_tree_of options (part ∷ []) (one_plain part plain);
  is_first = is_first;
}

-- The pattern `*?` on the empty text: the optional group takes part.
abbrev pub optional_wildcard : PartView
optional_wildcard = group FullWildcard [] (codes "0") [] modifiers.Optional

pub wildcard_on_nothing : IsFirstOf default_options (optional_wildcard ∷ []) [] (Some (Some [] ∷ []))
unfolding first_way_by
wildcard_on_nothing = first_of_one default_options optional_wildcard [] (Some (Some [] ∷ [])) (λ e. cc e) refl

-- The pattern `/:a?` of a path on the empty text: the group takes no part, as the slash before the
-- name is missing.
abbrev pub optional_segment : PartView
optional_segment = group SegmentWildcard (codes "/") (codes "a") [] modifiers.Optional

pub segment_on_nothing : IsFirstOf pathname_options (optional_segment ∷ []) [] (Some (None ∷ []))
unfolding first_way_by
segment_on_nothing = first_of_one pathname_options optional_segment [] (Some (None ∷ [])) (λ e. cc e) refl

-- The pattern `:x*` on `ab`: two copies are one capture.
abbrev pub repeated_name : PartView
repeated_name = group SegmentWildcard [] (codes "x") [] modifiers.ZeroOrMore

pub copies_on_text : IsFirstOf default_options (repeated_name ∷ []) (codes "ab") (Some (Some (codes "ab") ∷ []))
unfolding first_way_by
copies_on_text = first_of_one default_options repeated_name (codes "ab") (Some (Some (codes "ab") ∷ [])) (λ e. cc e) refl
