-- Lemmas on comparisons of patterns as JSON.
use Rattle.std.proofs.Common.{◌≡◌, false, true, List, [], ◌∷◌, codes, map, refl}
use Rattle.std.specs.Prelude.{Option, None, Some, String, string_bytes}
use Rattle.std.specs.declared.alloc.Global.{Global}
use Rattle.serde_json.specs.Data.{Members, boolean, no_members, put, string}
use Rattle.serde_json.specs.Written.{has_float, members_have_float}
use Rattle.urlpat_commands.specs.ComparisonTexts.{covering_tree, known_tree}
use Rattle.urlpat_matching.proofs.MatchJsonLemmas.{put-none}
use Rattle.urlpattern_compare.specs.declared.pattern_parts.Parting.{Parting}
use Rattle.urlpattern_components.specs.Eight.{at, components, name_text}
use Rattle.urlpattern_components.specs.declared.eight.ComponentName.{ComponentName}
use Rattle.urlpattern_components.specs.declared.eight.Eight.{Eight}
use Rattle.urlpattern_inputs.specs.Trees.{all_with, each_member, object_of, with}

known-none : (name : ComponentName) (known : Option (String Global)) (among : Members) → members_have_float among ≡ false → members_have_float (with among (name_text name, known_tree known)) ≡ false
known-none name None among before = before
known-none name (Some text) among before = put-none (name_text name) (string (string_bytes text)) among refl before

texts-none : (texts : Eight (Option (String Global))) (names : List ComponentName) (among : Members) → members_have_float among ≡ false
    → members_have_float (all_with among (map (λ name. (name_text name, known_tree (at texts name))) names)) ≡ false
texts-none texts [] among before = before
texts-none texts (name ∷ names) among before =
    texts-none texts names (with among (name_text name, known_tree (at texts name))) (known-none name (at texts name) among before)

pub covering-none : (parting : Option Parting) → has_float (covering_tree parting) ≡ false
covering-none None = put-none (codes "covered") (boolean true) no_members refl refl
covering-none (Some parting) =
    let covered = put (codes "covered") (boolean false) no_members in
    let named = put (codes "component") (string (name_text parting.component)) covered in
    put-none (codes "texts") (object_of (each_member (λ name. known_tree (at parting.texts name)))) named (texts-none parting.texts components no_members refl)
    (put-none (codes "component") (string (name_text parting.component)) covered refl (put-none (codes "covered") (boolean false) no_members refl refl))
