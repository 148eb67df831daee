-- Parts and their regular expression mean the same, and an engine that follows the regular
-- expression returns what the parts mean.
use Rattle.std.proofs.Common.{◌≡◌, ℕ, List, Some, None, Option, sym, subst, ◌↔◌}
use Rattle.std.specs.Prelude.{All, IsTrue, MatchOption}
use Rattle.std.specs.Str.{all_scalars}
use Rattle.urlpattern_meaning.specs.Dialect.{Follows, HasMeaningOf, HasTree, IsTreeOf, Items, Means}
use Rattle.urlpattern_meaning.specs.GeneratedTexts.{IsGenerated}
use Rattle.urlpattern_meaning.specs.Matching.{Agrees}
use Rattle.urlpattern_meaning.specs.PartMeaning.{Captures, PartsMean}
use Rattle.urlpattern_syntax.specs.Options.{OptionsView}
use Rattle.urlpattern_syntax.specs.Parts.{PartView}
use Rattle.urlpattern_syntax.specs.RegexpText.{regexp_text}
use Rattle.urlpattern_meaning.proofs.DialectUnique.{only_tree, trees_are_one}
use Rattle.urlpattern_meaning.proofs.PartTreeAllowed.{tree_allowed}
use Rattle.urlpattern_meaning.proofs.PartTreeMeans.{tree_means}
use Rattle.urlpattern_meaning.proofs.PartTreeTexts.{tree_text}
use Rattle.urlpattern_meaning.proofs.PartTrees.{IsNotCustom, tree_of}

pub is_tree_of : (options : OptionsView) (parts : List PartView) → All IsNotCustom parts → IsTreeOf (regexp_text options parts) (tree_of options parts)
is_tree_of options parts h = (tree_text options parts h, tree_allowed options parts h)

-- A text that is generated from parts has a tree.
pub generated_tree : (text : List ℕ) → IsGenerated text → HasTree text
generated_tree text h =
    let tree = tree_of h.0 h.1 in
    (tree, subst (λ t. IsTreeOf t tree) (sym h.3) (is_tree_of h.0 h.1 h.2))

-- The regular expression has exactly one tree, which means what the parts mean.
pub one_meaning : (options : OptionsView) (parts : List PartView) → All IsNotCustom parts → HasMeaningOf (regexp_text options parts) options parts
one_meaning options parts h = (tree_of options parts, only_tree (regexp_text options parts) (tree_of options parts) (is_tree_of options parts h), tree_means options parts h)

-- Each tree of the regular expression means what the parts mean.
pub each_tree_means : (options : OptionsView) (parts : List PartView) (tree : Items) (text : List ℕ) (captures : Captures) → All IsNotCustom parts → IsTreeOf (regexp_text options parts) tree →
    Means tree text captures ↔ PartsMean options parts text captures
each_tree_means options parts tree text captures h is =
    subst (λ t. Means t text captures ↔ PartsMean options parts text captures) (trees_are_one (regexp_text options parts) (tree_of options parts) tree (is_tree_of options parts h) is)
    (tree_means options parts h text captures)

-- ---- engines

agrees_by : (options : OptionsView) (parts : List PartView) (tree : Items) → ((text : List ℕ) (captures : Captures) → Means tree text captures ↔ PartsMean options parts text captures) →
    (text : List ℕ) (result : Option Captures) → MatchOption result ((captures : Captures) → ¬ Means tree text captures) (λ captures. Means tree text captures) ↔ Agrees options parts text result
agrees_by options parts tree same text None = (λ never captures means. never captures ((same text captures).1 means), λ never captures means. never captures ((same text captures).0 means))
agrees_by options parts tree same text (Some captures) = same text captures

-- An engine that follows the regular expression returns what the parts mean.
pub follows_agrees : (options : OptionsView) (parts : List PartView) → All IsNotCustom parts → (answer : List ℕ → Option Captures) → Follows (regexp_text options parts) answer →
    (text : List ℕ) → IsTrue (all_scalars text) → Agrees options parts text (answer text)
follows_agrees options parts h answer follows text scalars =
    let same : tree_of options parts ≡ follows.tree = follows.is_tree.only (tree_of options parts) (is_tree_of options parts h) in
    (agrees_by options parts follows.tree (subst (λ tree. (t : List ℕ) (c : Captures) → Means tree t c ↔ PartsMean options parts t c) same (tree_means options parts h)) text (answer text)).0
    (follows.answers text scalars)

-- An engine that returns what the parts mean follows the regular expression.
pub agrees_follows : (options : OptionsView) (parts : List PartView) → All IsNotCustom parts → (answer : List ℕ → Option Captures) →
    ((text : List ℕ) → IsTrue (all_scalars text) → Agrees options parts text (answer text)) → Follows (regexp_text options parts) answer
agrees_follows options parts h answer agrees = record {
  tree = tree_of options parts;
  is_tree = only_tree (regexp_text options parts) (tree_of options parts) (is_tree_of options parts h);
  answers = λ text scalars. (agrees_by options parts (tree_of options parts) (tree_means options parts h) text (answer text)).1 (agrees text scalars);
}
