-- Lemmas on reading patterns.
use Rattle.std.proofs.Common.{◌≡◌, None, Some, codes, refl}
use Rattle.serde_json.specs.Data.{Data}
use Rattle.urlpattern_inputs.specs.ReadResults.{IsUnread}
use Rattle.urlpattern_inputs.specs.Trees.{flag_read, member_read, read_each}
use Rattle.urlpattern_inputs.specs.declared.json_reading.Unread.{Unread}
use Rattle.urlpattern_inputs.specs.declared.json_reading.Unread.TheVariants.{OutOfMemory, Shape}
use Rattle.urlpattern_inputs.proofs.EachLemmas.{nothing}
use Rattle.urlpattern_plain.specs.PatternJson.{component_read, pattern_read}
use Rattle.urlpattern_plain.specs.Values.{PlainPatternView}
use Rattle.urlpattern_components.specs.Eight.{name_text}

pub pattern_from : (tree : Data) (pattern : PlainPatternView)
    → read_each (λ name. member_read component_read (name_text name) tree) ≡ Some pattern.components
    → flag_read (codes "hasRegexpGroups") tree ≡ Some pattern.has_regexp_groups
    → pattern_read tree ≡ Some pattern
unfolding pattern_read
pattern_from tree pattern of_components of_groups = rw (of_groups, of_components) refl

-- A component is not read, for this reason.
pub pattern_fails : (tree : Data) (reason : Unread)
    → IsUnread reason (read_each (λ name. member_read component_read (name_text name) tree)) → IsUnread reason (pattern_read tree)
unfolding pattern_read
pattern_fails tree Shape none = rw none (nothing (flag_read (codes "hasRegexpGroups") tree) (λ flag. None) (λ flag. refl))
pattern_fails tree OutOfMemory fails = tt
