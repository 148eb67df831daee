-- Lemmas on reading inits and inputs.
use Rattle.std.proofs.Common.{◌≡◌, true, is_some, codes, Option, None, Some, refl}
use Rattle.std.proofs.lemmas.Bool.{false≢true}
use Rattle.serde_json.specs.Data.{Data, Members}
use Rattle.serde_json.specs.Find.{as_object, as_str}
use Rattle.urlpattern_inputs.specs.InputJson.{init_read}
use Rattle.urlpattern_inputs.specs.InputValues.{InitView}
use Rattle.urlpattern_inputs.specs.ReadResults.{IsUnread}
use Rattle.urlpattern_inputs.specs.Trees.{optional_read, read_each}
use Rattle.urlpattern_inputs.specs.declared.json_reading.Unread.{Unread}
use Rattle.urlpattern_inputs.specs.declared.json_reading.Unread.TheVariants.{OutOfMemory, Shape}
use Rattle.urlpattern_inputs.proofs.EachLemmas.{nothing}
use Rattle.urlpattern_components.specs.Eight.{name_text}

-- ---- inits

is_there : (found : Option Members) → is_some found ≡ true → (members : Members) × (found ≡ Some members)
is_there None e = absurd (false≢true e)
is_there (Some members) e = (members, refl)

init_among : (tree : Data) (members : Members) (values : InitView) → as_object tree ≡ Some members
    → read_each (λ name. optional_read as_str (name_text name) tree) ≡ Some values.texts
    → optional_read as_str (codes "baseURL") tree ≡ Some values.base_url
    → init_read tree ≡ Some values
unfolding init_read
init_among tree inside values of_object of_texts of_base_url = rw (of_object, of_texts, of_base_url) refl

pub init_from : (tree : Data) (values : InitView) → is_some (as_object tree) ≡ true
    → read_each (λ name. optional_read as_str (name_text name) tree) ≡ Some values.texts
    → optional_read as_str (codes "baseURL") tree ≡ Some values.base_url
    → init_read tree ≡ Some values
init_from tree values of_object =
    let there = is_there (as_object tree) of_object in
    init_among tree there.0 values there.1

-- The text of a component is not read, for this reason.
pub init_fails : (tree : Data) (reason : Unread)
    → IsUnread reason (read_each (λ name. optional_read as_str (name_text name) tree)) → IsUnread reason (init_read tree)
unfolding init_read
init_fails tree Shape none = rw none (nothing (as_object tree) (λ members. None) (λ members. refl))
init_fails tree OutOfMemory fails = tt
