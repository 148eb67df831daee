-- Worked examples of trees and of reading them.
use Rattle.std.proofs.Common.{◌≡◌, None, Some, true, codes, refl}
use Rattle.serde_json.specs.Data.{array, boolean, member, no_items, no_members, null, object}
use Rattle.urlpattern_inputs.specs.InputJson.{init_read, init_tree, options_read}
use Rattle.urlpattern_components.specs.Eight.{each}
use Rattle.urlpattern_syntax.specs.declared.parser.RegexSyntax.TheVariants.{Rust}

-- An init without texts is the empty object.
no_init : init_tree (record { texts = each (λ name. None); base_url = None }) ≡ object no_members
no_init = refl

-- An array is no init.
array_read : init_read (array no_items) ≡ None
unfolding init_read
array_read = refl

-- The syntax may be missing, and other keys are ignored.
options_with_other : options_read (object (member (codes "ignoreCase") (boolean true) (member (codes "other") null no_members))) ≡ Some (record { regex_syntax = Rust; ignore_case = true })
unfolding options_read
options_with_other = refl

-- A null is no syntax.
null_syntax : options_read (object (member (codes "ignoreCase") (boolean true) (member (codes "regexSyntax") null no_members))) ≡ None
unfolding options_read
null_syntax = refl

no_options : options_read (object no_members) ≡ None
unfolding options_read
no_options = refl
