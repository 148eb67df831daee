-- Lemmas on reading a value for each component.
use Rattle.std.proofs.Common.{◌≡◌, Option, None, Some, Result, Ok, Err, ap, refl, subst, sym}
use Rattle.std.proofs.Math.Path.{fun_ext}
use Rattle.std.specs.Result.{IsErrAnd}
use Rattle.urlpattern_inputs.specs.ReadResults.{IsUnread, ReturnsRead}
use Rattle.urlpattern_inputs.specs.Trees.{◌>>=◌, read_each}
use Rattle.urlpattern_inputs.specs.declared.json_reading.Unread.{Unread}
use Rattle.urlpattern_inputs.specs.declared.json_reading.Unread.TheVariants.{OutOfMemory, Shape}
use Rattle.urlpattern_components.specs.Eight.{at, each}
use Rattle.urlpattern_components.specs.declared.eight.ComponentName.{ComponentName}
use Rattle.urlpattern_components.specs.declared.eight.ComponentName.TheVariants.{Protocol}
use Rattle.urlpattern_components.specs.declared.eight.Eight.{Eight}

-- Equal functions of components have equal results.
pub each-same : {A : Type 0} (first second : ComponentName → A) → ((name : ComponentName) → first name ≡ second name) → each first ≡ each second
each-same first second same = ap each (fun_ext same)

-- Each component has a value, through the view `seen`.
pub read_each-seen : {A X : Type 0} (seen : X → A) (read : ComponentName → Option A) (values : Eight X)
    → ((name : ComponentName) → read name ≡ Some (seen (at values name))) → read_each read ≡ Some (each (λ name. seen (at values name)))
unfolding read_each
read_each-seen seen read values found = ap read_each (fun_ext found)

pub read_each-all : {A : Type 0} (read : ComponentName → Option A) (values : Eight A)
    → ((name : ComponentName) → read name ≡ Some (at values name)) → read_each read ≡ Some values
read_each-all read values found = read_each-seen (λ value. value) read values found

-- The next step has no result, whatever its argument.
pub nothing : {A B : Type 0} (found : Option A) (next : A → Option B) → ((value : A) → next value ≡ None) → (found >>= next) ≡ None
nothing None next none = refl
nothing (Some value) next none = none value

nothing_here : {A B : Type 0} (found : Option A) (next : A → Option B) → found ≡ None → (found >>= next) ≡ None
nothing_here found next none = rw none refl

-- A component without a value.
pub read_each-none : {A : Type 0} (read : ComponentName → Option A) (name : ComponentName) → read name ≡ None → read_each read ≡ None
unfolding read_each
read_each-none read Protocol e = rw e refl
read_each-none read name e = search (nothing_here, nothing) depth 20

-- A component whose value is not read, for this reason.
pub read_each-fails : {A : Type 0} (read : ComponentName → Option A) (reason : Unread) (name : ComponentName)
    → IsUnread reason (read name) → IsUnread reason (read_each read)
read_each-fails read Shape name none = read_each-none read name none
read_each-fails read OutOfMemory name fails = tt

-- The reason is returned to the caller.
pub passed_on : {A T : Type 0} (seen : T → A) (result : Result T Unread) (reason : Unread) (read : Option A)
    → IsErrAnd result (λ passed. passed ≡ reason) → IsUnread reason read → ReturnsRead seen result read
passed_on seen (Ok value) reason read same fails = absurd same
passed_on seen (Err passed) reason read same fails = subst (λ (why : Unread). IsUnread why read) (sym same) fails
