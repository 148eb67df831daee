-- Weaker properties of results.
use Rattle.std.specs.Prelude.{Result, Ok, Err, IfErr, IfOk}

-- A weaker property holds of a value.
pub if_ok-map : {A B : Type 0} (P Q : A → Type 0) (result : Result A B) → ((x : A) → P x → Q x) → IfOk result P → IfOk result Q
if_ok-map P Q (Ok x) f h = f x h
if_ok-map P Q (Err x) f h = tt

-- A weaker property holds of an error.
pub if_err-map : {A B : Type 0} (P Q : B → Type 0) (result : Result A B) → ((x : B) → P x → Q x) → IfErr result P → IfErr result Q
if_err-map P Q (Ok x) f h = tt
if_err-map P Q (Err x) f h = f x h
