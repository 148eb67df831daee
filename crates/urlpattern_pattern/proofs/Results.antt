-- Results and options that may be None.
use Rattle.std.specs.Prelude.{Option, Some, None, Result, Ok, Err, IfErr, IfNone}

pub if_none : {A : Type 0} (P : Type 0) (x : Option A) → P → IfNone x P
if_none P None p = p
if_none P (Some x) p = tt

pub if_err : {A B : Type 0} (P : Type 0) (result : Result A B) → P → IfErr result (λ _. P)
if_err P (Ok x) p = tt
if_err P (Err x) p = p
