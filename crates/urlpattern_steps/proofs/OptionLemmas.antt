-- The second of two options is None.
use Rattle.std.specs.Prelude.{◌≡◌, refl, Option, Some, None}
use Rattle.std.specs.Option.{option_or}

pub option_or-None : {X : Type 0} (value : Option X) → option_or value None ≡ value
option_or-None None = refl
option_or-None (Some x) = refl
