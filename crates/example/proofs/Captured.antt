-- The capture of a group, as the result of a call.
use Rattle.std.proofs.Common.{List, ℕ, inr}
use Rattle.std.specs.Borrow.{Bor}
use Rattle.std.specs.Prelude.{◌⊎◌, IfNone, IfSome, None, Option, Some}
use Rattle.std.specs.Str.{chars}
use Rattle.urlpattern.specs.Text.{option_text}

pub some_captured : (capture : Option (Bor (List ℕ))) (Is : Option (List ℕ) → Type 0) → Is (option_text capture) → IfSome capture (λ text. Is (Some (chars text.now)))
some_captured None Is is = tt
some_captured (Some text) Is is = is

pub none_captured : (capture : Option (Bor (List ℕ))) (Is : Option (List ℕ) → Type 0) (Or : Type 0) → Is (option_text capture) → IfNone capture (Or ⊎ Is None)
none_captured None Is Or is = inr is
none_captured (Some text) Is Or is = tt
