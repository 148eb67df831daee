-- A constructor string has its components where its split says.
use Rattle.std.proofs.Common.{ℕ, Bool, List, subst}
use Rattle.urlpattern_components.specs.Eight.{Values}
use Rattle.urlpattern_constructor.proofs.SplitStarts.{components_there}
use Rattle.urlpattern_constructor.specs.Splitting.{HasComponentsAt, Starts, values_of_split}
use Rattle.urlpattern_init.specs.ConstructorString.{SplitsAt}

pub parts_there : (IsSpecial : List ℕ → Bool → Type 0) (text : List ℕ) (components : Values) (starts : Starts) → SplitsAt IsSpecial text components starts → HasComponentsAt text components starts
parts_there IsSpecial text components starts (texts, (tokens, are_tokens, split), are_values, are_starts) =
    subst (λ (values : Values). HasComponentsAt text values starts) are_values
    (subst (HasComponentsAt text (values_of_split texts)) are_starts (components_there text tokens texts IsSpecial split))
