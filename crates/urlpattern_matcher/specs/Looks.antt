-- What follows from a `Look`, the result of matching a text as far as possible without an engine.
use Rattle.std.specs.Prelude.{ℕ, List, [], ◌∷◌, Option, Some, None}
use Rattle.std.specs.Str.{chars}
use Rattle.urlpattern_matcher.specs.declared.matcher.look.Look.{Look}
use Rattle.urlpattern_meaning.specs.PartMeaning.{Captures}

-- The captures that a look leads to, where `answer` is what an engine's value returns for a text.
-- None: the text does not match.
abbrev pub look_result : {E : Type 0} → (answer : E → List ℕ → Option Captures) → Option (Look E)
    → Option Captures
look_result answer None = None
look_result answer (Some Look.Matched) = Some []
look_result answer (Some (Look.Captured text)) = Some (Some (chars text.now) ∷ [])
look_result answer (Some (Look.Asks engine middle)) = answer engine.now (chars middle.now)

-- The look leaves it to an engine whether the text matches.
abbrev pub NeedsEngine : {E : Type 0} → Look E → Type 0
NeedsEngine Look.Matched = ⊥
NeedsEngine (Look.Captured text) = ⊥
NeedsEngine (Look.Asks engine middle) = Unit {0}
