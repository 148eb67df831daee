-- The places of component texts in a constructor string.
use Rattle.std.specs.Prelude.{◌==◌, ℕ, List, length, Option, None, Some, if◌then◌else◌}
use Rattle.urlpattern_compile.specs.Diagnoses.{span_from}
use Rattle.urlpattern_components.specs.Eight.{Values, at, each}
use Rattle.urlpattern_components.specs.declared.eight.Eight.{Eight}
use Rattle.urlpattern_constructor.specs.Splitting.{Starts}
use Rattle.urlpattern_diagnosis.specs.declared.span.Span.{Span}

-- The place of each component's text in a constructor string, in bytes. None for a component whose
-- text the string lacks or implies, or whose text is empty.
abbrev pub Places : Type 0
Places = Eight (Option Span)

-- The place of the text `given` of a component, which the constructor string has from the byte
-- `start` on.
abbrev pub text_place : (given : Option (List ℕ)) → (start : Option ℕ) → Option Span
text_place None start = None
text_place (Some text) start = if length text == 0 then None else span_from start text

-- The places of the texts `given`, which the constructor string has at `starts`.
abbrev pub text_places : (given : Values) → Starts → Places
text_places given starts = each (λ name. text_place (at given name) (at starts name))
