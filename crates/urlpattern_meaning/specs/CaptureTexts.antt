-- Captures, as clauses see them.
use Rattle.std.specs.Prelude.{ℕ, List, map, Option, option_map}
use Rattle.std.specs.Borrow.{Bor}
use Rattle.std.specs.declared.alloc.Global.{Global}
use Rattle.std.specs.declared.vec.Vec.{Vec}
use Rattle.urlpattern_meaning.specs.PartMeaning.{Captures}
use Rattle.urlpattern_syntax.specs.Text.{option_text}

-- The captures of a match, as clauses see them, or None where nothing matches.
abbrev pub captures_view : Option (Vec (Option (Bor (List ℕ))) Global) → Option Captures
captures_view found =
    option_map (λ (captures : Vec (Option (Bor (List ℕ))) Global). map option_text captures.items)
    found
