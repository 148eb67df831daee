-- Parts that were printed and read again.
use Rattle.std.specs.Prelude.{◌≡◌, List}
use Rattle.std.specs.declared.alloc.Global.{Global}
use Rattle.std.specs.declared.vec.Vec.{Vec}
use Rattle.urlpattern.specs.Options.{options_view}
use Rattle.urlpattern.specs.PartMeaning.{MeanTheSame}
use Rattle.urlpattern.specs.Parts.{parts_view}
use Rattle.urlpattern.specs.Printing.{joined}
use Rattle.urlpattern.specs.ParserOptions.{Options}
use Rattle.urlpattern.specs.Part.{Part}

-- `again` is `parts` with neighbouring plain fixed texts joined.
abbrev pub AreJoined : List Part → (again : Vec Part Global) → Type 0
AreJoined parts again = parts_view again.items ≡ joined (parts_view parts)

-- `again` means what `parts` mean: the same texts with the same captures.
abbrev pub KeepMeaning : Options → List Part → (again : Vec Part Global) → Type 0
KeepMeaning options parts again =
    MeanTheSame (options_view options) (parts_view again.items) (parts_view parts)
