-- Worked examples of what is written before the output for a line.
use Rattle.std.proofs.Common.{◌≡◌, [], None, codes, false, refl, true}
use Rattle.std.specs.Fmt.{digits}
use Rattle.urlpat_matching.specs.LineLabels.{labelled}

-- The third line of standard input, with its number.
numbered_line : labelled (record { file = None; named = false; numbered = true; flushed = false }) 3 (codes "about\n") ≡ codes "3:about\n"
unfolding digits
numbered_line = refl

-- With the name of standard input too.
named_line : labelled (record { file = None; named = true; numbered = true; flushed = false }) 3 (codes "about\n") ≡ codes "(standard input):3:about\n"
unfolding digits
named_line = refl

-- Nothing is written for a line without output.
no_line : labelled (record { file = None; named = true; numbered = true; flushed = false }) 3 [] ≡ []
no_line = refl
