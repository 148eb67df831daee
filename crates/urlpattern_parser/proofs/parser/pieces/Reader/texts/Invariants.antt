use Rattle.std.proofs.Common.{◌≡◌, ◌++◌, List}
use Rattle.urlpattern_parser.specs.Readers.{Consumes, reader_left}
use Rattle.urlpattern_syntax.specs.Pieces.{AreTexts}
use Rattle.urlpattern_syntax.specs.Text.{text_of}
use Rattle.urlpattern_syntax.specs.Tokens.{TokenView}
use Rattle.urlpattern_parser.proofs.parser.pieces.Reader.texts.Given as goal

-- The tokens that are consumed are texts.
abbrev pub invariant-loop-self : goal.invariant-loop-self
invariant-loop-self l = Consumes l.fn.self l.self (λ tokens rest. (front : List TokenView) × (tokens ≡ front ++ rest) × AreTexts front (text_of l.text))

abbrev pub decreases-loop-self : goal.decreases-loop-self
decreases-loop-self l = reader_left l.self
