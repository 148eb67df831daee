use Rattle.std.proofs.Common.{◌++◌, List, ℕ}
use Rattle.std.specs.Str.{chars}
use Rattle.urlpattern_syntax.specs.Parsing.{BeginsWithModifier, BeginsWithPiece, BeginsWithPlaceholder}
use Rattle.urlpattern_parser.specs.Readers.{placeholder_view}
use Rattle.urlpattern_syntax.specs.Pieces.{IsPrefixOf, Piece as pieces}
use Rattle.urlpattern_syntax.specs.Tokens.{TokenView}
use Rattle.urlpattern_syntax.proofs.PieceLemmas.{bare_piece}
use Rattle.urlpattern_parser.proofs.ReaderLemmas.{takes_then}
use Rattle.urlpattern_parser.proofs.parser.pieces.Reader.bare.Goals as goal

pub returns-clause-next : goal.returns-clause-next
returns-clause-next c =
    let prefix = chars c.args.prefix.now in
    let placeholder = placeholder_view c.in_ok-placeholder.placeholder in
    let modifier = c.in_ok-modifier.modifier in
    takes_then c.args.self.now c.placeholder.new.self c.modifier.new.self (λ tokens rest. BeginsWithPlaceholder tokens placeholder rest) (λ tokens rest. BeginsWithModifier tokens modifier rest)
    (λ tokens rest. (point : List ℕ) (before : List TokenView) → IsPrefixOf point before prefix → BeginsWithPiece point (before ++ tokens) (pieces.Bare prefix placeholder modifier) rest)
    c.in_ok-placeholder.ensures.placeholder c.in_ok-modifier.ensures.modifier
    (λ x y z gx gy gz p q point before is_prefix. bare_piece point before x y z prefix placeholder modifier is_prefix p q)
