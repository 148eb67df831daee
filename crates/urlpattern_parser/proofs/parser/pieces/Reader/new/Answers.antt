use Rattle.std.proofs.Common.{sym, ap, ◌∙◌, subst}
use Rattle.std.specs.Str.{chars}
use Rattle.urlpattern_syntax.specs.Cursors.{IsPlace, IsTokenAfter}
use Rattle.urlpattern_syntax.specs.Tokens.{token_view}
use Rattle.urlpattern_parser.proofs.ReaderLemmas.{starts}
use Rattle.urlpattern_parser.proofs.parser.pieces.Reader.new.Goals as goal

pub next-requires : goal.next-requires
next-requires c = subst (λ input. IsPlace (chars input) (chars c.new-cursor.result.rest.now)) (sym c.new-cursor.ensures.whole) c.new-cursor.ensures.place

pub returns-clause-starts : goal.returns-clause-starts
returns-clause-starts c =
    let whole = c.new-cursor.ensures.whole in
    starts (chars c.args.input.now) _ (chars c.new-cursor.result.rest.now) (ap chars (c.in_ok-token.ensures.whole ∙ whole))
    (subst (λ input. IsPlace (chars input) (chars c.next.new.self.rest.now)) whole c.in_ok-token.ensures.place) c.new-cursor.ensures.skips
    (subst (λ input. IsTokenAfter (chars input) (chars c.new-cursor.result.rest.now) (token_view c.in_ok-token.token) (chars c.next.new.self.rest.now)) whole c.in_ok-token.ensures.token)
