use Rattle.std.proofs.Common.{◌≡◌, ◌∷◌, rules}
use Rattle.urlpattern_syntax.specs.declared.tokenizer.TokenType.TheVariants.{Close}
use Rattle.urlpattern_syntax.specs.Parsing.{BeginsWithClose, BeginsWithModifier}
use Rattle.urlpattern_syntax.specs.Tokens.{token_view}
use Rattle.urlpattern_parser.proofs.ReaderLemmas.{takes_then}
use Rattle.urlpattern_parser.proofs.parser.pieces.Reader.close.Goals as goal

pub returns-clause-closes : goal.returns-clause-closes
returns-clause-closes c =
    let token = c.args.self.now.token in
    let modifier = c.in_ok-modifier.field-0 in
    let is_close : token.kind ≡ Close = search rules in
    takes_then c.args.self.now c.take.new.self c.modifier.new.self (λ tokens rest. tokens ≡ token_view token ∷ rest) (λ tokens rest. BeginsWithModifier tokens modifier rest) (λ tokens rest. BeginsWithClose tokens modifier rest)
    c.in_ok-_closing.ensures.takes c.in_ok-modifier.ensures.modifier
    (λ x y z gx gy gz p q. record { closing = token_view token; behind = y; cut = p; is_close = is_close; begins = q })
