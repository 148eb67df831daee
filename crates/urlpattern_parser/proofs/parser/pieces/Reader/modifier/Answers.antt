use Rattle.std.proofs.Common.{◌≡◌, ◌∷◌, codes, ap, ◌∙◌, sym, rules}
use Rattle.std.specs.Str.{chars}
use Rattle.urlpattern_syntax.specs.declared.parser.PartModifier.TheVariants as modifiers
use Rattle.urlpattern_syntax.specs.declared.tokenizer.Token.{Token}
use Rattle.urlpattern_syntax.specs.Parsing.{BeginsWithModifier}
use Rattle.urlpattern_syntax.specs.Tokens.{token_view}
use Rattle.urlpattern_syntax.proofs.PieceLemmas.{one_or_more, optional, zero_or_more}
use Rattle.urlpattern_parser.proofs.ReaderLemmas.{takes_weaker}
use Rattle.urlpattern_syntax.proofs.TextLemmas.{bytes_from_chars, question_mark}
use Rattle.urlpattern_parser.proofs.parser.pieces.Reader.modifier.Goals as goal

pub returns-then-eq-clause-modifier : goal.returns-then-eq-clause-modifier
returns-then-eq-clause-modifier c =
    let token = c.args.self.now.token in
    let same : c.in_ok-token-in-OtherModifier.token.value.now ≡ codes "?" = search rules in
    let mark : chars token.value.now ≡ codes "?" = ap (λ (t : Token). chars t.value.now) (sym c.in_ok-token-in-OtherModifier.ensures.token) ∙ ap chars same ∙ question_mark.0 in
    takes_weaker c.args.self.now c.take.new.self (λ tokens rest. tokens ≡ token_view token ∷ rest) (λ tokens rest. BeginsWithModifier tokens modifiers.Optional rest) c.in_ok-token-in-OtherModifier.ensures.takes
    (λ x y gx gy p. optional x y (token_view token) gx.closed p c.in-OtherModifier.is mark)

pub returns-else-eq-clause-modifier : goal.returns-else-eq-clause-modifier
returns-else-eq-clause-modifier c =
    let token = c.args.self.now.token in
    let other : c.in_ok-token-in-OtherModifier.token.value.now ≡ codes "?" → ⊥ = search rules in
    takes_weaker c.args.self.now c.take.new.self (λ tokens rest. tokens ≡ token_view token ∷ rest) (λ tokens rest. BeginsWithModifier tokens modifiers.OneOrMore rest) c.in_ok-token-in-OtherModifier.ensures.takes
    (λ x y gx gy p. one_or_more x y (token_view token) gx.closed p c.in-OtherModifier.is
    (λ e. other (bytes_from_chars _ _ (search rules) (ap (λ (t : Token). chars t.value.now) c.in_ok-token-in-OtherModifier.ensures.token ∙ e) question_mark.1)))

pub returns-in_ok-_asterisk-in-Asterisk-clause-modifier : goal.returns-in_ok-_asterisk-in-Asterisk-clause-modifier
returns-in_ok-_asterisk-in-Asterisk-clause-modifier c =
    let token = c.args.self.now.token in
    takes_weaker c.args.self.now c.take-in-Asterisk.new.self (λ tokens rest. tokens ≡ token_view token ∷ rest) (λ tokens rest. BeginsWithModifier tokens modifiers.ZeroOrMore rest) c.in_ok-_asterisk-in-Asterisk.ensures.takes
    (λ x y gx gy p. zero_or_more x y (token_view token) gx.closed p c.in-Asterisk.is)
