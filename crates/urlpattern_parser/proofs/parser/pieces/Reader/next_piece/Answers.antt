use Rattle.std.proofs.Common.{◌≡◌, ◌∷◌, ◌++◌, [], List, ℕ, refl, inl, ap, ◌∙◌, sym, subst}
use Rattle.std.specs.Str.{chars}
use Rattle.std.proofs.lemmas.Result.{on_ok_weaker}
use Rattle.std.proofs.lemmas.Str.{chars-nil}
use Rattle.std.specs.Prelude.{IsTrue}
use Rattle.urlpattern_syntax.specs.declared.tokenizer.Token.{Token}
use Rattle.urlpattern_syntax.specs.declared.tokenizer.TokenType.TheVariants.{EscapedChar}
use Rattle.urlpattern_syntax.specs.Parsing.{BeginsWithPiece}
use Rattle.urlpattern_parser.specs.Readers.{IsNext}
use Rattle.urlpattern_syntax.specs.Pieces.{IsPrefixOf, is_text, Piece as pieces}
use Rattle.urlpattern_syntax.specs.Tokens.{TokenView, token_view}
use Rattle.urlpattern_syntax.proofs.PieceLemmas.{text_piece}
use Rattle.urlpattern_parser.proofs.ReaderLemmas.{takes_weaker}
use Rattle.urlpattern_parser.proofs.parser.pieces.Reader.next_piece.Goals as goal

pub returns-in_ok-next-in-Open-clause-next : goal.returns-in_ok-next-in-Open-clause-next
returns-in_ok-next-in-Open-clause-next c =
    let point = chars c.args.prefix_code_point.now in
    let next = c.in_ok-next-in-Open.field-0 in
    takes_weaker c.args.self.now c.group.new.self (λ tokens rest. (point : List ℕ) → IsNext point tokens next rest) (λ tokens rest. IsNext point tokens next rest)
    c.in_ok-next-in-Open.ensures.next (λ x y gx gy p. p point)

pub returns-in-Name-clause-next : goal.returns-in-Name-clause-next
returns-in-Name-clause-next c =
    let point = chars c.args.prefix_code_point.now in
    let next = c.bare.new.next in
    on_ok_weaker c.bare.result
    (λ h. takes_weaker c.args.self.now c.bare.new.self (λ tokens rest. (point : List ℕ) (before : List TokenView) → IsPrefixOf point before (chars []) → IsNext point (before ++ tokens) next rest) (λ tokens rest. IsNext point tokens next rest) h
    (λ x y gx gy p. p point [] (inl (refl, chars-nil))))
    c.bare.ensures.next

pub returns-in_ok-token-in-EscapedChar-clause-next : goal.returns-in_ok-token-in-EscapedChar-clause-next
returns-in_ok-token-in-EscapedChar-clause-next c =
    let token = c.args.self.now.token in
    let point = chars c.args.prefix_code_point.now in
    let first = c.in_ok-token-in-EscapedChar.token in
    let same : token_view token ≡ token_view first = ap token_view (sym c.in_ok-token-in-EscapedChar.ensures.token) in
    let kind : first.kind ≡ EscapedChar = ap (λ (t : Token). t.kind) c.in_ok-token-in-EscapedChar.ensures.token ∙ c.in-EscapedChar.is in
    takes_weaker c.args.self.now c.take.new.self (λ tokens rest. tokens ≡ token_view token ∷ rest) (λ tokens rest. BeginsWithPiece point tokens (pieces.Text (chars first.value.now)) rest) c.in_ok-token-in-EscapedChar.ensures.takes
    (λ x y gx gy p. subst (λ w. BeginsWithPiece point w (pieces.Text (chars first.value.now)) y) (sym (p ∙ ap (λ t. t ∷ y) same))
    (text_piece point (token_view first) y (subst (λ k. IsTrue (is_text k)) (sym kind) refl) (λ k v. absurd (cc (k, kind)))))
