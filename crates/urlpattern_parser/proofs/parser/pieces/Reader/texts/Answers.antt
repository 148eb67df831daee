use Rattle.std.proofs.Common.{◌≡◌, ◌∷◌, ◌++◌, [], List, false, refl, ap, ◌∙◌, sym, subst, append_assoc, rules}
use Rattle.std.specs.Prelude.{IsTrue}
use Rattle.std.specs.Str.{chars}
use Rattle.urlpattern_syntax.specs.Parsing.{BeginsWithTexts}
use Rattle.urlpattern_syntax.specs.Pieces.{AreTexts, is_text}
use Rattle.urlpattern_syntax.specs.Text.{text_of}
use Rattle.urlpattern_syntax.specs.Tokens.{TokenView, token_view}
use Rattle.urlpattern_syntax.proofs.PieceLemmas.{AreTexts-push, not_first}
use Rattle.urlpattern_parser.proofs.ReaderLemmas.{takes_none, takes_then, takes_weaker}
use Rattle.urlpattern_syntax.proofs.StringTexts.{text-append, text-nil}
use Rattle.urlpattern_parser.proofs.parser.pieces.Reader.texts.Goals as goal

pub loop-self-init : goal.loop-self-init
loop-self-init c =
    takes_none c.args.self.now (λ tokens rest. (front : List TokenView) × (tokens ≡ front ++ rest) × AreTexts front (text_of c.new-text.result)) c.requires
    (λ tokens g. ([], refl, (refl, text-nil c.new-text.result c.new-text.ensures.bytes)))

pub loop-self-preserved : goal.loop-self-preserved
loop-self-preserved c =
    let token = c.loop-self.self.token in
    let was = c.loop-self.text in
    let now = c.push_str.new.self in
    let value = c.in_ok-token.token.value.now in
    let same : token_view token ≡ token_view c.in_ok-token.token = ap token_view (sym c.in_ok-token.ensures.token) in
    let is : IsTrue (is_text token.kind) = search rules in
    let pushed : text_of now ≡ text_of was ++ chars value = text-append was value c.in_ok-push_str.ensures.bytes in
    takes_then c.args.self.now c.loop-self.self c.take.new.self (λ tokens rest. (front : List TokenView) × (tokens ≡ front ++ rest) × AreTexts front (text_of was)) (λ tokens rest. tokens ≡ token_view token ∷ rest)
    (λ tokens rest. (front : List TokenView) × (tokens ≡ front ++ rest) × AreTexts front (text_of now))
    c.loop-self.invariant c.in_ok-token.ensures.takes
    (λ x y z gx gy gz p q. (
      p.0 ++ token_view token ∷ [],
      p.1 ∙ ap (λ w. p.0 ++ w) q ∙ sym (append_assoc p.0 (token_view token ∷ []) z),
      subst (AreTexts (p.0 ++ token_view token ∷ [])) (sym pushed)
          (AreTexts-push p.0 (text_of was) (chars value) (token_view token) p.2 is (ap (λ (t : TokenView). t.value) same)),
    ))

pub returns-clause-texts : goal.returns-clause-texts
returns-clause-texts c =
    let other : is_text c.loop-self.self.token.kind ≡ false = search rules in
    takes_weaker c.args.self.now c.loop-self.self (λ tokens rest. (front : List TokenView) × (tokens ≡ front ++ rest) × AreTexts front (text_of c.loop-self.text)) (λ tokens rest. BeginsWithTexts tokens (text_of c.loop-self.text) rest)
    c.loop-self.invariant
    (λ x y gx gy p. record { front = p.0; cut = p.1; are_texts = p.2; all = not_first is_text (token_view c.loop-self.self.token) gy.more y gy.first other })
