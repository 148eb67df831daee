use Rattle.std.proofs.Common.{ℕ, List, ◌≡◌, ◌∷◌, ◌++◌, [], refl, inr, ap, ◌∙◌, sym, subst, rules}
use Rattle.std.specs.Prelude.{IsTrue}
use Rattle.std.specs.Borrow.{Bor}
use Rattle.std.specs.Str.{chars}
use Rattle.std.proofs.lemmas.Result.{on_ok_weaker}
use Rattle.urlpattern_syntax.specs.Parsing.{BeginsWithPiece}
use Rattle.urlpattern_parser.specs.Readers.{HasTokensLeft, IsNext}
use Rattle.urlpattern_syntax.specs.Pieces.{IsPrefixOf, TakesPrefix, is_placeholder, is_text, Piece as pieces}
use Rattle.urlpattern_syntax.specs.Tokens.{TokenView, token_view}
use Rattle.urlpattern_parser.proofs.CharacterLemmas.{row_alone, row_texts}
use Rattle.urlpattern_syntax.proofs.PieceLemmas.{not_first, text_piece}
use Rattle.urlpattern_parser.proofs.ReaderLemmas.{takes_then, takes_weaker}
use Rattle.urlpattern_syntax.proofs.TextLemmas.{bytes_same, chars-empty, chars-some}
use Rattle.urlpattern_parser.proofs.parser.pieces.Reader.character.Goals as goal
use Rattle.urlpattern_parser.proofs.parser.pieces.Reader.character.Goals.{else-eq-via-then-eq+else-is_placeholder, else-eq-via-else-eq}

pub returns-then-not-is_empty-clause-next : goal.returns-then-not-is_empty-clause-next
returns-then-not-is_empty-clause-next c =
    let old = c.args.self.now in
    let more = c.in_ok-first.more in
    let some : ¬ (chars more.now ≡ []) = chars-some more.now (search rules) (search rules) in
    let text : IsTrue (is_text old.token.kind) = subst (λ k. IsTrue (is_text k)) (sym c.requires.character) refl in
    row_texts old c.characters.new.self (chars c.in_ok-first.first.now) (chars more.now) c.in_ok-first.ensures.more some (ap chars (ap (λ (t : Bor (List ℕ)). t.now) c.in_ok-first.ensures.first)) text

pub returns-then-is_placeholder-clause-next : goal.returns-then-is_placeholder-clause-next
returns-then-is_placeholder-clause-next c =
    let old = c.args.self.now in
    let token = token_view old.token in
    let point = chars c.args.prefix_code_point.now in
    let first = c.in_ok-first.first in
    let more = c.in_ok-first.more in
    let prefix = chars first.now in
    let same : token.value ≡ prefix = ap (λ (t : Bor (List ℕ)). chars t.now) (sym c.in_ok-first.ensures.first) in
    let none : chars more.now ≡ [] = chars-empty more.now (search rules) in
    let takes = row_alone old c.characters.new.self (chars more.now) c.in_ok-first.ensures.more none in
    let bytes : first.now ≡ c.args.prefix_code_point.now = search rules in
    let is_prefix : IsPrefixOf point (token ∷ []) prefix =
    inr (ap (λ kind. kind ∷ []) c.requires.character, ap (λ value. value ∷ []) same, ap chars bytes) in
    let next = c.bare.new.next in
    on_ok_weaker c.bare.result
    (λ h. takes_then old c.characters.new.self c.bare.new.self (λ tokens rest. tokens ≡ token ∷ rest) (λ tokens rest. (point : List ℕ) (before : List TokenView) → IsPrefixOf point before prefix → IsNext point (before ++ tokens) next rest) (λ tokens rest. IsNext point tokens next rest)
    takes h
    (λ x y z gx gy gz p q. subst (λ w. IsNext point w next z) (sym p) (q point (token ∷ []) is_prefix)))
    c.bare.ensures.next

pub returns-clause-next : goal.returns-clause-next
returns-clause-next c =
    let old = c.args.self.now in
    let token = token_view old.token in
    let point = chars c.args.prefix_code_point.now in
    let first = c.in_ok-first.first in
    let more = c.in_ok-first.more in
    let new = c.characters.new.self in
    let value : token.value ≡ chars first.now = ap (λ (t : Bor (List ℕ)). chars t.now) (sym c.in_ok-first.ensures.first) in
    let none : chars more.now ≡ [] = chars-empty more.now (search rules) in
    let takes = row_alone old new (chars more.now) c.in_ok-first.ensures.more none in
    let alone : (y : List TokenView) → HasTokensLeft new y → TakesPrefix point token y = λ y g. elim c.else-eq.branch [
      | else-eq-via-then-eq+else-is_placeholder w ↦ λ k v.
          not_first is_placeholder (token_view new.token) g.more y g.first (sym w.is_placeholder.ensures ∙ w.if-is_placeholder.false)
      | else-eq-via-else-eq w ↦ λ k v.
          let other : first.now ≡ c.args.prefix_code_point.now → ⊥ = search rules in
          absurd (other (bytes_same _ _ (search rules) c.utf8.prefix_code_point (sym value ∙ v)))
    ] in
    takes_weaker old new (λ tokens rest. tokens ≡ token ∷ rest) (λ tokens rest. BeginsWithPiece point tokens (pieces.Text (chars first.now)) rest) takes
    (λ x y gx gy p. subst (λ w. BeginsWithPiece point w (pieces.Text (chars first.now)) y) (sym p)
    (subst (λ v. BeginsWithPiece point (token ∷ y) (pieces.Text v) y) value
    (text_piece point token y (subst (λ k. IsTrue (is_text k)) (sym c.requires.character) refl) (alone y gy))))
