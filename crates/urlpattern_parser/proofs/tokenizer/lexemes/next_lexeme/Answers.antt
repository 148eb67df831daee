use Rattle.std.proofs.Common.{◌≡◌, ◌∷◌, ◌++◌, [], refl, sym, ap, ◌∙◌, subst, inl, inr, rules, arith}
use Rattle.std.specs.Str.{chars}
use Rattle.std.proofs.lemmas.Bool.Decides.{nat_tests}
use Rattle.urlpattern_syntax.specs.declared.tokenizer.TokenType.TheVariants.{Open, Close, Char, OtherModifier, Asterisk}
use Rattle.urlpattern_syntax.specs.Tokens.{IsLexed}
use Rattle.urlpattern_syntax.proofs.TokenLemmas.{character_lexed, not_ignored, Spells-char}
use Rattle.urlpattern_parser.proofs.tokenizer.lexemes.next_lexeme.Goals as goal
use Rattle.urlpattern_parser.proofs.tokenizer.lexemes.next_lexeme.Goals.{in-123, in-125, in-42, in-43, in_default-first}

pub before-requires : goal.before-requires
before-requires c =
    let cut : chars c.args.text.now ≡ c.in-Some.first ∷ chars c.in-Some.rest.now = search rules in
    (c.in-Some.first ∷ [], cut)

pub returns : goal.returns
returns c =
    let text = chars c.args.text.now in
    let value = chars c.before-2.result.now in
    let rest = chars c.in-Some.rest.now in
    let first = c.in-Some.first in
    let cut : text ≡ first ∷ rest = search rules in
    let before : text ≡ value ++ rest = search rules in
    elim c.match-first.branch [
      | in-123 w ↦ subst (λ kind. IsLexed text kind value rest) (sym w.kind-is)
          (character_lexed Open text value rest first cut before (λ s e. (refl, e ∙ ap (λ x. x ∷ []) w.in-123.is)) tt)
      | in-125 w ↦ subst (λ kind. IsLexed text kind value rest) (sym w.kind-is)
          (character_lexed Close text value rest first cut before (λ s e. (refl, e ∙ ap (λ x. x ∷ []) w.in-125.is)) tt)
      | in-42 w ↦ subst (λ kind. IsLexed text kind value rest) (sym w.kind-is)
          (character_lexed Asterisk text value rest first cut before (λ s e. (refl, e ∙ ap (λ x. x ∷ []) w.in-42.is)) tt)
      | in-43 w ↦ subst (λ kind. IsLexed text kind value rest) (sym w.kind-is)
          (character_lexed OtherModifier text value rest first cut before (λ s e. (refl, elim w.in-43.is [ inl plus ↦ inl (e ∙ ap (λ x. x ∷ []) plus) | inr mark ↦ inr (e ∙ ap (λ x. x ∷ []) mark) ])) tt)
      | in_default-first w ↦ subst (λ kind. IsLexed text kind value rest) (sym w.kind-is)
          (character_lexed Char text value rest first cut before (Spells-char first (grind (arith, nat_tests)) (not_ignored text rest first cut c.requires.counts)) tt)
    ]
