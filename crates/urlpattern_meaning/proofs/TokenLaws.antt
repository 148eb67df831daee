-- A token's value is a slice of the text.
use Rattle.std.proofs.Common.{◌≡◌, ◌≢◌, ℕ, List, [], ◌∷◌, ◌++◌, refl, sym, ap, ◌∙◌, append_assoc}
use Rattle.std.specs.Prelude.{codes}
use Rattle.std.proofs.lemmas.List.{append-nil}
use Rattle.urlpattern_meaning.proofs.TokensPlaced.{end_last, last_end, tokens_stand}
use Rattle.urlpattern_syntax.specs.declared.tokenizer.TokenType.{TokenType}
use Rattle.urlpattern_syntax.specs.declared.tokenizer.TokenType.TheVariants.{Name, EscapedChar, Regexp, End}
use Rattle.urlpattern_meaning.specs.Laws.{spelling}
use Rattle.urlpattern_syntax.specs.Tokens.{AreTokens, TokenView}

-- The value is a slice of the text.
abbrev IsSlice : (value text : List ℕ) → Type 0
IsSlice value text = (before behind : List ℕ) × (text ≡ before ++ value ++ behind)

slice_whole : (value : List ℕ) → IsSlice value value
slice_whole value = ([], [], sym (append-nil value))

-- A spelling contains the token's value; the value of End is arbitrary.
spelled_value : (kind : TokenType) (value : List ℕ) → kind ≢ End → IsSlice value (spelling kind value)
spelled_value EscapedChar value other = (codes "\\", [], ap (λ x. codes "\\" ++ x) (sym (append-nil value)))
spelled_value Name value other = (codes ":", [], ap (λ x. codes ":" ++ x) (sym (append-nil value)))
spelled_value Regexp value other = (codes "(", codes ")", refl)
spelled_value End value other = absurd (other refl)
spelled_value kind value other = slice_whole value

slice_in : (value middle before behind text : List ℕ) → text ≡ before ++ middle ++ behind → IsSlice value middle → IsSlice value text
slice_in value middle before behind text e s = (
  before ++ s.0,
  s.1 ++ behind,
  e ∙ ap (λ x. before ++ x ++ behind) s.2 ∙ append_assoc before (s.0 ++ value ++ s.1) behind
      ∙ ap (λ x. before ++ x) (append_assoc (s.0 ++ value) s.1 behind) ∙ sym (append_assoc before (s.0 ++ value) (s.1 ++ behind))
      ∙ ap (λ x. x ++ (s.1 ++ behind)) (sym (append_assoc before s.0 value)),
)

pub value_stands : (text : List ℕ) (tokens front back : List TokenView) (token : TokenView) → AreTokens text tokens → tokens ≡ front ++ token ∷ back → (before behind : List ℕ) × (text ≡ before ++ token.value ++ behind)
value_stands text tokens front back token h e = by_kind token.kind refl
  where
    within : token.kind ≢ End → IsSlice token.value text
    within other =
        let stand = tokens_stand text tokens front back token h e in
        slice_in token.value (spelling token.kind token.value) stand.0 stand.1 text stand.2 (spelled_value token.kind token.value other)

    by_kind : (kind : TokenType) → token.kind ≡ kind → IsSlice token.value text
    by_kind End k =
        let last = end_last text tokens front back token h e k in
        let same = last_end text tokens front token h (e ∙ ap (λ x. front ++ token ∷ x) last) in
        ([], text, ap (λ (t : TokenView). t.value ++ text) (sym same))
    by_kind other k = within (λ f. cc (k, f))
