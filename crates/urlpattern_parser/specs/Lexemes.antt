-- A token at the beginning of a text.
use Rattle.std.specs.Prelude.{ℕ, ◌⊎◌, List, MatchResult, Result}
use Rattle.urlpattern_syntax.specs.declared.error.{TokenizerError.TokenizerError}
use Rattle.urlpattern_parser.specs.declared.tokenizer.lexemes.Lexeme.{Lexeme}
use Rattle.urlpattern_syntax.specs.declared.tokenizer.TokenizePolicy.{TokenizePolicy}
use Rattle.urlpattern_syntax.specs.Tokens.{IsFaultAt, IsInvalidChar, IsLexed, fault_view}
use Rattle.urlpattern_syntax.specs.Text.{chars}

-- The result is the token at the beginning of the text and the text after it, or the reason why no
-- token begins there.
abbrev pub Lexes : List ℕ → Result Lexeme TokenizerError → Type 0
Lexes text result = MatchResult result
    (λ lexeme. IsLexed text lexeme.kind (chars lexeme.value.now) (chars lexeme.rest.now))
    (λ fault. IsFaultAt text (fault_view fault))

-- The result is the token at the beginning of the text under the policy, and the text after it.
-- Where no token begins there, the result under the strict policy is the reason, as an error, and
-- the lenient policy makes the first character a token.
abbrev pub LexesUnder : TokenizePolicy → List ℕ → Result Lexeme TokenizerError → Type 0
LexesUnder TokenizePolicy.Strict text result = Lexes text result
LexesUnder TokenizePolicy.Lenient text result = MatchResult result
    (λ lexeme. IsLexed text lexeme.kind (chars lexeme.value.now) (chars lexeme.rest.now)
    ⊎ IsInvalidChar text lexeme.kind (chars lexeme.value.now) (chars lexeme.rest.now))
    (λ fault. ⊥)
