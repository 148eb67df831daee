-- A token at the beginning of a text, under a policy.
use Rattle.std.proofs.Common.{ℕ, List, Ok, Err}
use Rattle.std.specs.Str.{chars}
use Rattle.urlpattern_syntax.proofs.TokenLemmas.{IsCutUnder, IsLexedUnder}
use Rattle.urlpattern_syntax.specs.declared.error.Error.TheVariants as errors
use Rattle.urlpattern_syntax.specs.declared.error.TokenizerError.{TokenizerError}
use Rattle.urlpattern_syntax.specs.Text.{BeginsAt}
use Rattle.urlpattern_syntax.specs.Tokens.{ReportsFaultUnder, TokenView}
use Rattle.urlpattern_parser.specs.declared.tokenizer.lexemes.Lexeme.{Lexeme}
use Rattle.urlpattern_syntax.specs.declared.tokenizer.TokenizePolicy.{TokenizePolicy}
use Rattle.urlpattern_syntax.specs.declared.tokenizer.TokenizePolicy.TheVariants as policies
use Rattle.urlpattern_parser.specs.Lexemes.{LexesUnder}

pub LexesUnder-ok : (policy : TokenizePolicy) (text : List ℕ) (lexeme : Lexeme) → LexesUnder policy text (Ok lexeme) → IsLexedUnder policy text lexeme.kind (chars lexeme.value.now) (chars lexeme.rest.now)
LexesUnder-ok policies.Strict text lexeme h = h
LexesUnder-ok policies.Lenient text lexeme h = h

-- A fault is reported under the strict policy alone.
pub ReportsFaultUnder-first : (policy : TokenizePolicy) (text left : List ℕ) (front : List TokenView) (fault : TokenizerError) (index : ℕ) → IsCutUnder policy text front left → LexesUnder policy left (Err fault) → BeginsAt text left index → ReportsFaultUnder policy text (errors.Tokenizer fault index)
ReportsFaultUnder-first policies.Strict text left front fault index cut reported place = record { front = front; left = left; cut = cut; place = place; fault = reported }
ReportsFaultUnder-first policies.Lenient text left front fault index cut reported place = absurd reported
