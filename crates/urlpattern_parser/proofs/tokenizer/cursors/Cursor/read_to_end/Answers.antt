use Rattle.std.proofs.Common.{◌≡◌, ◌≢◌, ◌∷◌, [], subst, ◌∙◌, rules}
use Rattle.std.specs.Str.{chars}
use Rattle.urlpattern_syntax.specs.declared.tokenizer.TokenType.TheVariants.{End}
use Rattle.urlpattern_syntax.specs.Cursors.{IsPlace, IsTokenAfter}
use Rattle.urlpattern_syntax.specs.Tokens.{token_view}
use Rattle.urlpattern_parser.proofs.ReaderLemmas.{after_end, after_other}
use Rattle.urlpattern_parser.proofs.tokenizer.cursors.Cursor.read_to_end.Goals as goal

pub returns-then-eq-clause-tokens : goal.returns-then-eq-clause-tokens
returns-then-eq-clause-tokens c =
    let whole = c.loop-token.invariant.whole in
    let is_end : c.in_ok-token.token.kind ≡ End = search rules in
    let after : IsTokenAfter (chars c.args.self.now.input.now) (chars c.loop-token.cursor.rest.now) (token_view c.in_ok-token.token) (chars c.next.new.self.rest.now) =
    subst (λ input. IsTokenAfter (chars input) (chars c.loop-token.cursor.rest.now) (token_view c.in_ok-token.token) (chars c.next.new.self.rest.now)) whole c.in_ok-token.ensures.token in
    c.loop-token.invariant.tokens (token_view c.in_ok-token.token ∷ [])
    (after_end (chars c.args.self.now.input.now) (chars c.loop-token.cursor.rest.now) (chars c.next.new.self.rest.now) (token_view c.in_ok-token.token) after is_end)

pub loop-token-preserved : goal.loop-token-preserved
loop-token-preserved c =
    let whole = c.loop-token.invariant.whole in
    let other : c.in_ok-token.token.kind ≢ End = search rules in
    let after : IsTokenAfter (chars c.args.self.now.input.now) (chars c.loop-token.cursor.rest.now) (token_view c.in_ok-token.token) (chars c.next.new.self.rest.now) =
    subst (λ input. IsTokenAfter (chars input) (chars c.loop-token.cursor.rest.now) (token_view c.in_ok-token.token) (chars c.next.new.self.rest.now)) whole c.in_ok-token.ensures.token in
    record {
      whole = c.in_ok-token.ensures.whole ∙ whole;
      place = subst (λ input. IsPlace (chars input) (chars c.next.new.self.rest.now)) whole c.in_ok-token.ensures.place;
      tokens = λ tokens t.
          c.loop-token.invariant.tokens (token_view c.in_ok-token.token ∷ tokens)
          (after_other (chars c.args.self.now.input.now) (chars c.loop-token.cursor.rest.now) (chars c.next.new.self.rest.now) (token_view c.in_ok-token.token) tokens after other t);
    }
