use Rattle.std.proofs.Common.{◌≡◌, ◌-◌, ◌∷◌, ◌++◌, [], length, map, sym, ap, ◌∙◌, subst, rules, tests, arith}
use Rattle.std.specs.Str.{chars}
use Rattle.std.proofs.lemmas.List.{map-append}
use Rattle.urlpattern_syntax.specs.declared.tokenizer.TokenType.TheVariants.{End}
use Rattle.urlpattern_syntax.specs.declared.tokenizer.Token.{Token}
use Rattle.urlpattern_syntax.specs.Tokens.{end_of, token_view}
use Rattle.urlpattern_syntax.proofs.TextLemmas.{BeginsAt-bytes, byte_len-chars, chars-empty, chars-some}
use Rattle.urlpattern_syntax.proofs.TokenLemmas.{AreTokensUnder-cut, IsCutUnder, IsCutUnder-more, IsLexedUnder-shorter, end_view}
use Rattle.urlpattern_parser.proofs.LexemeLemmas.{ReportsFaultUnder-first, LexesUnder-ok}
use Rattle.urlpattern_parser.proofs.tokenizer.tokenize.Goals as goal

pub next_token-requires-clause-characters : goal.next_token-requires-clause-characters
next_token-requires-clause-characters c =
    chars-some c.loop-policy.rest.now c.loop-policy.invariant.is_text (λ e. search (rules, tests))

pub loop-policy-smaller : goal.loop-policy-smaller
loop-policy-smaller c =
    let lexed = LexesUnder-ok c.args.policy (chars c.loop-policy.rest.now) c.in-Ok.lexeme c.in-Ok.ensures in
    let shorter = IsLexedUnder-shorter c.args.policy _ _ _ _ lexed in
    let l = c.skip_ignored-rest-in-Ok.ensures.len in
    let b = byte_len-chars c.loop-policy.rest.now c.loop-policy.invariant.is_text in
    let r = byte_len-chars c.in-Ok.lexeme.rest.now (search rules) in
    omega arith

pub loop-policy-preserved : goal.loop-policy-preserved
loop-policy-preserved c =
    let lexed = LexesUnder-ok c.args.policy (chars c.loop-policy.rest.now) c.in-Ok.lexeme c.in-Ok.ensures in
    let l = c.skip_ignored-rest-in-Ok.ensures.len in
    let token : Token = record { kind = c.in-Ok.lexeme.kind; index = length c.args.input.now - length c.loop-policy.rest.now; value = c.in-Ok.lexeme.value } in
    let items : c.push.new.self.items ≡ c.loop-policy.tokens.items ++ token ∷ [] = search rules in
    let views : map token_view c.push.new.self.items ≡ map token_view c.loop-policy.tokens.items ++ token_view token ∷ [] =
    ap (map token_view) items ∙ map-append token_view c.loop-policy.tokens.items (token ∷ []) in
    let shorter = IsLexedUnder-shorter c.args.policy _ _ _ _ lexed in
    let b = byte_len-chars c.loop-policy.rest.now c.loop-policy.invariant.is_text in
    let r = byte_len-chars c.in-Ok.lexeme.rest.now (search rules) in
    let place = BeginsAt-bytes c.args.input.now c.loop-policy.rest.now c.utf8.input c.loop-policy.invariant.is_text c.loop-policy.invariant.len in
    record {
      is_text = c.skip_ignored-rest-in-Ok.utf8;
      cut = subst (λ x. IsCutUnder c.args.policy (chars c.args.input.now) x (chars c.skip_ignored-rest-in-Ok.result.now)) (sym views)
          (IsCutUnder-more c.args.policy _ _ _ _ _ _ _ _ c.loop-policy.invariant.cut lexed place c.skip_ignored-rest-in-Ok.ensures.skips);
      begins = c.skip_ignored-rest-in-Ok.ensures.all;
      len = omega (arith, c.loop-policy.invariant.len);
    }

pub returns-in-Err-clause-fault : goal.returns-in-Err-clause-fault
returns-in-Err-clause-fault c =
    ReportsFaultUnder-first c.args.policy (chars c.args.input.now) (chars c.loop-policy.rest.now) (map token_view c.loop-policy.tokens.items) _ _
    c.loop-policy.invariant.cut c.in-Err.ensures
    (BeginsAt-bytes c.args.input.now c.loop-policy.rest.now c.utf8.input c.loop-policy.invariant.is_text c.loop-policy.invariant.len)

pub returns-clause-tokens : goal.returns-clause-tokens
returns-clause-tokens c =
    let empty : chars c.loop-policy.rest.now ≡ [] = chars-empty c.loop-policy.rest.now (search (rules, tests)) in
    let last : Token = record { kind = End; index = length c.args.input.now; value = c.loop-policy.rest } in
    let items : c.push-2.new.self.items ≡ c.loop-policy.tokens.items ++ last ∷ [] = search rules in
    let size = byte_len-chars c.args.input.now c.utf8.input in
    let view : token_view last ≡ end_of (chars c.args.input.now) = end_view _ _ _ (sym size) empty in
    AreTokensUnder-cut c.args.policy (chars c.args.input.now) _ (map token_view c.loop-policy.tokens.items)
    (subst (IsCutUnder c.args.policy (chars c.args.input.now) (map token_view c.loop-policy.tokens.items)) empty c.loop-policy.invariant.cut)
    (ap (map token_view) items ∙ map-append token_view c.loop-policy.tokens.items (last ∷ []) ∙ ap (λ x. map token_view c.loop-policy.tokens.items ++ x ∷ []) view)
