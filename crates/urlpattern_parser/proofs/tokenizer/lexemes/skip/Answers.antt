use Rattle.std.proofs.Common.{◌≡◌, ◌<◌, ◌∷◌, length, true, rules, arith}
use Rattle.std.specs.Str.{chars}
use Rattle.urlpattern_syntax.proofs.TokenLemmas.{SkipsBy-more}
use Rattle.urlpattern_parser.proofs.tokenizer.lexemes.skip.Goals as goal

pub loop-first-preserved : goal.loop-first-preserved
loop-first-preserved g c =
    let test = g.K.CharKind.test in
    let cut : chars c.loop-first.rest.now ≡ c.in-Some.first ∷ chars c.in-Some.after.now = search rules in
    let shorter : length c.in-Some.after.now < length c.loop-first.rest.now = search rules in
    let passes : test c.in-Some.first ≡ true = search rules in
    record {
      is_text = search rules;
      skips = SkipsBy-more test _ _ _ _ c.loop-first.invariant.skips cut passes;
      len = omega arith;
    }
