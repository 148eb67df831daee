use Rattle.std.proofs.Common.{◌≡◌, ◌≤◌, ◌*◌, true, codes, max, refl, sym, subst, ◌∙◌, true≢false, inl, inr, arith, rules}
use Rattle.std.specs.Str.{chars}
use Rattle.urlpattern_engine.proofs.LargeLemmas.{copies_more}
use Rattle.urlpattern_syntax.specs.Text.{is_among}
use Rattle.urlpattern_engine.proofs.large.copies.Goals.{in-123, in_default-matches}
use Rattle.urlpattern_engine.proofs.large.copies.Goals as goal

pub loop-c-preserved-then-matches : goal.loop-c-preserved-then-matches
loop-c-preserved-then-matches c =
    let mark : is_among (codes "{,") c.in-Some.c ≡ true = elim c.match-matches.branch [
      | in-123 w ↦ elim w.in-123.is [
        | inl comma ↦ subst (λ d. is_among (codes "{,") d ≡ true) (sym comma) refl
        | inr brace ↦ subst (λ d. is_among (codes "{,") d ≡ true) (sym brace) refl
      ]
      | in_default-matches w ↦ absurd (true≢false (sym c.if-matches.true ∙ w.matches-is))
    ]
    in
    let made : c.saturating_mul-copies.result ≤ c.loop-c.copies * max c.number.result 1 = grind (arith, c.saturating_mul-copies.ensures, c.max.ensures) in
    let more = copies_more c.in-Some.c c.number.result c.saturating_mul-copies.result c.loop-c.copies (chars c.loop-c.rest.now) (chars c.in-Some.remaining.now) c.in-Some.ensures.cut mark made c.number.ensures in
    record {
      is_text = search rules;
      small = omega (arith, more, c.loop-c.invariant.small);
    }
