use Rattle.std.proofs.Common.{◌≡◌, ◌+◌, All, List, [], arith, drop, false, refl, subst, sym}
use Rattle.std.proofs.lemmas.List.{drop_all}
use Rattle.std.proofs.lemmas.List.Elements.{All-nil}
use Rattle.urlpattern_expressions.proofs.SimpleLemmas.{ends, goes_on, next_part, no_longer}
use Rattle.urlpattern_expressions.proofs.simple.have_ascii_texts.Goals as goal
use Rattle.urlpattern_expressions.specs.SimpleExpressions.{HasAsciiTexts}
use Rattle.urlpattern_syntax.specs.Parts.{part_view, parts_view}
use Rattle.urlpattern_syntax.specs.declared.parser.Part.{Part}

pub returns-then-not-has_ascii_texts : goal.returns-then-not-has_ascii_texts
returns-then-not-has_ascii_texts c =
    let next = next_part c.args.parts.now c.loop-part.part-index c.part-item.result c.loop-part-test.true c.part-item.is in
    let no = ends HasAsciiTexts (part_view c.part-item.result) (parts_view (drop (c.loop-part.part-index + 1) c.args.parts.now)) (parts_view c.args.parts.now) (parts_view (drop c.loop-part.part-index c.args.parts.now)) next c.loop-part.invariant.decides in (
      λ never. absurd (no_longer false refl never),
      λ every. absurd (no (λ ascii. no_longer c.has_ascii_texts.result c.if-not-has_ascii_texts.true (c.has_ascii_texts.ensures.1 ascii)) every),
    )

pub loop-part-preserved : goal.loop-part-preserved
loop-part-preserved c =
    let next = next_part c.args.parts.now c.loop-part.part-index c.part-item.result c.loop-part-test.true c.part-item.is in
    let more = goes_on HasAsciiTexts (part_view c.part-item.result) (parts_view (drop (c.loop-part.part-index + 1) c.args.parts.now)) (parts_view c.args.parts.now) (parts_view (drop c.loop-part.part-index c.args.parts.now)) next c.loop-part.invariant.decides in
    record { decides = more (c.has_ascii_texts.ensures.0 c.if-not-has_ascii_texts.false) }

pub returns : goal.returns
returns c =
    let parts = c.args.parts.now in
    let none : drop c.loop-part.part-index parts ≡ [] = drop_all c.loop-part.part-index parts (omega (arith, c.loop-part-test.false)) in (
      λ is. c.loop-part.invariant.decides.0 (subst (λ (left : List Part). All HasAsciiTexts (parts_view left)) (sym none) (All-nil HasAsciiTexts)),
      λ every. refl,
    )
