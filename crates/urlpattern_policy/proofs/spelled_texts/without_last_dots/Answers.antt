use Rattle.std.proofs.Common.{◌≡◌, ◌∙◌, [], ap, rules, sym}
use Rattle.std.specs.Str.{chars}
use Rattle.urlpattern_policy.proofs.SpellingLaws.{dots_dropped, dots_kept, dots_of_nothing}
use Rattle.urlpattern_policy.specs.Spellings.{without_last_dots}
use Rattle.urlpattern_policy.proofs.spelled_texts.without_last_dots.Goals as goal

pub returns-then-not-is_dot : goal.returns-then-not-is_dot
returns-then-not-is_dot c =
    sym (dots_kept (chars c.loop-before.rest.now) (chars c.in-Some.before.now) c.in-Some.c c.in-Some.ensures.cut (sym c.is_dot.ensures ∙ c.if-not-is_dot.true))
    ∙ c.loop-before.invariant.left

pub loop-before-preserved : goal.loop-before-preserved
loop-before-preserved c = record {
  is_text = search rules;
  left =
      sym (dots_dropped (chars c.loop-before.rest.now) (chars c.in-Some.before.now) c.in-Some.c c.in-Some.ensures.cut (sym c.is_dot.ensures ∙ c.if-not-is_dot.false))
      ∙ c.loop-before.invariant.left;
}

pub returns : goal.returns
returns c =
    let nothing : chars c.loop-before.rest.now ≡ [] = search rules in
    nothing ∙ sym dots_of_nothing ∙ sym (ap without_last_dots nothing) ∙ c.loop-before.invariant.left
