use Rattle.std.proofs.Common.{rules, true, false, ◌≡◌, ◌∷◌, [], List, length, sym, ap, ◌∙◌, subst}
use Rattle.std.proofs.lemmas.List.{nil_from_length}
use Rattle.std.specs.Prelude.{IfSome}
use Rattle.std.specs.Str.{chars, IsUtf8}
use Rattle.urlpattern_syntax.proofs.TextLemmas.{chars-empty, chars-some}
use Rattle.urlpattern_steps.specs.declared.step.Step.{Step}
use Rattle.urlpattern_steps.specs.FailedStates.{EndsWith}
use Rattle.urlpattern_steps.specs.Walk.{walk}
use Rattle.urlpattern_steps.specs.Table.{IsRow, following, row_at}
use Rattle.urlpattern_steps.specs.AddedCaptures.{with_captures}
use Rattle.urlpattern_steps.proofs.FailedLemmas.{ends_drop, ends_longer}
use Rattle.urlpattern_steps.proofs.FollowLemmas.{end_taken}
use Rattle.urlpattern_steps.proofs.TableLemmas.{row_within}
use Rattle.urlpattern_steps.proofs.by_table.walk_by_table.Goals as goal

pub match_prefix-requires-clause-row : goal.match_prefix-requires-clause-row
match_prefix-requires-clause-row c =
    let others = c.in-Some.others.now in
    let after = following c.in-Some.step.now others in
    let rest = chars c.loop-step.rest.now in
    let ends : EndsWith c.args.steps.now others =
    ends_longer c.args.steps.now c.loop-step.left.now others c.loop-step.invariant.of_steps (c.in-Some.step.now ∷ [], c.in-Some.ensures.cases.0) in
    let further : EndsWith c.args.steps.now after = ends_longer c.args.steps.now others after ends (ends_drop _ others) in
    let is = row_within c.args.ignore_case (chars c.args.text.now) rest c.args.steps.now after c.in_ok-rows.rows.items c.deref-in-Literal.result.now c.in_ok-rows.ensures further c.loop-step.invariant.of_text c.deref-in-Literal.ensures.value in
    subst (λ r. IsRow c.args.ignore_case rest after r) (sym (c.row_for-row.ensures ∙ ap (λ (l : List Step). row_at c.deref-in-Literal.result.now (length l)) c.following.ensures)) is

pub loop-step-preserved-in-OptionalGroup-1 : goal.loop-step-preserved-in-OptionalGroup-1
loop-step-preserved-in-OptionalGroup-1 c =
    let others = c.in-Some.others.now in
    let now = c.loop-step.captures.items in
    let rest = chars c.loop-step.rest.now in
    let left : c.loop-step.left.now ≡ c.in-Some.step.now ∷ others = c.in-Some.ensures.cases.0 in
    let ends : EndsWith c.args.steps.now others = ends_longer c.args.steps.now c.loop-step.left.now others c.loop-step.invariant.of_steps (c.in-Some.step.now ∷ [], left) in
    let row = row_within c.args.ignore_case (chars c.args.text.now) rest c.args.steps.now others c.in_ok-rows.rows.items c.deref.result.now c.in_ok-rows.ensures ends c.loop-step.invariant.of_text c.deref.ensures.value in
    record {
      is_text = c.loop-step.invariant.is_text;
      of_steps = ends_longer c.args.steps.now others c.in_ok-left-in-OptionalGroup.left.now ends c.in_ok-left-in-OptionalGroup.ensures.end;
      of_text = c.loop-step.invariant.of_text;
      so_far = c.loop-step.invariant.so_far ∙ ap (λ l. with_captures now (walk c.args.ignore_case l rest)) left
          ∙ ap (λ (s : Step). with_captures now (walk c.args.ignore_case (s ∷ others) rest)) c.in-OptionalGroup.is ∙ c.in_ok-left-in-OptionalGroup.ensures.chosen c.args.ignore_case row;
    }

pub loop-step-preserved : goal.loop-step-preserved
loop-step-preserved c =
    let step = c.in-Some.step.now in
    let others = c.in-Some.others.now in
    let now = c.loop-step.captures.items in
    let new = c.match_prefix.new.captures.items in
    let rest = chars c.loop-step.rest.now in
    let remaining = chars c.in-Some-2.remaining.now in
    let left : c.loop-step.left.now ≡ step ∷ others = c.in-Some.ensures.cases.0 in
    let ends : EndsWith c.args.steps.now others = ends_longer c.args.steps.now c.loop-step.left.now others c.loop-step.invariant.of_steps (step ∷ [], left) in
    let taken : with_captures now (walk c.args.ignore_case (step ∷ others) rest) ≡ with_captures new (walk c.args.ignore_case (following step others) remaining) =
    subst (λ o. IfSome o (λ more. with_captures now (walk c.args.ignore_case (step ∷ others) rest) ≡ with_captures new (walk c.args.ignore_case (following step others) (chars more.now)))) c.in-Some-2.is c.in_ok-remaining-in-Literal.ensures.taken in
    let ended : EndsWith rest remaining = subst (λ o. IfSome o (λ more. EndsWith rest (chars more.now))) c.in-Some-2.is c.in_ok-remaining-in-Literal.ensures.end in
    record {
      is_text = search rules;
      of_steps = ends_longer c.args.steps.now others c.following-left.result.now ends (subst (EndsWith others) (sym c.following-left.ensures) (ends_drop _ others));
      of_text = ends_longer (chars c.args.text.now) rest remaining c.loop-step.invariant.of_text ended;
      so_far = c.loop-step.invariant.so_far ∙ ap (λ l. with_captures now (walk c.args.ignore_case l rest)) left ∙ taken
          ∙ ap (λ l. with_captures new (walk c.args.ignore_case l remaining)) (sym c.following-left.ensures);
    }

pub returns-then-is_empty : goal.returns-then-is_empty
returns-then-is_empty c =
    let rest = c.loop-step.rest.now in
    let utf8 : IsUtf8 rest = search rules in
    end_taken c.args.ignore_case c.loop-step.captures.items c.loop-step.left.now (chars rest) c.is_empty.result true (nil_from_length c.loop-step.left.now (search rules)) (λ e. chars-empty rest (search rules))
    (λ e. chars-some rest utf8 (search rules)) c.if-is_empty.true
    ∙ sym c.loop-step.invariant.so_far

pub returns : goal.returns
returns c =
    let rest = c.loop-step.rest.now in
    let utf8 : IsUtf8 rest = search rules in
    end_taken c.args.ignore_case c.loop-step.captures.items c.loop-step.left.now (chars rest) c.is_empty.result false (nil_from_length c.loop-step.left.now (search rules)) (λ e. chars-empty rest (search rules))
    (λ e. chars-some rest utf8 (search rules)) c.if-is_empty.false
    ∙ sym c.loop-step.invariant.so_far
