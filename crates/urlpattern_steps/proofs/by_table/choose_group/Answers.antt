use Rattle.std.proofs.Common.{◌≡◌, None, refl, sym, ap, ◌∙◌, subst}
use Rattle.std.specs.Str.{chars}
use Rattle.urlpattern_steps.specs.FailedStates.{EndsWith}
use Rattle.urlpattern_steps.specs.Walk.{walk}
use Rattle.urlpattern_steps.specs.AddedCaptures.{with_captures}
use Rattle.urlpattern_steps.proofs.FailedLemmas.{ends_drop}
use Rattle.urlpattern_steps.proofs.FollowLemmas.{plus_maybe}
use Rattle.urlpattern_steps.proofs.TableLemmas.{none_of}
use Rattle.urlpattern_steps.proofs.by_table.choose_group.Goals as goal

pub returns-clause-chosen : goal.returns-clause-chosen
returns-clause-chosen c = λ ignore_case row.
    let others = c.args.others.now in
    let text = chars c.args.text.now in
    let old = c.args.captures.now.items in
    let new = c.push_unmatched.new.captures.items in
    let none : walk ignore_case others text ≡ None = none_of (walk ignore_case others text) (sym (c.does_match.ensures ignore_case row) ∙ c.if-does_match.false) in
    plus_maybe ignore_case old old new c.args.group others text none refl c.in_ok-push_unmatched.ensures
    ∙ ap (λ l. with_captures new (walk ignore_case l text)) (sym c.skip_steps.ensures)

pub returns-clause-end : goal.returns-clause-end
returns-clause-end c = subst (EndsWith c.args.others.now) (sym c.skip_steps.ensures) (ends_drop c.args.group.steps c.args.others.now)
