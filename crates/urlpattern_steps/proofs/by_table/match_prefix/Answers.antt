use Rattle.std.proofs.Common.{rules, ◌∷◌, Some, sym, ap, ◌∙◌, subst}
use Rattle.std.specs.Str.{chars, IsUtf8}
use Rattle.urlpattern_steps.specs.Walk.{Continuation, walk}
use Rattle.urlpattern_steps.specs.Table.{step_continuation}
use Rattle.urlpattern_steps.specs.AddedCaptures.{IsPrefixLengthFor, with_captures}
use Rattle.urlpattern_steps.proofs.EndLemmas.{same_fronts}
use Rattle.urlpattern_steps.proofs.FollowLemmas.{chars_end}
use Rattle.urlpattern_steps.proofs.TableLemmas.{front_added}
use Rattle.urlpattern_steps.proofs.by_table.match_prefix.Goals as goal

pub returns-clause-taken : goal.returns-clause-taken
returns-clause-taken c =
    let step = c.args.step in
    let others = c.args.others.now in
    let old = c.args.captures.now.items in
    let text = c.args.text.now in
    let front = c.split_at_boundary.result.0.now in
    let rest = c.split_at_boundary.result.1.now in
    let gives : Continuation = step_continuation c.args.ignore_case step others in
    let found = walk c.args.ignore_case (step ∷ others) (chars text) in
    let cut : IsPrefixLengthFor gives text (Some c.in-Some.count) found = subst (λ o. IsPrefixLengthFor gives text o found) c.in-Some.is c.in_ok-count.ensures.end in
    let parts = same_fronts front rest cut.0 cut.1 (sym c.split_at_boundary.ensures.cut ∙ cut.4) (c.split_at_boundary.ensures.count ∙ sym cut.5) in
    ap (with_captures old) (cut.6 ∙ ap (λ f. gives (chars f) (chars cut.1)) (sym parts.0) ∙ ap (λ r. gives (chars front) (chars r)) (sym parts.1))
    ∙ front_added c.args.ignore_case step others old c.push_prefix.new.captures.items c.split_at_boundary.result.0 (chars rest) c.in_ok-push_prefix.ensures

pub returns-clause-end : goal.returns-clause-end
returns-clause-end c =
    let front = c.split_at_boundary.result.0.now in
    let utf8 : IsUtf8 front = search rules in
    chars_end c.args.text.now front c.split_at_boundary.result.1.now utf8 c.split_at_boundary.ensures.cut
