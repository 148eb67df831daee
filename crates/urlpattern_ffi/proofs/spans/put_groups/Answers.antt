use Rattle.std.proofs.Common.{◌≡◌, ℕ, ◌+◌, ◌-◌, ◌++◌, ◌∷◌, [], ap, append_assoc, arith, subst, sym, ◌∙◌}
use Rattle.urlpattern_ffi.specs.GroupSpans.{ExceedSizes, NumberedGroup, numbered}
use Rattle.urlpattern_matches.specs.BorrowedMatches.{groups_left}
use Rattle.urlpattern_ffi.proofs.SpanLemmas.{groups_exceed, groups_more, groups_none}
use Rattle.urlpattern_ffi.proofs.TextLemmas.{if_none}
use Rattle.urlpattern_syntax.specs.Text.{option_text}
use Rattle.urlpattern_ffi.proofs.spans.put_groups.Goals as goal

pub loop-capture-init : goal.loop-capture-init
loop-capture-init c =
    let none : c.args.from.spans - c.args.from.spans ≡ 0 = omega arith in
    let all = ap (λ n. numbered c.args.component n (groups_left c.into_iter-capture-iterator.result)) none
    ∙ ap (λ groups. numbered c.args.component 0 (groups_left groups)) c.into_iter-capture-iterator.ensures.into_iter_gives in
    ([], all, groups_none c.args.from c.args.buffer.now c.args.spans.now)

pub loop-capture-preserved : goal.loop-capture-preserved
loop-capture-preserved c =
    let (done, all, put) = c.loop-capture.invariant in
    let from = c.args.from in
    let was = c.loop-capture.sizes in
    let is = c.in_ok-sizes.sizes in
    let number = was.spans - from.spans in
    let group : NumberedGroup = (c.args.component, number, option_text c.in-Some.capture) in
    let left = groups_left c.next.new.self in
    let rest = λ (n : ℕ). numbered c.args.component n left in
    let next : is.spans - from.spans ≡ number + 1 = omega (arith, put.spans, c.in_ok-sizes.ensures.written.spans) in
    let first = rw c.in-Some.is at c.next.ensures.steps in
    let same = append_assoc done (group ∷ []) (rest (is.spans - from.spans)) ∙ ap (λ n. done ++ group ∷ rest n) next
    ∙ ap (λ groups. done ++ numbered c.args.component number groups) (sym first) ∙ all in (
      done ++ group ∷ [],
      same,
      groups_more done (group ∷ []) from was is c.args.buffer.now c.loop-capture.buffer c.put_group.new.buffer
          c.args.spans.now c.loop-capture.spans c.put_group.new.spans c.loop-capture.auto.buffer c.loop-capture.auto.spans put c.in_ok-sizes.ensures.written,
    )

pub returns-in_err-sizes-clause-large : goal.returns-in_err-sizes-clause-large
returns-in_err-sizes-clause-large c =
    let (done, all, put) = c.loop-capture.invariant in
    let from = c.args.from in
    let was = c.loop-capture.sizes in
    let number = was.spans - from.spans in
    let group : NumberedGroup = (c.args.component, number, option_text c.in-Some.capture) in
    let more = numbered c.args.component (number + 1) (groups_left c.next.new.self) in
    let groups = numbered c.args.component 0 (groups_left c.args.groups) in
    let first = rw c.in-Some.is at c.next.ensures.steps in
    let same : done ++ ((group ∷ []) ++ more) ≡ groups = ap (λ groups. done ++ numbered c.args.component number groups) (sym first) ∙ all in
    if_none c.from_residual.result (ExceedSizes from groups)
    (subst (ExceedSizes from) same
    (groups_exceed done (group ∷ []) more from was c.args.buffer.now c.loop-capture.buffer c.args.spans.now c.loop-capture.spans put c.in_err-sizes.ensures.large))
