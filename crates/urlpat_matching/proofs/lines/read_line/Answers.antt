use Rattle.std.proofs.Common.{◌≡◌, ◌≢◌, ◌++◌, subst, rules}
use Rattle.std.proofs.lemmas.List.Elements.{All-append}
use Rattle.std.proofs.BufReadLemmas.{Consumes_through}
use Rattle.std.specs.Io.BufRead.{take_through}
use Rattle.bstr.proofs.lemmas.RecordLemmas.{IfSome-weaker}
use Rattle.urlpat_matching.specs.Lines.{IsLineKept}
use Rattle.urlpat_matching.proofs.LineReadingLemmas.{consumes-both, kept-appended, kept-more, on-true, on-false}
use Rattle.urlpat_matching.proofs.lines.read_line.Goals as goal

pub fills-preserved : goal.fills-preserved
fills-preserved g c =
    let so_far = c.fills.invariant in
    let step = c.in_ok-append_some.ensures in (
      so_far.0 ++ step.part,
      consumes-both _ _ _ so_far.0 step.part so_far.1 step.consumed,
      All-append (λ byte. byte ≢ 10) so_far.0 step.part so_far.2 (on-false _ _ _ c.if-branch.false step.ends),
      kept-appended _ _ so_far.0 step.part so_far.3 step.is_appended,
    )

pub returns-then-branch-clause-kept : goal.returns-then-branch-clause-kept
returns-then-branch-clause-kept g c =
    let so_far = c.fills.invariant in
    let step = c.in_ok-append_some.ensures in
    let ends = on-true _ _ _ c.if-branch.true step.ends in
    let read = Consumes_through 10 _ _ _ so_far.0 step.part so_far.1 so_far.2 step.consumed step.stops ends.0 ends.1 in
    IfSome-weaker (g.In.Read.remaining c.args.input.now) (λ bytes. so_far.0 ++ step.part ≡ take_through 10 bytes) (λ bytes. IsLineKept c.append_some.new.line.items (take_through 10 bytes))
    (λ bytes same. subst (IsLineKept c.append_some.new.line.items) same (kept-appended _ _ so_far.0 step.part so_far.3 step.is_appended)) read.0

pub returns-then-branch-clause-rest : goal.returns-then-branch-clause-rest
returns-then-branch-clause-rest g c =
    let so_far = c.fills.invariant in
    let step = c.in_ok-append_some.ensures in
    let ends = on-true _ _ _ c.if-branch.true step.ends in
    (Consumes_through 10 _ _ _ so_far.0 step.part so_far.1 so_far.2 step.consumed step.stops ends.0 ends.1).1

pub returns-then-branch-clause-more : goal.returns-then-branch-clause-more
returns-then-branch-clause-more g c =
    IfSome-weaker (g.In.Read.remaining c.args.input.now) (λ bytes. IsLineKept c.append_some.new.line.items (take_through 10 bytes)) _
    (λ bytes kept. kept-more c.append_some.new.line.items bytes _ (search rules) kept) (returns-then-branch-clause-kept g c)
