use Rattle.std.proofs.Common.{inl, inr, refl}
use Rattle.urlpattern_pattern.proofs.ReadBackLemmas.{reads_not, reads_so}
use Rattle.urlpattern_pattern.proofs.pattern.UrlPattern.first_read_back.Goals as goal

pub returns-then-branch-clause-first : goal.returns-then-branch-clause-first
returns-then-branch-clause-first g c =
    let engine = g.R.RegExp in
    let parts = c.args.parts.now in
    inl (reads_so engine parts _ _ _ _ c.deref.ensures c.in_ok-plain.ensures c.if-branch.true c.in_ok-text_reads_back.ensures.reads)

pub returns-then-branch-2-clause-first : goal.returns-then-branch-2-clause-first
returns-then-branch-2-clause-first g c =
    let engine = g.R.RegExp in
    let parts = c.args.parts.now in
    inr (
      reads_not engine parts _ _ _ _ c.deref.ensures c.in_ok-plain.ensures c.if-branch.false c.in_ok-text_reads_back.ensures.reads,
      inl (reads_so engine parts _ _ _ _ c.deref-2.ensures c.in_ok-marked.ensures c.if-branch-2.true c.in_ok-text_reads_back-2.ensures.reads),
    )

pub returns-then-branch-3-clause-first : goal.returns-then-branch-3-clause-first
returns-then-branch-3-clause-first g c =
    let engine = g.R.RegExp in
    let parts = c.args.parts.now in
    inr (
      reads_not engine parts _ _ _ _ c.deref.ensures c.in_ok-plain.ensures c.if-branch.false c.in_ok-text_reads_back.ensures.reads,
      inr (reads_not engine parts _ _ _ _ c.deref-2.ensures c.in_ok-marked.ensures c.if-branch-2.false c.in_ok-text_reads_back-2.ensures.reads, inl (reads_so engine parts _ _ _ _ c.deref-3.ensures c.in_ok-escaped.ensures c.if-branch-3.true c.in_ok-text_reads_back-3.ensures.reads)),
    )

pub returns-clause-first : goal.returns-clause-first
returns-clause-first g c =
    let engine = g.R.RegExp in
    let parts = c.args.parts.now in
    inr (
      reads_not engine parts _ _ _ _ c.deref.ensures c.in_ok-plain.ensures c.if-branch.false c.in_ok-text_reads_back.ensures.reads,
      inr (reads_not engine parts _ _ _ _ c.deref-2.ensures c.in_ok-marked.ensures c.if-branch-2.false c.in_ok-text_reads_back-2.ensures.reads, inr (reads_not engine parts _ _ _ _ c.deref-3.ensures c.in_ok-escaped.ensures c.if-branch-3.false c.in_ok-text_reads_back-3.ensures.reads, refl)),
    )
