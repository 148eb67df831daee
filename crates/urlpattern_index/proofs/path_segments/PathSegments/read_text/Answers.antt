use Rattle.std.proofs.Common.{◌+◌, ◌++◌, ◌∙◌, List, ℕ, arith, drop, length, subst, sym, true≢false}
use Rattle.std.proofs.lemmas.Bool.Decides.{nat_tests}
use Rattle.std.proofs.lemmas.Iterator.Consumers.{YieldsList-end, YieldsList-turn}
use Rattle.std.proofs.lemmas.Iterator.{YieldsList-from_chars}
use Rattle.std.proofs.lemmas.List.{at_drop_all, length_push}
use Rattle.std.specs.Str.{chars}
use Rattle.urlpattern_index.proofs.PathSegmentLemmas.{next_text, read_other, read_slash}
use Rattle.urlpattern_index.specs.Segments.{IsReadTo}
use Rattle.urlpattern_index.specs.declared.path_segments.PathSegments.{PathSegments}
use Rattle.urlpattern_index.proofs.path_segments.PathSegments.read_text.Goals as goal

pub loop-c-preserved-then-c-ne47 : goal.loop-c-preserved-then-c-ne47
loop-c-preserved-then-c-ne47 c =
    let text = chars c.args.text.now in
    let was = c.loop-c.invariant in
    let turn = YieldsList-turn (YieldsList-from_chars c.args.text.now c.utf8.text cc) c.loop-c.yielded _ c.loop-c.yielded_by _ _ c.in-Some.c c.in-Some.is c.next.ensures.steps in
    let next = next_text text (length c.loop-c.yielded) c.in-Some.c turn in
    record {
      are_open = record { few = was.are_open.few; as_many = was.are_open.as_many; goes_on = was.are_open.goes_on };
      is_read = λ path rest is. rw (length_push c.loop-c.yielded c.in-Some.c, c.mixed_in-self.ensures)
          (read_other c.loop-c.self path c.in-Some.c (drop (length c.loop-c.yielded + 1) text ++ rest) c.if-c-ne47.true
          (subst (λ (t : List ℕ). IsReadTo c.loop-c.self path (t ++ rest)) next (was.is_read path rest is)));
    }

pub returns-then-not-push-clause-read : goal.returns-then-not-push-clause-read
returns-then-not-push-clause-read c = λ path rest is.
    let left = drop (length c.loop-c.yielded) (chars c.args.text.now) ++ rest in
    let same = c.push.ensures.full (λ is. true≢false (sym is ∙ c.if-not-push.true)) in
    (left, subst (λ (s : PathSegments). IsReadTo s path left) (sym same) (c.loop-c.invariant.is_read path rest is))

pub loop-c-preserved : goal.loop-c-preserved
loop-c-preserved c =
    let text = chars c.args.text.now in
    let was = c.loop-c.invariant in
    let turn = YieldsList-turn (YieldsList-from_chars c.args.text.now c.utf8.text cc) c.loop-c.yielded _ c.loop-c.yielded_by _ _ c.in-Some.c c.in-Some.is c.next.ensures.steps in
    let next = next_text text (length c.loop-c.yielded) c.in-Some.c turn in
    let added = c.push.ensures.added c.if-not-push.false in
    record {
      are_open = added.are_open;
      is_read = λ path rest is. rw (length_push c.loop-c.yielded c.in-Some.c)
          (read_slash c.loop-c.self path was.are_open.as_many c.push.new.self c.in-Some.c (drop (length c.loop-c.yielded + 1) text ++ rest) added (grind (arith, nat_tests))
          (subst (λ (t : List ℕ). IsReadTo c.loop-c.self path (t ++ rest)) next (was.is_read path rest is)));
    }

pub returns-clause-read : goal.returns-clause-read
returns-clause-read c = λ path rest is.
    let all = YieldsList-end (YieldsList-from_chars c.args.text.now c.utf8.text cc) c.loop-c.yielded _ c.loop-c.yielded_by _ _ c.in-None.is c.next.ensures.steps in
    subst (λ (t : List ℕ). IsReadTo c.loop-c.self path (t ++ rest)) (at_drop_all (λ text. text) (chars c.args.text.now) (length c.loop-c.yielded) (omega (arith, all.1)))
    (c.loop-c.invariant.is_read path rest is)
