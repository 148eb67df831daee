use Rattle.std.proofs.Common.{◌≡◌, ◌<◌, ◌+◌, ◌++◌, arith, drop, length, ap, sym, take, take_all, ◌∙◌}
use Rattle.std.proofs.lemmas.Bool.Decides.{nat_tests}
use Rattle.std.proofs.lemmas.Iterator.Consumers.{YieldsList-end, YieldsList-turn}
use Rattle.std.proofs.lemmas.Iterator.{YieldsList-from_chars}
use Rattle.std.proofs.lemmas.List.{length_push, take_at}
use Rattle.std.specs.Str.{chars}
use Rattle.urlpattern_index.proofs.PathSegmentLemmas.{hashes-end, hashes-more, hashes-same}
use Rattle.urlpattern_index.specs.Keys.{segment_hashes}
use Rattle.urlpattern_index.proofs.address.push_segments.Goals as goal

pub loop-c-preserved-then-c-ne47 : goal.loop-c-preserved-then-c-ne47
loop-c-preserved-then-c-ne47 c =
    let turn = YieldsList-turn (YieldsList-from_chars c.args.path.now c.utf8.path cc) c.loop-c.yielded _ c.loop-c.yielded_by _ _ c.in-Some.c c.in-Some.is c.next.ensures.steps in
    record {
      room = c.loop-c.invariant.room;
      whole = rw (length_push c.loop-c.yielded c.in-Some.c, c.mixed-hash.ensures, c.from.ensures)
          (hashes-same _ _ c.in-Some.c turn c.loop-c.hashes.items c.loop-c.hash c.loop-c.invariant.whole c.if-c-ne47.true);
    }

pub returns-then-is_full : goal.returns-then-is_full
returns-then-is_full c =
    let turn = YieldsList-turn (YieldsList-from_chars c.args.path.now c.utf8.path cc) c.loop-c.yielded _ c.loop-c.yielded_by _ _ c.in-Some.c c.in-Some.is c.next.ensures.steps in
    let full : length c.push.new.self.items ≡ 13 = grind (arith, nat_tests) in
    let rest = segment_hashes 0 (drop (length c.loop-c.yielded + 1) (chars c.args.path.now)) in
    let whole : c.push.new.self.items ++ rest ≡ segment_hashes 0 (chars c.args.path.now) =
    ap (λ hashes. hashes ++ rest) c.push.ensures.items
    ∙ hashes-more _ _ c.in-Some.c turn c.loop-c.hashes.items c.loop-c.hash c.loop-c.invariant.whole (grind (arith, nat_tests)) in
    sym (ap (take 13) (sym whole) ∙ take_at c.push.new.self.items rest 13 full)

pub loop-c-preserved : goal.loop-c-preserved
loop-c-preserved c =
    let turn = YieldsList-turn (YieldsList-from_chars c.args.path.now c.utf8.path cc) c.loop-c.yielded _ c.loop-c.yielded_by _ _ c.in-Some.c c.in-Some.is c.next.ensures.steps in
    record {
      room = grind (arith, nat_tests);
      whole = rw (length_push c.loop-c.yielded c.in-Some.c, c.push.ensures.items)
          (hashes-more _ _ c.in-Some.c turn c.loop-c.hashes.items c.loop-c.hash c.loop-c.invariant.whole (grind (arith, nat_tests)));
    }

pub returns : goal.returns
returns c =
    let all = YieldsList-end (YieldsList-from_chars c.args.path.now c.utf8.path cc) c.loop-c.yielded _ c.loop-c.yielded_by _ _ c.in-None.is c.next.ensures.steps in
    let whole : c.push-2.new.self.items ≡ segment_hashes 0 (chars c.args.path.now) =
    c.push-2.ensures.items ∙ hashes-end _ _ c.loop-c.hashes.items c.loop-c.hash all.1 c.loop-c.invariant.whole in
    let few : length c.push-2.new.self.items < 14 = omega (arith, c.push-2.ensures.len, c.loop-c.invariant.room) in
    whole ∙ sym (take_all 13 (segment_hashes 0 (chars c.args.path.now)) (omega (arith, ap length whole)))
