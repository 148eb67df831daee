use Rattle.std.proofs.Common.{◌≢◌, ◌∙◌, inl, inr, subst}
use Rattle.urlpattern_compare.specs.Conditions.{joint_moved}
use Rattle.urlpattern_compare.specs.TextSearch.{IsPassedBy}
use Rattle.urlpattern_compare.proofs.StateSets.{contains_all, contains_more}
use Rattle.urlpattern_compare.proofs.PlaceLemmas.{extended_longer, seen_longer}
use Rattle.urlpattern_syntax.specs.Text.{line_feed}
use Rattle.urlpattern_compare.proofs.text_search.follow.Goals as goal

pub loop-c-preserved : goal.loop-c-preserved
loop-c-preserved c =
    let before = c.loop-c.invariant in
    let after = c.in_ok-follow_by.ensures in
    let conditions = c.args.conditions.now in
    let place = c.args.place.now in
    let new = c.follow_by.new.places.items in
    record {
      places = after.places;
      kept = extended_longer c.args.places.now.items c.loop-c.places.items new before.kept after.kept;
      followed = λ d has. elim (contains_more c.args.classes.now c.loop-c.c-index c.c-item.result d c.loop-c-test.true has) [
        | inl earlier ↦ λ plain opens. seen_longer c.loop-c.places.items new (joint_moved conditions place.flags.items d) after.kept (before.followed d earlier plain opens)
        | inr e ↦ subst (λ x. x ≢ line_feed → IsPassedBy conditions x new place) (c.c-item.is ∙ e) after.followed
      ];
    }

pub returns-clause-followed : goal.returns-clause-followed
returns-clause-followed c = λ d has. c.loop-c.invariant.followed d (contains_all c.args.classes.now c.loop-c.c-index d c.loop-c-test.false has)
