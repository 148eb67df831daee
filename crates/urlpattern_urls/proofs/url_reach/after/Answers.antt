use Rattle.std.proofs.Common.{◌∙◌, ap, take_all}
use Rattle.urlpattern_urls.proofs.ReachLemmas.{later_more}
use Rattle.urlpattern_urls.specs.UrlReaching.{later}
use Rattle.urlpattern_urls.proofs.url_reach.after.Goals as goal

pub loop-index-init : goal.loop-index-init
loop-index-init c = c.new-own.ensures.items

pub loop-index-preserved : goal.loop-index-preserved
loop-index-preserved c = later_more c.args.count c.args.indices.now c.loop-index.own.items c.push_after.new.own.items c.loop-index.index c.loop-index-test.true c.loop-index.invariant c.in_ok-push_after.ensures

pub returns : goal.returns
returns c = c.loop-index.invariant ∙ ap (later c.args.count) (take_all c.loop-index.index c.args.indices.now c.loop-index-test.false)
