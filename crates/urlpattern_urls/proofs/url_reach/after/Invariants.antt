use Rattle.std.proofs.Common.{◌≡◌, take}
use Rattle.urlpattern_urls.specs.UrlReaching.{later}
use Rattle.urlpattern_urls.proofs.url_reach.after.Given as goal

abbrev pub invariant-loop-index : goal.invariant-loop-index
invariant-loop-index l = l.own.items ≡ later l.count (take l.index l.indices)
