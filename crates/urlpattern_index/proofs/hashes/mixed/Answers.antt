use Rattle.std.proofs.Common.{refl}
use Rattle.urlpattern_index.specs.Keys.{mixed}
use Rattle.urlpattern_index.proofs.hashes.mixed.Goals as goal

pub returns : goal.returns
unfolding mixed
returns c = refl
