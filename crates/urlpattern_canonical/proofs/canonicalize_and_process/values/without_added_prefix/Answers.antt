use Rattle.std.proofs.Common.{arith}
use Rattle.std.proofs.lemmas.Str.{IsCharBoundary-from_ascii}
use Rattle.urlpattern_canonical.proofs.canonicalize_and_process.values.without_added_prefix.Goals as goal

pub range_from-requires : goal.range_from-requires
range_from-requires c few = IsCharBoundary-from_ascii c.args.path.now 2 c.requires (omega arith)
