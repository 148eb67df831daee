use Rattle.std.proofs.Common.{◌≡◌, ◌++◌, ◌<◌, drop, length}
use Rattle.std.specs.Str.{chars}
use Rattle.urlpattern_index.specs.Keys.{segment_hashes}
use Rattle.urlpattern_index.proofs.address.push_segments.Given as goal

abbrev pub invariant-loop-c : goal.invariant-loop-c
invariant-loop-c l = record {
  room : length l.hashes.items < 13;
  whole : l.hashes.items ++ segment_hashes l.hash (drop (length l.yielded) (chars l.path)) ≡ segment_hashes 0 (chars l.path);
}
