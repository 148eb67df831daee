use Rattle.std.proofs.Common.{◌≡◌, ◌++◌, ◌<◌, drop, length, take}
use Rattle.urlpattern_index.specs.Keys.{segment_hashes}
use Rattle.urlpattern_index.specs.PlainPaths.{IsPlain}
use Rattle.urlpattern_index.proofs.address.push_plain_segments.Given as goal

abbrev pub invariant-loop-byte : goal.invariant-loop-byte
invariant-loop-byte l = record {
  room : length l.hashes.items < 13;
  plain : IsPlain (take l.byte-index l.path);
  whole : l.hashes.items ++ segment_hashes l.hash (drop l.byte-index l.path) ≡ segment_hashes 0 l.path;
}
