use Rattle.std.proofs.Common.{◌≡◌}
use Rattle.std.specs.Str.{chars}
use Rattle.urlpattern_parser.specs.Readers.{IsAtPlace, reader_left, reader_text}
use Rattle.urlpattern_parser.proofs.StopLemmas.{ReachesBy}
use Rattle.urlpattern_parser.proofs.parser.stop.Stop.of.Given as goal

-- The tokens before those that are left are pieces.
abbrev pub invariant-loop-next : goal.invariant-loop-next
invariant-loop-next l = record {
  whole : reader_text l.reader ≡ chars l.fn.input;
  stands : IsAtPlace l.reader;
  reached : ReachesBy (chars l.prefix_code_point) (chars l.fn.input) l.reader;
}

abbrev pub decreases-loop-next : goal.decreases-loop-next
decreases-loop-next l = reader_left l.reader
