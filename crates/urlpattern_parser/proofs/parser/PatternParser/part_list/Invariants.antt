use Rattle.std.proofs.Common.{◌≡◌, ◌+◌, ◌≤◌}
use Rattle.urlpattern_parser.specs.Readers.{IsAtPlace, part_list_view, reader_left, reader_text}
use Rattle.urlpattern_parser.specs.PartLists.{KnowsItsNames, parser_encoding, parser_options}
use Rattle.urlpattern_parser.proofs.TextReadingLemmas.{HasReadUpTo}
use Rattle.urlpattern_parser.proofs.parser.PatternParser.part_list.Given as goal

-- The tokens before those that are left are read.
abbrev pub invariant-loop-next : goal.invariant-loop-next
invariant-loop-next g l = record {
  whole : reader_text l.reader ≡ reader_text l.fn.reader;
  stands : IsAtPlace l.reader;
  knows : KnowsItsNames l.list;
  few : l.list.next_numeric_name + reader_left l.reader ≤ reader_left l.fn.reader;
  read : HasReadUpTo (parser_options l.self) (parser_encoding g.F.Fn l.self) (reader_text l.fn.reader) l.reader (part_list_view l.list);
}

abbrev pub decreases-loop-next : goal.decreases-loop-next
decreases-loop-next g l = reader_left l.reader
