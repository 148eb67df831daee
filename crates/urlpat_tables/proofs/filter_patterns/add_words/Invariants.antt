-- The patterns of the words so far are added.
use Rattle.std.proofs.Common.{take}
use Rattle.urlpat_matching.specs.Texts.{texts_view}
use Rattle.urlpat_tables.specs.FilterLines.{AddsTexts}
use Rattle.urlpat_tables.proofs.filter_patterns.add_words.Given as goal

abbrev pub invariant-loop-word : goal.invariant-loop-word
invariant-loop-word g l = AddsTexts l.ignore_case l.asked (texts_view (take l.word-index l.words)) l.initial.patterns l.patterns
