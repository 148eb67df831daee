use Rattle.std.proofs.Common.{take}
use Rattle.std.specs.Prelude.{option_copied}
use Rattle.urlpat_commands.specs.CommandAnswers.{ArePatterns}
use Rattle.urlpat_matching.specs.Texts.{texts_view}
use Rattle.urlpattern.specs.FirstMatch.{patterns_view}
use Rattle.urlpat_commands.proofs.first.compiled_list.Given as goal

abbrev pub invariant-loop-pattern : goal.invariant-loop-pattern
invariant-loop-pattern l =
    ArePatterns l.ignore_case (texts_view (take l.pattern-index l.patterns)) (option_copied l.base) (patterns_view l.list)
