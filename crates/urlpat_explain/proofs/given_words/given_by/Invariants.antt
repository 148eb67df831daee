use Rattle.std.proofs.Common.{take}
use Rattle.std.specs.List.{AllZip}
use Rattle.urlpat_explain.specs.GivenWords.{WordGivesGroup}
use Rattle.urlpattern_pattern.specs.Patterns.{pattern_view}
use Rattle.urlpat_explain.proofs.given_words.given_by.Given as goal

-- Each argument so far gives one of these groups.
abbrev pub invariant-loop-word : goal.invariant-loop-word
invariant-loop-word l = AllZip (λ word given. WordGivesGroup (pattern_view l.pattern) word.now given) (take l.word-index l.words) l.groups.items
