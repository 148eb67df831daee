use Rattle.std.proofs.Common.{[]}
use Rattle.std.proofs.lemmas.List.Elements.{All-cons, All-nil}
use Rattle.urlpattern_compare.specs.CommonTexts.{AreAutomata}
use Rattle.urlpattern.proofs.contention.matched_alone.Goals as goal

pub find_common-requires-clause-all_of : goal.find_common-requires-clause-all_of
find_common-requires-clause-all_of c = All-cons AreAutomata c.args.one.now [] c.requires.one (All-nil AreAutomata)

pub find_common-requires-clause-none_of : goal.find_common-requires-clause-none_of
find_common-requires-clause-none_of c = All-cons AreAutomata c.args.other.now [] c.requires.other (All-nil AreAutomata)

pub returns-in-Texts : goal.returns-in-Texts
returns-in-Texts c = (c.in-Texts.texts, (rw c.in-Texts.is at c.in_ok-common.ensures.answer, rw c.in-Texts.is at c.in_ok-common.ensures.depends))
