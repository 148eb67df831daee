use Rattle.std.proofs.Common.{[], ◌∷◌, map, subst}
use Rattle.std.proofs.lemmas.List.Elements.{All-cons, All-nil}
use Rattle.urlpattern_compare.specs.CommonTexts.{AreAutomata, IsCommonAnswer}
use Rattle.urlpattern_compare.proofs.together.are_covering.Goals as goal

pub returns-in-Nothing : goal.returns-in-Nothing
returns-in-Nothing c = subst (IsCommonAnswer (c.args.asked.now ∷ []) (map (λ it. it.now) c.args.patterns.now) c.args.limits) c.in-Nothing.is c.in_ok-common.ensures.answer

pub returns-in-Texts : goal.returns-in-Texts
returns-in-Texts c = (c.in_ok-common.common, λ e. (let is = c.in-Texts.is in cc), c.in_ok-common.ensures.answer, c.in_ok-common.ensures.depends)

pub returns-in-Unknown : goal.returns-in-Unknown
returns-in-Unknown c = (c.in_ok-common.common, λ e. (let is = c.in-Unknown.is in cc), c.in_ok-common.ensures.answer, c.in_ok-common.ensures.depends)

pub find_common-requires-clause-all_of : goal.find_common-requires-clause-all_of
find_common-requires-clause-all_of c = All-cons AreAutomata c.args.asked.now [] c.requires.asked (All-nil AreAutomata)
