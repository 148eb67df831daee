use Rattle.std.proofs.Common.{[], ◌∷◌}
use Rattle.std.proofs.lemmas.List.Elements.{All-cons, All-nil}
use Rattle.urlpattern.proofs.ContentionLemmas.{alone_may, doubt_may, unless}
use Rattle.urlpattern.specs.Contending.{IsAnswer}
use Rattle.urlpattern.specs.declared.contention.ContentionDoubt.TheVariants.{Both}
use Rattle.urlpattern_compare.specs.CommonTexts.{AreAutomata}
use Rattle.urlpattern_compare.specs.declared.common_texts.Common.TheVariants as answers
use Rattle.urlpattern.proofs.contention.contended_by.Goals as goal

pub returns-in-Texts-first_alone : goal.returns-in-Texts-first_alone
returns-in-Texts-first_alone c =
    let limits = c.args.limits in
    let first = c.args.first.now in
    let second = c.args.second.now in
    let doubt = c.in-Unknown.doubt in
    let is : IsAnswer limits (first ∷ second ∷ []) [] (answers.Unknown doubt) = (rw c.in-Unknown.is at c.in_ok-both.ensures.answer, rw c.in-Unknown.is at c.in_ok-both.ensures.depends) in
    unless limits first second c.in_ok-second_alone-in-Unknown.second_alone (Both doubt) c.unless_nothing.result c.unless_nothing.ensures c.in_ok-second_alone-in-Unknown.ensures
    (doubt_may limits (first ∷ second ∷ []) [] doubt is)
    (alone_may limits first second c.in_ok-first_alone-in-Unknown.first_alone c.in_ok-first_alone-in-Unknown.ensures (λ nothing. let e = c.in-Texts-first_alone.is in cc)) is

pub returns-in-Unknown-first_alone : goal.returns-in-Unknown-first_alone
returns-in-Unknown-first_alone c =
    let limits = c.args.limits in
    let first = c.args.first.now in
    let second = c.args.second.now in
    let doubt = c.in-Unknown.doubt in
    let is : IsAnswer limits (first ∷ second ∷ []) [] (answers.Unknown doubt) = (rw c.in-Unknown.is at c.in_ok-both.ensures.answer, rw c.in-Unknown.is at c.in_ok-both.ensures.depends) in
    unless limits first second c.in_ok-second_alone-in-Unknown.second_alone (Both doubt) c.unless_nothing-in-Unknown-first_alone.result c.unless_nothing-in-Unknown-first_alone.ensures c.in_ok-second_alone-in-Unknown.ensures
    (doubt_may limits (first ∷ second ∷ []) [] doubt is)
    (alone_may limits first second c.in_ok-first_alone-in-Unknown.first_alone c.in_ok-first_alone-in-Unknown.ensures (λ nothing. let e = c.in-Unknown-first_alone.is in cc)) is

pub find_common-requires-clause-all_of : goal.find_common-requires-clause-all_of
find_common-requires-clause-all_of c =
    All-cons AreAutomata c.args.first.now (c.args.second.now ∷ []) c.requires.first
    (All-cons AreAutomata c.args.second.now [] c.requires.second (All-nil AreAutomata))
