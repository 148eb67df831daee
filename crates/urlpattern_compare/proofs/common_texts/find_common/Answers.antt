use Rattle.std.proofs.Common.{true, map, subst}
use Rattle.urlpattern_compare.proofs.CommonLemmas.{nothing_common}
use Rattle.urlpattern_compare.specs.CommonTexts.{IsFoundTaken}
use Rattle.urlpattern_compare.specs.declared.candidates.FoundTexts.TheVariants as founds
use Rattle.urlpattern_compare.proofs.common_texts.find_common.Goals as goal

pub returns-in-Nothing-clause-answer : goal.returns-in-Nothing-clause-answer
returns-in-Nothing-clause-answer c =
    let all_of = map (λ it. it.now) c.args.all_of.now in
    let none_of = map (λ it. it.now) c.args.none_of.now in
    let found : IsFoundTaken all_of none_of true c.args.limits founds.Nothing = subst (IsFoundTaken all_of none_of true c.args.limits) c.in-Nothing.is c.in_ok-found.ensures in
    nothing_common all_of none_of c.requires.all_of c.requires.none_of found

pub returns-in-TooManySets-clause-answer : goal.returns-in-TooManySets-clause-answer
returns-in-TooManySets-clause-answer c = subst (IsFoundTaken (map (λ it. it.now) c.args.all_of.now) (map (λ it. it.now) c.args.none_of.now) true c.args.limits) c.in-TooManySets.is c.in_ok-found.ensures

pub returns-in-TooManyTexts-clause-answer : goal.returns-in-TooManyTexts-clause-answer
returns-in-TooManyTexts-clause-answer c = subst (IsFoundTaken (map (λ it. it.now) c.args.all_of.now) (map (λ it. it.now) c.args.none_of.now) true c.args.limits) c.in-TooManyTexts.is c.in_ok-found.ensures

pub texts_or_doubt-requires-clause-lines : goal.texts_or_doubt-requires-clause-lines
texts_or_doubt-requires-clause-lines c =
    let found : IsFoundTaken (map (λ it. it.now) c.args.all_of.now) (map (λ it. it.now) c.args.none_of.now) true c.args.limits (founds.Texts c.in-Texts.texts) = subst (IsFoundTaken (map (λ it. it.now) c.args.all_of.now) (map (λ it. it.now) c.args.none_of.now) true c.args.limits) c.in-Texts.is c.in_ok-found.ensures in
    found.0

pub texts_or_doubt-requires-clause-taken : goal.texts_or_doubt-requires-clause-taken
texts_or_doubt-requires-clause-taken c =
    let found : IsFoundTaken (map (λ it. it.now) c.args.all_of.now) (map (λ it. it.now) c.args.none_of.now) true c.args.limits (founds.Texts c.in-Texts.texts) = subst (IsFoundTaken (map (λ it. it.now) c.args.all_of.now) (map (λ it. it.now) c.args.none_of.now) true c.args.limits) c.in-Texts.is c.in_ok-found.ensures in
    found.1
