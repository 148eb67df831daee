use Rattle.std.proofs.Common.{false, map, subst}
use Rattle.std.proofs.lemmas.Bool.{false≢true}
use Rattle.urlpattern_compare.proofs.CommonLemmas.{string_lines, string_taken, texts_common}
use Rattle.urlpattern_compare.proofs.DependsLemmas.{depends_none}
use Rattle.urlpattern_compare.specs.Candidates.{text_at}
use Rattle.urlpattern_compare.specs.CommonTexts.{IsFoundTaken, string_at}
use Rattle.urlpattern_compare.specs.declared.candidates.FoundTexts.TheVariants as founds
use Rattle.urlpattern_compare.proofs.common_texts.certain_or.Goals as goal

pub returns-in-Nothing-clause-depends : goal.returns-in-Nothing-clause-depends
returns-in-Nothing-clause-depends c =
    let all_of = map (λ it. it.now) c.args.all_of.now in
    let none_of = map (λ it. it.now) c.args.none_of.now in
    let found : IsFoundTaken all_of none_of false c.args.limits founds.Nothing = subst (IsFoundTaken all_of none_of false c.args.limits) c.in-Nothing.is c.in_ok-found.ensures in
    depends_none all_of none_of c.requires.all_of c.requires.none_of c.requires.taken found

pub returns-in-TooManySets-clause-answer : goal.returns-in-TooManySets-clause-answer
returns-in-TooManySets-clause-answer c = subst (IsFoundTaken (map (λ it. it.now) c.args.all_of.now) (map (λ it. it.now) c.args.none_of.now) false c.args.limits) c.in-TooManySets.is c.in_ok-found.ensures

pub returns-in-TooManyTexts-clause-answer : goal.returns-in-TooManyTexts-clause-answer
returns-in-TooManyTexts-clause-answer c = subst (IsFoundTaken (map (λ it. it.now) c.args.all_of.now) (map (λ it. it.now) c.args.none_of.now) false c.args.limits) c.in-TooManyTexts.is c.in_ok-found.ensures

pub returns-in_ok-strings_of-in-Texts-clause-answer : goal.returns-in_ok-strings_of-in-Texts-clause-answer
returns-in_ok-strings_of-in-Texts-clause-answer c =
    let all_of = map (λ it. it.now) c.args.all_of.now in
    let none_of = map (λ it. it.now) c.args.none_of.now in
    let found : IsFoundTaken all_of none_of false c.args.limits (founds.Texts c.in-Texts.texts) = subst (IsFoundTaken all_of none_of false c.args.limits) c.in-Texts.is c.in_ok-found.ensures in
    let texts = text_at c.in-Texts.texts in
    let strings = c.in_ok-strings_of-in-Texts.field-0 in
    let same = c.in_ok-strings_of-in-Texts.ensures in
    texts_common all_of none_of false (string_at strings) c.requires.all_of c.requires.none_of (string_lines all_of none_of false texts strings same found.0) c.requires.known
    (λ k d lt sure. absurd (false≢true sure)) (string_taken all_of none_of false texts strings same found.1)
