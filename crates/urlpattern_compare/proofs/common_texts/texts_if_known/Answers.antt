use Rattle.std.proofs.Common.{map, true}
use Rattle.std.specs.List.{All}
use Rattle.urlpattern_compare.proofs.AnswerLemmas.{in_none, in_some}
use Rattle.urlpattern_compare.proofs.CommonLemmas.{string_lines, string_taken, texts_common}
use Rattle.urlpattern_compare.specs.Candidates.{text_at}
use Rattle.urlpattern_compare.specs.CommonTexts.{IsLack, IsSure, string_at}
use Rattle.urlpattern_compare.proofs.common_texts.texts_if_known.Goals as goal

pub certain_or-requires-clause-taken : goal.certain_or-requires-clause-taken
certain_or-requires-clause-taken c = (text_at c.args.texts.now, c.requires.lines, c.requires.taken)

pub certain_or-requires-clause-lack : goal.certain_or-requires-clause-lack
certain_or-requires-clause-lack c =
    in_some (IsLack (map (λ it. it.now) c.args.none_of.now)) c.in_ok-lack.field-0 c.in-Some.lack c.in-Some.is c.in_ok-lack.ensures.some

pub returns-in_ok-strings_of-in-None-clause-answer : goal.returns-in_ok-strings_of-in-None-clause-answer
returns-in_ok-strings_of-in-None-clause-answer c =
    let all_of = map (λ it. it.now) c.args.all_of.now in
    let none_of = map (λ it. it.now) c.args.none_of.now in
    let none = in_none (All (IsSure all_of) none_of) c.in_ok-lack.field-0 c.in-None.is c.in_ok-lack.ensures.none in
    let texts = text_at c.args.texts.now in
    let strings = c.in_ok-strings_of-in-None.field-0 in
    let same = c.in_ok-strings_of-in-None.ensures in
    texts_common all_of none_of true (string_at strings) c.requires.all_of c.requires.none_of (string_lines all_of none_of true texts strings same c.requires.lines) c.requires.known
    (λ k d lt sure. none k d lt) (string_taken all_of none_of true texts strings same c.requires.taken)
