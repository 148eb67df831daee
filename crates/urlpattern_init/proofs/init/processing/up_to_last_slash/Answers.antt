use Rattle.std.proofs.Common.{◌+◌, ◌∙◌, sym, arith}
use Rattle.std.proofs.lemmas.Str.Pattern.{rfind_char}
use Rattle.urlpattern_canonical.proofs.MarkLemmas.{slice_range-front}
use Rattle.urlpattern_init.proofs.InheritanceLemmas.{up_to_last_slash-at, up_to_last_slash-none}
use Rattle.urlpattern_init.proofs.init.processing.up_to_last_slash.Goals as goal

pub returns-in-Some : goal.returns-in-Some
returns-in-Some c =
    let path = c.args.path.now in
    let found = rfind_char 47 path c.rfind.result c.rfind.ensures.cases (omega arith) in
    let at = rw c.in-Some.is at found in
    c.range.ensures.value ∙ slice_range-front path (c.in-Some.at + 1) ∙ sym (up_to_last_slash-at path c.in-Some.at at.0 at.1 at.2)

pub returns-in-None : goal.returns-in-None
returns-in-None c =
    let path = c.args.path.now in
    let found = rfind_char 47 path c.rfind.result c.rfind.ensures.cases (omega arith) in
    sym (up_to_last_slash-none path (rw c.in-None.is at found))
