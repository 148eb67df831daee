use Rattle.std.proofs.Common.{◌≡◌, subst}
use Rattle.std.proofs.lemmas.Str.{scalars-chars}
use Rattle.std.specs.Prelude.{IfOk}
use Rattle.std.specs.Str.{chars}
use Rattle.urlpattern_meaning.specs.CaptureTexts.{captures_view}
use Rattle.urlpattern_engine.proofs.GrammarResults.{regex_as_read}
use Rattle.urlpattern_engine.proofs.automaton.match_once.Goals as goal

pub returns-in-Ok : goal.returns-in-Ok
returns-in-Ok c =
    let text = c.args.text.now in
    subst (λ answer. IfOk c.matches.result (λ found. captures_view found ≡ answer))
    (regex_as_read c.args.ignore_case (chars c.args.regexp.now) c.in-Ok.regex c.in-Ok.ensures.made (chars text) (scalars-chars text c.utf8.text))
    c.matches.ensures
