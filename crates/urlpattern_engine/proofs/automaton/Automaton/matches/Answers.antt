use Rattle.std.proofs.Common.{◌≡◌, ap, sym, subst, ◌∙◌}
use Rattle.std.proofs.lemmas.Str.{scalars-chars}
use Rattle.std.specs.Prelude.{IfOk, string_bytes}
use Rattle.std.specs.Str.{chars}
use Rattle.urlpattern_meaning.specs.CaptureTexts.{captures_view}
use Rattle.urlpattern_engine.specs.Automatons.{read_result}
use Rattle.urlpattern_engine.proofs.AutomatonLemmas.{automaton_as_read_once}
use Rattle.urlpattern_engine.proofs.automaton.Automaton.matches.Goals as goal

pub returns-in-Compiled : goal.returns-in-Compiled
returns-in-Compiled c =
    let own = c.args.self.now in
    let text = c.args.text.now in
    subst (λ answer. IfOk c.match_once.result (λ found. captures_view found ≡ answer))
    (ap (λ source. read_result own.ignore_case (chars source) (chars text)) c.deref.ensures
    ∙ sym (automaton_as_read_once own.ignore_case (string_bytes own.text) own.nfa own.is_made (chars text) (scalars-chars text c.utf8.text)))
    c.match_once.ensures
