use Rattle.std.proofs.Common.{List, ℕ, option_map, take, sym, ap, ◌∙◌}
use Rattle.regex_vm.specs.Found.{group_cells}
use Rattle.urlpattern_engine.specs.Automatons.{match_at_start}
use Rattle.urlpattern_engine.proofs.AutomatonLemmas.{answer_of_cells, answer_of_nothing, cells_of_some, none_of_no_cells}
use Rattle.urlpattern_engine.proofs.automaton.Automaton.matches_few.Goals as goal

pub returns-in_ok-groups-in-Ok-Some : goal.returns-in_ok-groups-in-Ok-Some
returns-in_ok-groups-in-Ok-Some c =
    let nfa = c.args.self.now.nfa in
    let text = c.args.text.now in
    let count = c.args.count in
    let at = ap (λ (b : List ℕ). option_map (λ m. group_cells m 8) (match_at_start nfa b)) c.as_bytes.ensures.value in
    let found = cells_of_some (match_at_start nfa text) c.in-Ok-Some.cells count 8 c.requires.1 (sym c.in-Ok-Some.field-0-is ∙ c.in-Ok-Some.ensures ∙ at) in
    answer_of_cells nfa text (take count c.in-Ok-Some.cells) count _ c.utf8.text c.requires.0 found.2 found.0 found.1 c.in_ok-groups-in-Ok-Some.ensures

pub returns-in-Ok-None : goal.returns-in-Ok-None
returns-in-Ok-None c =
    let nfa = c.args.self.now.nfa in
    let text = c.args.text.now in
    let at = ap (λ (b : List ℕ). option_map (λ m. group_cells m 8) (match_at_start nfa b)) c.as_bytes.ensures.value in
    answer_of_nothing nfa text c.utf8.text
    (none_of_no_cells (match_at_start nfa text) 8 (sym c.in-Ok-None.field-0-is ∙ c.in-Ok-None.ensures ∙ at))
