use Rattle.std.proofs.Common.{◌≡◌, true, List, ℕ, length, is_some, sym, ap, ◌∙◌, subst}
use Rattle.std.specs.Prelude.{IfSome}
use Rattle.regex_vm.specs.Found.{group_cells}
use Rattle.urlpattern_engine.specs.Automatons.{match_at_start}
use Rattle.urlpattern_engine.proofs.AutomatonLemmas.{answer_of_cells, answer_of_nothing}
use Rattle.urlpattern_engine.proofs.automaton.Automaton.matches_in.Goals as goal

pub returns-in_ok-groups : goal.returns-in_ok-groups
returns-in_ok-groups c =
    let nfa = c.args.self.now.nfa in
    let text = c.args.text.now in
    let cells = c.search.new.cells in
    let width = length c.args.cells.now in
    let kept : length cells ≡ width = c.search.auto.cells in
    let is : true ≡ is_some (match_at_start nfa text) =
    sym c.if-branch.true ∙ c.in_ok-search.ensures.found ∙ ap (λ (b : List ℕ). is_some (match_at_start nfa b)) c.as_bytes.ensures.value in
    let written = subst (λ (b : List ℕ). IfSome (match_at_start nfa b) (λ m. cells ≡ group_cells m width)) c.as_bytes.ensures.value c.in_ok-search.ensures.cells in
    answer_of_cells nfa text cells width _ c.utf8.text c.requires kept is written c.in_ok-groups.ensures

pub returns-else-branch : goal.returns-else-branch
returns-else-branch c =
    let nfa = c.args.self.now.nfa in
    answer_of_nothing nfa c.args.text.now c.utf8.text
    (sym c.if-branch.false ∙ c.in_ok-search.ensures.found ∙ ap (λ (b : List ℕ). is_some (match_at_start nfa b)) c.as_bytes.ensures.value)
