use Rattle.std.proofs.Common.{◌≡◌, ◌∙◌, ap, drop, false, map, rules, sym}
use Rattle.std.specs.List.{list_any}
use Rattle.urlpattern_compare.proofs.ConditionLemmas.{none_after}
use Rattle.urlpattern_compare.specs.Searching.{is_in}
use Rattle.urlpattern_meaning.specs.Matching.{folded_character}
use Rattle.urlpattern_compare.proofs.accepting.accepts.Goals as goal

pub returns-then-not-has_state : goal.returns-then-not-has_state
returns-then-not-has_state c =
    let automaton = c.args.automaton.now in
    let flags = c.loop-c.flags.items in
    let none : list_any (λ flag. flag) flags ≡ false = search rules in
    sym (none_after automaton.edges.items flags (map (folded_character automaton.ignore_case) (drop c.loop-c.c-index c.args.text.now)) none)
    ∙ ap (λ s. is_in s 0) c.loop-c.invariant
