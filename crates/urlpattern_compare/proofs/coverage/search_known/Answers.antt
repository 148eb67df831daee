use Rattle.std.proofs.Common.{◌≡◌, ℕ, subst, IfSome, List, Option, Some}
use Rattle.std.specs.declared.alloc.Global.{Global}
use Rattle.std.specs.declared.vec.Vec.{Vec}
use Rattle.urlpattern_compare.specs.Making.{IsMadeOf}
use Rattle.urlpattern_compare.specs.declared.parts_automaton.PartsAutomaton.{PartsAutomaton}
use Rattle.urlpattern_compare.proofs.AnswerLemmas.{in_some}
use Rattle.urlpattern_compare.proofs.CoverageLemmas.{example_sought, found_parts}
use Rattle.urlpattern_compare.specs.{Conditions.accepts, Examples.IsExampleOf}
use Rattle.urlpattern_compare.proofs.coverage.search_known.Goals as goal
use Rattle.urlpattern_syntax.specs.{Options.OptionsView, Options.options_view, Parts.PartView, Parts.parts_view}

-- The automaton that was made is that of the parts.
that_made : (options : OptionsView) (parts : List PartView) (found : Option PartsAutomaton) (automaton : PartsAutomaton) → found ≡ Some automaton →
    IfSome found (IsMadeOf options parts) → IsMadeOf options parts automaton
that_made options parts found automaton e is = subst (λ o. IfSome o (IsMadeOf options parts)) e is

pub returns : goal.returns
returns c =
    let options = options_view c.args.options.now in
    let parts = parts_view c.args.parts.now in
    let other_options = options_view c.args.other_options.now in
    let others = parts_view c.args.others.now in
    found_parts options parts other_options others c.args.is_meant c.in-Some-3.one c.in-Some.other c.in_ok-found.found c.answer_of.result c.answer_of.ensures
    c.requires.parts c.requires.others
    (that_made options parts c.in_ok-one.field-0 c.in-Some-3.one c.in-Some-3.is c.in_ok-one.ensures.made)
    (that_made other_options others c.in_ok-other.field-0 c.in-Some.other c.in-Some.is c.in_ok-other.ensures.made)
    c.in_ok-found.ensures

pub returns-in-Some-2 : goal.returns-in-Some-2
returns-in-Some-2 c =
    let options = options_view c.args.options.now in
    let parts = parts_view c.args.parts.now in
    let other_options = options_view c.args.other_options.now in
    let others = parts_view c.args.others.now in
    let other = c.in-Some.other in
    example_sought options parts other_options others c.args.is_meant other c.in-Some-2.text
    c.requires.others
    (that_made other_options others c.in_ok-other.field-0 other c.in-Some.is c.in_ok-other.ensures.made)
    (in_some (λ (it : Vec ℕ Global). IsExampleOf options parts it.items × (accepts other it.items ≡ c.args.is_meant)) c.in_ok-text.field-0 c.in-Some-2.text c.in-Some-2.is c.in_ok-text.ensures)
