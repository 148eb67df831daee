use Rattle.std.proofs.Common.{IsTrue, Option, Some, ap, is_some, option_map, subst, sym, ◌∙◌}
use Rattle.std.proofs.lemmas.Bool.{false≢true}
use Rattle.urlpattern_compare.specs.declared.pattern_parts.PatternParts.{PatternParts}
use Rattle.urlpattern_route_rules.specs.Patterns.{pattern_fault}
use Rattle.urlpattern_route_rules.proofs.given.fault_of.Goals as goal

pub returns-in-Some : goal.returns-in-Some
returns-in-Some g c = ap (option_map pattern_fault) (sym c.in-Some.ensures.parts) ∙ ap Some (sym c.pattern_fault.ensures)

pub returns-in-None : goal.returns-in-None
returns-in-None g c = absurd (false≢true (subst (λ (parts : Option PatternParts). IsTrue (is_some parts)) (sym c.in-None.ensures.parts) c.requires))
