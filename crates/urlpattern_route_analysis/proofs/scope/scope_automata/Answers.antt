use Rattle.std.proofs.Common.{subst, sym}
use Rattle.std.proofs.lemmas.Result.{IfOk-weaker}
use Rattle.urlpattern_compare.specs.declared.common_texts.PatternAutomata.{PatternAutomata}
use Rattle.urlpattern_compare.specs.declared.pattern_parts.PatternParts.{PatternParts}
use Rattle.urlpattern_components.specs.Eight.{at}
use Rattle.urlpattern_components.specs.declared.eight.ComponentName.{ComponentName}
use Rattle.urlpattern_route_analysis.specs.Scopes.{IsPrefixIn}
use Rattle.urlpattern_route_analysis.proofs.scope.scope_automata.Goals as goal

pub returns-clause-parts : goal.returns-clause-parts
returns-clause-parts c =
    IfOk-weaker c.new.result _ _
    (λ (it : PatternAutomata) e. subst (λ (parts : PatternParts). (name : ComponentName) → IsPrefixIn c.args.scope.now name (at parts.components name)) (sym e) (λ name. (c.in_ok-components.ensures.ok name).1)) c.new.ensures.parts
