use Rattle.std.proofs.Common.{subst, sym}
use Rattle.std.proofs.lemmas.Result.{IfOk-weaker}
use Rattle.urlpattern_compare.specs.declared.common_texts.PatternAutomata.{PatternAutomata}
use Rattle.urlpattern_compare.specs.declared.pattern_parts.PatternParts.{PatternParts}
use Rattle.urlpattern_urls.specs.Unlike.{IsUnlike}
use Rattle.urlpattern_urls.proofs.unlike.automata_of.Goals as goal

pub returns-clause-parts : goal.returns-clause-parts
returns-clause-parts c =
    IfOk-weaker c.new.result _ _ (λ (it : PatternAutomata) e. subst (λ (parts : PatternParts). IsUnlike c.args.way parts) (sym e) (λ name. (c.in_ok-components.ensures.ok name).1)) c.new.ensures.parts
