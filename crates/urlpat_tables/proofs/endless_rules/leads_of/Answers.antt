use Rattle.std.proofs.Common.{List, subst}
use Rattle.std.proofs.lemmas.List.{take_all}
use Rattle.urlpat_tables.proofs.EndlessLemmas.{leads-more, leads-none}
use Rattle.urlpat_tables.specs.RewriteRules.{AreLeads}
use Rattle.urlpat_tables.specs.declared.endless_rules.RuleAutomata.{RuleAutomata}
use Rattle.urlpat_tables.proofs.endless_rules.leads_of.Goals as goal

pub loop-index-init : goal.loop-index-init
loop-index-init c = leads-none c.args.second.now c.args.all.now c.new-leads.result.items c.new-leads.ensures.items

pub loop-index-preserved : goal.loop-index-preserved
loop-index-preserved c =
    leads-more c.args.second.now c.args.all.now c.loop-index.index c.index-all-index.result c.loop-index.leads.items c.push_if.new.leads.items c.in_ok-led.led c.loop-index-test.true
    c.loop-index.invariant.0 c.loop-index.invariant.1
    c.in_ok-led.ensures c.in_ok-push_if.ensures

pub returns : goal.returns
returns c =
    subst (λ (them : List RuleAutomata). AreLeads c.args.second.now them c.loop-index.leads.items) (take_all c.loop-index.index c.args.all.now c.loop-index-test.false)
    c.loop-index.invariant.0
