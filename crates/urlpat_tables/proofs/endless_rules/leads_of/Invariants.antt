-- The indices so far of the rules that are led to.
use Rattle.std.proofs.Common.{◌<◌, All, take}
use Rattle.urlpat_tables.specs.RewriteRules.{AreLeads}
use Rattle.urlpat_tables.proofs.endless_rules.leads_of.Given as goal

abbrev pub invariant-loop-index : goal.invariant-loop-index
invariant-loop-index l = AreLeads l.second (take l.index l.all) l.leads.items × All (λ next. next < l.index) l.leads.items
