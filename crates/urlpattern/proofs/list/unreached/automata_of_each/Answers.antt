use Rattle.std.proofs.Common.{◌∙◌, List, ap, subst, sym, take_all}
use Rattle.std.specs.Prelude.{option_copied}
use Rattle.urlpattern.proofs.ListedParts.{automata_more, has_none}
use Rattle.urlpattern.specs.Reached.{HaveAllAutomata}
use Rattle.urlpattern_pattern.specs.UrlPatterns.{UrlPattern}
use Rattle.urlpattern.proofs.list.unreached.automata_of_each.Goals as goal

pub loop-pattern-preserved : goal.loop-pattern-preserved
loop-pattern-preserved g c =
    let patterns = c.args.patterns.now in
    let i = c.loop-pattern.pattern-index in
    let pattern = c.pattern-item.result in
    automata_more g.R.RegExp patterns i pattern c.loop-pattern-test.true c.pattern-item.is c.loop-pattern.all.items c.push_automata.new.all.items c.in-Some.parts.now
    (sym c.parts.ensures.parts ∙ ap option_copied c.in-Some.is) c.parts.ensures.made c.in-Ok.ensures c.loop-pattern.invariant

pub returns-in-None-clause-missing : goal.returns-in-None-clause-missing
returns-in-None-clause-missing g c =
    has_none g.R.RegExp c.args.patterns.now c.loop-pattern.pattern-index c.pattern-item.result c.loop-pattern-test.true c.pattern-item.is
    (sym c.parts.ensures.parts ∙ ap option_copied c.in-None.is)

pub returns-clause-automata : goal.returns-clause-automata
returns-clause-automata g c =
    subst (λ (patterns : List (UrlPattern g.row.R.Denot)). HaveAllAutomata g.R.RegExp patterns c.loop-pattern.all.items)
    (take_all c.loop-pattern.pattern-index c.args.patterns.now c.loop-pattern-test.false) c.loop-pattern.invariant
