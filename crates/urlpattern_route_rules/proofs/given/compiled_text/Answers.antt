use Rattle.urlpattern_route_rules.proofs.PatternLemmas.{text-compiled, text-rejected}
use Rattle.urlpattern_route_rules.proofs.given.compiled_text.Goals as goal

pub returns-in-Ok : goal.returns-in-Ok
returns-in-Ok g c =
    text-compiled g.R.RegExp c.args.script.now c.args.text.now c.no_options.result c.in-Ok.compiled c.allowed.result c.no_options.ensures c.in-Ok.ensures.compiled c.in-Ok.ensures.kept c.allowed.ensures

pub returns-in-Ok-Some : goal.returns-in-Ok-Some
returns-in-Ok-Some g c =
    text-rejected g.R.RegExp c.args.script.now c.args.text.now c.no_options-in-Err.result c.in-Ok-Some.diagnosis c.no_options-in-Err.ensures
    (rw c.in-Ok-Some.field-0-is at c.in-Ok-Some.ensures.refused) (rw c.in-Ok-Some.field-0-is at c.in-Ok-Some.ensures.shows) (rw c.in-Ok-Some.field-0-is at c.in-Ok-Some.ensures.within)
