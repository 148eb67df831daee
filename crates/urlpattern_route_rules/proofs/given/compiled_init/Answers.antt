use Rattle.std.proofs.Common.{subst}
use Rattle.urlpattern_inputs.specs.InputValues.{init_view}
use Rattle.urlpattern_route_rules.specs.Patterns.{GivesInit}
use Rattle.urlpattern_route_rules.proofs.PatternLemmas.{base-rejected, copy-given, init-compiled, init-rejected}
use Rattle.urlpattern_route_rules.proofs.given.compiled_init.Goals as goal

pub returns-in-Err : goal.returns-in-Err
returns-in-Err g c =
    let given = init_view c.args.given.now in
    base-rejected g.R.RegExp c.args.script.now given c.in-Err.diagnosis (subst (GivesInit c.args.script.now given) c.in-Err.is c.in_ok-init.ensures)

pub returns-in-Ok-parse : goal.returns-in-Ok-parse
returns-in-Ok-parse g c =
    let given = init_view c.args.given.now in
    let copy = c.in_ok-clone.field-0 in
    init-compiled g.R.RegExp c.args.script.now given copy c.no_options.result c.in-Ok-parse.pattern c.allowed.result c.no_options.ensures
    (copy-given c.args.script.now given c.in-Ok.init copy (subst (GivesInit c.args.script.now given) c.in-Ok.is c.in_ok-init.ensures) c.in_ok-clone.ensures.cases.0 c.in_ok-clone.ensures.cases.1) c.in-Ok-parse.ensures.compiled c.in-Ok-parse.ensures.kept c.allowed.ensures

pub returns-in-Ok-Some : goal.returns-in-Ok-Some
returns-in-Ok-Some g c =
    let given = init_view c.args.given.now in
    init-rejected g.R.RegExp c.args.script.now given c.in-Ok.init c.no_options-in-Err-parse.result c.in-Ok-Some.diagnosis c.no_options-in-Err-parse.ensures (subst (GivesInit c.args.script.now given) c.in-Ok.is c.in_ok-init.ensures)
    (rw c.in-Ok-Some.field-0-is at c.in-Ok-Some.ensures.refused) (rw c.in-Ok-Some.field-0-is at c.in-Ok-Some.ensures.shows) (rw c.in-Ok-Some.field-0-is at c.in-Ok-Some.ensures.within)
