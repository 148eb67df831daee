use Rattle.std.proofs.Common.{◌∙◌, ap}
use Rattle.urlpattern_init.specs.Inheritance.{values_of}
use Rattle.urlpattern_inputs.specs.InputValues.{init_view}
use Rattle.urlpattern_route_rules.proofs.PatternLemmas.{base-diagnosed, init-given}
use Rattle.urlpattern_route_rules.proofs.given.init_given.Goals as goal

pub returns-in-Ok : goal.returns-in-Ok
returns-in-Ok c =
    init-given c.args.script.now c.args.given.now c.in_ok-clone-in-Ok.field-0 c.base_of-base.result.now c.in-Ok.base_url c.from_eight.result c.base_of-base.ensures c.in-Ok.ensures.ok c.in_ok-clone-in-Ok.ensures.cases
    (c.from_eight.ensures.texts ∙ ap values_of c.into_eight-texts.ensures) c.from_eight.ensures.base

pub returns-in-Err-Url : goal.returns-in-Err-Url
returns-in-Err-Url c =
    base-diagnosed c.args.script.now (init_view c.args.given.now) c.base_of-base.result.now c.in-Err-Url.field-0 c.in-Err-Url.error c.in_ok-whole-in-Err-Url.field-0 c.base_of-base.ensures c.in-Err-Url.field-0-is c.in-Err-Url.ensures.err
    c.in_ok-whole-in-Err-Url.ensures.error c.in_ok-whole-in-Err-Url.ensures.subject c.in_ok-whole-in-Err-Url.ensures.text c.in_ok-whole-in-Err-Url.ensures.fault c.in_ok-whole-in-Err-Url.ensures.within
