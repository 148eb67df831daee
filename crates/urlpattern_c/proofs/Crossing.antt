-- Patterns may go to another thread, and several threads may read them: they own plain memory. The
-- type of an expression's tree is recursive, so no crate has this of it, nor of what holds it.
use denote.Param.Send.{IsSend, IsSync, sendable}
use Rattle.std.proofs.Crossing.{crosses}
use Rattle.regex.specs.contracts.string.regex.Regex as Regex
use Rattle.regex_dfa.proofs.dfa.Dfa.TheSendSync as dfa
use Rattle.regex_hir.proofs.hir.Hir.TheLaws.TheKnot as knot
use Rattle.regex_hir.specs.contracts.hir.Hir as Hir
use Rattle.regex_literal.proofs.byte_set.ByteSet.TheSendSync as byte_set
use Rattle.regex_literal.proofs.caseless.Caseless.TheSendSync as caseless
use Rattle.regex_meta.specs.contracts.plan.Plans as Plans
use Rattle.regex_meta.specs.contracts.program.Program as Program
use Rattle.regex_nfa.proofs.nfa.Nfa.TheSendSync as nfa
use Rattle.urlpattern_conditions.proofs.condition.Condition.TheLaws.TheKnot as conditions
use Rattle.urlpattern.proofs.list.UrlPatternList.TheSendSync as list
use Rattle.urlpattern.proofs.router.UrlPatternRouter.TheSendSync as router
use Rattle.urlpattern_engine.proofs.strategy.StepSearch.TheSendSync as search_of_steps
use Rattle.urlpattern_engine.specs.contracts.pattern_regexp.PatternRegexp as PatternRegexp
use Rattle.urlpattern_ffi.specs.contracts.pattern_box.PatternBox as PatternBox
use Rattle.urlpattern_ffi_routes.specs.contracts.routes_box.RoutesBox as RoutesBox
use Rattle.urlpattern_ffi_tables.specs.contracts.policy_box.PolicyBox as PolicyBox
use Rattle.urlpattern_ffi_tables.specs.contracts.router_box.RouterBox as RouterBox
use Rattle.urlpattern_pattern.proofs.pattern.UrlPattern.TheSendSync as pattern
use Rattle.urlpattern_policy.proofs.policy.UrlPolicy.TheSendSync as policy
use Rattle.urlpattern_route_rules.proofs.fault.RouteFault.TheSendSync as route_fault
use Rattle.urlpattern_routes.proofs.condition.RouterCondition.TheLaws.TheKnot as given_conditions
use Rattle.urlpattern_routes.proofs.condition.RouterRequest.TheSendSync as request
use Rattle.urlpattern_routes.proofs.source.RouterSource.TheSendSync as source
use Rattle.urlpattern_routes.specs.contracts.condition.RouterCondition as RouterCondition
use Rattle.urlpattern_routes.specs.contracts.rule.RouterRule as RouterRule
use Rattle.url.proofs.Url.TheSendSync as url
use Rattle.urlpattern_steps.proofs.step.Step.TheSendSync as step

hir_send : IsSend (Hir.the_field).row
hir_send = search (crosses, knot.crosses, sendable) depth 60 fits 20000

plans_send : IsSend (Plans.the_field).row
plans_send = search (hir_send, crosses, sendable) depth 60 fits 20000

program_send : IsSend (Program.the_field).row
program_send = search (hir_send, plans_send, dfa.the_field_send, byte_set.the_send, caseless.the_send, crosses, sendable) depth 60 fits 20000

regex_send : IsSend (Regex.the_field).row
regex_send = search (program_send, crosses, sendable) depth 60 fits 20000

hir_sync : IsSync (Hir.the_field).row
hir_sync = search (crosses, knot.crosses_both, sendable) depth 60 fits 20000

plans_sync : IsSync (Plans.the_field).row
plans_sync = search (hir_sync, crosses, sendable) depth 60 fits 20000

program_sync : IsSync (Program.the_field).row
program_sync = search (hir_sync, plans_sync, dfa.the_field_sync, byte_set.the_sync, caseless.the_sync, crosses, sendable) depth 60 fits 20000

regex_sync : IsSync (Regex.the_field).row
regex_sync = search (program_sync, crosses, sendable) depth 60 fits 20000

-- What the copies of a value share goes to another thread only if several may read it.
ruleset shared = (regex_send, regex_sync, nfa.the_field_send, nfa.the_field_sync, step.the_field_send, step.the_field_sync, search_of_steps.the_field_send, search_of_steps.the_field_sync)

engine_send : IsSend (PatternRegexp.the_field).row
engine_send = search (shared, crosses, sendable) depth 60 fits 20000

engine_sync : IsSync (PatternRegexp.the_field).row
engine_sync = search (shared, crosses, sendable) depth 60 fits 20000

pub patterns_send : IsSend PatternBox.the_row
patterns_send = search (engine_send, engine_sync, list.the_send, list.the_sync, crosses, sendable) depth 60 fits 20000

pub router_send : IsSend RouterBox.the_row
router_send = search (engine_send, engine_sync, router.the_send, router.the_sync, crosses, sendable) depth 60 fits 20000

pub policy_send : IsSend PolicyBox.the_row
policy_send = search (engine_send, engine_sync, policy.the_send, policy.the_sync, crosses, sendable) depth 60 fits 20000

-- Conditions are recursive, as expressions are.
condition_send : IsSend (RouterCondition.the_field).row
condition_send = search (request.the_field_send, given_conditions.crosses, crosses, sendable) depth 60 fits 20000

rule_send : IsSend (RouterRule.the_field).row
rule_send = search (condition_send, source.the_field_send, crosses, sendable) depth 60 fits 20000

pub routes_send : IsSend RoutesBox.the_row
routes_send =
    search (engine_send, pattern.the_send, rule_send, route_fault.the_field_send, url.the_send, conditions.crosses, crosses, sendable) depth 60 fits 20000
