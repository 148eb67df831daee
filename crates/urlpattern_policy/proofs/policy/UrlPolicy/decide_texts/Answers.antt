use Rattle.std.proofs.Common.{◌≡◌, Some}
use Rattle.urlpattern_matches.specs.BorrowedMatches.{pattern_captures_view}
use Rattle.urlpattern_matches.specs.GroupTexts.{borrowed_texts}
use Rattle.urlpattern_policy.proofs.DecisionLemmas.{first_rule, found_rule}
use Rattle.urlpattern_differences.specs.declared.rules.Effect.TheVariants as effects
use Rattle.urlpattern_policy.proofs.policy.UrlPolicy.decide_texts.Goals as goal

pub returns-in-Allow : goal.returns-in-Allow
returns-in-Allow g c =
    let is : c.in-Ok-Some.field-0 ≡ Some (c.in-Ok-Some.index, c.in-Ok-Some.effect, c.in-Ok-Some.captures) = cc in
    found_rule g.R.RegExp.answer c.args.self.now.rules (borrowed_texts c.args.texts.now) c.in-Ok-Some.field-0 c.in-Ok-Some.index c.in-Ok-Some.effect c.in-Ok-Some.captures effects.Allow is c.in-Ok-Some.ensures.first c.in-Ok-Some.ensures.value c.in-Allow.is

pub returns-in-Ok-Some : goal.returns-in-Ok-Some
returns-in-Ok-Some g c =
    first_rule g.R.RegExp.answer c.args.self.now.rules (borrowed_texts c.args.texts.now) c.in-Ok-Some.index (pattern_captures_view c.in-Ok-Some.captures) c.in-Ok-Some.effect.now effects.Deny
    (rw c.in-Ok-Some.field-0-is at c.in-Ok-Some.ensures.first) (rw c.in-Ok-Some.field-0-is at c.in-Ok-Some.ensures.value) c.in-Deny.is
