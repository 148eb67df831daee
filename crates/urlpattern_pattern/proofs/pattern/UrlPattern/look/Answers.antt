use Rattle.urlpattern_components.specs.declared.eight.ComponentName.TheVariants.{Protocol, Username, Password, Hostname, Port, Pathname, Search, Hash}
use Rattle.std.proofs.Common.{subst}
use Rattle.urlpattern_matches.specs.GroupTexts.{borrowed_texts}
use Rattle.urlpattern_pattern.proofs.Results.{if_none}
use Rattle.urlpattern_pattern.specs.MatchCalls.{AreLooks, CallWithCause}
use Rattle.urlpattern_pattern.specs.Match.{DoesNotMatch}
use Rattle.urlpattern_pattern.specs.Patterns.{pattern_view}
use Rattle.urlpattern_components.proofs.EightLemmas.{by_name}
use Rattle.urlpattern_pattern.proofs.pattern.UrlPattern.look.Goals as goal

pub returns-in_err-look-clause-none : goal.returns-in_err-look-clause-none
returns-in_err-look-clause-none g c =
    if_none _ c.from_residual.result (subst (λ pattern. DoesNotMatch g.R.RegExp.answer (pattern_view pattern) (borrowed_texts c.args.texts.now)) c.self.view_is (Pathname, c.in_err-look.ensures.answer))

pub returns-in_err-look-2-clause-none : goal.returns-in_err-look-2-clause-none
returns-in_err-look-2-clause-none g c =
    if_none _ c.from_residual-in_err-look-2.result (subst (λ pattern. DoesNotMatch g.R.RegExp.answer (pattern_view pattern) (borrowed_texts c.args.texts.now)) c.self.view_is (Hostname, c.in_err-look-2.ensures.answer))

pub returns-in_err-look-3-clause-none : goal.returns-in_err-look-3-clause-none
returns-in_err-look-3-clause-none g c =
    if_none _ c.from_residual-in_err-look-3.result (subst (λ pattern. DoesNotMatch g.R.RegExp.answer (pattern_view pattern) (borrowed_texts c.args.texts.now)) c.self.view_is (Protocol, c.in_err-look-3.ensures.answer))

pub returns-in_err-look-4-clause-none : goal.returns-in_err-look-4-clause-none
returns-in_err-look-4-clause-none g c =
    if_none _ c.from_residual-in_err-look-4.result (subst (λ pattern. DoesNotMatch g.R.RegExp.answer (pattern_view pattern) (borrowed_texts c.args.texts.now)) c.self.view_is (Port, c.in_err-look-4.ensures.answer))

pub returns-in_err-look-5-clause-none : goal.returns-in_err-look-5-clause-none
returns-in_err-look-5-clause-none g c =
    if_none _ c.from_residual-in_err-look-5.result (subst (λ pattern. DoesNotMatch g.R.RegExp.answer (pattern_view pattern) (borrowed_texts c.args.texts.now)) c.self.view_is (Search, c.in_err-look-5.ensures.answer))

pub returns-in_err-look-6-clause-none : goal.returns-in_err-look-6-clause-none
returns-in_err-look-6-clause-none g c =
    if_none _ c.from_residual-in_err-look-6.result (subst (λ pattern. DoesNotMatch g.R.RegExp.answer (pattern_view pattern) (borrowed_texts c.args.texts.now)) c.self.view_is (Hash, c.in_err-look-6.ensures.answer))

pub returns-in_err-look-7-clause-none : goal.returns-in_err-look-7-clause-none
returns-in_err-look-7-clause-none g c =
    if_none _ c.from_residual-in_err-look-7.result (subst (λ pattern. DoesNotMatch g.R.RegExp.answer (pattern_view pattern) (borrowed_texts c.args.texts.now)) c.self.view_is (Username, c.in_err-look-7.ensures.answer))

pub returns-in_err-look-8-clause-none : goal.returns-in_err-look-8-clause-none
returns-in_err-look-8-clause-none g c =
    if_none _ c.from_residual-in_err-look-8.result (subst (λ pattern. DoesNotMatch g.R.RegExp.answer (pattern_view pattern) (borrowed_texts c.args.texts.now)) c.self.view_is (Password, c.in_err-look-8.ensures.answer))

pub returns-clause-some : goal.returns-clause-some
returns-clause-some g c =
    subst (λ pattern. AreLooks g.R.RegExp.answer (pattern_view pattern) (borrowed_texts c.args.texts.now)
    (record { protocol = c.in_ok-look-3.field-0; username = c.in_ok-look-7.field-0; password = c.in_ok-look-8.field-0; hostname = c.in_ok-look-2.field-0; port = c.in_ok-look-4.field-0; pathname = c.in_ok-look.field-0; search = c.in_ok-look-5.field-0; hash = c.in_ok-look-6.field-0 })) c.self.view_is
    (by_name _ c.in_ok-look-3.ensures.answer c.in_ok-look-7.ensures.answer c.in_ok-look-8.ensures.answer c.in_ok-look-2.ensures.answer c.in_ok-look-4.ensures.answer c.in_ok-look.ensures.answer c.in_ok-look-5.ensures.answer c.in_ok-look-6.ensures.answer)

pub returns-clause-asked : goal.returns-clause-asked
returns-clause-asked g c =
    subst (λ pattern. CallWithCause (pattern_view pattern) (borrowed_texts c.args.texts.now)
    (record { protocol = c.in_ok-look-3.field-0; username = c.in_ok-look-7.field-0; password = c.in_ok-look-8.field-0; hostname = c.in_ok-look-2.field-0; port = c.in_ok-look-4.field-0; pathname = c.in_ok-look.field-0; search = c.in_ok-look-5.field-0; hash = c.in_ok-look-6.field-0 })) c.self.view_is
    (by_name _ c.in_ok-look-3.ensures.asked c.in_ok-look-7.ensures.asked c.in_ok-look-8.ensures.asked c.in_ok-look-2.ensures.asked c.in_ok-look-4.ensures.asked c.in_ok-look.ensures.asked c.in_ok-look-5.ensures.asked c.in_ok-look-6.ensures.asked)
