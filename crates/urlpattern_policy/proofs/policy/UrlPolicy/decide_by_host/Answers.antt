use Rattle.std.proofs.Common.{◌∙◌, List, ℕ, ap, subst, sym}
use Rattle.std.specs.Str.{chars}
use mathlib.Core.Logic.{inl}
use Rattle.url.specs.Parser.{Parsed}
use Rattle.urlpattern_components.specs.Eight.{Texts}
use Rattle.urlpattern_matches.specs.GroupTexts.{borrowed_texts}
use Rattle.urlpattern_policy.proofs.DecisionLemmas.{rejected_is_denied}
use Rattle.urlpattern_policy.specs.Decisions.{DecidesParsed, DecidesSpelled}
use Rattle.urlpattern_policy.proofs.policy.UrlPolicy.decide_by_host.Goals as goal

pub returns-in-Ok : goal.returns-in-Ok
returns-in-Ok g c =
    let with_host : List ℕ → Texts = λ host. record (borrowed_texts c.args.texts.now) { hostname = host } in
    let texts = c.with_hostname.ensures ∙ ap (λ bytes. with_host (chars bytes)) c.deref.ensures in
    subst (λ (read : Parsed (List ℕ)). DecidesParsed (λ host. DecidesSpelled g.R.RegExp.answer c.args.self.now (with_host host)) read c.decide_spelled.result)
    (sym c.in-Ok.ensures.ok)
    (inl (subst (λ (texts : Texts). DecidesSpelled g.R.RegExp.answer c.args.self.now texts c.decide_spelled.result) texts c.decide_spelled.ensures))

pub returns-in-Err : goal.returns-in-Err
returns-in-Err g c =
    rejected_is_denied (λ host. DecidesSpelled g.R.RegExp.answer c.args.self.now (record (borrowed_texts c.args.texts.now) { hostname = host })) _ c.in-Err.refusal c.in-Err.ensures.err
