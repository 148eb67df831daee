use Rattle.std.proofs.Common.{◌∙◌, List, ap, refl, sym}
use Rattle.urlpattern_route_analysis.specs.Deciding.{is_found}
use Rattle.urlpattern_route_analysis.proofs.DecisionLemmas.{notes_one}
use Rattle.urlpattern_route_analysis.specs.Cases.{literal_views}
use Rattle.urlpattern_route_analysis.specs.declared.decisions.JointDecision.{JointDecision}
use Rattle.urlpattern_route_analysis.proofs.analysis.Analysis.note.Goals as goal

pub returns-in_ok-push-in_default-2 : goal.returns-in_ok-push-in_default-2
returns-in_ok-push-in_default-2 c =
    let it : JointDecision = record { one = c.args.one; other = c.args.other; names = c.in-Some.names; url = c.in_ok-url.url } in
    notes_one c.args.self.now c.args.one c.args.other (literal_views c.args.literals.now) c.args.found.now.items c.in_ok-names.field-0 it c.push.new.self.items c.in_ok-names.ensures c.in-Some.is c.in_ok-url.ensures
    c.in_default-2.not-Nothing refl refl c.in_ok-push-in_default-2.ensures.items (ap (λ (l : List JointDecision). is_found l c.args.one c.args.other) (sym c.deref.ensures.value) ∙ sym c.is_found.ensures ∙ c.if-is_found.false)
