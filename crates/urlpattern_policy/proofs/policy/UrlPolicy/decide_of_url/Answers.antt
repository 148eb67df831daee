use Rattle.std.proofs.Common.{◌∙◌, refl, sym}
use Rattle.urlpattern_policy.proofs.DecisionLemmas.{at_false, at_true}
use Rattle.urlpattern_policy.proofs.policy.UrlPolicy.decide_of_url.Goals as goal

pub returns-then-denies_credentials_of : goal.returns-then-denies_credentials_of
returns-then-denies_credentials_of g c = at_true _ _ _ (sym c.denies_credentials_of.ensures ∙ c.if-denies_credentials_of.true) refl

pub returns-then-reads_host_of : goal.returns-then-reads_host_of
returns-then-reads_host_of g c =
    at_false _ _ _ (sym c.denies_credentials_of.ensures ∙ c.if-denies_credentials_of.false)
    (at_true _ _ _ (sym c.reads_host_of.ensures ∙ c.if-reads_host_of.true) c.decide_by_host.ensures)

pub returns : goal.returns
returns g c =
    at_false _ _ _ (sym c.denies_credentials_of.ensures ∙ c.if-denies_credentials_of.false)
    (at_false _ _ _ (sym c.reads_host_of.ensures ∙ c.if-reads_host_of.false) c.decide_spelled.ensures)
