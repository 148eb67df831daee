use Rattle.std.proofs.Common.{◌∙◌, ℕ, List, Ok, Option, ap, subst, sym}
use Rattle.urlpattern_canonical.specs.BaseUrls.{parsed_base}
use Rattle.urlpattern_init.specs.Inheritance.{values_of}
use Rattle.urlpattern_policy_text.proofs.GivenLemmas.{values_by_view}
use Rattle.urlpattern_policy_text.specs.PolicyTexts.{IsRejectedBase}
use Rattle.urlpattern_policy_text.proofs.json_rules.made_under.Goals as goal

pub returns-in-Ok-clause-made : goal.returns-in-Ok-clause-made
returns-in-Ok-clause-made c = record {
  has_texts = c.from_eight.ensures.texts ∙ ap values_of c.into_eight.ensures ∙ values_by_view c.args.given;
  has_base = ap parsed_base (sym c.base_of_init-own.ensures) ∙ (rw c.in-Ok.is at c.in_ok-parsed.ensures.parsed) ∙ ap Ok (sym c.from_eight.ensures.base);
}

pub returns-in-Err-clause-rejected : goal.returns-in-Err-clause-rejected
returns-in-Err-clause-rejected c =
    subst (λ (base : Option (List ℕ)). IsRejectedBase base c.in-Err.diagnosis) c.base_of_init-own.ensures (rw c.in-Err.is at c.in_ok-parsed.ensures.rejected)
