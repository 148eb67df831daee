use Rattle.std.proofs.Common.{◌∙◌, subst, sym}
use Rattle.urlpattern_ffi_tables.proofs.PolicyLemmas.{new_policy}
use Rattle.urlpattern_ffi_tables.specs.KeptPolicies.{Policy}
use Rattle.urlpattern_ffi_tables.specs.Verdicts.{IsDecided}
use Rattle.urlpattern_ffi_tables.proofs.deciding.decide.Goals as goal

pub returns-in-Some : goal.returns-in-Some
returns-in-Some c = subst (λ (policy : Policy). IsDecided policy c.args.text.now c.args.base.now c.decide_by.new.rule c.decide_by.result) c.in-Some.ensures.some c.decide_by.ensures

pub returns-in-None : goal.returns-in-None
returns-in-None c =
    let none = new_policy c.new.result c.new.ensures.rules c.new.ensures.options ∙ sym c.in-None.ensures.none in
    subst (λ (policy : Policy). IsDecided policy c.args.text.now c.args.base.now c.decide_by-in-None.new.rule c.decide_by-in-None.result) none c.decide_by-in-None.ensures
