use Rattle.std.proofs.Common.{rules}
use Rattle.urlpattern_generate.proofs.GivenLemmas.{names_tested}
use Rattle.urlpattern_generate.proofs.given_groups.is_same_component.Goals as goal

pub returns : goal.returns
returns c = names_tested c.args.one c.args.other c.eq.result (λ t. search rules) (λ same. search rules)
