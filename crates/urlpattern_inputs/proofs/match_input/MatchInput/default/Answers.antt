use Rattle.std.proofs.Common.{ap, rules, string_bytes, ◌∙◌, []}
use Rattle.urlpattern_inputs.proofs.EachLemmas.{each-same}
use Rattle.urlpattern_components.specs.Eight.{at, each}
use Rattle.urlpattern_inputs.proofs.match_input.MatchInput.default.Goals as goal

pub returns : goal.returns
returns c =
    ap (λ texts. each (λ name. string_bytes (at texts name))) c.from_eight.ensures
    ∙ each-same (λ name. string_bytes (at c.from_fn.result name)) (λ name. []) (λ name. let made = c.from_fn.ensures name in search rules)
