use Rattle.std.proofs.Common.{ap, rules, string_bytes, ◌∙◌}
use Rattle.urlpattern_inputs.specs.InputValues.{matched_texts}
use Rattle.urlpattern_inputs.proofs.EachLemmas.{each-same}
use Rattle.urlpattern_components.specs.Eight.{at, each}
use Rattle.urlpattern_inputs.proofs.match_input.MatchInputClone.clone.Goals as goal

pub returns : goal.returns
returns c = record {
  cases =
      ap (λ texts. each (λ name. string_bytes (at texts name))) c.from_eight.ensures
      ∙ each-same (λ name. string_bytes (at c.in_ok-texts.texts name)) (λ name. string_bytes (at (matched_texts c.args.self.now) name))
      (λ name. let copied = c.in_ok-texts.ensures.ok name in search rules);
}
