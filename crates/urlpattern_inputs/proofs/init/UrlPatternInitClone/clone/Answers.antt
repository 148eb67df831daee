use Rattle.std.proofs.Common.{ap, rules, option_map, string_bytes, ◌∙◌}
use Rattle.urlpattern_inputs.specs.InputValues.{plain_init_texts}
use Rattle.urlpattern_inputs.proofs.EachLemmas.{each-same}
use Rattle.urlpattern_components.specs.Eight.{at, each}
use Rattle.urlpattern_inputs.proofs.init.UrlPatternInitClone.clone.Goals as goal

pub returns : goal.returns
returns c =
    let texts =
    ap (λ texts. each (λ name. option_map string_bytes (at texts name))) c.from_eight.ensures.texts
    ∙ each-same (λ name. option_map string_bytes (at c.in_ok-texts.texts name))
    (λ name. option_map string_bytes (at (plain_init_texts c.args.self.now) name))
    (λ name. let copied = c.in_ok-texts.ensures.ok name in search rules) in
    let base = ap (option_map string_bytes) c.from_eight.ensures.base_url in
    record { cases = search rules }
