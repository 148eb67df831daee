use Rattle.std.proofs.Common.{◌≤◌, false, length, map, arith}
use Rattle.std.proofs.lemmas.List.{length-map}
use Rattle.std.specs.Str.{chars}
use Rattle.urlpattern_matcher.specs.Components.{IsEngineOf}
use Rattle.urlpattern_matcher.specs.Matchers.{matcher_view}
use Rattle.urlpattern_matcher.proofs.StrippedMatchers.{made-of, many-by_engine}
use Rattle.urlpattern_printing.proofs.OutcomeLemmas.{if_ok-map}
use Rattle.urlpattern_syntax.specs.Options.{options_view}
use Rattle.urlpattern_syntax.specs.Parts.{part_view}
use Rattle.urlpattern_matcher.proofs.component.matchers.generate_matcher_with_regexp.Goals as goal

pub returns-in_default : goal.returns-in_default
returns-in_default g c =
    let IsEngine = IsEngineOf g.R.RegExp false (chars c.args.flags.now) in
    let options = options_view c.args.options.now in
    let middle = map part_view c.strip_fixed_texts.result.1.now in
    let len : 2 ≤ length middle = omega (arith, length-map c.strip_fixed_texts.result.1.now part_view, c.in_default.len_at_least) in
    if_ok-map _ _ c.engine_matcher-in_default.result
    (λ matcher made. made-of IsEngine options _ middle _ _ (matcher_view matcher) c.strip_fixed_texts.ensures
    (many-by_engine IsEngine options _ middle _ (matcher_view matcher) len made))
    c.engine_matcher-in_default.ensures
