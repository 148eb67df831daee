use Rattle.std.proofs.Common.{◌≡◌, ap, rules, option_map, ◌∙◌}
use Rattle.std.proofs.Math.Path.{fun_ext}
use Rattle.urlpattern_init.specs.Inheritance.{values_view}
use Rattle.urlpattern_syntax.specs.Text.{text_of}
use Rattle.urlpattern_components.specs.Eight.{at, each}
use Rattle.urlpattern_components.specs.declared.eight.ComponentName.{ComponentName}
use Rattle.urlpattern_init.proofs.init.UrlPatternInitClone.clone.Goals as goal

pub returns : goal.returns
returns c =
    let same : (name : ComponentName) → option_map text_of (at c.in_ok-texts.texts name) ≡ at (values_view c.args.self.now) name =
    λ name. let copied = c.in_ok-texts.ensures.ok name in search rules in
    let texts = c.from_eight.ensures.texts ∙ ap each (fun_ext same) in
    let base = c.from_eight.ensures.base in
    record { cases = search rules }
