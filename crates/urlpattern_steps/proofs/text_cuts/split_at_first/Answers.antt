use Rattle.std.proofs.Common.{◌++◌, sym, ap, ◌∙◌}
use Rattle.std.proofs.lemmas.List.{append_cancel_right}
use Rattle.std.specs.Str.{chars}
use Rattle.urlpattern_steps.specs.Walk.{from_first, up_to_first}
use Rattle.urlpattern_steps.proofs.RunLemmas.{both_ends}
use Rattle.urlpattern_steps.proofs.text_cuts.split_at_first.Goals as goal

pub before-requires : goal.before-requires
before-requires c =
    let text = chars c.args.text.now in
    (up_to_first c.args.ignore_case c.args.c text, sym (both_ends c.args.ignore_case c.args.c text) ∙ ap (λ t. up_to_first c.args.ignore_case c.args.c text ++ t) (sym c.skip_to_first-rest.ensures))

pub returns-clause-front : goal.returns-clause-front
returns-clause-front c =
    let text = chars c.args.text.now in
    append_cancel_right (chars c.before-2.result.now) (up_to_first c.args.ignore_case c.args.c text) (from_first c.args.ignore_case c.args.c text)
    (ap (λ t. chars c.before-2.result.now ++ t) (sym c.skip_to_first-rest.ensures) ∙ sym c.before-2.ensures ∙ sym (both_ends c.args.ignore_case c.args.c text))
