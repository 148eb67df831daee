use Rattle.std.proofs.Common.{◌∙◌, ap, option_map}
use Rattle.std.proofs.lemmas.Option.{slice_get-get_or, slice_get-map}
use Rattle.urlpattern_policy_text.proofs.reading.line_at.Goals as goal

pub returns : goal.returns
returns c = slice_get-map (λ line. line.now) c.args.lines.now c.args.index ∙ ap (option_map (λ line. line.now)) (slice_get-get_or c.args.lines.now c.args.index _ c.requires)
