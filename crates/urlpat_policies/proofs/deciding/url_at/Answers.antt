use Rattle.std.proofs.Common.{◌∙◌, ap, option_map}
use Rattle.std.proofs.lemmas.Option.{slice_get-get_or, slice_get-map}
use Rattle.urlpat_policies.proofs.deciding.url_at.Goals as goal

pub returns : goal.returns
returns c = slice_get-map (λ url. url.now) c.args.urls.now c.args.index ∙ ap (option_map (λ url. url.now)) (slice_get-get_or c.args.urls.now c.args.index _ c.requires)
