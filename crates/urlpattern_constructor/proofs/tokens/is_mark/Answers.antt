use Rattle.std.proofs.Common.{◌≡◌, ◌∷◌, [], ◌∙◌, rules}
use Rattle.std.specs.Str.{bytes_eq}
use Rattle.urlpattern_constructor.proofs.TokenPlaces.{mark_bytes}
use Rattle.urlpattern_constructor.proofs.tokens.is_mark.Goals as goal

pub returns : goal.returns
returns c =
    let same : c.eq.result ≡ bytes_eq c.args.text.now (c.args.mark ∷ []) = search rules in
    same ∙ mark_bytes c.args.text.now c.args.mark c.utf8.text c.requires
