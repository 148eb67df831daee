use Rattle.std.proofs.Common.{◌∙◌, ap, sym}
use Rattle.std.specs.Hash as fed
use Rattle.std.specs.List.{fold}
use Rattle.urlpattern_syntax.proofs.StringTexts.{text_bytes}
use Rattle.urlpattern_compare.proofs.parts_hash.hash_text.Goals as goal

pub returns : goal.returns
returns g c =
    c.hash.ensures ∙ ap (λ bytes. fold g.H.Hasher.write c.args.state.now (fed.str bytes)) (sym (text_bytes c.args.text.now))
