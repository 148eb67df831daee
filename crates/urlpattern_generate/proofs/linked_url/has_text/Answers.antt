use Rattle.std.proofs.Common.{ap}
use Rattle.urlpattern_generate.proofs.UrlLemmas.{text_tested}
use Rattle.urlpattern_generate.proofs.linked_url.has_text.Goals as goal

pub returns : goal.returns
returns c =
    text_tested c.args.url.now c.args.texts.now c.args.name c.url_text.result.now c.get.result.now.now c.is_same_text.result c.url_text.ensures (ap (λ text. text.now) c.get.ensures) c.is_same_text.ensures.same
