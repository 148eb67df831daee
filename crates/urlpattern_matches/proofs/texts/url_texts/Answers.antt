use Rattle.std.specs.Str.{chars}
use Rattle.urlpattern_init.specs.Inheritance.{url_text}
use Rattle.urlpattern_inputs.proofs.EachLemmas.{each-same}
use Rattle.urlpattern_components.specs.Eight.{at}
use Rattle.urlpattern_matches.proofs.texts.url_texts.Goals as goal

pub returns : goal.returns
returns c =
    each-same (λ name. chars (at c.from_fn.result name).now) (λ name. url_text name c.args.url.now) (λ name. (c.from_fn.ensures name).1)
