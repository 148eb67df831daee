use Rattle.std.proofs.lemmas.Str.{chars-nil}
use Rattle.std.specs.Str.{chars}
use Rattle.urlpattern_matches.proofs.texts.pathname_texts.Goals as goal

pub returns : goal.returns
returns c = λ i. record { protocol = chars-nil i; username = chars-nil i; password = chars-nil i; hostname = chars-nil i; port = chars-nil i; pathname = chars c.args.pathname.now; search = chars-nil i; hash = chars-nil i }
