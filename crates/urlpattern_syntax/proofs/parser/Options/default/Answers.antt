use Rattle.std.proofs.Common.{◌∙◌, ap, None}
use Rattle.std.proofs.lemmas.Str.{chars-nil}
use Rattle.std.specs.Str.{chars}
use Rattle.urlpattern_syntax.specs.Options.{standard_options}
use Rattle.urlpattern_syntax.proofs.parser.Options.default.Goals as goal

pub returns : goal.returns
returns c = ap (λ prefix. standard_options None prefix) (ap chars c.new.ensures.bytes ∙ chars-nil)
