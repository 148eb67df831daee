use Rattle.std.proofs.Common.{◌∷◌, [], ap, sym, ◌∙◌, rules}
use Rattle.std.proofs.lemmas.Str.{chars-IsAscii, chars-nil}
use Rattle.urlpattern_constructor.specs.Split.{implied_pathname}
use Rattle.urlpattern_constructor.proofs.components.implied_pathname.Goals as goal

pub returns-then-special : goal.returns-then-special
returns-then-special c = chars-IsAscii (47 ∷ []) (search rules) ∙ ap implied_pathname (sym c.if-special.true)

pub returns-else-special : goal.returns-else-special
returns-else-special c = chars-nil ∙ ap implied_pathname (sym c.if-special.false)
