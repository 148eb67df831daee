use Rattle.std.proofs.Common.{ap, ◌∙◌, rules}
use Rattle.std.proofs.lemmas.Iterator.{YieldsList-from_chars}
use Rattle.std.proofs.lemmas.Iterator.Search.{any_from_yields_List}
use Rattle.std.specs.Char.{eq_ignore_ascii_case}
use Rattle.std.specs.Prelude.{not}
use Rattle.std.specs.Str.{chars}
use Rattle.urlpattern_matcher.proofs.MatcherTexts.{lacks-any}
use Rattle.urlpattern_matcher.proofs.matcher.has_ignoring_case.Goals as goal

pub returns : goal.returns
returns c =
    let found = any_from_yields_List (λ other. eq_ignore_ascii_case other c.args.c) _ _ _ c.any.ensures.ran (YieldsList-from_chars c.args.text.now c.utf8.text cc) (λ x b q k. search rules) in
    ap not found ∙ lacks-any c.args.c (chars c.args.text.now)
