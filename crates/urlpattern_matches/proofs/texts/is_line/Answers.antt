use Rattle.std.proofs.Common.{◌≡◌, ◌∙◌, rules, sym}
use Rattle.std.proofs.lemmas.Iterator.{YieldsList-from_chars}
use Rattle.std.proofs.lemmas.Iterator.Search.{all_from_yields_List}
use Rattle.std.proofs.lemmas.Str.{scalars-chars}
use Rattle.std.specs.Prelude.{not, ◌==◌}
use Rattle.std.specs.Str.{chars}
use Rattle.urlpattern_syntax.specs.Text.{lacks, line_feed}
use Rattle.urlpattern_matches.proofs.texts.is_line.Goals as goal

pub returns : goal.returns
returns c =
    let found : c.all.result ≡ lacks line_feed (chars c.args.text.now) =
    all_from_yields_List (λ other. not (other == line_feed)) _ _ _ c.all.ensures.ran (YieldsList-from_chars c.args.text.now c.utf8.text cc) (λ x b q k. search rules) in
    (λ is. record { characters = scalars-chars c.args.text.now c.utf8.text; no_line_feed = sym found ∙ is }, λ line. found ∙ line.no_line_feed)
