use Rattle.std.proofs.Common.{◌≡◌, ◌∙◌, ap}
use Rattle.serde_json.specs.View.{view}
use Rattle.serde_json.specs.Written.{has_float}
use Rattle.std.specs.Prelude.{option_copied}
use Rattle.urlpat_commands.proofs.ComparisonLemmas.{covering-none}
use Rattle.urlpat_commands.specs.ComparisonTexts.{covering_tree}
use Rattle.urlpat_matching.proofs.MatchJsonLemmas.{line_is}
use Rattle.urlpat_matching.specs.MatchJson.{json_line}
use Rattle.urlpat_commands.proofs.comparison_json.covering_json.Goals as goal

pub returns : goal.returns
returns c =
    line_is (view c.in_ok-tree.tree) c.json_line.result (λ text. text ≡ json_line (covering_tree (option_copied c.args.parting))) (ap has_float c.in_ok-tree.ensures ∙ covering-none (option_copied c.args.parting))
    (ap json_line c.in_ok-tree.ensures) c.json_line.ensures
