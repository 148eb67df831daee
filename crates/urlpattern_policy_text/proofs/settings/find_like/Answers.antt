use Rattle.std.proofs.Common.{◌∙◌, ap, option_map}
use Rattle.urlpattern_policy_text.proofs.StatementLemmas.{find_mapped}
use Rattle.urlpattern_policy_text.specs.Statements.{setting_view, sets_like, statement_view}
use Rattle.urlpattern_policy_text.proofs.settings.find_like.Goals as goal

pub returns : goal.returns
returns c =
    ap (option_map statement_view) (c.copied.ensures ∙ c.find_statement.ensures)
    ∙ find_mapped statement_view (sets_like (setting_view c.args.sample)) c.args.statements.now
