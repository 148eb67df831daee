use Rattle.urlpattern_matches.proofs.captures.UrlPatternCaptures.to_json_value.Goals as goal

pub returns-in-Ok-clause-tree : goal.returns-in-Ok-clause-tree
returns-in-Ok-clause-tree c = (c.in_ok-copy.copy, c.in_ok-copy.ensures.same, c.in-Ok.ensures.tree)
