use Rattle.std.proofs.lemmas.Result.{IfErr-weaker}
use Rattle.serde_json.specs.View.{view}
use Rattle.urlpat_policies.proofs.FileLemmas.{policy_read, refused_in_json, unread}
use Rattle.urlpat_policies.proofs.policy_file.policy_in_json.Goals as goal

pub returns-in-Ok-clause-policy : goal.returns-in-Ok-clause-policy
returns-in-Ok-clause-policy g c = policy_read g.R.RegExp c.args.text.now (view c.in-Ok.tree) c.policy_in_tree-found.result c.in-Ok.ensures.ok c.policy_in_tree-found.ensures.policy

pub returns-in-Ok-clause-refused : goal.returns-in-Ok-clause-refused
returns-in-Ok-clause-refused g c =
    IfErr-weaker c.policy_in_tree-found.result _ _ (λ refusal is. refused_in_json g.R.RegExp c.args.text.now (view c.in-Ok.tree) c.in-Ok.ensures.ok refusal is) c.policy_in_tree-found.ensures.refused

pub returns-in-Err-clause-refused : goal.returns-in-Err-clause-refused
returns-in-Err-clause-refused g c = unread g.R.RegExp c.args.text.now c.in-Err.error c.not_json.result c.not_json.ensures c.in-Err.ensures.err
