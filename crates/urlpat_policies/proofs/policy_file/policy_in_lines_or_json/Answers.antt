use Rattle.std.proofs.Common.{◌∙◌, sym}
use Rattle.std.proofs.lemmas.Result.{IfErr-weaker}
use Rattle.urlpat_policies.proofs.FileLemmas.{policy_as_json, policy_as_lines, refused_as_json, refused_as_text}
use Rattle.urlpat_policies.proofs.policy_file.policy_in_lines_or_json.Goals as goal

pub returns-then-is_json-clause-policy : goal.returns-then-is_json-clause-policy
returns-then-is_json-clause-policy g c = policy_as_json g.R.RegExp c.args.text.now c.policy_in_json.result c.utf8.text (sym c.is_json.ensures ∙ c.if-is_json.true) c.policy_in_json.ensures.policy

pub returns-then-is_json-clause-refused : goal.returns-then-is_json-clause-refused
returns-then-is_json-clause-refused g c =
    IfErr-weaker c.policy_in_json.result _ _ (λ refusal is. refused_as_json g.R.RegExp c.args.text.now c.utf8.text (sym c.is_json.ensures ∙ c.if-is_json.true) refusal is) c.policy_in_json.ensures.refused

pub returns-else-is_json-clause-policy : goal.returns-else-is_json-clause-policy
returns-else-is_json-clause-policy g c = policy_as_lines g.R.RegExp c.args.text.now c.policy_in_lines.result c.utf8.text (sym c.is_json.ensures ∙ c.if-is_json.false) c.policy_in_lines.ensures.policy

pub returns-else-is_json-clause-refused : goal.returns-else-is_json-clause-refused
returns-else-is_json-clause-refused g c =
    IfErr-weaker c.policy_in_lines.result _ _ (λ refusal is. refused_as_text g.R.RegExp c.args.text.now c.utf8.text (sym c.is_json.ensures ∙ c.if-is_json.false) refusal is) c.policy_in_lines.ensures.refused
