use Rattle.std.proofs.Common.{◌∙◌, ap, sym}
use Rattle.serde_json.specs.View.{members_view, view}
use Rattle.urlpattern_policy_json.specs.ReadPolicies.{has_init_members}
use Rattle.urlpattern_policy_json.proofs.TreeLemmas.{no_object_members, object_is}
use Rattle.urlpattern_policy_json.proofs.pattern.has_init_members.Goals as goal

pub returns-in-Some : goal.returns-in-Some
returns-in-Some c =
    c.are_init_members.ensures ∙ ap has_init_members (sym (object_is (view c.args.tree.now) (members_view c.in-Some.members.now.entries) (sym c.in-Some.ensures)))

pub returns-in-None : goal.returns-in-None
returns-in-None c = sym (no_object_members (view c.args.tree.now) (sym c.in-None.ensures))
