use Rattle.std.proofs.Common.{◌≡◌, ◌∷◌, ◌∙◌, ap, string_bytes, sym, true}
use Rattle.serde_json.specs.View.{view}
use Rattle.urlpattern_policy_json.specs.ReadPolicies.{is_init_member}
use Rattle.urlpattern_policy_json.proofs.TreeLemmas.{members_rest}
use Rattle.urlpattern_policy_json.proofs.pattern.are_init_members.Goals as goal

pub loop-name-preserved : goal.loop-name-preserved
loop-name-preserved c =
    let name = c.in-Some.name.now in
    let tree = c.in-Some.tree.now in
    let first : c.loop-name.name-iterator ≡ (name, tree) ∷ c.next.new.self = c.in-Some.ensures.steps in
    let known : is_init_member (string_bytes name) (view tree) ≡ true =
    ap (λ text. is_init_member text (view tree)) (sym c.deref.ensures) ∙ sym c.is_init_member.ensures ∙ c.if-not-is_init_member.false in
    members_rest name tree c.next.new.self _ known (rw first at c.loop-name.invariant)
