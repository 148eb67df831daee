use Rattle.std.proofs.Common.{refl}
use Rattle.serde_json.proofs.Views.{view-Object}
use Rattle.serde_json.specs.Data.{Data}
use Rattle.urlpattern_components.proofs.EightLemmas.{by_name}
use Rattle.urlpattern_matches.specs.ResultJson.{IsComponentTree, plain_results_view}
use Rattle.urlpattern_components.specs.Eight.{at}
use Rattle.urlpattern_components.specs.declared.eight.Eight.{Eight}
use Rattle.urlpattern_matches.proofs.result.UrlPatternResult.to_json_value.Goals as goal

pub returns-clause-tree : goal.returns-clause-tree
returns-clause-tree c =
    let protocol = c.in_ok-put_component.ensures.put in
    let username = c.in_ok-put_component-2.ensures.put in
    let password = c.in_ok-put_component-3.ensures.put in
    let hostname = c.in_ok-put_component-4.ensures.put in
    let port = c.in_ok-put_component-5.ensures.put in
    let pathname = c.in_ok-put_component-6.ensures.put in
    let search_tree = c.in_ok-put_component-7.ensures.put in
    let hash = c.in_ok-put_component-8.ensures.put in
    let components : Eight Data = record {
      protocol = protocol.0;
      username = username.0;
      password = password.0;
      hostname = hostname.0;
      port = port.0;
      pathname = pathname.0;
      search = search_tree.0;
      hash = hash.0;
    } in (
      components,
      by_name (λ name. IsComponentTree (at (plain_results_view c.args.self.now) name) (at components name))
          protocol.1 username.1 password.1 hostname.1 port.1 pathname.1 search_tree.1 hash.1,
      rw (view-Object c.put_component-8.new.members, hash.2, search_tree.2, pathname.2, port.2, hostname.2, password.2, username.2, protocol.2, c.new-members.ensures.empty) refl,
    )
