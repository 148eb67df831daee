use Rattle.urlpattern_ffi_tables.proofs.NamedLinkLemmas.{link_of, link_reported}
use Rattle.urlpattern_ffi_tables.specs.KeptRouters.{boxed_router}
use Rattle.urlpattern_ffi_tables.proofs.linking.link_route.Goals as goal

pub returns-in-Some : goal.returns-in-Some
returns-in-Some c =
    let router = c.in-Some.router.now in
    let name = c.in-Ok.name.now in
    let text = c.args.text.now in
    let given = c.args.given.now in
    let old = c.args.buffer.now in
    let new = c.link_named.new.buffer in
    let needed = c.link_named.new.needed in
    link_of router (boxed_router c.args.kept.now) name c.args.name.now text given old new needed c.link_named.result c.in-Some.ensures.some.0 c.in-Ok.ensures.cases.0
    (link_reported router name text given old new needed c.link_named.result c.link_named.ensures)

pub returns-in-None : goal.returns-in-None
returns-in-None c =
    let router = c.router_without_routes-router.result in
    let name = c.in-Ok.name.now in
    let text = c.args.text.now in
    let given = c.args.given.now in
    let old = c.args.buffer.now in
    let new = c.link_named-in-None.new.buffer in
    let needed = c.link_named-in-None.new.needed in
    link_of router (boxed_router c.args.kept.now) name c.args.name.now text given old new needed c.link_named-in-None.result c.router_without_routes-router.ensures c.in-Ok.ensures.cases.0
    (link_reported router name text given old new needed c.link_named-in-None.result c.link_named-in-None.ensures)
