use Rattle.std.proofs.Common.{◌∙◌, Global, List, String, length, map, string_bytes, subst, sym}
use Rattle.urlpattern_route_analysis.proofs.NamingLemmas.{AreNamesSoFar, all_names, allows_named, lacking, no_names, none_given, one_given, zip_length}
use Rattle.urlpattern_route_analysis.specs.Cases.{literal_views}
use Rattle.urlpattern_route_analysis.specs.Naming.{IsNameOf}
use Rattle.urlpattern_route_analysis.proofs.names.names_of.Goals as goal

pub returns-then-some_lack : goal.returns-then-some_lack
returns-then-some_lack c names are =
    lacking names (literal_views c.args.literals.now) (length c.args.attributes.now) (zip_length IsNameOf c.args.attributes.now names are) (sym c.some_lack.ensures ∙ c.if-some_lack.true)

pub loop-index-init : goal.loop-index-init
loop-index-init c =
    subst (λ (l : List (String Global)). AreNamesSoFar c.args.attributes.now (literal_views c.args.literals.now) 0 (map string_bytes l)) (sym c.new-names.ensures.items) (no_names c.args.attributes.now (literal_views c.args.literals.now))

pub returns-in-None : goal.returns-in-None
returns-in-None c =
    none_given c.args.attributes.now (literal_views c.args.literals.now) c.loop-index.index _ c.in_ok-name.field-0 c.loop-index-test.true c.in_ok-name.ensures c.in-None.is

pub loop-index-preserved : goal.loop-index-preserved
loop-index-preserved c =
    one_given c.args.attributes.now (literal_views c.args.literals.now) c.loop-index.index _ c.in_ok-name.field-0 c.in-Some.name c.loop-index.names.items c.push.new.self.items c.loop-index-test.true c.in_ok-name.ensures c.in-Some.is
    c.in_ok-push-in-Some.ensures.items c.loop-index.invariant

pub returns : goal.returns
returns c =
    let literals = literal_views c.args.literals.now in
    let names = map string_bytes c.loop-index.names.items in
    let are = all_names c.args.attributes.now literals c.loop-index.index names c.loop-index-test.false c.loop-index.invariant in (
      are,
      allows_named names literals (length c.args.attributes.now) (zip_length IsNameOf c.args.attributes.now names are) (sym c.some_lack.ensures ∙ c.if-some_lack.false) c.loop-index.invariant.allowed,
    )
