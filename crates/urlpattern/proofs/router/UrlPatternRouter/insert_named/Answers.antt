use Rattle.std.proofs.Common.{sym, ◌∙◌}
use Rattle.std.proofs.lemmas.Result.{IfErr-weaker, on_ok_weaker}
use Rattle.std.specs.Str.{chars}
use Rattle.urlpattern.proofs.RouteLemmas.{named-new, named-taken, rename_error}
use Rattle.urlpattern.proofs.router.UrlPatternRouter.insert_named.Goals as goal

pub returns-then-is_some-clause-refused : goal.returns-then-is_some-clause-refused
returns-then-is_some-clause-refused g c =
    named-taken c.args.self.now.routes (chars c.args.name.now) c.find.result c.find.ensures (sym c.is_some.ensures ∙ c.if-is_some.true)

pub returns-clause-refused : goal.returns-clause-refused
returns-clause-refused g c =
    let routes = c.args.self.now.routes in
    let new = named-new routes (chars c.args.name.now) c.find.result c.find.ensures (sym c.is_some.ensures ∙ c.if-is_some.false) in
    IfErr-weaker c.append.result _ _ (λ error is. rename_error routes (chars c.args.name.now) c.args.method.now new error is) c.append.ensures.refused

pub returns-clause-name : goal.returns-clause-name
returns-clause-name g c =
    let new = named-new c.args.self.now.routes (chars c.args.name.now) c.find.result c.find.ensures (sym c.is_some.ensures ∙ c.if-is_some.false) in
    on_ok_weaker c.append.result (λ token. new) c.append.ensures.method
