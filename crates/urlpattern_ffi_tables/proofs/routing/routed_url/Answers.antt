use Rattle.std.proofs.Common.{inl, inr, refl}
use Rattle.std.specs.Str.{chars}
use Rattle.urlpattern_ffi.specs.Calls.{IsNoUrl}
use Rattle.urlpattern_ffi.specs.declared.status.Status.TheVariants.{OutOfMemory}
use Rattle.urlpattern_ffi_tables.specs.RoutedRequests.{AreTextsOfUrl}
use Rattle.urlpattern_init.specs.Inheritance.{texts_of_url}
use Rattle.urlpattern_ffi_tables.proofs.RouteLemmas.{request_of, routed_written}
use Rattle.urlpattern_ffi_tables.proofs.routing.routed_url.Goals as goal

pub returns-in-Ok-at_url : goal.returns-in-Ok-at_url
returns-in-Ok-at_url c =
    let router = c.args.router.now in
    let method = c.in-Ok.method.now in
    let texts = texts_of_url c.in-Ok-url_of.url in
    let answer = routed_written router (chars method) texts c.args.index.now c.write_routed.new.index c.args.buffer.now c.write_routed.new.buffer c.args.spans.now c.write_routed.new.spans c.write_routed.new.needed c.in-Ok-at_url.routed c.write_routed.result c.in-Ok-at_url.ensures.routed c.write_routed.ensures in
    request_of (AreTextsOfUrl c.args.url.now c.args.base.now) (IsNoUrl c.args.url.now c.args.base.now) router router method c.args.method.now c.args.index.now c.write_routed.new.index c.args.buffer.now c.write_routed.new.buffer c.args.spans.now c.write_routed.new.spans c.write_routed.new.needed c.write_routed.result refl c.in-Ok.ensures.cases.0 (inl (texts, (c.in-Ok-url_of.url, c.in-Ok-url_of.ensures.found, refl), answer))

pub returns-in-Err : goal.returns-in-Err
returns-in-Err c =
    let router = c.args.router.now in
    let method = c.in-Ok.method.now in
    request_of (AreTextsOfUrl c.args.url.now c.args.base.now) (IsNoUrl c.args.url.now c.args.base.now) router router method c.args.method.now c.args.index.now c.args.index.now c.args.buffer.now c.args.buffer.now c.args.spans.now c.args.spans.now c.args.needed.now c.in-Err.status refl c.in-Ok.ensures.cases.0 (inr (inl c.in-Err.ensures.missing, refl, refl, refl))

pub returns : goal.returns
returns c =
    let router = c.args.router.now in
    let method = c.in-Ok.method.now in
    request_of (AreTextsOfUrl c.args.url.now c.args.base.now) (IsNoUrl c.args.url.now c.args.base.now) router router method c.args.method.now c.args.index.now c.args.index.now c.args.buffer.now c.args.buffer.now c.args.spans.now c.args.spans.now c.args.needed.now OutOfMemory refl c.in-Ok.ensures.cases.0
    (inl (texts_of_url c.in-Ok-url_of.url, (c.in-Ok-url_of.url, c.in-Ok-url_of.ensures.found, refl), inl (c.in-Err-at_url.ensures.asked, refl, refl, refl)))
