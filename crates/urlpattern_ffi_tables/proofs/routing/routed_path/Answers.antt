use Rattle.std.proofs.Common.{ℕ, List, inl, inr, refl, subst}
use Rattle.std.specs.Str.{chars}
use Rattle.urlpattern.specs.Paths.{IsPath}
use Rattle.urlpattern_ffi.specs.PassedTexts.{AreTextsOfPath, IsNoPath}
use Rattle.urlpattern_ffi.specs.declared.status.Status.TheVariants.{NoPath, OutOfMemory}
use Rattle.urlpattern_matches.specs.MatchInput.{pathname_alone}
use Rattle.urlpattern_ffi_tables.proofs.RouteLemmas.{path_texts, request_of, routed_written}
use Rattle.urlpattern_ffi_tables.proofs.routing.routed_path.Goals as goal

pub returns-in-Ok-at : goal.returns-in-Ok-at
returns-in-Ok-at c =
    let router = c.args.router.now in
    let method = c.in-Ok.method.now in
    let texts = pathname_alone (chars c.in-Ok-from_utf8.path.now) in
    let answer = routed_written router (chars method) texts c.args.index.now c.write_routed.new.index c.args.buffer.now c.write_routed.new.buffer c.args.spans.now c.write_routed.new.spans c.write_routed.new.needed c.in-Ok-at.routed c.write_routed.result c.in-Ok-at.ensures.routed.1 c.write_routed.ensures in
    request_of (AreTextsOfPath c.args.path.now) (IsNoPath c.args.path.now) router router method c.args.method.now c.args.index.now c.write_routed.new.index c.args.buffer.now c.write_routed.new.buffer c.args.spans.now c.write_routed.new.spans c.write_routed.new.needed c.write_routed.result refl c.in-Ok.ensures.cases.0 (inl (texts, path_texts c.in-Ok-from_utf8.path.now c.args.path.now c.in-Ok-from_utf8.ensures.cases.0 c.in-Ok-at.ensures.routed.0, answer))

pub returns-in-Err-NotAPath : goal.returns-in-Err-NotAPath
returns-in-Err-NotAPath c =
    let router = c.args.router.now in
    let method = c.in-Ok.method.now in
    let none = subst (λ (bytes : List ℕ). ¬ IsPath (chars bytes)) c.in-Ok-from_utf8.ensures.cases.0 (rw c.in-Err-NotAPath.field-0-is at c.in-Err-NotAPath.ensures.refused) in
    request_of (AreTextsOfPath c.args.path.now) (IsNoPath c.args.path.now) router router method c.args.method.now c.args.index.now c.args.index.now c.args.buffer.now c.args.buffer.now c.args.spans.now c.args.spans.now c.args.needed.now NoPath refl c.in-Ok.ensures.cases.0 (inr (inl none, refl, refl, refl))

pub returns-in-Err-OutOfMemory : goal.returns-in-Err-OutOfMemory
returns-in-Err-OutOfMemory c =
    let router = c.args.router.now in
    let method = c.in-Ok.method.now in
    let (is_path, calls) = rw c.in-Err-OutOfMemory.field-0-is at c.in-Err-OutOfMemory.ensures.refused in
    request_of (AreTextsOfPath c.args.path.now) (IsNoPath c.args.path.now) router router method c.args.method.now c.args.index.now c.args.index.now c.args.buffer.now c.args.buffer.now c.args.spans.now c.args.spans.now c.args.needed.now OutOfMemory refl c.in-Ok.ensures.cases.0
    (inl (pathname_alone (chars c.in-Ok-from_utf8.path.now), path_texts c.in-Ok-from_utf8.path.now c.args.path.now c.in-Ok-from_utf8.ensures.cases.0 is_path, inl (calls, refl, refl, refl)))
