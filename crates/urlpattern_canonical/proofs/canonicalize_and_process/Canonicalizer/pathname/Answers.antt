use Rattle.std.proofs.Common.{◌≡◌, ◌++◌, length, codes, sym, ap, Ok, ◌∙◌}
use Rattle.url.specs.Parser.{and_then}
use Rattle.urlpattern_canonical.proofs.CanonicalLemmas.{pathname_of-bare, pathname_of-slash}
use Rattle.urlpattern_canonical.proofs.SettingLemmas.{answered, refused}
use Rattle.urlpattern_canonical.specs.Canonical.{dummy_url, path_of, pathname_of, without_added_prefix}
use Rattle.urlpattern_canonical.proofs.canonicalize_and_process.Canonicalizer.pathname.Goals as goal

pub returns-then-begins_with_slash : goal.returns-then-begins_with_slash
returns-then-begins_with_slash c =
    let value = c.args.value.now in
    answered pathname_of value c.in_ok-url.url.path c.in_ok-from_str.field-0 c.utf8.value c.is_empty.ensures c.if-is_empty.false
    (pathname_of-slash value (sym c.begins_with_slash.ensures.bytes ∙ c.if-begins_with_slash.true) ∙ c.in_ok-url.ensures)
    (c.in_ok-from_str.ensures.ok ∙ c.path.ensures.value)

pub returns-in_err-url-2 : goal.returns-in_err-url-2
returns-in_err-url-2 c =
    let value = c.args.value.now in
    let text : c.deref.result.now ≡ codes "/-" ++ value = c.deref.ensures ∙ c.in_ok-guarded.ensures.ok in
    refused pathname_of (path_of dummy_url c.deref.result.now) value (length value) c.from_residual-in_err-url-2.result c.in_err-url-2.field-0.0
    c.utf8.value c.is_empty.ensures c.if-is_empty.false
    (λ reason no. pathname_of-bare value (sym c.begins_with_slash.ensures.bytes ∙ c.if-begins_with_slash.false)
    ∙ ap (λ parsed. and_then parsed (λ path. Ok (without_added_prefix path))) (ap (path_of dummy_url) (sym text) ∙ no)) c.in_err-url-2.ensures
    c.from_residual-in_err-url-2.ensures.1

pub returns : goal.returns
returns c =
    let value = c.args.value.now in
    let text : c.deref.result.now ≡ codes "/-" ++ value = c.deref.ensures ∙ c.in_ok-guarded.ensures.ok in
    answered pathname_of value (without_added_prefix c.in_ok-url-2.url.path) c.in_ok-from_str-2.field-0 c.utf8.value c.is_empty.ensures c.if-is_empty.false
    (pathname_of-bare value (sym c.begins_with_slash.ensures.bytes ∙ c.if-begins_with_slash.false)
    ∙ ap (λ parsed. and_then parsed (λ path. Ok (without_added_prefix path))) (ap (path_of dummy_url) (sym text) ∙ c.in_ok-url-2.ensures))
    (c.in_ok-from_str-2.ensures.ok ∙ c.without_added_prefix.ensures ∙ ap without_added_prefix c.path-2.ensures.value)
