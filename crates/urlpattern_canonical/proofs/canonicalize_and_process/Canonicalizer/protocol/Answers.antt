use Rattle.std.proofs.Common.{length, ap, sym, Ok, ◌∙◌}
use Rattle.std.specs.Str.{chars}
use Rattle.url.specs.Parser.{and_then}
use Rattle.urlpattern_canonical.proofs.SchemeLemmas.{special-kept}
use Rattle.urlpattern_canonical.proofs.SettingLemmas.{answered, refused}
use Rattle.urlpattern_canonical.specs.Canonical.{dummy_of_scheme, protocol_of}
use Rattle.urlpattern_canonical.proofs.canonicalize_and_process.Canonicalizer.protocol.Goals as goal

pub returns-in_err-url : goal.returns-in_err-url
returns-in_err-url c =
    refused protocol_of (dummy_of_scheme c.args.value.now) c.args.value.now (length c.args.value.now) _ _ c.utf8.value c.is_empty.ensures c.if-is_empty.false
    (λ reason no. ap (λ parsed. and_then parsed (λ url. Ok url.scheme)) no) c.in_err-url.ensures.err c.from_residual-in_err-url.ensures.1

pub returns-then-is_special_scheme : goal.returns-then-is_special_scheme
returns-then-is_special_scheme c =
    special-kept (chars c.args.value.now) (sym c.is_special_scheme.ensures ∙ c.if-is_special_scheme.true)
    ∙ ap (λ bytes. Ok (chars bytes)) (sym c.in_ok-from_str.ensures.ok)

pub returns : goal.returns
returns c =
    answered protocol_of c.args.value.now c.in_ok-url.url.scheme c.in_ok-from_str-2.field-0 c.utf8.value c.is_empty.ensures c.if-is_empty.false
    (ap (λ parsed. and_then parsed (λ url. Ok url.scheme)) c.in_ok-url.ensures.ok) (c.in_ok-from_str-2.ensures.ok ∙ c.scheme.ensures.value)
