use Rattle.std.proofs.Common.{ap, sym, ◌∙◌}
use Rattle.std.specs.Str.{chars}
use Rattle.urlpattern_compile.proofs.CompiledLemmas.{default_port-IsAscii, default_port-test}
use Rattle.urlpattern_canonical.specs.Canonical.{default_port, is_special}
use Rattle.urlpattern_syntax.specs.Text.{text_of}
use Rattle.std.specs.Prelude.{option_copied, option_map}
use Rattle.urlpattern_compile.proofs.processed_init.has_default_port.Goals as goal

pub is_port-requires : goal.is_port-requires
is_port-requires c = rw c.special_scheme_default_port.ensures (default_port-IsAscii (chars c.deref-then-is_special_scheme.result.now))

pub returns-then-is_special_scheme : goal.returns-then-is_special_scheme
returns-then-is_special_scheme c =
    let port = option_map text_of c.args.values.now.port in
    rw c.in-Some.is
    (c.is_port.ensures
    ∙ default_port-test (text_of c.in-Some.protocol) port (option_copied c.special_scheme_default_port.result)
    (sym (ap is_special (ap chars c.deref.ensures)) ∙ sym c.is_special_scheme.ensures ∙ c.if-is_special_scheme.true)
    (c.special_scheme_default_port.ensures ∙ ap default_port (ap chars c.deref-then-is_special_scheme.ensures)))
