use Rattle.std.proofs.Common.{sym, ap, ◌∙◌}
use Rattle.urlpattern_canonical.proofs.CanonicalLemmas.{chars_dummy, is_empty-false, is_empty-true, scheme_for_port-some}
use Rattle.urlpattern_canonical.specs.Canonical.{scheme_for_port}
use Rattle.urlpattern_syntax.proofs.TextLemmas.{chars-empty, chars-some}
use Rattle.urlpattern_canonical.proofs.canonicalize_and_process.values.scheme_for_port.Goals as goal

pub returns-then-is_empty : goal.returns-then-is_empty
returns-then-is_empty c =
    let protocol = c.args.protocol.now in
    chars_dummy
    ∙ ap scheme_for_port (sym (chars-empty protocol (is_empty-true protocol c.is_empty.result c.is_empty.ensures c.if-is_empty.true)))

pub returns-else-is_empty : goal.returns-else-is_empty
returns-else-is_empty c =
    let protocol = c.args.protocol.now in
    scheme_for_port-some protocol
    (chars-some protocol c.utf8.protocol (is_empty-false protocol c.is_empty.result c.is_empty.ensures c.if-is_empty.false))
