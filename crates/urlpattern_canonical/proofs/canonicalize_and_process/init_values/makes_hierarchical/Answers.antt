use Rattle.std.proofs.Common.{sym, ap, ◌∙◌, Some}
use Rattle.urlpattern_canonical.proofs.CanonicalLemmas.{is_empty-false, is_empty-true}
use Rattle.urlpattern_canonical.proofs.SchemeLemmas.{hierarchical-special}
use Rattle.std.specs.Str.{chars}
use Rattle.urlpattern_canonical.specs.Canonical.{is_hierarchical_under}
use Rattle.urlpattern_syntax.proofs.TextLemmas.{chars-empty, chars-some}
use Rattle.urlpattern_canonical.proofs.canonicalize_and_process.init_values.makes_hierarchical.Goals as goal

pub returns-then-is_empty : goal.returns-then-is_empty
returns-then-is_empty c =
    let protocol = c.args.protocol.now in
    c.if-is_empty.true
    ∙ ap (λ text. is_hierarchical_under (Some text))
    (sym (chars-empty protocol (is_empty-true protocol c.is_empty.result c.is_empty.ensures c.if-is_empty.true)))

pub returns-else-is_empty : goal.returns-else-is_empty
returns-else-is_empty c =
    let protocol = c.args.protocol.now in
    c.is_special_scheme.ensures
    ∙ hierarchical-special (chars protocol)
    (chars-some protocol c.utf8.protocol (is_empty-false protocol c.is_empty.result c.is_empty.ensures c.if-is_empty.false))
