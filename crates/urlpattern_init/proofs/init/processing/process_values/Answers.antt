use Rattle.std.proofs.Common.{max, None}
use Rattle.std.proofs.lemmas.Result.{err_from_is_err_and}
use Rattle.urlpattern_canonical.proofs.CanonicalLemmas.{reports-more, reports-through}
use Rattle.urlpattern_init.proofs.InheritanceLemmas.{given-le, refused-protocol}
use Rattle.urlpattern_components.specs.declared.eight.ComponentName.TheVariants.{Protocol}
use Rattle.urlpattern_init.specs.Inheritance.{longest_bytes, given_bytes, processed_values, processed_value, values_view}
use Rattle.urlpattern_canonical.specs.Canonical.{bytes_passed}
use Rattle.urlpattern_init.proofs.init.processing.process_values.Goals as goal

pub returns-in_err-protocol-clause-err : goal.returns-in_err-protocol-clause-err
returns-in_err-protocol-clause-err c =
    let p = err_from_is_err_and c.from_residual-in_err-protocol.result c.from_residual-in_err-protocol.ensures.1 in
    let mode = c.args.kind.now in
    let values = values_view c.args.init.now in
    let base = c.args.init.now.base_url in
    let error = c.in_err-protocol.field-0.0 in
    rw (p.1, p.2)
    (reports-through (processed_value mode values base None Protocol) (processed_values mode values base) (longest_bytes mode values base) error
    (λ reason refused. refused-protocol mode values base reason refused)
    (reports-more (processed_value mode values base None Protocol) (bytes_passed mode (max 0 (given_bytes mode values base Protocol))) (longest_bytes mode values base) error
    (given-le mode values base Protocol) c.in_err-protocol.ensures.err))
