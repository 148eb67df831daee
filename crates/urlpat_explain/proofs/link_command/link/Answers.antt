use Rattle.std.proofs.Common.{refl}
use Rattle.urlpat_explain.proofs.link_command.link.Goals as goal

pub returns-in-Ok-print_url-clause-written : goal.returns-in-Ok-print_url-clause-written
returns-in-Ok-print_url-clause-written g c =
    λ done. (
      c.in-Some.pattern,
      c.in-Some.ensures.compiled,
      c.in-Some.ensures.kept,
      (c.in-Ok.url, c.in-Ok.ensures.linked, c.in-Ok-print_url.ensures),
    )

pub returns-clause-refused : goal.returns-clause-refused
returns-clause-refused g c =
    λ none. (
      (
        c.in-Some.pattern,
        c.in-Some.ensures.compiled,
        c.in-Some.ensures.kept,
        (c.in-Err.reason, c.report.ensures.known none, c.in-Err.ensures.refused),
      ),
      refl,
    )
