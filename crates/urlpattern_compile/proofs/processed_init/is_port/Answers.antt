use Rattle.std.proofs.Common.{ap, ◌∙◌}
use Rattle.std.specs.Prelude.{bytes_eq}
use Rattle.urlpattern_compile.proofs.CompiledLemmas.{ascii_some, text_eq-ascii}
use Rattle.urlpattern_compile.proofs.processed_init.is_port.Goals as goal

pub returns-in-Some-Some : goal.returns-in-Some-Some
returns-in-Some-Some c =
    let ascii = ascii_some c.args.default c.in-Some-Some.default c.in-Some-Some.is-1 c.requires in
    rw (c.in-Some-Some.is-0, c.in-Some-Some.is-1)
    (c.eq.ensures ∙ ap (λ bytes. bytes_eq bytes c.in-Some-Some.default.now) c.as_str.ensures.value
    ∙ text_eq-ascii c.in-Some-Some.port c.in-Some-Some.default.now ascii)
