use Rattle.std.proofs.Common.{rules, inl, inr}
use Rattle.std.proofs.lemmas.Result.{IfErr-weaker, IfOk-weaker}
use Rattle.std.specs.Prelude.{encode_utf8_all}
use Rattle.urlpattern.specs.Options.{options_view}
use Rattle.urlpattern.specs.Parts.{parts_view}
use Rattle.example.proofs.ExampleCopies.{copied_memory, copied_same, out_of_memory}
use Rattle.example.proofs.printed.printed_and_read.Goals as goal

pub returns-clause-same : goal.returns-clause-same
returns-clause-same c = λ printable.
    IfOk-weaker c.normalize_part_list.result _ _
    (λ again joined_if. joined_if printable (λ text other _ reported. copied_same text other reported.0 (search rules) reported.2))
    c.normalize_part_list.ensures.same

pub returns-clause-meaning : goal.returns-clause-meaning
returns-clause-meaning c = λ printable.
    IfOk-weaker c.normalize_part_list.result _ _
    (λ again joined_if text captures.
    rw (joined_if printable (λ text' other _ reported. copied_same text' other reported.0 (search rules) reported.2))
    (c.joining_keeps_meaning.ensures (options_view c.args.options.now) (parts_view c.args.parts.now) text captures))
    c.normalize_part_list.ensures.same

pub returns-clause-memory : goal.returns-clause-memory
returns-clause-memory c = λ printable.
    IfErr-weaker c.normalize_part_list.result _ _ (λ error reported_if. out_of_memory error (elim (reported_if printable) [
      | inl memory ↦ memory
      | inr fails ↦ copied_memory _ (encode_utf8_all fails.0) fails.2.0 (search rules) fails.2.2
    ])) c.normalize_part_list.ensures.fails
