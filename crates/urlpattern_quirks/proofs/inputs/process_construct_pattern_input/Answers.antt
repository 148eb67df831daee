use Rattle.std.proofs.Common.{List, ℕ, subst}
use Rattle.std.specs.Prelude.{IfErr, IfOk, option_copied}
use Rattle.std.specs.Str.{chars}
use Rattle.urlpattern_compile.specs.FromString.{IsInitOfText}
use Rattle.urlpattern_quirks.specs.Inputs.{RejectsText}
use Rattle.urlpattern_matcher.specs.Regexes.{regex_engine}
use Rattle.urlpattern_syntax.specs.Errors.{MemoryOr}
use Rattle.urlpattern_quirks.proofs.inputs.process_construct_pattern_input.Goals as goal

pub returns-in-String-clause-constructed : goal.returns-in-String-clause-constructed
returns-in-String-clause-constructed c =
    rw c.in-String.is
    (subst (λ (bytes : List ℕ). IfOk c.init_of_text.result (IsInitOfText regex_engine (chars bytes) (option_copied c.args.base_url))) c.as_str.ensures.value
    c.init_of_text.ensures.constructed)

pub returns-in-String-clause-refused : goal.returns-in-String-clause-refused
returns-in-String-clause-refused c =
    rw c.in-String.is
    (subst (λ (bytes : List ℕ). IfErr c.init_of_text.result (MemoryOr (RejectsText (chars bytes) (option_copied c.args.base_url)))) c.as_str.ensures.value
    c.init_of_text.ensures.refused)
