use Rattle.std.specs.Str.{chars}
use Rattle.urlpattern_meaning.specs.Dialect.{IsClassCharacter}
use Rattle.urlpattern_steps.specs.ReadSteps.{BeginsWithCharacter}
use Rattle.urlpattern_steps.proofs.StepTokenLemmas.{lazy_class}
use Rattle.urlpattern_steps.proofs.PrefixLemmas.{class_begins}
use Rattle.urlpattern_steps.proofs.step_tokens.read_repeated_class.Goals as goal

pub returns-clause-step : goal.returns-clause-step
returns-clause-step c =
    let character : BeginsWithCharacter IsClassCharacter (chars c.args.text.now) c.in_ok-c.c (chars c.in_ok-c.rest.now) = rw (c.in_ok-c.c-is, c.in_ok-c.rest-is) c.in_ok-c.ensures.character in
    lazy_class (chars c.args.text.now) (chars c.in_ok-c.rest.now) (chars c.in_ok-after.field-0.now) (chars c.in_ok-after_lazy_plus.field-0.now) c.in_ok-c.c
    character c.in_ok-after.ensures.cut c.in_ok-after_lazy_plus.ensures.cut

pub returns-in_err-c-clause-reads : goal.returns-in_err-c-clause-reads
returns-in_err-c-clause-reads c = λ end is_greedy step rest is begins.
    let class = class_begins end is_greedy step (chars c.args.text.now) rest is begins in
    absurd (c.in_err-c.ensures.reads class.0 _ class.2)
