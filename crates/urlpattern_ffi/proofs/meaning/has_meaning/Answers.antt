use Rattle.std.proofs.Common.{sym, true≢false, ◌∙◌}
use Rattle.urlpattern_ffi.proofs.meaning.has_meaning.Goals as goal

pub returns-in-Ok-true : goal.returns-in-Ok-true
returns-in-Ok-true c = (c.in-Some.pattern.now, sym c.in-Some.ensures, c.in-Ok-true.ensures.0 c.in-Ok-true.field-0-test)

pub returns-in-Ok-false : goal.returns-in-Ok-false
returns-in-Ok-false c =
    (c.in-Some.pattern.now, sym c.in-Some.ensures, λ every. true≢false (sym (c.in-Ok-false.ensures.1 every) ∙ c.in-Ok-false.field-0-test))

pub returns-in-Err : goal.returns-in-Err
returns-in-Err c = (c.in-Some.pattern.now, sym c.in-Some.ensures, tt)
