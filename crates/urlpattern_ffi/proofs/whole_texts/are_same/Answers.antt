use Rattle.std.proofs.Common.{◌∙◌, subst, sym, true≢false}
use Rattle.std.specs.Prelude.{◌↔◌, IsTrue}
use Rattle.urlpattern_compare.specs.EqualParts.{AreEqualParts}
use Rattle.urlpattern_ffi.proofs.CoveringLemmas.{of_both}
use Rattle.urlpattern_pattern.specs.PatternComparing.{LackParts}
use Rattle.urlpattern_ffi.proofs.whole_texts.are_same.Goals as goal

pub returns-in-Ok-true : goal.returns-in-Ok-true
returns-in-Ok-true c =
    of_both c.args.pattern.now c.args.other.now (λ parts others. IsTrue c.in-Ok-true.field-0 ↔ AreEqualParts parts others) AreEqualParts
    (λ parts others same. same.0 c.in-Ok-true.field-0-test) c.in-Ok-true.ensures.same

pub returns-in-Ok-false : goal.returns-in-Ok-false
returns-in-Ok-false c =
    of_both c.args.pattern.now c.args.other.now (λ parts others. IsTrue c.in-Ok-false.field-0 ↔ AreEqualParts parts others) (λ parts others. ¬ AreEqualParts parts others)
    (λ parts others same equal. true≢false (sym (same.1 equal) ∙ c.in-Ok-false.field-0-test)) c.in-Ok-false.ensures.same

pub returns-in-Err : goal.returns-in-Err
returns-in-Err c =
    let (is, lacks) = c.in-Err.ensures.missing in
    subst (LackParts c.args.pattern.now c.args.other.now) is lacks
