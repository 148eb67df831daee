use Rattle.std.proofs.Common.{◌∙◌, ℕ, ap, sym}
use Rattle.std.specs.declared.alloc.Global.{Global}
use Rattle.std.specs.declared.vec.Vec.{Vec}
use Rattle.urlpattern_compare.proofs.AnswerLemmas.{in_some}
use Rattle.urlpattern_compare.proofs.CoverageLemmas.{as_asked}
use Rattle.urlpattern_compare.proofs.coverage.example_by.Goals as goal
use Rattle.urlpattern_compare.specs.{Conditions.accepts, Examples.IsExampleOf}
use Rattle.urlpattern_syntax.specs.{Options.options_view, Parts.parts_view}

pub returns-then-is_as : goal.returns-then-is_as
returns-then-is_as c =
    let other = c.args.other.now in
    let text = c.in-Some.text in (
      in_some (λ (it : Vec ℕ Global). IsExampleOf (options_view c.args.options.now) (parts_view c.args.parts.now) it.items) c.in_ok-text.field-0 text c.in-Some.is c.in_ok-text.ensures,
      ap (accepts other) (sym c.deref.ensures.value) ∙ sym c.in_ok-found.ensures
          ∙ as_asked c.args.is_accepted c.in_ok-found.found (sym c.is_as.ensures ∙ c.if-is_as.true),
    )
