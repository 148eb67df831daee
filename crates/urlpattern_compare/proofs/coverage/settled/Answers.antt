use Rattle.std.proofs.Common.{ℕ}
use Rattle.std.specs.declared.alloc.Global.{Global}
use Rattle.std.specs.declared.vec.Vec.{Vec}
use Rattle.urlpattern_compare.proofs.AnswerLemmas.{in_some}
use Rattle.urlpattern_compare.proofs.CoverageLemmas.{apart_nothing, apart_text}
use Rattle.urlpattern_compare.proofs.coverage.settled.Goals as goal
use Rattle.urlpattern_compare.specs.Examples.{IsExampleOf}
use Rattle.urlpattern_syntax.specs.{Options.options_view, Parts.parts_view}

pub returns-then-is_meant : goal.returns-then-is_meant
returns-then-is_meant c =
    apart_nothing (options_view c.args.options.now) (parts_view c.args.parts.now) (options_view c.args.other_options.now) (parts_view c.args.others.now) c.args.is_meant c.if-is_meant.true (c.are_apart.ensures c.if-not-are_apart.false)

pub returns-in-Some : goal.returns-in-Some
returns-in-Some c =
    let options = options_view c.args.options.now in
    let parts = parts_view c.args.parts.now in
    apart_text options parts (options_view c.args.other_options.now) (parts_view c.args.others.now) c.args.is_meant c.in-Some.text c.if-is_meant.false (c.are_apart.ensures c.if-not-are_apart.false)
    (in_some (λ (it : Vec ℕ Global). IsExampleOf options parts it.items) c.in_ok-text.field-0 c.in-Some.text c.in-Some.is c.in_ok-text.ensures)
