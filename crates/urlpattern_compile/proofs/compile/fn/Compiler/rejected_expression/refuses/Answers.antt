use Rattle.std.proofs.Common.{◌≡◌, Err, List, Ok, Result, codes, refl, ap, ◌∙◌, subst, sym, true, ℕ}
use Rattle.std.specs.Prelude.{IfOk}
use Rattle.std.specs.Str.{chars}
use Rattle.urlpattern_compile.proofs.compile.fn.Compiler.rejected_expression.refuses.Goals as goal
use Rattle.urlpattern_compile.proofs.compile.fn.Compiler.rejected_expression.refuses.Goals.{in-Ok, in-Err-Pattern, in-Err-OutOfMemory}

flags_shown : chars (codes "u") ≡ codes "u"
unfolding chars
flags_shown = refl

made_of : {E X : Type 0} (Made : E → Type 0) (result : Result E X) (value : E) → result ≡ Ok value → IfOk result Made → (made : E) × Made made
made_of Made result value e is = (value, subst (λ found. IfOk found Made) e is)

pub returns : goal.returns
returns g c = record {
  refused = elim c.match-parse.branch [
    | in-Ok w ↦ λ e. let h = sym w.result-is ∙ e in absurd cc
    | in-Err-Pattern w ↦ λ e. subst (λ (flags : List ℕ). g.R.RegExp.MayReject (chars c.args.text.now) flags true) flags_shown
        (c.parse.ensures.refused (w.in-Err-Pattern.is ∙ ap Err w.in-Err-Pattern.field-0-is))
    | in-Err-OutOfMemory w ↦ λ e. let h = sym w.result-is ∙ e in absurd cc
  ];
  accepted = elim c.match-parse.branch [
    | in-Ok w ↦ λ e. made_of (λ made. g.R.RegExp.IsMade made (chars c.args.text.now) (codes "u")) c.parse.result w.in-Ok.field-0 w.in-Ok.is
        (subst (λ (flags : List ℕ). IfOk c.parse.result (λ made. g.R.RegExp.IsMade made (chars c.args.text.now) flags)) flags_shown c.parse.ensures.made)
    | in-Err-Pattern w ↦ λ e. let h = sym w.result-is ∙ e in absurd cc
    | in-Err-OutOfMemory w ↦ λ e. let h = sym w.result-is ∙ e in absurd cc
  ];
}
