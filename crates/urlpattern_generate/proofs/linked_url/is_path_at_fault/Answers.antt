use Rattle.std.proofs.Common.{◌≡◌, ◌∙◌, Bool, false, not, refl, sym, true}
use Rattle.std.proofs.lemmas.Bool.{false≢true, not-true, true≢false}
use Rattle.urlpattern_generate.proofs.UrlLemmas.{path_at_fault}
use Rattle.urlpattern_generate.proofs.linked_url.is_path_at_fault.Goals as goal

not_false : (b : Bool) → not b ≡ false → b ≡ true
not_false true e = refl
not_false false e = absurd (true≢false e)

pub returns-then-runs_on-clause-at_fault : goal.returns-then-runs_on-clause-at_fault
returns-then-runs_on-clause-at_fault c = λ other.
    path_at_fault c.args.url.now c.args.texts.now (sym c.runs_on.ensures ∙ c.if-runs_on.true) (λ has. false≢true (sym (not-true c.has_text.result other) ∙ c.has_text.ensures.1 has))

pub returns-then-runs_on-clause-other : goal.returns-then-runs_on-clause-other
returns-then-runs_on-clause-other c = λ no runs. c.has_text.ensures.0 (not_false c.has_text.result no)
