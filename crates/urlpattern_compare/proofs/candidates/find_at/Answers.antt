use Rattle.std.proofs.Common.{◌≡◌, ◌↔◌, ℕ, List, sym, subst}
use Rattle.std.proofs.lemmas.Result.{IfOk-weaker}
use Rattle.std.specs.List.{All, Contains}
use Rattle.urlpattern_compare.specs.Candidates.{MeetsAt}
use Rattle.urlpattern_compare.specs.Conditions.{Meets}
use Rattle.urlpattern_compare.proofs.CandidateLemmas.{found_at}
use Rattle.urlpattern_compare.proofs.candidates.find_at.Goals as goal

pub returns : goal.returns
returns c =
    let conditions = c.args.conditions.now in
    let component = c.args.component in
    let own = c.deref.result.now in
    let meets = subst (λ l. (text : List ℕ) → Meets l text ↔ MeetsAt conditions component text) (sym c.deref.ensures.value) c.in_ok-own.ensures.meets in
    let within = subst (λ l. All (λ it. (it.component ≡ component) × Contains conditions it) l) (sym c.deref.ensures.value) c.in_ok-own.ensures.within in
    IfOk-weaker c.find_text.result _ _ (λ found is. found_at conditions own component c.args.most found meets within is) c.find_text.ensures
