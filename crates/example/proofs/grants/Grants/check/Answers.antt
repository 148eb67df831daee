use Rattle.std.proofs.Common.{◌≡◌, ◌∙◌, Bor, ℕ, List, ap, map, sym, subst, true, false, Option, Some, None}
use Rattle.std.specs.List.{All}
use Rattle.std.specs.Prelude.{IsTrue, MatchOption, is_some, take}
use Rattle.example.specs.Grants.{IsGranted}
use Rattle.urlpattern.specs.Comparing.{CoversAt, IsNotKnownToCover}
use Rattle.urlpattern.specs.PatternParts.{PatternParts}
use Rattle.example.proofs.grants.Grants.check.Goals as goal

granted_by : (granted : List PatternParts) (asked : PatternParts) (found : Option ℕ) →
    MatchOption found (All (IsNotKnownToCover asked) granted) (λ index. CoversAt granted asked index × All (IsNotKnownToCover asked) (take index granted)) →
    IsTrue (is_some found) → IsGranted granted asked
granted_by granted asked None is there = absurd (let both : false ≡ true = there in cc both)
granted_by granted asked (Some index) is there = (index, is.0)

pub returns : goal.returns
returns c = λ there.
    let now = λ (pattern : Bor PatternParts). pattern.now in
    subst (λ (list : List PatternParts). IsGranted list c.args.asked.now) (ap (map now) c.deref.ensures.value ∙ c.in_ok-granted.ensures)
    (granted_by (map now c.deref.result.now) c.args.asked.now c.in_ok-found.found c.in_ok-found.ensures (sym c.is_some.ensures ∙ there))
