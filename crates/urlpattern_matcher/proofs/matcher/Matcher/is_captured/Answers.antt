use Rattle.std.proofs.Common.{◌≡◌, false, length, sym, subst, rules}
use Rattle.std.specs.Str.{chars}
use Rattle.urlpattern_meaning.specs.Matching.{MayBeEmpty, PassesFilter}
use Rattle.urlpattern_syntax.proofs.TextLemmas.{chars-empty, chars-some}
use Rattle.urlpattern_matcher.proofs.MatcherResults.{captured-by, may_be-some, not_captured-by}
use Rattle.urlpattern_matcher.proofs.matcher.Matcher.is_captured.Goals as goal
use Rattle.urlpattern_matcher.proofs.matcher.Matcher.is_captured.Goals.{then-allow_empty, else-allow_empty}

pub returns-then-not-is_empty : goal.returns-then-not-is_empty
returns-then-not-is_empty g c =
    let text = c.args.text.now in
    let P : Type 0 = PassesFilter c.args.self.now.ignore_case c.args.filter (chars text) in
    let may : MayBeEmpty c.args.allow_empty (chars text) =
    elim c.if-allow_empty.branch [
      | then-allow_empty w ↦ subst (λ b. MayBeEmpty b (chars text)) (sym w.if-allow_empty.true) tt
      | else-allow_empty w ↦
          let some : ¬ (length text ≡ 0) = search rules in
          may_be-some c.args.allow_empty (chars text) (chars-some text c.utf8.text some)
    ] in
    captured-by c.args.allow_empty (chars text) P c.passes.result may c.passes.ensures

pub returns-else-not-is_empty : goal.returns-else-not-is_empty
returns-else-not-is_empty g c =
    let text = c.args.text.now in
    let P : Type 0 = PassesFilter c.args.self.now.ignore_case c.args.filter (chars text) in
    let full : c.args.allow_empty ≡ false = elim c.if-allow_empty.branch [ then-allow_empty w ↦ absurd (let never : ⊥ = search rules in never) | else-allow_empty w ↦ w.if-allow_empty.false ] in
    let empty : length text ≡ 0 = elim c.if-allow_empty.branch [ then-allow_empty w ↦ absurd (let never : ⊥ = search rules in never) | else-allow_empty w ↦ search rules ] in
    not_captured-by c.args.allow_empty (chars text) P c.if-allow_empty.value full (chars-empty text empty) c.if-not-is_empty.false
