use Rattle.std.proofs.Common.{◌∙◌, refl, subst, sym}
use Rattle.std.proofs.lemmas.Bool.{false≢true}
use Rattle.urlpattern_compare.proofs.PatternPartLemmas.{overlap_unknown}
use Rattle.urlpattern_compare.specs.Comparing.{AreSame}
use Rattle.urlpattern_components.specs.Eight.{at}
use Rattle.urlpattern_compare.proofs.pattern_parts.PatternParts.common_text.Goals as goal

pub returns-then-is_same : goal.returns-then-is_same
returns-then-is_same c =
    let component = at c.args.self.now.components c.args.name in
    let same = subst (AreSame component) c.get-another.ensures (subst (λ o. AreSame o c.get-another.result.now) c.get-component.ensures (c.is_same.ensures.0 c.if-is_same.true)) in (
      same,
      (
        c.in-Unknown.reason,
        overlap_unknown component (at c.args.other.now.components c.args.name) c.get-component.result.now c.get-another.result.now c.in_ok-text.field-0 c.in-Unknown.reason c.get-component.ensures c.get-another.ensures c.in-Unknown.is c.in_ok-text.ensures,
      ),
    )

pub returns-else-is_same : goal.returns-else-is_same
returns-else-is_same c =
    let component = at c.args.self.now.components c.args.name in (
      refl,
      (
        overlap_unknown component (at c.args.other.now.components c.args.name) c.get-component.result.now c.get-another.result.now c.in_ok-text.field-0 c.in-Unknown.reason c.get-component.ensures c.get-another.ensures c.in-Unknown.is c.in_ok-text.ensures,
        λ same. false≢true (sym c.if-is_same.false ∙ c.is_same.ensures.1
            (subst (λ o. AreSame o c.get-another.result.now) (sym c.get-component.ensures) (subst (AreSame component) (sym c.get-another.ensures) same))),
      ),
    )
