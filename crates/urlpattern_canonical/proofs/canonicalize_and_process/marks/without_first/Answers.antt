use Rattle.std.proofs.Common.{◌≡◌, ◌==◌, false, slice_index, ap, ◌∙◌, get_or, arith}
use Rattle.std.proofs.lemmas.Grind.{common_steps}
use Rattle.std.proofs.lemmas.Str.{IsCharBoundary-after_ascii}
use Rattle.std.specs.Str.{chars}
use Rattle.urlpattern_canonical.proofs.CanonicalLemmas.{begins_with-chars}
use Rattle.urlpattern_canonical.proofs.MarkLemmas.{without_first-mark, without_first-other}
use Rattle.urlpattern_syntax.specs.Text.{begins_with}
use Rattle.urlpattern_canonical.proofs.canonicalize_and_process.marks.without_first.Goals as goal

pub range_from-requires : goal.range_from-requires
range_from-requires c few =
    let text = c.args.text.now in
    let first : get_or text 0 0 ≡ c.args.mark = grind (arith, common_steps) in
    IsCharBoundary-after_ascii text 0 c.utf8.text (omega arith) (omega arith)

pub returns-in-len1-up-clause-value : goal.returns-in-len1-up-clause-value
returns-in-len1-up-clause-value c =
    let text = c.args.text.now in
    let first : get_or text 0 0 ≡ c.args.mark = grind (arith, common_steps) in
    ap chars c.range_from.ensures.value ∙ without_first-mark c.args.mark text (omega arith) c.utf8.text (omega arith) first

pub returns-in_default-clause-value : goal.returns-in_default-clause-value
returns-in_default-clause-value c =
    let text = c.args.text.now in
    let other : begins_with (λ b. b == c.args.mark) (chars text) ≡ false
    = begins_with-chars c.args.mark text (omega arith) (omega arith) c.utf8.text ∙ (let e : slice_index text 0 == c.args.mark ≡ false = grind (arith, common_steps) in e)
    in
    without_first-other c.args.mark (chars text) other

pub returns-in_default-2-clause-value : goal.returns-in_default-2-clause-value
returns-in_default-2-clause-value c =
    let text = c.args.text.now in
    let other : begins_with (λ b. b == c.args.mark) (chars text) ≡ false
    = begins_with-chars c.args.mark text (omega arith) (omega arith) c.utf8.text ∙ (let e : slice_index text 0 == c.args.mark ≡ false = grind (arith, common_steps) in e)
    in
    without_first-other c.args.mark (chars text) other
