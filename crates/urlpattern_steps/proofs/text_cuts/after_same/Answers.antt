use Rattle.std.proofs.Common.{◌≡◌, ◌∷◌, [], true, sym, ◌∙◌, subst, rules}
use Rattle.std.proofs.lemmas.Bool.{false≢true}
use Rattle.std.specs.Str.{chars}
use Rattle.urlpattern_meaning.specs.Matching.{is_same_character}
use Rattle.urlpattern_steps.specs.Walk.{BeginsAs}
use Rattle.urlpattern_steps.proofs.SameLemmas.{begins_none, begins_one, if_none, one_begins}
use Rattle.urlpattern_steps.proofs.text_cuts.after_same.Goals as goal

pub returns-in_err-first-clause-other : goal.returns-in_err-first-clause-other
returns-in_err-first-clause-other c =
    if_none c.from_residual.result _
    (λ rest begins. begins_none c.args.ignore_case c.args.c [] rest (subst (λ t. BeginsAs c.args.ignore_case (c.args.c ∷ []) t rest) c.in_err-first.ensures.empty begins))

pub returns-then-is_same-clause-cut : goal.returns-then-is_same-clause-cut
returns-then-is_same-clause-cut c =
    let first = c.in_ok-first.first in
    let cut : chars c.args.text.now ≡ first ∷ chars c.in_ok-first.rest.now = search rules in
    let one : is_same_character c.args.ignore_case first c.args.c ≡ true = sym c.is_same.ensures ∙ c.if-is_same.true in
    one_begins c.args.ignore_case c.args.c first (chars c.args.text.now) (chars c.in_ok-first.rest.now) cut one

pub returns-else-is_same-clause-other : goal.returns-else-is_same-clause-other
returns-else-is_same-clause-other c =
    let first = c.in_ok-first.first in
    let cut : chars c.args.text.now ≡ first ∷ chars c.in_ok-first.rest.now = search rules in
    λ rest begins.
    let one = begins_one c.args.ignore_case c.args.c (chars c.args.text.now) rest begins in
    let whole : first ∷ chars c.in_ok-first.rest.now ≡ one.0 ∷ rest = sym cut ∙ one.1 in
    let same : first ≡ one.0 = cc in
    false≢true (sym c.if-is_same.false ∙ c.is_same.ensures ∙ subst (λ d. is_same_character c.args.ignore_case d c.args.c ≡ true) (sym same) one.2)
