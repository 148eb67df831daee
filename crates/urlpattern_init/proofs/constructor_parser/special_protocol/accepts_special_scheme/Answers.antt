use Rattle.std.proofs.Common.{[], ◌∷◌, codes, subst, sym}
use Rattle.std.specs.Prelude.{◌↔◌, Any, IsTrue}
use Rattle.std.specs.Str.{chars}
use Rattle.urlpattern_canonical.specs.Canonical.{special_schemes}
use Rattle.urlpattern_matcher.specs.Matchers.{matcher_view}
use Rattle.urlpattern_meaning.specs.Matching.{IsMatched}
use Rattle.urlpattern_init.proofs.SpecialSchemeLemmas.{lent, only_among, schemes_answer, schemes_shown}
use Rattle.urlpattern_init.proofs.constructor_parser.special_protocol.accepts_special_scheme.Goals as goal

pub returns-clause-answer : goal.returns-clause-answer
returns-clause-answer g c =
    schemes_answer (λ text. IsMatched g.R.RegExp.answer (matcher_view c.args.matcher.now) text)
    (lent _ (codes "http") ∷ lent _ (codes "https") ∷ lent _ (codes "ws") ∷ lent _ (codes "wss") ∷ lent _ (codes "ftp") ∷ lent _ (codes "file") ∷ [])
    c.accepts_any.result schemes_shown c.accepts_any.ensures.answer

pub returns-in-Some-clause-answer : goal.returns-in-Some-clause-answer
returns-in-Some-clause-answer g c =
    let matcher = matcher_view c.args.matcher.now in
    subst (λ test. IsTrue test ↔ Any (λ scheme. IsMatched g.R.RegExp.answer matcher scheme.0) special_schemes) (sym c.is_special_scheme.ensures)
    (only_among (IsMatched g.R.RegExp.answer matcher) (chars c.in-Some.text.now) c.in-Some.ensures special_schemes)
