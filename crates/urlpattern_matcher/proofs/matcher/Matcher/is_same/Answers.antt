use Rattle.std.proofs.Common.{◌≡◌, IsTrue, rules}
use Rattle.urlpattern_matcher.proofs.MatcherTexts.{same_but_case, same_chars}
use Rattle.urlpattern_matcher.proofs.matcher.Matcher.is_same.Goals as goal

pub returns-then-self : goal.returns-then-self
returns-then-self g c =
    let same = same_but_case c.args.text.now c.args.literal.now c.utf8.text c.utf8.literal in
    let test = c.eq_ignore_ascii_case.ensures.test in
    rw c.if-self.true (λ t. same.0 (test.0 t), λ e. test.1 (same.1 e))

pub returns-else-self : goal.returns-else-self
returns-else-self g c =
    let same = same_chars c.args.text.now c.args.literal.now c.utf8.text c.utf8.literal in
    let equal : IsTrue c.eq.result → c.args.text.now ≡ c.args.literal.now = search rules in
    let tested : c.args.text.now ≡ c.args.literal.now → IsTrue c.eq.result = search rules in
    rw c.if-self.false (λ t. same.0 (equal t), λ e. tested (same.1 e))
