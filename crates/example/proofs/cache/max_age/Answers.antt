use Rattle.std.proofs.Common.{◌≡◌, ◌<◌, ℕ, List, get_or, length, arith, refl, sym, ◌∙◌}
use Rattle.std.proofs.lemmas.List.{length-map}
use Rattle.std.proofs.lemmas.Option.{slice_get_read, slice_get_within}
use Rattle.std.specs.Borrow.{Bor}
use Rattle.std.specs.Prelude.{IfSome, IsSome, None, Option, Some, option_copied}
use Rattle.example.specs.FirstRule.{IsOfFirst}
use Rattle.urlpattern.specs.BorrowedMatches.{pattern_captures_view}
use Rattle.urlpattern.specs.FirstMatch.{FirstView, IsFirstMatch, patterns_view}
use Rattle.urlpattern.specs.PartMeaning.{Captures}
use Rattle.urlpattern.specs.Patterns.{PatternView, pattern_view}
use Rattle.urlpattern.specs.UrlPatternMatchInput.{UrlPatternMatchInput}
use Rattle.urlpattern.specs.UrlPatternMatchInput.TheVariants as inputs
use Rattle.example.proofs.cache.max_age.Goals as goal

-- The element at the index of the first match is the rule.
rule_of : {E : Type 0} (answer : E → List ℕ → Option Captures) (patterns : List (PatternView E)) (rules : List ℕ) (input : UrlPatternMatchInput) (first : FirstView) (found : Option (Bor ℕ))
    → length rules ≡ length patterns → IsFirstMatch answer patterns input (Some first)
    → (first.0 < length rules → IsSome found) → IfSome found (λ rule. rule.now ≡ get_or rules first.0 rule.now)
    → IsOfFirst answer patterns rules input (option_copied found)
rule_of answer patterns rules input first None beside is_first there is =
    let within : first.0 < length patterns = slice_get_within patterns first.0 is_first.0.0 is_first.0.1 in
    let some : IsSome {T = Bor ℕ} None = there (omega (arith, within, beside)) in absurd (cc)
rule_of answer patterns rules input first (Some rule) beside is_first there is =
    let within : first.0 < length patterns = slice_get_within patterns first.0 is_first.0.0 is_first.0.1 in
    (first, is_first, slice_get_read rules (length rules) first.0 rule.now refl (omega (arith, within, beside)) is)

pub returns-clause-first : goal.returns-clause-first
returns-clause-first g c =
    let patterns = c.args.patterns.now in
    let read = c.get.ensures.lookup in
    rw c.copied.ensures
    (rule_of g.R.RegExp.answer (patterns_view patterns) c.args.ages.now (inputs.Url c.args.url.now) (c.in-Some.index, pattern_captures_view c.in-Some.found) c.get.result
    (c.requires ∙ sym (length-map patterns (λ pattern. pattern_view pattern))) (rw c.in-Some.is at c.in_ok-index.ensures.first) read.2 read.1)
