use Rattle.std.proofs.Common.{◌≡◌, ℕ, ◌<◌, Bor, List, get_or}
use Rattle.std.specs.Str.{chars}
use Rattle.urlpattern_matcher.specs.Matchers.{matcher_view}
use Rattle.urlpattern_meaning.specs.Matching.{IsMatched}
use Rattle.urlpattern_init.proofs.constructor_parser.special_protocol.accepts_any.Given as goal

-- None of the texts so far is accepted.
abbrev pub invariant-loop-text : goal.invariant-loop-text
invariant-loop-text g l =
    (k : ℕ) (text : Bor (List ℕ)) → k < l.text-index → get_or l.texts k text ≡ text → ¬ IsMatched g.R.RegExp.answer (matcher_view l.matcher) (chars text.now)
