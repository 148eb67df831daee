use Rattle.std.proofs.Common.{ap, length, ◌∙◌}
use Rattle.std.specs.Slice.Iter.{iter_rest}
use Rattle.urlpattern_matches.proofs.MatchGroupLemmas.{zip-none}
use Rattle.urlpattern_matches.specs.GroupTexts.{texts_of}
use Rattle.urlpattern_syntax.specs.Text.{option_text}
use Rattle.urlpattern_matches.proofs.captures.groups.UrlPatternGroupsIterator.next.Goals as goal

-- Without captures there are no more groups.
pub returns-in_err-capture-clause-steps : goal.returns-in_err-capture-clause-steps
returns-in_err-capture-clause-steps c =
    let (none, same) = c.in_err-capture.ensures.steps in
    rw c.from_residual-in_err-capture.ensures (
      zip-none option_text (texts_of (iter_rest c.args.self.now.names)) (iter_rest c.args.self.now.captures) none,
      zip-none option_text (texts_of (iter_rest c.next.new.self)) (iter_rest c.next-2.new.self) (ap (λ captures. length (iter_rest captures)) same ∙ none),
    )
