use Rattle.std.proofs.Common.{rules}
use Rattle.urlpat_explain.proofs.GivenWordLemmas.{unnamed}
use Rattle.urlpattern_pattern.specs.Patterns.{pattern_view}
use Rattle.urlpat_explain.proofs.given_words.word_group.Goals as goal

pub returns-in_err-component-clause-nothing : goal.returns-in_err-component-clause-nothing
returns-in_err-component-clause-nothing c =
    let nothing = unnamed (pattern_view c.args.pattern.now) c.args.word.now _ (search rules) c.in_err-component.ensures.missing in
    rw c.from_residual-in_err-component.ensures nothing
