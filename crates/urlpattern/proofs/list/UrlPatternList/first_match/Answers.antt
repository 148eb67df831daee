use Rattle.std.proofs.Common.{ap, subst, sym, ◌∙◌}
use Rattle.std.specs.Prelude.{◌≡◌, IfErr, Ok}
use Rattle.urlpattern.proofs.ListLemmas.{first-of_texts}
use Rattle.urlpattern_matches.specs.GroupTexts.{borrowed_texts}
use Rattle.urlpattern.specs.FirstMatch.{CopiesFirstMatch, patterns_view}
use Rattle.urlpattern_matches.specs.ResultViews.{result_view}
use Rattle.urlpattern_matches.specs.declared.result.UrlPatternResult.{UrlPatternResult}
use Rattle.urlpattern_matches.specs.MatchInput.{input_texts}
use Rattle.urlpattern_components.specs.Eight.{Texts}
use Rattle.urlpattern.proofs.list.UrlPatternList.first_match.Goals as goal

pub returns-in-Url-clause-first : goal.returns-in-Url-clause-first
returns-in-Url-clause-first g c =
    let texts = borrowed_texts c.url_texts.result in
    let are_texts : input_texts c.args.input ≡ Ok texts = rw c.in-Url.is (ap Ok (sym c.url_texts.ensures)) in
    first-of_texts g.R.RegExp.answer (patterns_view c.args.self.now) c.args.input (λ (result : UrlPatternResult). result_view result) texts c.first_result.result
    are_texts c.first_result.ensures.first

pub returns-in-Url-clause-copied : goal.returns-in-Url-clause-copied
returns-in-Url-clause-copied g c =
    rw c.in-Url.is
    (subst (λ (texts : Texts). IfErr c.first_result.result (λ _. CopiesFirstMatch g.R.RegExp.answer (patterns_view c.args.self.now) texts)) c.url_texts.ensures c.first_result.ensures.copied)

pub returns-in-Some-clause-first : goal.returns-in-Some-clause-first
returns-in-Some-clause-first g c =
    let texts = borrowed_texts c.input_texts.result in
    let found = rw c.in-Some.is at c.in_ok-texts-in_default.ensures.found in
    let are_texts : input_texts c.args.input ≡ Ok texts = found ∙ ap Ok (sym c.input_texts.ensures) in
    first-of_texts g.R.RegExp.answer (patterns_view c.args.self.now) c.args.input (λ (result : UrlPatternResult). result_view result) texts c.first_result-in-Some.result
    are_texts c.first_result-in-Some.ensures.first
