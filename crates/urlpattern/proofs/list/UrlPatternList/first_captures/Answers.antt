use Rattle.std.proofs.Common.{ap, refl, ◌∙◌, ◌≡◌}
use Rattle.std.proofs.lemmas.Result.{IfErr-weaker, IfOk-weaker}
use Rattle.std.specs.Prelude.{None, Ok}
use Rattle.urlpattern_init.specs.Inheritance.{texts_of_url}
use Rattle.urlpattern_init.specs.declared.init.UrlPatternMatchInput.TheVariants.{Url}
use Rattle.urlpattern.proofs.ListLemmas.{first-of_texts}
use Rattle.urlpattern.proofs.NextLemmas.{asks-earlier, asks-of_all, first-earlier, first-of_all}
use Rattle.urlpattern_index.specs.Keys.{hashes_of, hashes_view}
use Rattle.urlpattern_matches.specs.BorrowedMatches.{pattern_captures_view}
use Rattle.urlpattern.specs.FirstMatch.{CallsEngineBeforeMatch, IsFirstMatchOf, first_captures_view, patterns_view}
use Rattle.urlpattern.specs.NextMatch.{CallsEngineBeforeMatchFrom, IsFirstMatchFrom}
use Rattle.urlpattern.specs.PatternKeys.{address_of}
use Rattle.urlpattern_matches.specs.declared.captures.UrlPatternCaptures.{UrlPatternCaptures}
use Rattle.urlpattern.proofs.list.UrlPatternList.first_captures.Given as given
use Rattle.urlpattern.proofs.list.UrlPatternList.first_captures.Goals as goal
use Rattle.urlpattern.proofs.list.UrlPatternList.first_captures.Goals.{After-fill}

-- The hashes are those of the URL.
hashed : (g : given.Over) (c : After-fill g) → hashes_view c.fill.new.self ≡ hashes_of (address_of (texts_of_url c.args.url.now))
hashed g c = c.fill.ensures ∙ ap hashes_of c.url_address.ensures

pub captures_from_candidate-requires-clause-hashes : goal.captures_from_candidate-requires-clause-hashes
captures_from_candidate-requires-clause-hashes g c = hashed g (goal.at.captures_from_candidate-requires-clause-hashes g c).After-fill

pub returns-in-Some-clause-first : goal.returns-in-Some-clause-first
returns-in-Some-clause-first g c =
    let answer = g.R.RegExp.answer in
    let texts = texts_of_url c.args.url.now in
    let patterns = patterns_view c.args.self.now in
    let index = c.in-Some.index in
    let before = c.in-Some.ensures.passed texts (hashed g (goal.at.returns-in-Some-clause-first g c).After-fill) in
    first-of_texts answer patterns (Url c.args.url.now) (λ (found : UrlPatternCaptures). pattern_captures_view found) texts c.captures_from_candidate.result refl
    (IfOk-weaker c.captures_from_candidate.result (λ found. IsFirstMatchFrom answer patterns texts index (first_captures_view found))
    (λ found. IsFirstMatchOf answer patterns texts (first_captures_view found))
    (λ found is. first-of_all answer texts patterns (first_captures_view found)
    (first-earlier answer texts patterns 0 index (first_captures_view found) c.in-Some.ensures.within.0 before is))
    c.captures_from_candidate.ensures.first)

pub returns-in-Some-clause-asked : goal.returns-in-Some-clause-asked
returns-in-Some-clause-asked g c =
    let answer = g.R.RegExp.answer in
    let texts = texts_of_url c.args.url.now in
    let before = c.in-Some.ensures.passed texts (hashed g (goal.at.returns-in-Some-clause-asked g c).After-fill) in
    let patterns = patterns_view c.args.self.now in
    IfErr-weaker c.captures_from_candidate.result (λ _. CallsEngineBeforeMatchFrom answer patterns texts c.in-Some.index) (λ _. CallsEngineBeforeMatch answer patterns texts)
    (λ _ asks. asks-of_all answer texts patterns (asks-earlier answer texts patterns 0 c.in-Some.index c.in-Some.ensures.within.0 before asks))
    c.captures_from_candidate.ensures.asked

pub returns-in-None-clause-first : goal.returns-in-None-clause-first
returns-in-None-clause-first g c =
    let texts = texts_of_url c.args.url.now in
    let none = c.in-None.ensures.passed texts (hashed g (goal.at.returns-in-None-clause-first g c).After-fill) in
    first-of_texts g.R.RegExp.answer (patterns_view c.args.self.now) (Url c.args.url.now) (λ (found : UrlPatternCaptures). pattern_captures_view found) texts (Ok None) refl
    (first-of_all g.R.RegExp.answer texts (patterns_view c.args.self.now) None none)
