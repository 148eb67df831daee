use Rattle.std.proofs.Common.{◌≡◌, ℕ, ◌<◌, ◌≤◌, List, ap, arith, get_or, length, subst, sym, take_all, ◌∙◌}
use Rattle.std.proofs.lemmas.Bool.{false≢true}
use Rattle.std.proofs.lemmas.List.Elements.{All-more}
use Rattle.std.specs.Prelude.{All, None}
use Rattle.urlpattern_meaning.specs.Matching.{Returns, CallsEngine, IsMatched, MatcherView}
use Rattle.urlpattern_components.proofs.EightLemmas.{of_each}
use Rattle.urlpattern_pattern.proofs.MismatchLemmas.{matches_before, of_got}
use Rattle.urlpattern_pattern.proofs.Results.{if_err}
use Rattle.urlpattern_matches.specs.GroupTexts.{borrowed_texts}
use Rattle.urlpattern_pattern.specs.Patterns.{pattern_view}
use Rattle.urlpattern_components.specs.declared.eight.ComponentName.{ComponentName}
use Rattle.urlpattern_components.specs.declared.eight.ComponentName.TheVariants.{Protocol}
use Rattle.urlpattern_components.specs.Eight.{at}
use Rattle.urlpattern_pattern.proofs.pattern.UrlPattern.mismatch_of_texts.Goals as goal

pub returns-in_err-accepts-clause-asked : goal.returns-in_err-accepts-clause-asked
returns-in_err-accepts-clause-asked g c =
    let names = c.all-name-items.result in
    let eight : length names ≡ 8 = ap length c.all-name-items.ensures in
    let within : c.loop-name.name-index < length names = omega arith in
    let name = get_or names c.loop-name.name-index Protocol in
    let before = matches_before g.R.RegExp.answer (pattern_view c.args.self.now) (borrowed_texts c.args.texts.now) names c.loop-name.name-index c.all-name-items.ensures within c.loop-name.invariant in
    let asks = of_got CallsEngine c.args.self.now c.args.texts.now name c.get.result.now c.get-in-loop-name.result.now c.get.ensures c.get-in-loop-name.ensures c.in_err-accepts.ensures.asked in
    if_err _ c.from_residual.result (name, before, asks)

pub returns-then-not-branch-clause-first : goal.returns-then-not-branch-clause-first
returns-then-not-branch-clause-first g c =
    let names = c.all-name-items.result in
    let eight : length names ≡ 8 = ap length c.all-name-items.ensures in
    let within : c.loop-name.name-index < length names = omega arith in
    let name = get_or names c.loop-name.name-index Protocol in
    let refuses = λ (matcher : MatcherView g.row.R.Denot) (text : List ℕ). Returns g.R.RegExp.answer matcher text None in (
      matches_before g.R.RegExp.answer (pattern_view c.args.self.now) (borrowed_texts c.args.texts.now) names c.loop-name.name-index c.all-name-items.ensures within c.loop-name.invariant,
      of_got refuses c.args.self.now c.args.texts.now name c.get.result.now c.get-in-loop-name.result.now c.get.ensures c.get-in-loop-name.ensures
          (λ captures matches. false≢true (sym c.if-not-branch.true ∙ c.in_ok-accepts.ensures.answer.1 (captures, matches))),
    )

pub loop-name-preserved : goal.loop-name-preserved
loop-name-preserved g c =
    let names = c.all-name-items.result in
    let eight : length names ≡ 8 = ap length c.all-name-items.ensures in
    let within : c.loop-name.name-index < length names = omega arith in
    let name = get_or names c.loop-name.name-index Protocol in
    let is = λ (matcher : MatcherView g.row.R.Denot) (text : List ℕ). IsMatched g.R.RegExp.answer matcher text in
    let matches = λ (component : ComponentName). is (pattern_view c.args.self.now component).matcher (at (borrowed_texts c.args.texts.now) component) in
    All-more matches names c.loop-name.name-index Protocol within c.loop-name.invariant
    (of_got is c.args.self.now c.args.texts.now name c.get.result.now c.get-in-loop-name.result.now c.get.ensures c.get-in-loop-name.ensures (c.in_ok-accepts.ensures.answer.0 c.if-not-branch.false))

pub returns-clause-first : goal.returns-clause-first
returns-clause-first g c =
    let names = c.all-name-items.result in
    let eight : length names ≡ 8 = ap length c.all-name-items.ensures in
    let all : length names ≤ c.loop-name.name-index = omega arith in
    let matches = λ (component : ComponentName). IsMatched g.R.RegExp.answer (pattern_view c.args.self.now component).matcher (at (borrowed_texts c.args.texts.now) component) in
    of_each matches (subst (All matches) (take_all c.loop-name.name-index names all ∙ c.all-name-items.ensures) c.loop-name.invariant)
