use Rattle.std.proofs.Common.{◌∙◌, ◌++◌, Bor, Global, List, [], ◌∷◌, Vec, ap, arith, map, sym, take_all}
use Rattle.std.proofs.lemmas.List.{length-map, map-append}
use Rattle.std.specs.Prelude.{option_copied}
use Rattle.urlpattern_compare.specs.declared.common_texts.PatternAutomata.{PatternAutomata}
use Rattle.urlpattern_route_analysis.proofs.CasePatternLemmas.{patterns_more, patterns_same}
use Rattle.urlpattern_route_analysis.proofs.CaseSteps.{literal_at}
use Rattle.urlpattern_route_analysis.specs.CasePatterns.{patterns_in}
use Rattle.urlpattern_route_analysis.specs.Cases.{LiteralView, literal_view, literal_views}
use Rattle.urlpattern_route_analysis.proofs.analysis.Analysis.patterns_in.Goals as goal
use Rattle.urlpattern_route_analysis.proofs.analysis.Analysis.patterns_in.Goals.{in-Some+in_ok-push, in_default}

pub loop-literal-init : goal.loop-literal-init
loop-literal-init c = ap (λ (l : List (Bor PatternAutomata)). map (λ it. it.now) l) c.new-found.ensures.items

pub loop-literal-preserved : goal.loop-literal-preserved
loop-literal-preserved c =
    let patterns = c.args.self.now.patterns.items in
    let views = literal_views c.args.literals.now in
    let i = c.loop-literal.literal-index in
    let it = c.literal-item.result in
    let there = literal_at c.args.literals.now i it c.loop-literal-test.true c.literal-item.is in
    elim c.match-pattern_of.branch [
      | in-Some+in_ok-push w ↦
          ap (λ (v : Vec (Bor PatternAutomata) Global). map (λ b. b.now) v.items) w.found-is ∙ ap (λ (l : List (Bor PatternAutomata)). map (λ b. b.now) l) w.in_ok-push.ensures.items
          ∙ map-append (λ (b : Bor PatternAutomata). b.now) c.loop-literal.found.items (w.in-Some.pattern ∷ []) ∙ ap (λ (l : List PatternAutomata). l ++ w.in-Some.pattern.now ∷ []) c.loop-literal.invariant
          ∙ sym (patterns_more patterns c.args.holds views i (literal_view it) w.in-Some.pattern.now there (sym c.pattern_of.ensures ∙ ap option_copied w.in-Some.is))
      | in_default w ↦
          ap (λ (v : Vec (Bor PatternAutomata) Global). map (λ b. b.now) v.items) w.found-is ∙ c.loop-literal.invariant
          ∙ sym (patterns_same patterns c.args.holds views i (literal_view it) there (sym c.pattern_of.ensures ∙ ap option_copied w.in_default.is))
    ]

pub returns : goal.returns
returns c =
    let views = literal_views c.args.literals.now in
    c.loop-literal.invariant
    ∙ ap (λ (l : List LiteralView). patterns_in c.args.self.now.patterns.items c.args.holds l) (take_all c.loop-literal.literal-index views (omega (arith, length-map c.args.literals.now literal_view)))
