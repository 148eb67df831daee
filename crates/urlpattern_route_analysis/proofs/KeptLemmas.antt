-- What an analysis keeps while patterns are added.
use Rattle.std.proofs.Common.{◌≡◌, ◌∙◌, ◌+◌, List, [], ◌∷◌, ◌++◌, ap, append_assoc, arith, length, refl, subst, sym}
use Rattle.std.proofs.lemmas.List.{append-nil, length-append}
use Rattle.std.proofs.lemmas.List.Elements.{All-append, All-cons, All-nil}
use Rattle.std.specs.Prelude.{All}
use Rattle.urlpattern_compare.specs.CommonTexts.{AreAutomata}
use Rattle.urlpattern_compare.specs.declared.common_texts.PatternAutomata.{PatternAutomata}
use Rattle.urlpattern_route_analysis.proofs.WithinLemmas.{within_longer}
use Rattle.urlpattern_route_analysis.specs.CasePatterns.{AreWithin}
use Rattle.urlpattern_route_analysis.specs.Deciding.{IsReady}
use Rattle.urlpattern_route_analysis.specs.Formulas.{FormulaView}
use Rattle.urlpattern_route_analysis.specs.Making.{IsEmpty, Keeps}
use Rattle.urlpattern_route_analysis.specs.declared.analysis.Analysis.{Analysis}
use Rattle.urlpattern_route_analysis.specs.declared.decisions.CaseLimits.{CaseLimits}
use Rattle.urlpattern_route_analysis.specs.declared.names.Attribute.{Attribute}
use Rattle.urlpattern_urls.specs.Unlike.{AreUnlike}
use Rattle.urlpattern_urls.specs.declared.unlike.UrlFacts.{UrlFacts}

pub kept : (analysis : Analysis) → Keeps analysis analysis
kept analysis = record { attributes = refl; limits = refl; facts = refl; patterns = ([], sym (append-nil analysis.patterns.items), All-nil AreAutomata) }

pub kept_further : (old mid new : Analysis) → Keeps old mid → Keeps mid new → Keeps old new
kept_further old mid new first second =
    let (more, now, automata) = first.patterns in
    let (others, later, also) = second.patterns in
    record {
      attributes = second.attributes ∙ first.attributes;
      limits = second.limits ∙ first.limits;
      facts = second.facts ∙ first.facts;
      patterns = (
        more ++ others,
        later ∙ ap (λ (l : List PatternAutomata). l ++ others) now ∙ append_assoc old.patterns.items more others,
        All-append AreAutomata more others automata also,
      );
    }

-- A pattern is added, and nothing else is changed.
pub kept_more : (old new : Analysis) (it : PatternAutomata) → new.attributes.now ≡ old.attributes.now → new.limits ≡ old.limits → new.facts ≡ old.facts
    → new.patterns.items ≡ old.patterns.items ++ it ∷ [] → AreAutomata it → Keeps old new
kept_more old new it attributes limits facts now automata = record {
  attributes = attributes;
  limits = limits;
  facts = facts;
  patterns = (it ∷ [], now, All-cons AreAutomata it [] automata (All-nil AreAutomata));
}

-- No pattern is added.
pub kept_same : (old new : Analysis) → new.attributes.now ≡ old.attributes.now → new.limits ≡ old.limits → new.facts ≡ old.facts → new.patterns.items ≡ old.patterns.items → Keeps old new
kept_same old new attributes limits facts now = record {
  attributes = attributes;
  limits = limits;
  facts = facts;
  patterns = ([], now ∙ sym (append-nil old.patterns.items), All-nil AreAutomata);
}

-- An analysis stays ready.
pub still_ready : (old new : Analysis) → Keeps old new → IsReady old → IsReady new
still_ready old new kept ready =
    let (more, now, automata) = kept.patterns in
    record {
      facts = subst (λ (f : UrlFacts). AreUnlike f.patterns.items) (sym kept.facts) ready.facts;
      patterns = subst (All AreAutomata) (sym now) (All-append AreAutomata old.patterns.items more ready.patterns automata);
    }

-- An analysis without patterns is ready.
pub empty_ready : (attributes : List Attribute) (limits : CaseLimits) (it : Analysis) → IsEmpty attributes limits it → IsReady it
empty_ready attributes limits it empty = record { facts = empty.facts; patterns = subst (All AreAutomata) (sym empty.patterns) (All-nil AreAutomata) }

-- Formulas of an analysis stay within its patterns.
pub still_within : (old new : Analysis) (formulas : List FormulaView) → Keeps old new → AreWithin old.patterns.items formulas → AreWithin new.patterns.items formulas
still_within old new formulas kept within =
    let (more, now, automata) = kept.patterns in
    let longer : length new.patterns.items ≡ length old.patterns.items + length more = ap (λ (l : List PatternAutomata). length l) now ∙ length-append old.patterns.items more in
    within_longer (length old.patterns.items) (length new.patterns.items) (omega (arith, longer)) formulas within
