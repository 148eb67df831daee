use Rattle.std.proofs.Common.{◌∙◌, ◌++◌, List, [], ◌∷◌, ap, subst, sym}
use Rattle.std.proofs.lemmas.List.Elements.{All-cons, All-nil}
use Rattle.std.specs.List.{All}
use Rattle.urlpattern_compare.specs.CommonTexts.{AreAutomata}
use Rattle.urlpattern_compare.specs.declared.common_texts.PatternAutomata.{PatternAutomata}
use Rattle.urlpattern_urls.proofs.unlike.UrlFacts.new.Goals as goal

pub returns : goal.returns
returns c =
    let protocol : PatternAutomata = c.in_ok-protocol.protocol in
    let hostname : PatternAutomata = c.in_ok-hostname.hostname in
    let pathname : PatternAutomata = c.in_ok-pathname.pathname in
    let slash : PatternAutomata = c.in_ok-slash.slash in
    let one = c.in_ok-push.ensures.items ∙ ap (λ (l : List PatternAutomata). l ++ protocol ∷ []) c.in_ok-patterns.ensures.items in
    let two = c.in_ok-push-2.ensures.items ∙ ap (λ (l : List PatternAutomata). l ++ hostname ∷ []) one in
    let three = c.in_ok-push-3.ensures.items ∙ ap (λ (l : List PatternAutomata). l ++ pathname ∷ []) two in
    let four = c.in_ok-push-4.ensures.items ∙ ap (λ (l : List PatternAutomata). l ++ slash ∷ []) three in
    let made : All AreAutomata (protocol ∷ hostname ∷ pathname ∷ slash ∷ []) =
    All-cons AreAutomata protocol (hostname ∷ pathname ∷ slash ∷ []) c.in_ok-protocol.ensures.automata
    (All-cons AreAutomata hostname (pathname ∷ slash ∷ []) c.in_ok-hostname.ensures.automata
    (All-cons AreAutomata pathname (slash ∷ []) c.in_ok-pathname.ensures.automata
    (All-cons AreAutomata slash [] c.in_ok-slash.ensures.automata (All-nil AreAutomata)))) in (
      protocol,
      hostname,
      pathname,
      slash,
      four,
      subst (All AreAutomata) (sym four) made,
      c.in_ok-protocol.ensures.parts,
      c.in_ok-hostname.ensures.parts,
      c.in_ok-pathname.ensures.parts,
      c.in_ok-slash.ensures.parts,
    )
