-- The result of a comparison, by what a search found.
use Rattle.std.proofs.Common.{◌≡◌, ◌∙◌, ◌↔◌, ℕ, Bool, true, false, List, [], ◌∷◌, inl, inr, refl, subst, sym}
use Rattle.std.proofs.lemmas.Bool.{false≢true}
use Rattle.std.proofs.lemmas.List.Elements.{All-cons, All-head, All-nil, All-tail}
use Rattle.std.specs.Prelude.{IsTrue, not}
use Rattle.std.specs.Str.{all_scalars}
use Rattle.std.specs.declared.alloc.Global.{Global}
use Rattle.std.specs.declared.vec.Vec.{Vec}
use Rattle.urlpattern_compare.proofs.CommonLemmas.{accepts_text}
use Rattle.urlpattern_compare.proofs.PartsRead.{made_within, meaning_accepted}
use Rattle.urlpattern_compare.specs.Answers.{IsFoundBy, IsReason, IsSought, AreKnown, AreUnknownBy, LeadBothAlike, answer_of}
use Rattle.urlpattern_compare.specs.Automata.{IsWhether}
use Rattle.urlpattern_compare.specs.Examples.{IsExampleOf}
use Rattle.urlpattern_compare.specs.Conditions.{accepts, is_as, is_met, states_after}
use Rattle.urlpattern_compare.specs.Making.{IsMadeOf}
use Rattle.urlpattern_compare.specs.MeantTexts.{MeansText}
use Rattle.urlpattern_compare.specs.Searching.{IsMostSets}
use Rattle.urlpattern_compare.specs.TextSearch.{AreUnlike, IsFoundText, LeadAlike}
use Rattle.urlpattern_compare.specs.declared.condition.Condition.{Condition}
use Rattle.urlpattern_compare.specs.declared.coverage.Answer.{Answer}
use Rattle.urlpattern_compare.specs.declared.coverage.Answer.TheVariants as answers
use Rattle.urlpattern_compare.specs.declared.coverage.Reason.{Reason}
use Rattle.urlpattern_compare.specs.declared.coverage.Reason.TheVariants as reasons
use Rattle.urlpattern_compare.specs.declared.parts_automaton.PartsAutomaton.{PartsAutomaton}
use Rattle.urlpattern_compare.specs.declared.search.Found.{Found}
use Rattle.urlpattern_compare.specs.declared.search.Found.TheVariants.{Text, Nothing, TooMany}
use Rattle.urlpattern_syntax.specs.{Options.OptionsView, Parts.PartView}

-- ---- two conditions

-- An automaton does what is asked of it.
pub as_asked : (asked found : Bool) → IsTrue (is_as asked found) → found ≡ asked
as_asked true found is = is
as_asked false true is = absurd cc
as_asked false false is = refl

if_asked : (asked found : Bool) → found ≡ asked → IsTrue (is_as asked found)
if_asked true found same = same
if_asked false true same = absurd cc
if_asked false false same = refl

not_asked : (asked found : Bool) → ¬ IsTrue (is_as asked found) → found ≡ not asked
not_asked true true never = absurd (never refl)
not_asked true false never = refl
not_asked false true never = refl
not_asked false false never = absurd (never refl)

apart_weaker : {X : Type 0} (R S : X → X → Type 0) → ((x y : X) → S x y → R x y) → (xs : List X) → AreUnlike R xs → AreUnlike S xs
apart_weaker R S within [] apart = tt
apart_weaker {X} R S within (x ∷ others) apart = (
  λ k d lt alike. apart.0 k d lt (within x _ alike),
  apart_weaker R S within others apart.1,
)

module _ (one other : PartsAutomaton) (is_accepted : Bool) (first second : Condition) (is_one : first.automaton.now ≡ one) (accepted : first.is_accepted ≡ true)
    (is_other : second.automaton.now ≡ other) (asked : second.is_accepted ≡ is_accepted) where
  abbrev IsMet : (text : List ℕ) → Condition → Type 0
  IsMet text it = IsTrue (is_met it text)

  one_met : (text : List ℕ) → IsTrue (is_met first text) → IsTrue (accepts one text)
  one_met text is = subst (λ (it : PartsAutomaton). IsTrue (accepts it text)) is_one (as_asked first.is_accepted (accepts first.automaton.now text) is ∙ accepted)

  if_one : (text : List ℕ) → IsTrue (accepts one text) → IsTrue (is_met first text)
  if_one text is = if_asked first.is_accepted (accepts first.automaton.now text) (subst (λ (it : PartsAutomaton). IsTrue (accepts it text)) (sym is_one) is ∙ sym accepted)

  other_met : (text : List ℕ) → IsTrue (is_met second text) → accepts other text ≡ is_accepted
  other_met text is = subst (λ (it : PartsAutomaton). accepts it text ≡ is_accepted) is_other (as_asked second.is_accepted (accepts second.automaton.now text) is ∙ asked)

  other_unmet : (text : List ℕ) → ¬ IsTrue (is_met second text) → accepts other text ≡ not is_accepted
  other_unmet text never =
      subst (λ (it : PartsAutomaton). accepts it text ≡ not is_accepted) is_other
      (subst (λ (b : Bool). accepts second.automaton.now text ≡ not b) asked (not_asked second.is_accepted (accepts second.automaton.now text) never))

  lead_alike : (text another : List ℕ) → LeadBothAlike one other text another → LeadAlike (first ∷ second ∷ []) text another
  lead_alike text another (same, other_same) =
      let P : Condition → Type 0 = λ it. states_after it.automaton.now text ≡ states_after it.automaton.now another in
      All-cons P first (second ∷ []) (subst (λ (it : PartsAutomaton). states_after it text ≡ states_after it another) (sym is_one) same)
      (All-cons P second [] (subst (λ (it : PartsAutomaton). states_after it text ≡ states_after it another) (sym is_other) other_same) (All-nil P))

  found_two : (most : ℕ) (found : Found) → IsMostSets one.states other.states most → IsFoundText (first ∷ second ∷ []) most found → IsFoundBy one other is_accepted found
  found_two most (Text text) is_most (met, line) = (
    one_met text.items (All-head (IsMet text.items) first (second ∷ []) met),
    other_met text.items (All-head (IsMet text.items) second [] (All-tail (IsMet text.items) first (second ∷ []) met)),
    line,
  )
  found_two most Nothing is_most none = λ text line is. other_unmet text (λ met.
      none text line (All-cons (IsMet text) first (second ∷ []) (if_one text is) (All-cons (IsMet text) second [] met (All-nil (IsMet text)))))
  found_two most TooMany is_most (texts, many, lines, apart) = (most, is_most, (texts, many, lines, apart_weaker (LeadAlike (first ∷ second ∷ [])) (LeadBothAlike one other) lead_alike texts apart))

pub found_by : (one other : PartsAutomaton) (is_accepted : Bool) (first second : Condition) (conditions : List Condition) (most : ℕ) (found : Found) →
    conditions ≡ first ∷ second ∷ [] → first.automaton.now ≡ one → first.is_accepted ≡ true → second.automaton.now ≡ other → second.is_accepted ≡ is_accepted →
    IsMostSets one.states other.states most → IsFoundText conditions most found → IsFoundBy one other is_accepted found
found_by one other is_accepted first second conditions most found are is_one accepted is_other asked is_most is =
    found_two one other is_accepted first second is_one accepted is_other asked most found is_most (subst (λ (them : List Condition). IsFoundText them most found) are is)

-- ---- results

pub first_unknown_parts : (options : OptionsView) (parts : List PartView) (other_options : OptionsView) (others : List PartView) (reason : Reason) → AreUnknownBy options parts reason → IsReason options parts other_options others reason
first_unknown_parts options parts other_options others reasons.CustomExpression is = inl is
first_unknown_parts options parts other_options others reasons.IgnoredCase is = inl is
first_unknown_parts options parts other_options others reasons.TooMany is = absurd is

pub other_unknown_parts : (options : OptionsView) (parts : List PartView) (other_options : OptionsView) (others : List PartView) (reason : Reason) → AreUnknownBy other_options others reason → IsReason options parts other_options others reason
other_unknown_parts options parts other_options others reasons.CustomExpression is = inr is
other_unknown_parts options parts other_options others reasons.IgnoredCase is = inr is
other_unknown_parts options parts other_options others reasons.TooMany is = absurd is

-- Whether the parts mean the text, by whether their automaton accepts it.
whether_means : (asked found : Bool) (Means : Type 0) → IsTrue found ↔ Means → found ≡ asked → IsWhether asked Means
whether_means true found Means same is = same.0 is
whether_means false found Means same is = λ means. false≢true (sym is ∙ same.1 means)

-- An automaton accepts the texts that its parts mean.
accepts_meant : (options : OptionsView) (parts : List PartView) (automaton : PartsAutomaton) → AreKnown options parts → IsMadeOf options parts automaton → (text : List ℕ) → IsTrue (all_scalars text) →
    IsTrue (accepts automaton text) ↔ MeansText options parts text
accepts_meant options parts automaton told same text good =
    let here = accepts_text automaton text (made_within options parts automaton same) in
    let there = meaning_accepted options parts automaton told.by_case same text good in
    (λ is. there.0 (here.1 is), λ means. here.0 (there.1 means))

module _ (options : OptionsView) (parts : List PartView) (other_options : OptionsView) (others : List PartView) (one other : PartsAutomaton) (told : AreKnown options parts) (other_told : AreKnown other_options others)
    (same : IsMadeOf options parts one) (other_same : IsMadeOf other_options others other) where
  found_answer : (is_meant : Bool) (found : Found) → IsFoundBy one other is_meant found → IsSought options parts other_options others is_meant (answer_of found)
  found_answer is_meant (Text text) (is, other_is, line) =
      ((accepts_meant options parts one told same text.items line.scalars).0 is, whether_means is_meant (accepts other text.items) (MeansText other_options others text.items) (accepts_meant other_options others other other_told other_same text.items line.scalars) other_is, line)
  found_answer is_meant Nothing none = λ text line means.
      whether_means (not is_meant) (accepts other text) (MeansText other_options others text) (accepts_meant other_options others other other_told other_same text line.scalars) (none text line ((accepts_meant options parts one told same text line.scalars).1 means))
  found_answer is_meant TooMany many = inr (one, other, same, other_same, many)

pub found_parts : (options : OptionsView) (parts : List PartView) (other_options : OptionsView) (others : List PartView) (is_meant : Bool) (one other : PartsAutomaton) (found : Found) (answer : Answer) →
    answer ≡ answer_of found → AreKnown options parts → AreKnown other_options others → IsMadeOf options parts one → IsMadeOf other_options others other → IsFoundBy one other is_meant found →
    IsSought options parts other_options others is_meant answer
found_parts options parts other_options others is_meant one other found answer e told other_told same other_same is =
    subst (IsSought options parts other_options others is_meant) (sym e) (found_answer options parts other_options others one other told other_told same other_same is_meant found is)

-- A text that is made of the parts alone.
pub example_sought : (options : OptionsView) (parts : List PartView) (other_options : OptionsView) (others : List PartView) (is_meant : Bool) (other : PartsAutomaton) (text : Vec ℕ Global) →
    AreKnown other_options others → IsMadeOf other_options others other → IsExampleOf options parts text.items × (accepts other text.items ≡ is_meant) → IsSought options parts other_options others is_meant (answers.Text text)
example_sought options parts other_options others is_meant other text told same (is, found) = (
  is.means,
  whether_means is_meant (accepts other text.items) (MeansText other_options others text.items) (accepts_meant other_options others other told same text.items is.line.scalars) found,
  is.line,
)

-- ---- lists of parts that match no text in common

pub apart_nothing : (options : OptionsView) (parts : List PartView) (other_options : OptionsView) (others : List PartView) (is_meant : Bool) → is_meant ≡ true →
    ((text : List ℕ) → MeansText options parts text → ¬ MeansText other_options others text) → IsSought options parts other_options others is_meant answers.Nothing
apart_nothing options parts other_options others true e apart = λ text line means. apart text means
apart_nothing options parts other_options others false e apart = absurd cc

pub apart_text : (options : OptionsView) (parts : List PartView) (other_options : OptionsView) (others : List PartView) (is_meant : Bool) (text : Vec ℕ Global) → is_meant ≡ false →
    ((text : List ℕ) → MeansText options parts text → ¬ MeansText other_options others text) → IsExampleOf options parts text.items → IsSought options parts other_options others is_meant (answers.Text text)
apart_text options parts other_options others true text e apart is = absurd cc
apart_text options parts other_options others false text e apart is = (is.means, apart text.items is.means, is.line)
