-- From the text of an expression to its tokens.
use Rattle.std.proofs.Common.{◌≡◌, ℕ, List, [], ◌∷◌, ◌++◌, Option, Some, None, Bool, true, false, refl, sym, ap, ◌∙◌, append-nil, append_assoc, codes, ◌==◌, ne_eqb}
use Rattle.std.proofs.lemmas.Bool.{false≢true}
use Rattle.std.specs.Prelude.{◌≢◌, IfSome, is_some}
use Rattle.urlpattern_meaning.specs.Dialect.{AnyBut, AllowsGroups, Captured, Character, Plain, Escaped, Dot, Grouped, IsCharacter, IsClassCharacter, Item, Items, LazyOneOrMore, Nothing, Once, OneOrMore, Optional, Quantifier, ZeroOrMore, group_count, character_text, items_text}
use Rattle.urlpattern_meaning.specs.Dialect as dialect
use Rattle.urlpattern_syntax.specs.RegexpText.{captured}
use Rattle.urlpattern_steps.specs.declared.step_tokens.GroupQuantifier.{GroupQuantifier}
use Rattle.urlpattern_steps.specs.declared.step_tokens.StepToken.TheVariants.{FirstSegment, OptionalStep}
use Rattle.urlpattern_steps.specs.declared.step.Step.{Step}
use Rattle.urlpattern_steps.specs.declared.step.Step.TheVariants.{Literal, LazyRun, DotStar, OptionalGroup, GreedyRun, RepeatedLiteral, Segments}
use Rattle.urlpattern_steps.specs.ReadSteps.{BeginsWithCaptured, BeginsWithCharacter, BeginsWithRegexpToken, IsRunOf, IsStepOf, AllowsEmptyRun, SpellsStep, quantifier_of, group_quantifier_text}
use Rattle.urlpattern_steps.specs.Walk.{capture_count}
use Rattle.urlpattern_syntax.specs.Text.{line_feed}
use Rattle.urlpattern_steps.proofs.LongestLemmas.{run_uncaptured}

pub if_both : {A : Type 0} (P Q R : A → Type 0) (o : Option A) → ((x : A) → P x → Q x → R x) → IfSome o P → IfSome o Q → IfSome o R
if_both P Q R None f p q = p
if_both P Q R (Some x) f p q = f x p q

pub none_of : {A : Type 0} (o : Option A) → false ≡ is_some o → o ≡ None
none_of None e = refl
none_of (Some x) e = absurd (false≢true e)

-- ---- characters

pub escaped-begins : (Is : Character → Type 0) (text behind : List ℕ) (c : ℕ) (rest : List ℕ) → Is (Escaped c) → text ≡ codes "\\" ++ behind → behind ≡ c ∷ rest → BeginsWithCharacter Is text c rest
escaped-begins Is text behind c rest is e f = (Escaped c, is, refl, e ∙ ap (λ t. codes "\\" ++ t) f)

pub plain-begins : (Is : Character → Type 0) (text : List ℕ) (c : ℕ) (rest : List ℕ) → Is (Plain c) → text ≡ c ∷ rest → BeginsWithCharacter Is text c rest
plain-begins Is text c rest is e = (Plain c, is, refl, e)

pub not_class : (c : ℕ) → c ≢ 91 → c ≢ 92 → IsClassCharacter (Plain c)
not_class c p q t =
    let first : (91 == c) ≡ false = ne_eqb 91 c (λ e. p (sym e)) in
    let other : (92 == c) ≡ false = ne_eqb 92 c (λ e. q (sym e)) in
    false≢true (rw (first, other) at t)

-- ---- capturing groups

pub greedy_dot : (text rest : List ℕ) → text ≡ codes "*" ++ rest → BeginsWithCaptured (codes "." ++ text) DotStar rest
greedy_dot text rest e = (Item Dot ZeroOrMore Nothing, (tt, refl, tt), refl, ap (λ t. codes "." ++ t) e)

pub lazy_dot : (text rest : List ℕ) → text ≡ codes "+?" ++ rest → BeginsWithCaptured (codes "." ++ text) (LazyRun 10) rest
lazy_dot text rest e = (Item Dot LazyOneOrMore Nothing, (tt, refl, tt), (Dot, refl, refl), ap (λ t. codes "." ++ t) e)

pub lazy_class : (text behind class rest : List ℕ) (c : ℕ) → BeginsWithCharacter IsClassCharacter text c behind → behind ≡ codes "]" ++ class → class ≡ codes "+?" ++ rest
    → BeginsWithCaptured (codes "[^" ++ text) (LazyRun c) rest
lazy_class text behind class rest c (character, is, same, e) f g =
    let one : Items = Item (AnyBut character) LazyOneOrMore Nothing in
    let whole : text ≡ character_text character ++ (codes "]" ++ (codes "+?" ++ rest)) = e ∙ ap (λ t. character_text character ++ t) (f ∙ ap (λ t. codes "]" ++ t) g) in
    let spelled : items_text one ++ rest ≡ codes "[^" ++ (character_text character ++ (codes "]" ++ (codes "+?" ++ rest))) =
    ap (λ t. codes "[^" ++ t)
    (ap (λ t. t ++ rest) (append-nil ((character_text character ++ codes "]") ++ codes "+?"))
    ∙ append_assoc (character_text character ++ codes "]") (codes "+?") rest ∙ append_assoc (character_text character) (codes "]") (codes "+?" ++ rest)) in
    (one, (is, refl, tt), (AnyBut character, same, refl), ap (λ t. codes "[^" ++ t) whole ∙ sym spelled)

pub segment_run : (c : ℕ) (items : Items) → IsStepOf (LazyRun c) (Captured items) → IsRunOf c false items
segment_run c items (one, but, e) = (one, but, cc)

pub anything_run : (items : Items) → IsStepOf DotStar (Captured items) → IsRunOf line_feed true items
anything_run items e = (refl, cc)

-- Runs may be repeated, whether or not each of them may be empty.
pub runs_allowed : (end : ℕ) (is_greedy : Bool) (items : Items) (quantifier : Quantifier) (may_be_empty : Bool) → IsRunOf end is_greedy items → AllowsEmptyRun is_greedy quantifier may_be_empty
    → AllowsGroups quantifier (group_count items)
runs_allowed end is_greedy items ZeroOrMore may_be_empty run is = run_uncaptured end is_greedy items run
runs_allowed end is_greedy items OneOrMore may_be_empty run is = run_uncaptured end is_greedy items run
runs_allowed end is_greedy items Once may_be_empty run is = tt
runs_allowed end is_greedy items Optional may_be_empty run is = tt
runs_allowed end is_greedy items LazyOneOrMore may_be_empty run is = absurd is

pub repeated_run : (text inner run_text bracket behind rest : List ℕ) (run step : Step) (times : GroupQuantifier) → text ≡ codes "?" ++ inner → inner ≡ codes ":" ++ run_text
    → BeginsWithCaptured run_text run bracket → bracket ≡ codes ")" ++ behind → behind ≡ group_quantifier_text times ++ rest
    → ((items : Items) → IsStepOf run (Captured items)
    → AllowsGroups (quantifier_of times) (group_count items) × IsStepOf step (Captured (Item (Grouped items) (quantifier_of times) Nothing)))
    → BeginsWithCaptured (codes "(" ++ text) step rest
repeated_run text inner run_text bracket behind rest run step times e f (items, are, is, g) h i steps =
    let repeated = steps items is in
    let q = group_quantifier_text times in
    let whole : codes "(" ++ text ≡ codes "(?:" ++ (items_text items ++ (codes ")" ++ (q ++ rest))) =
    ap (λ t. codes "(" ++ t) (e ∙ ap (λ t. codes "?" ++ t) (f ∙ ap (λ t. codes ":" ++ t) (g ∙ ap (λ t. items_text items ++ t) (h ∙ ap (λ t. codes ")" ++ t) i)))) in
    let spelled : items_text (Item (Grouped items) (quantifier_of times) Nothing) ++ rest ≡ codes "(?:" ++ (items_text items ++ (codes ")" ++ (q ++ rest))) =
    ap (λ t. t ++ rest) (append-nil ((codes "(?:" ++ (items_text items ++ codes ")")) ++ q))
    ∙ append_assoc (codes "(?:" ++ (items_text items ++ codes ")")) q rest
    ∙ ap (λ t. codes "(?:" ++ t) (append_assoc (items_text items) (codes ")") (q ++ rest)) in
    (Item (Grouped items) (quantifier_of times) Nothing, (are, repeated.0, tt), repeated.1, whole ∙ sym spelled)

pub captured-spells : (text behind rest : List ℕ) (step : Step) → BeginsWithCaptured text step behind → behind ≡ codes ")" ++ rest
    → (front : List ℕ) × SpellsStep step front × (codes "(" ++ text ≡ front ++ rest)
captured-spells text behind rest step (items, are, is, e) f = (
  captured (items_text items),
  (Captured items, are, is, refl),
  ap (λ t. codes "(" ++ t) (e ∙ ap (λ t. items_text items ++ t) f ∙ sym (append_assoc (items_text items) (codes ")") rest)),
)

pub captured_literal : (character : Character) (items : Items) → ¬ (Captured items ≡ dialect.Literal character)
captured_literal character items e = cc

pub captures_one : (step : Step) (items : Items) → IsStepOf step (Captured items) → capture_count (step ∷ []) ≡ 1
captures_one (Literal c) items is = absurd (captured_literal is.0 items is.2)
captures_one (LazyRun c) items is = refl
captures_one DotStar items is = refl
captures_one (OptionalGroup group) items is = absurd is
captures_one (GreedyRun run) items is = refl
captures_one (RepeatedLiteral copies) items is = absurd is
captures_one (Segments segments) items is = absurd is

pub captured-maybe : (text bracket behind rest : List ℕ) (step : Step) → BeginsWithCaptured text step bracket → bracket ≡ codes ")" ++ behind → behind ≡ codes "?" ++ rest
    → BeginsWithRegexpToken (codes "(" ++ text) (OptionalStep step) rest
captured-maybe text bracket behind rest step begins e f =
    let once = captured-spells text bracket behind step begins e in
    (once.0 ++ codes "?", (once.0, captures_one step begins.0 begins.2, once.1, refl), once.2 ∙ ap (λ t. once.0 ++ t) f ∙ sym (append_assoc once.0 (codes "?") rest))

pub literal-spells : (text rest : List ℕ) (c : ℕ) → BeginsWithCharacter IsCharacter text c rest → (front : List ℕ) × SpellsStep (Literal c) front × (text ≡ front ++ rest)
literal-spells text rest c (character, is, same, e) = (character_text character, (dialect.Literal character, is, (character, same, refl), refl), e)

pub first_segment-begins : (text run_text bracket behind rest : List ℕ) (single : Step) (end : ℕ) (is_greedy : Bool) → text ≡ codes "(?:" ++ run_text → BeginsWithCaptured run_text single bracket
    → bracket ≡ codes ")" ++ behind → behind ≡ codes "(?:" ++ rest → ((items : Items) → IsStepOf single (Captured items) → IsRunOf end is_greedy items)
    → BeginsWithRegexpToken (codes "(" ++ text) (FirstSegment end is_greedy) rest
first_segment-begins text run_text bracket behind rest single end is_greedy e (items, are, is, f) g h run = (
  codes "((?:" ++ (items_text items ++ codes ")(?:"),
  (items, are, run items is, refl),
  ap (λ t. codes "(" ++ t) (e ∙ ap (λ t. codes "(?:" ++ t) (f ∙ ap (λ t. items_text items ++ t) (g ∙ ap (λ t. codes ")" ++ t) h)))
      ∙ ap (λ t. codes "((?:" ++ t) (sym (append_assoc (items_text items) (codes ")(?:") rest)),
)
