-- The first characters of a text determine what it begins with.
use Rattle.std.proofs.Common.{◌≡◌, ℕ, Bool, true, false, List, [], ◌∷◌, ◌++◌, Option, Some, None, Bor, refl, sym, ap, ◌∙◌, subst, inl, inr, append-nil, append_assoc, codes, ◌==◌}
use Rattle.std.proofs.lemmas.Bool.{eqb-false}
use Rattle.std.specs.Prelude.{◌≢◌, ◌⊎◌, IfNone, IfSome, IsTrue}
use Rattle.std.specs.Str.{chars}
use Rattle.urlpattern_meaning.specs.Dialect.{AnyBut, AreItems, Atom, Captured, Character, Plain, Escaped, Dot, Grouped, IsAtom, IsCharacter, IsClassCharacter, Item, Items, LazyOneOrMore, Nothing, Once, OneOrMore, Optional, Quantifier, ZeroOrMore, atom_text, character_text, items_text}
use Rattle.urlpattern_meaning.specs.Dialect as dialect
use Rattle.urlpattern_meaning.proofs.DialectLeads.{first}
use Rattle.urlpattern_syntax.specs.RegexpText.{regexp_marks}
use Rattle.urlpattern_syntax.specs.Text.{is_among, line_feed}
use Rattle.urlpattern_steps.specs.declared.step_tokens.GroupQuantifier.{GroupQuantifier}
use Rattle.urlpattern_steps.specs.declared.step_tokens.GroupQuantifier.TheVariants as often
use Rattle.urlpattern_steps.specs.declared.step_tokens.StepToken.{StepToken}
use Rattle.urlpattern_steps.specs.declared.step_tokens.StepToken.TheVariants.{Open, Close, Step as One, OptionalStep, FirstSegment}
use Rattle.urlpattern_steps.specs.declared.step.Run.{Run}
use Rattle.urlpattern_steps.specs.declared.step.Step.{Step}
use Rattle.urlpattern_steps.specs.declared.step.Step.TheVariants.{Literal, LazyRun, DotStar, OptionalGroup, GreedyRun, RepeatedLiteral, Segments}
use Rattle.urlpattern_steps.specs.Walk.{capture_count}
use Rattle.urlpattern_steps.specs.ReadSteps.{BeginsWithCaptured, BeginsWithCharacter, BeginsWithRegexpToken, IsAllBut, IsRead, IsRunOf, IsRunStep, IsStepOf, IsUnquantified, AllowsEmptyRun, RepeatsRuns, quantifier_of, group_quantifier_text}
use Rattle.urlpattern_steps.proofs.StepTokenLemmas.{captured_literal}

-- ---- first characters

pub apart : (a b : ℕ) (s t : List ℕ) → (a == b) ≡ false → ¬ (a ∷ s ≡ b ∷ t)
apart a b s t ne e = let same : a ≡ b = cc in eqb-false a b ne same

pub after_same : (c : ℕ) (s t : List ℕ) → c ∷ s ≡ c ∷ t → s ≡ t
after_same c s t e = cc

-- ---- characters

-- A character by itself, or after a backslash.
abbrev pub ByItself : (Is : Character → Type 0) → (text : List ℕ) → (c : ℕ) → (rest : List ℕ) → Type 0
ByItself Is text c rest = Is (Plain c) × (text ≡ c ∷ rest)

abbrev pub IsEscapedAt : (Is : Character → Type 0) → (text : List ℕ) → (c : ℕ) → (rest : List ℕ) → Type 0
IsEscapedAt Is text c rest = Is (Escaped c) × (text ≡ codes "\\" ++ c ∷ rest)

pub character_kind : (Is : Character → Type 0) (text : List ℕ) (c : ℕ) (rest : List ℕ) → BeginsWithCharacter Is text c rest → ByItself Is text c rest ⊎ IsEscapedAt Is text c rest
character_kind Is text c rest (Plain d, is, same, e) = inl (subst (λ x. Is (Plain x)) same is, e ∙ ap (λ x. x ∷ rest) same)
character_kind Is text c rest (Escaped d, is, same, e) = inr (subst (λ x. Is (Escaped x)) same is, e ∙ ap (λ x. codes "\\" ++ x ∷ rest) same)

-- An escaped character is read.
pub escaped_read : (Is : Character → Type 0) (Allowed : ℕ → Type 0) (read : Option (ℕ × Bor (List ℕ))) (text behind : List ℕ) → text ≡ codes "\\" ++ behind → ¬ Is (Plain 92) → ((c : ℕ) → Is (Escaped c) → Allowed c)
    → IfNone read ((c : ℕ) (rest : List ℕ) → Allowed c → behind ≢ c ∷ rest) → IfSome read (λ found. behind ≡ found.0 ∷ chars found.1.now)
    → (c : ℕ) (rest : List ℕ) → BeginsWithCharacter Is text c rest → IsRead read c rest
escaped_read Is Allowed read text behind e plain allowed none some c rest begins = by read none some (character_kind Is text c rest begins)
  where
    by : (read : Option (ℕ × Bor (List ℕ))) → IfNone read ((c : ℕ) (rest : List ℕ) → Allowed c → behind ≢ c ∷ rest) → IfSome read (λ found. behind ≡ found.0 ∷ chars found.1.now)
        → ByItself Is text c rest ⊎ IsEscapedAt Is text c rest → IsRead read c rest
    by read none some (inl (is, f)) = let same : c ≡ 92 = cc in absurd (plain (subst (λ x. Is (Plain x)) same is))
    by None none some (inr (is, f)) = let g : behind ≡ c ∷ rest = cc in absurd (none c rest (allowed c is) g)
    by (Some found) none some (inr (is, f)) = (cc, cc)

-- ---- runs

-- The text after the dot of a run.
abbrev pub AfterDot : Step → (text rest : List ℕ) → Type 0
AfterDot step text rest = ((step ≡ DotStar) × (text ≡ codes "*" ++ rest)) ⊎ ((step ≡ LazyRun line_feed) × (text ≡ codes "+?" ++ rest))

-- The text after the `[^` of a run.
abbrev pub AfterClass : Step → (text rest : List ℕ) → Type 0
AfterClass step text rest = (c : ℕ) × (step ≡ LazyRun c) × BeginsWithCharacter IsClassCharacter text c (codes "]" ++ (codes "+?" ++ rest))

abbrev pub BeginsWithRun : Step → (text rest : List ℕ) → Type 0
BeginsWithRun step text rest =
    ((behind : List ℕ) × (text ≡ codes "." ++ behind) × AfterDot step behind rest) ⊎ ((behind : List ℕ) × (text ≡ codes "[^" ++ behind) × AfterClass step behind rest)

class_text : (character : Character) (rest : List ℕ)
    → items_text (Item (AnyBut character) LazyOneOrMore Nothing) ++ rest ≡ codes "[^" ++ (character_text character ++ (codes "]" ++ (codes "+?" ++ rest)))
class_text character rest =
    ap (λ t. codes "[^" ++ t)
    (ap (λ t. t ++ rest) (append-nil ((character_text character ++ codes "]") ++ codes "+?"))
    ∙ append_assoc (character_text character ++ codes "]") (codes "+?") rest ∙ append_assoc (character_text character) (codes "]") (codes "+?" ++ rest))

segment_begins : (end : ℕ) (one : Atom) (step : Step) (text rest : List ℕ) → IsAllBut end one → IsAtom one → step ≡ LazyRun end
    → text ≡ items_text (Item one LazyOneOrMore Nothing) ++ rest → BeginsWithRun step text rest
segment_begins end Dot step text rest but is same e = inl (codes "+?" ++ rest, e, inr (same ∙ ap LazyRun but, refl))
segment_begins end (AnyBut character) step text rest but is same e = inr (
  character_text character ++ (codes "]" ++ (codes "+?" ++ rest)),
  e ∙ class_text character rest,
  (end, same, (character, is, but, refl)),
)
segment_begins end (dialect.Literal character) step text rest but is same e = absurd but
segment_begins end (Captured items) step text rest but is same e = absurd but
segment_begins end (Grouped items) step text rest but is same e = absurd but

pub run_begins : (end : ℕ) (is_greedy : Bool) (step : Step) (text rest : List ℕ) → IsRunStep end is_greedy step → BeginsWithCaptured text step rest → BeginsWithRun step text rest
run_begins end true step text rest (feed, same) (items, are, is, e) =
    let run : Captured items ≡ Captured (Item Dot ZeroOrMore Nothing) = subst (λ s. IsStepOf s (Captured items)) same is in
    let own : items ≡ Item Dot ZeroOrMore Nothing = cc in
    inl (codes "*" ++ rest, e ∙ ap (λ i. items_text i ++ rest) own, inl (same, refl))
run_begins end false step text rest same (items, are, is, e) = by (subst (λ s. IsStepOf s (Captured items)) same is)
  where
    by : IsStepOf (LazyRun end) (Captured items) → BeginsWithRun step text rest
    by (one, but, f) =
        let own : items ≡ Item one LazyOneOrMore Nothing = cc in
        let inside : AreItems (Item one LazyOneOrMore Nothing) = subst AreItems own are in
        segment_begins end one step text rest but inside.0 same (e ∙ ap (λ i. items_text i ++ rest) own)

class_after : (step : Step) (text rest : List ℕ) → BeginsWithRun step (codes "[^" ++ text) rest → AfterClass step text rest
class_after step text rest (inl (behind, e, after)) = absurd (apart 91 46 (codes "^" ++ text) behind refl e)
class_after step text rest (inr (behind, e, after)) = let same : behind ≡ text = cc in subst (λ t. AfterClass step t rest) same after

pub class_begins : (end : ℕ) (is_greedy : Bool) (step : Step) (text rest : List ℕ) → IsRunStep end is_greedy step → BeginsWithCaptured (codes "[^" ++ text) step rest → AfterClass step text rest
class_begins end is_greedy step text rest is begins = class_after step text rest (run_begins end is_greedy step (codes "[^" ++ text) rest is begins)

-- A run begins with neither `(` nor `?`.
run_plain : (step : Step) (text rest behind : List ℕ) (c : ℕ) → (c == 46) ≡ false → (c == 91) ≡ false → BeginsWithRun step text rest → ¬ (text ≡ c ∷ behind)
run_plain step text rest behind c dot class (inl (own, e, after)) f = apart c 46 behind own dot (sym f ∙ e)
run_plain step text rest behind c dot class (inr (own, e, after)) f = apart c 91 behind (codes "^" ++ own) class (sym f ∙ e)

-- ---- repeated runs

-- The text after `(` is the body of a capturing group with a repeated run.
pub record RepeatedRun (step : Step) (text rest : List ℕ) : Type 0 where
  pub end : ℕ
  pub is_greedy : Bool
  pub may_be_empty : Bool
  pub run : Step
  pub times : GroupQuantifier
  pub inner : List ℕ
  pub same : step ≡ GreedyRun (record { end = end; may_be_empty = may_be_empty })
  pub is_run : IsRunStep end is_greedy run
  pub may : AllowsEmptyRun is_greedy (quantifier_of times) may_be_empty
  pub opened : text ≡ codes "?:" ++ inner
  pub begins : BeginsWithCaptured inner run (codes ")" ++ (group_quantifier_text times ++ rest))

abbrev pub run_step : (end : ℕ) → (is_greedy : Bool) → Step
run_step end true = DotStar
run_step end false = LazyRun end

pub run_step_is : (end : ℕ) (is_greedy : Bool) (items : Items) → IsRunOf end is_greedy items → IsRunStep end is_greedy (run_step end is_greedy) × IsStepOf (run_step end is_greedy) (Captured items)
run_step_is end true items (feed, e) = ((feed, refl), ap Captured e)
run_step_is end false items (one, but, e) = (refl, (one, but, ap Captured e))

repeated_text : (times : GroupQuantifier) (items : Items) (rest : List ℕ)
    → items_text (Item (Grouped items) (quantifier_of times) Nothing) ++ rest ≡ codes "(?:" ++ (items_text items ++ (codes ")" ++ (group_quantifier_text times ++ rest)))
repeated_text times items rest =
    ap (λ t. t ++ rest) (append-nil ((codes "(?:" ++ (items_text items ++ codes ")")) ++ group_quantifier_text times))
    ∙ append_assoc (codes "(?:" ++ (items_text items ++ codes ")")) (group_quantifier_text times) rest
    ∙ ap (λ t. codes "(?:" ++ t) (append_assoc (items_text items) (codes ")") (group_quantifier_text times ++ rest))

repeated_of : (run : Run) (items : Items) (is_greedy : Bool) (times : GroupQuantifier) (text rest : List ℕ) → IsRunOf run.end is_greedy items → AllowsEmptyRun is_greedy (quantifier_of times) run.may_be_empty → AreItems items
    → text ≡ items_text (Item (Grouped items) (quantifier_of times) Nothing) ++ rest → (behind : List ℕ) × (text ≡ codes "(" ++ behind) × RepeatedRun (GreedyRun run) behind rest
repeated_of run items is_greedy times text rest is may are e =
    let inner : List ℕ = items_text items ++ (codes ")" ++ (group_quantifier_text times ++ rest)) in
    let step = run_step_is run.end is_greedy items is in (
      codes "?:" ++ inner,
      e ∙ repeated_text times items rest,
      record {
        end = run.end;
        is_greedy = is_greedy;
        may_be_empty = run.may_be_empty;
        run = run_step run.end is_greedy;
        times = times;
        inner = inner;
        same = refl;
        is_run = step.0;
        may = may;
        opened = refl;
        begins = (items, are, step.1, refl);
      },
    )

repeated_by : (run : Run) (items : Items) (is_greedy : Bool) (quantifier : Quantifier) (text rest : List ℕ) → IsRunOf run.end is_greedy items → AllowsEmptyRun is_greedy quantifier run.may_be_empty → AreItems items
    → text ≡ items_text (Item (Grouped items) quantifier Nothing) ++ rest → (behind : List ℕ) × (text ≡ codes "(" ++ behind) × RepeatedRun (GreedyRun run) behind rest
repeated_by run items is_greedy ZeroOrMore text rest is may are e = repeated_of run items is_greedy often.ZeroOrMore text rest is may are e
repeated_by run items is_greedy OneOrMore text rest is may are e = repeated_of run items is_greedy often.OneOrMore text rest is may are e
repeated_by run items is_greedy Once text rest is may are e = absurd may
repeated_by run items is_greedy Optional text rest is may are e = absurd may
repeated_by run items is_greedy LazyOneOrMore text rest is may are e = absurd may

-- The body of a capturing group is a run or a repeated run.
pub captured_kind : (step : Step) (text rest : List ℕ) → BeginsWithCaptured text step rest
    → ((end : ℕ) × (is_greedy : Bool) × IsRunStep end is_greedy step) ⊎ ((behind : List ℕ) × (text ≡ codes "(" ++ behind) × RepeatedRun step behind rest)
captured_kind (Literal c) text rest (items, are, is, e) = absurd (captured_literal is.0 items is.2)
captured_kind (LazyRun c) text rest begins = inl (c, false, refl)
captured_kind DotStar text rest begins = inl (line_feed, true, (refl, refl))
captured_kind (OptionalGroup group) text rest (items, are, is, e) = absurd is
captured_kind (GreedyRun run) text rest (items, are, (own, is_greedy, quantifier, is_run, may, same), e) =
    let whole : items ≡ Item (Grouped own) quantifier Nothing = cc in
    let inside : AreItems (Item (Grouped own) quantifier Nothing) = subst AreItems whole are in
    inr (repeated_by run own is_greedy quantifier text rest is_run may inside.0 (e ∙ ap (λ i. items_text i ++ rest) whole))
captured_kind (RepeatedLiteral copies) text rest (items, are, is, e) = absurd is
captured_kind (Segments segments) text rest (items, are, is, e) = absurd is

-- A body that does not begin with `(` is a run.
pub captured_run : (step : Step) (text rest : List ℕ) → ((behind : List ℕ) → text ≢ codes "(" ++ behind) → BeginsWithCaptured text step rest → (end : ℕ) × (is_greedy : Bool) × IsRunStep end is_greedy step
captured_run step text rest other begins = by (captured_kind step text rest begins)
  where
    by : ((end : ℕ) × (is_greedy : Bool) × IsRunStep end is_greedy step) ⊎ ((behind : List ℕ) × (text ≡ codes "(" ++ behind) × RepeatedRun step behind rest)
        → (end : ℕ) × (is_greedy : Bool) × IsRunStep end is_greedy step
    by (inl run) = run
    by (inr (behind, e, repeated)) = absurd (other behind e)

-- A body that begins with `(` is a repeated run.
pub captured_repeated : (step : Step) (text rest : List ℕ) → BeginsWithCaptured (codes "(" ++ text) step rest → RepeatedRun step text rest
captured_repeated step text rest begins = by (captured_kind step (codes "(" ++ text) rest begins)
  where
    by : ((end : ℕ) × (is_greedy : Bool) × IsRunStep end is_greedy step) ⊎ ((behind : List ℕ) × (codes "(" ++ text ≡ codes "(" ++ behind) × RepeatedRun step behind rest) → RepeatedRun step text rest
    by (inl (end, is_greedy, is)) = absurd (run_plain step (codes "(" ++ text) rest text 40 refl refl (run_begins end is_greedy step (codes "(" ++ text) rest is begins) refl)
    by (inr (behind, e, repeated)) = subst (λ t. RepeatedRun step t rest) (sym (after_same 40 text behind e)) repeated

-- ---- quantifiers

-- A quantifier is read in one way, if no other quantifier follows.
pub times_one : (a b : GroupQuantifier) (s t : List ℕ) → group_quantifier_text a ++ s ≡ group_quantifier_text b ++ t → (a ≡ often.Once → IsUnquantified s) → (b ≡ often.Once → IsUnquantified t) → (a ≡ b) × (s ≡ t)
times_one often.Once often.Once s t e h g = (refl, e)
times_one often.Once b s t e h g = absurd (subst IsUnquantified e (h refl) refl)
times_one a often.Once s t e h g = absurd (subst IsUnquantified (sym e) (g refl) refl)
times_one often.Optional often.Optional s t e h g = (refl, cc)
times_one often.ZeroOrMore often.ZeroOrMore s t e h g = (refl, cc)
times_one often.OneOrMore often.OneOrMore s t e h g = (refl, cc)
times_one a b s t e h g = absurd (eqb-false (first (group_quantifier_text a ++ s)) (first (group_quantifier_text b ++ t)) refl (ap first e))

-- The quantifier of a repeated run is a repeat.
pub repeated_more : (is_greedy : Bool) (times : GroupQuantifier) (may_be_empty : Bool) → AllowsEmptyRun is_greedy (quantifier_of times) may_be_empty → ¬ (times ≡ often.Once)
repeated_more is_greedy times may_be_empty may once = subst (λ t. AllowsEmptyRun is_greedy (quantifier_of t) may_be_empty) once may

-- ---- parentheses

-- Separated runs begin with `(?:` and a run.
pub segments_opened : (end : ℕ) (is_greedy : Bool) (text rest : List ℕ) → BeginsWithRegexpToken (codes "(" ++ text) (FirstSegment end is_greedy) rest
    → (inner : List ℕ) × (run : Step) × (text ≡ codes "(?:" ++ inner) × IsRunStep end is_greedy run × BeginsWithCaptured inner run (codes ")" ++ (codes "(?:" ++ rest))
segments_opened end is_greedy text rest (front, (items, are, is, same), e) =
    let step = run_step_is end is_greedy items is in
    let inner : List ℕ = items_text items ++ (codes ")" ++ (codes "(?:" ++ rest)) in
    let spelled : codes "(" ++ text ≡ codes "(" ++ (codes "(?:" ++ inner) = e ∙ ap (λ t. t ++ rest) same ∙ ap (λ t. codes "((?:" ++ t) (append_assoc (items_text items) (codes ")(?:") rest) in
    (inner, run_step end is_greedy, after_same 40 text (codes "(?:" ++ inner) spelled, step.0, (items, are, step.1, refl))

-- The text of a token after its `(`.
abbrev pub InBracket : StepToken → (text rest : List ℕ) → Type 0
InBracket Open text rest = text ≡ codes "?:" ++ rest
InBracket (Close times) text rest = ⊥
InBracket (One step) text rest = BeginsWithCaptured text step (codes ")" ++ rest)
InBracket (OptionalStep step) text rest = BeginsWithCaptured text step (codes ")" ++ (codes "?" ++ rest))
InBracket (FirstSegment end is_greedy) text rest = BeginsWithRegexpToken (codes "(" ++ text) (FirstSegment end is_greedy) rest

no_step_of_group : (step : Step) (items : Items) → ¬ IsStepOf step (Grouped items)
no_step_of_group (Literal c) items is = let e : Grouped items ≡ dialect.Literal is.0 = is.2 in cc
no_step_of_group (LazyRun c) items is = let e : Grouped items ≡ Captured (Item is.0 LazyOneOrMore Nothing) = is.2 in cc
no_step_of_group DotStar items is = cc is
no_step_of_group (OptionalGroup group) items is = is
no_step_of_group (GreedyRun run) items is = let e : Grouped items ≡ Captured (Item (Grouped is.0) is.2 Nothing) = is.5 in cc
no_step_of_group (RepeatedLiteral copies) items is = is
no_step_of_group (Segments segments) items is = is

atom_in : (step : Step) (atom : Atom) (text rest : List ℕ) → IsAtom atom → IsStepOf step atom → codes "(" ++ text ≡ atom_text atom ++ rest → BeginsWithCaptured text step (codes ")" ++ rest)
atom_in step (dialect.Literal (Plain c)) text rest is of e = let same : 40 ≡ c = cc in absurd (is (subst (λ d. IsTrue (is_among regexp_marks d)) same refl))
atom_in step (dialect.Literal (Escaped c)) text rest is of e = absurd (apart 40 92 text (c ∷ rest) refl e)
atom_in step Dot text rest is of e = absurd (apart 40 46 text rest refl e)
atom_in step (AnyBut character) text rest is of e = absurd (eqb-false 40 91 refl (ap first e))
atom_in step (Captured items) text rest is of e = (items, is, of, after_same 40 text _ e ∙ append_assoc (items_text items) (codes ")") rest)
atom_in step (Grouped items) text rest is of e = absurd (no_step_of_group step items of)

pub bracket_in : (token : StepToken) (text rest : List ℕ) → BeginsWithRegexpToken (codes "(" ++ text) token rest → InBracket token text rest
bracket_in Open text rest (front, is, e) = after_same 40 text (codes "?:" ++ rest) (e ∙ ap (λ t. t ++ rest) is)
bracket_in (Close times) text rest (front, is, e) = apart 40 41 text (group_quantifier_text times ++ rest) refl (e ∙ ap (λ t. t ++ rest) is)
bracket_in (One step) text rest (front, (atom, is, of, f), e) = atom_in step atom text rest is of (e ∙ ap (λ t. t ++ rest) f)
bracket_in (OptionalStep step) text rest (front, (own, one, (atom, is, of, f), g), e) =
    atom_in step atom text (codes "?" ++ rest) is of (e ∙ ap (λ t. t ++ rest) (g ∙ ap (λ t. t ++ codes "?") f) ∙ append_assoc (atom_text atom) (codes "?") rest)
bracket_in (FirstSegment end is_greedy) text rest begins = begins

-- A fact about a token that begins with `(`, by cases of the token.
pub by_bracket : (P : StepToken → List ℕ → Type 0) (text : List ℕ) → ((rest : List ℕ) → text ≡ codes "?:" ++ rest → P Open rest)
    → ((step : Step) (rest : List ℕ) → BeginsWithCaptured text step (codes ")" ++ rest) → P (One step) rest)
    → ((step : Step) (rest : List ℕ) → BeginsWithCaptured text step (codes ")" ++ (codes "?" ++ rest)) → P (OptionalStep step) rest)
    → ((end : ℕ) (is_greedy : Bool) (rest : List ℕ) → BeginsWithRegexpToken (codes "(" ++ text) (FirstSegment end is_greedy) rest → P (FirstSegment end is_greedy) rest)
    → (token : StepToken) (rest : List ℕ) → BeginsWithRegexpToken (codes "(" ++ text) token rest → P token rest
by_bracket P text opens one maybe segments token rest begins = by token (bracket_in token text rest begins)
  where
    by : (token : StepToken) → InBracket token text rest → P token rest
    by Open inside = opens rest inside
    by (Close times) inside = absurd inside
    by (One step) inside = one step rest inside
    by (OptionalStep step) inside = maybe step rest inside
    by (FirstSegment end is_greedy) inside = segments end is_greedy rest inside

-- ---- tokens

captured_opens : (atom : Atom) (items : Items) (text rest : List ℕ) → atom ≡ Captured items → text ≡ atom_text atom ++ rest → (behind : List ℕ) × (text ≡ codes "(" ++ behind)
captured_opens atom items text rest same e = ((items_text items ++ codes ")") ++ rest, e ∙ ap (λ a. atom_text a ++ rest) same)

step_opens : (step : Step) (atom : Atom) (text rest : List ℕ) → IsAtom atom → IsStepOf step atom → text ≡ atom_text atom ++ rest
    → ((c : ℕ) × (step ≡ Literal c) × BeginsWithCharacter IsCharacter text c rest) ⊎ ((behind : List ℕ) × (text ≡ codes "(" ++ behind))
step_opens (Literal c) atom text rest is (character, same, f) e = inl (c, refl, (character, subst IsAtom f is, same, e ∙ ap (λ a. atom_text a ++ rest) f))
step_opens (LazyRun c) atom text rest is (one, but, f) e = inr (captured_opens atom _ text rest f e)
step_opens DotStar atom text rest is f e = inr (captured_opens atom _ text rest f e)
step_opens (OptionalGroup group) atom text rest is of e = absurd of
step_opens (GreedyRun run) atom text rest is (items, is_greedy, quantifier, is_run, may, f) e = inr (captured_opens atom _ text rest f e)
step_opens (RepeatedLiteral copies) atom text rest is of e = absurd of
step_opens (Segments segments) atom text rest is of e = absurd of

-- A fact about a token, by cases of its first character.
pub by_token : (P : StepToken → List ℕ → Type 0) (text : List ℕ) → ((times : GroupQuantifier) (rest : List ℕ) → text ≡ codes ")" ++ (group_quantifier_text times ++ rest) → P (Close times) rest)
    → ((c : ℕ) (rest : List ℕ) → BeginsWithCharacter IsCharacter text c rest → P (One (Literal c)) rest)
    → ((token : StepToken) (rest behind : List ℕ) → text ≡ codes "(" ++ behind → P token rest)
    → (token : StepToken) (rest : List ℕ) → BeginsWithRegexpToken text token rest → P token rest
by_token P text close literal bracket Open rest (front, is, e) = bracket Open rest (codes "?:" ++ rest) (e ∙ ap (λ t. t ++ rest) is)
by_token P text close literal bracket (Close times) rest (front, is, e) = close times rest (e ∙ ap (λ t. t ++ rest) is)
by_token P text close literal bracket (One step) rest (front, (atom, is, of, f), e) = by (step_opens step atom text rest is of (e ∙ ap (λ t. t ++ rest) f))
  where
    by : ((c : ℕ) × (step ≡ Literal c) × BeginsWithCharacter IsCharacter text c rest) ⊎ ((behind : List ℕ) × (text ≡ codes "(" ++ behind)) → P (One step) rest
    by (inl (c, same, begins)) = subst (λ s. P (One s) rest) (sym same) (literal c rest begins)
    by (inr (behind, g)) = bracket (One step) rest behind g
by_token P text close literal bracket (OptionalStep step) rest (front, (own, one, (atom, is, of, f), g), e) =
    let whole : text ≡ atom_text atom ++ (codes "?" ++ rest) = e ∙ ap (λ t. t ++ rest) (g ∙ ap (λ t. t ++ codes "?") f) ∙ append_assoc (atom_text atom) (codes "?") rest in
    by (step_opens step atom text (codes "?" ++ rest) is of whole)
  where
    by : ((c : ℕ) × (step ≡ Literal c) × BeginsWithCharacter IsCharacter text c (codes "?" ++ rest)) ⊎ ((behind : List ℕ) × (text ≡ codes "(" ++ behind)) → P (OptionalStep step) rest
    by (inl (c, same, begins)) = absurd (eqb-false 0 1 refl (subst (λ (s : Step). capture_count (s ∷ []) ≡ 1) same one))
    by (inr (behind, h)) = bracket (OptionalStep step) rest behind h
by_token P text close literal bracket (FirstSegment end is_greedy) rest (front, (items, are, is, f), e) =
    bracket (FirstSegment end is_greedy) rest (codes "(?:" ++ (items_text items ++ codes ")(?:") ++ rest) (e ∙ ap (λ t. t ++ rest) f)

-- ---- several reads in turn

-- `single` and `rest` are each run that the text begins with, and what follows it.
abbrev pub ReadsRun : (text : List ℕ) → Step → (rest : List ℕ) → Type 0
ReadsRun text single rest =
    (end : ℕ) (is_greedy : Bool) (step : Step) (behind : List ℕ) → IsRunStep end is_greedy step → BeginsWithCaptured text step behind → (single ≡ step) × (rest ≡ behind)

-- The first of separated runs.
pub segments_run : (end : ℕ) (is_greedy : Bool) (text rest inner : List ℕ) → BeginsWithRegexpToken (codes "(" ++ text) (FirstSegment end is_greedy) rest → text ≡ codes "(?:" ++ inner
    → (run : Step) × IsRunStep end is_greedy run × BeginsWithCaptured inner run (codes ")" ++ (codes "(?:" ++ rest))
segments_run end is_greedy text rest inner begins e = by (segments_opened end is_greedy text rest begins)
  where
    by : (own : List ℕ) × (run : Step) × (text ≡ codes "(?:" ++ own) × IsRunStep end is_greedy run × BeginsWithCaptured own run (codes ")" ++ (codes "(?:" ++ rest))
        → (run : Step) × IsRunStep end is_greedy run × BeginsWithCaptured inner run (codes ")" ++ (codes "(?:" ++ rest))
    by (own, run, f, is, found) = let same : own ≡ inner = cc in (run, is, subst (λ t. BeginsWithCaptured t run (codes ")" ++ (codes "(?:" ++ rest))) same found)

pub segments_read : (end : ℕ) (is_greedy : Bool) (text rest inner : List ℕ) (single : Step) (behind : List ℕ) → BeginsWithRegexpToken (codes "(" ++ text) (FirstSegment end is_greedy) rest
    → text ≡ codes "(?:" ++ inner → ReadsRun inner single behind → IsRunStep end is_greedy single × (behind ≡ codes ")" ++ (codes "(?:" ++ rest))
segments_read end is_greedy text rest inner single behind begins e reads =
    let found = segments_run end is_greedy text rest inner begins e in
    let same = reads end is_greedy found.0 (codes ")" ++ (codes "(?:" ++ rest)) found.1 found.2 in
    (subst (IsRunStep end is_greedy) (sym same.0) found.1, same.1)

-- The body of a repeated run.
pub repeated_run_in : (step : Step) (text rest inner : List ℕ) (repeated : RepeatedRun step text rest) → text ≡ codes "?:" ++ inner
    → BeginsWithCaptured inner repeated.run (codes ")" ++ (group_quantifier_text repeated.times ++ rest))
repeated_run_in step text rest inner repeated e =
    let opened = repeated.opened in
    let same : repeated.inner ≡ inner = cc in
    subst (λ t. BeginsWithCaptured t repeated.run (codes ")" ++ (group_quantifier_text repeated.times ++ rest))) same repeated.begins

pub repeated_read : (step : Step) (text rest inner : List ℕ) (repeated : RepeatedRun step text rest) (single : Step) (behind : List ℕ) → text ≡ codes "?:" ++ inner → ReadsRun inner single behind
    → IsRunStep repeated.end repeated.is_greedy single × (behind ≡ codes ")" ++ (group_quantifier_text repeated.times ++ rest))
repeated_read step text rest inner repeated single behind e reads =
    let same = reads repeated.end repeated.is_greedy repeated.run (codes ")" ++ (group_quantifier_text repeated.times ++ rest)) repeated.is_run (repeated_run_in step text rest inner repeated e) in
    (subst (IsRunStep repeated.end repeated.is_greedy) (sym same.0) repeated.is_run, same.1)

pub repeated_times : (step : Step) (text rest : List ℕ) (repeated : RepeatedRun step text rest) (behind remaining left : List ℕ) (times : GroupQuantifier) → behind ≡ codes ")" ++ (group_quantifier_text repeated.times ++ rest)
    → behind ≡ codes ")" ++ remaining → remaining ≡ group_quantifier_text times ++ left → (times ≡ often.Once → IsUnquantified left) → (times ≡ repeated.times) × (left ≡ rest)
repeated_times step text rest repeated behind remaining left times e f g longest =
    let same : remaining ≡ group_quantifier_text repeated.times ++ rest = cc in
    times_one times repeated.times left rest (sym g ∙ same) longest
    (λ once. absurd (repeated_more repeated.is_greedy repeated.times repeated.may_be_empty repeated.may once))

-- The step of a repeated run, and the rest after its quantifier.
pub repeated_made : (step : Step) (text rest inner : List ℕ) (single : Step) (behind remaining left : List ℕ) (times : GroupQuantifier) (made : Option Step) → BeginsWithCaptured (codes "(" ++ text) step rest → text ≡ codes "?:" ++ inner
    → ReadsRun inner single behind → behind ≡ codes ")" ++ remaining → remaining ≡ group_quantifier_text times ++ left → (times ≡ often.Once → IsUnquantified left) → RepeatsRuns single (quantifier_of times) made
    → (made ≡ Some step) × (left ≡ rest)
repeated_made step text rest inner single behind remaining left times made begins e reads f g longest repeats =
    let repeated = captured_repeated step text rest begins in
    let found = repeated_read step text rest inner repeated single behind e reads in
    let read = repeated_times step text rest repeated behind remaining left times found.1 f g longest in
    let may = subst (λ t. AllowsEmptyRun repeated.is_greedy (quantifier_of t) repeated.may_be_empty) (sym read.0) repeated.may in
    (repeats repeated.end repeated.is_greedy repeated.may_be_empty found.0 may ∙ ap Some (sym repeated.same), read.1)

-- A quantifier does not begin with `(`.
pub times_apart : (times : GroupQuantifier) (rest behind : List ℕ) → ¬ (times ≡ often.Once) → ¬ (group_quantifier_text times ++ rest ≡ codes "(" ++ behind)
times_apart often.Once rest behind more e = more refl
times_apart often.Optional rest behind more e = apart 63 40 rest behind refl e
times_apart often.ZeroOrMore rest behind more e = apart 42 40 rest behind refl e
times_apart often.OneOrMore rest behind more e = apart 43 40 rest behind refl e

-- No group opens after a repeated run.
pub repeated_no_segments : (step : Step) (text rest inner : List ℕ) (single : Step) (behind remaining left : List ℕ) → BeginsWithCaptured text step rest → text ≡ codes "(?:" ++ inner
    → ReadsRun inner single behind → behind ≡ codes ")" ++ remaining → remaining ≡ codes "(?:" ++ left → ⊥
repeated_no_segments step text rest inner single behind remaining left begins e reads f g =
    let repeated = captured_repeated step (codes "?:" ++ inner) rest (subst (λ t. BeginsWithCaptured t step rest) e begins) in
    let same = repeated_read step (codes "?:" ++ inner) rest inner repeated single behind refl reads in
    let same_rest = same.1 in
    let whole : group_quantifier_text repeated.times ++ rest ≡ codes "(?:" ++ left = cc in
    times_apart repeated.times rest (codes "?:" ++ left) (repeated_more repeated.is_greedy repeated.times repeated.may_be_empty repeated.may) whole
