-- An attempt after steps were tried.
use Rattle.std.proofs.Common.{◌≡◌, ℕ, List, [], ◌∷◌, ◌++◌, length, drop, replicate, Option, Some, None, Result, Ok, Err, Bool, true, false, refl, sym, ap, ◌∙◌, subst, append-nil}
use Rattle.std.proofs.lemmas.Bool.{false≢true}
use denote.Text.{Utf8}
use denote.Shadow.{shadow}
use Rattle.std.specs.Borrow.{Bor}
use Rattle.std.specs.Char.{IsScalar, encode_utf8}
use Rattle.std.specs.Prelude.{IfOk}
use Rattle.std.specs.Str.{chars, IsUtf8}
use Rattle.urlpattern_meaning.specs.PartMeaning.{Captures}
use Rattle.urlpattern_syntax.proofs.TextLemmas.{chars-empty}
use Rattle.urlpattern_steps.specs.declared.step.Group.{Group}
use Rattle.urlpattern_steps.specs.declared.step.Step.{Step}
use Rattle.urlpattern_steps.specs.declared.step.Step.TheVariants.{OptionalGroup}
use Rattle.urlpattern_steps.specs.declared.walk.Attempt.{Attempt}
use Rattle.urlpattern_steps.specs.FailedStates.{IsStateOf}
use Rattle.urlpattern_steps.specs.Walk.{captured_prefix, walk}
use Rattle.urlpattern_steps.specs.AddedCaptures.{Extends, MatchesRest, MatchesInTurn, Untouched, with_captures}
use Rattle.urlpattern_steps.proofs.FailedLemmas.{place_within}
use Rattle.urlpattern_steps.proofs.FollowLemmas.{plus, adds_none, end_taken, extends_more, front_shortened, plus_captured, plus_maybe, taken_adds}

-- ---- captures

pub untouched-same : (old : Attempt) → Untouched old old
untouched-same old = record { same = refl; whole = refl }

pub untouched-then : (old now new : Attempt) → Untouched old now → Untouched now new → Untouched old new
untouched-then old now new first second = record { same = second.same ∙ first.same; whole = second.whole ∙ first.whole }

-- Steps that were tried without a match have no captures.
pub follows_none : (old new : Attempt) (does_match : Bool) (found : Option Captures) → does_match ≡ false → MatchesRest old new does_match found → found ≡ None
follows_none old new does_match found missed follows = adds_none old.captures.items new.captures.items does_match found missed follows.adds

-- An attempt stays untouched by steps that were tried without a match.
pub follows_untouched : (old now new : Attempt) (does_match : Bool) (found : Option Captures) → Untouched old now → does_match ≡ false → MatchesRest now new does_match found → Untouched old new
follows_untouched old now new does_match found before missed follows = untouched-then old now new before (record { same = follows.same missed; whole = follows.whole })

-- The whole matches where a part of it that was tried does.
pub follows_taken : (old now new : Attempt) (does_match : Bool) (part whole : Option Captures) → Untouched old now → does_match ≡ true → MatchesRest now new does_match part
    → ((found : Captures) → part ≡ Some found → whole ≡ Some found) → MatchesRest old new true whole
follows_taken old now new does_match part whole before taken follows leads = record {
  adds = taken_adds old.captures.items now.captures.items new.captures.items does_match part whole before.same taken follows.adds leads;
  same = λ e. absurd (false≢true (sym e));
  whole = follows.whole ∙ before.whole;
}

-- The whole does not match where no captures are found.
pub follows_missed : (old now : Attempt) (found : Option Captures) → Untouched old now → found ≡ None → MatchesRest old now false found
follows_missed old now found before none = record { adds = sym (ap (plus old.captures.items) none); same = λ e. before.same; whole = before.whole }

-- The outcome of a call on a part is that of the whole.
pub follows_later : {E : Type 0} (old now new : Attempt) (whole part : Option Captures) (result : Result Bool E) → Untouched old now → whole ≡ part
    → IfOk result (λ does_match. MatchesRest now new does_match part) → IfOk result (λ does_match. MatchesRest old new does_match whole)
follows_later old now new whole part (Ok does_match) before same follows = record {
  adds = follows.adds ∙ ap (λ l. plus l part) before.same ∙ ap (plus old.captures.items) (sym same);
  same = λ e. follows.same e ∙ before.same;
  whole = follows.whole ∙ before.whole;
}
follows_later old now new whole part (Err error) before same follows = tt

-- ---- captures that stay without a match

pub follows_on : (old new : Attempt) (does_match : Bool) (found : Option Captures) → MatchesRest old new does_match found → MatchesInTurn old new does_match found
follows_on old new does_match found follows = record {
  adds = follows.adds;
  more = λ e. ([], follows.same e ∙ sym (append-nil old.captures.items));
  whole = follows.whole;
}

-- A call that adds nothing without a match.
pub call_follows_on : {E : Type 0} (old new : Attempt) (whole part : Option Captures) (result : Result Bool E) → whole ≡ part
    → IfOk result (λ does_match. MatchesRest old new does_match part) → IfOk result (λ does_match. MatchesInTurn old new does_match whole)
call_follows_on old new whole part (Ok does_match) same follows = subst (MatchesInTurn old new does_match) (sym same) (follows_on old new does_match part follows)
call_follows_on old new whole part (Err error) same follows = tt

-- The steps of an optional group have no match, and those after the group are tried.
pub maybe_left : (ignore_case : Bool) → {E : Type 0} (old now added new : Attempt) (group : Group) (others left : List Step) (text : List ℕ) (does_match : Bool) (result : Result Bool E) → does_match ≡ false
    → MatchesRest old now does_match (walk ignore_case others text) → added.captures.items ≡ now.captures.items ++ replicate group.captures None → added.failed ≡ now.failed → left ≡ drop group.steps others
    → IfOk result (λ is_left. MatchesInTurn added new is_left (walk ignore_case left text)) → IfOk result (λ is_left. MatchesInTurn old new is_left (walk ignore_case (OptionalGroup group ∷ others) text))
maybe_left ignore_case old now added new group others left text does_match (Ok is_left) missed follows missing whole passed later =
    let none = follows_none old now does_match (walk ignore_case others text) missed follows in
    let before : added.captures.items ≡ old.captures.items ++ replicate group.captures None = missing ∙ ap (λ l. l ++ replicate group.captures None) (follows.same missed) in
    record {
      adds = later.adds ∙ ap (λ l. plus added.captures.items (walk ignore_case l text)) passed
          ∙ sym (plus_maybe ignore_case old.captures.items now.captures.items added.captures.items group others text none (follows.same missed) missing);
      more = λ e.
          let more = later.more e in
          subst (Extends old.captures.items) (sym more.1) (extends_more old.captures.items added.captures.items more.0 (replicate group.captures None, before));
      whole = later.whole ∙ whole ∙ follows.whole;
    }
maybe_left ignore_case old now added new group others left text does_match (Err error) missed follows missing whole passed later = tt

-- ---- the remaining steps and text

-- With the captures before them, the remaining steps have the same captures in the remaining text
-- as the steps in the whole.
pub record Leaves (ignore_case : Bool) (old now : Attempt) (steps left : List Step) (text rest : List ℕ) : Type 0 where
  pub place : IsStateOf ignore_case now.failed left rest
  pub so_far : with_captures old.captures.items (walk ignore_case steps text) ≡ with_captures now.captures.items (walk ignore_case left rest)
  pub more : Extends old.captures.items now.captures.items
  pub whole : now.failed ≡ old.failed

module _ (ignore_case : Bool) (old now : Attempt) (steps left : List Step) (text rest : List ℕ) (leaves : Leaves ignore_case old now steps left text rest) where
  -- A step matches a prefix of the rest, and may capture it.
  pub leaves_passed : (new : Attempt) (step : Step) (others : List Step) (front remaining : List ℕ) → left ≡ step ∷ others → rest ≡ front ++ remaining
      → with_captures now.captures.items (walk ignore_case (step ∷ others) rest) ≡ with_captures new.captures.items (walk ignore_case others remaining)
      → Extends now.captures.items new.captures.items → new.failed ≡ now.failed → Leaves ignore_case old new steps others text remaining
  leaves_passed new step others front remaining first cut same more whole = record {
    place = place_within ignore_case now.failed new.failed left others rest remaining whole leaves.place (step ∷ [], first) (front, cut);
    so_far = leaves.so_far ∙ ap (λ l. with_captures now.captures.items (walk ignore_case l rest)) first ∙ same;
    more = subst (Extends old.captures.items) (sym more.1) (extends_more old.captures.items now.captures.items more.0 leaves.more);
    whole = whole ∙ leaves.whole;
  }

  -- A step captures a prefix.
  pub leaves_captured : (new : Attempt) (step : Step) (others : List Step) (front : Bor (List ℕ)) (remaining : List ℕ) → left ≡ step ∷ others → rest ≡ chars front.now ++ remaining
      → walk ignore_case (step ∷ others) rest ≡ captured_prefix (walk ignore_case others) (chars front.now) remaining
      → new.captures.items ≡ now.captures.items ++ Some front ∷ [] → new.failed ≡ now.failed → Leaves ignore_case old new steps others text remaining
  leaves_captured new step others front remaining first cut found pushed whole =
      leaves_passed new step others (chars front.now) remaining first cut
      (ap (plus now.captures.items) found ∙ plus_captured now.captures.items front (walk ignore_case others remaining) ∙ ap (λ l. plus l (walk ignore_case others remaining)) (sym pushed))
      (Some front ∷ [], pushed) whole

  -- The rest is not matched.
  pub leaves_missed : walk ignore_case left rest ≡ None → MatchesInTurn old now false (walk ignore_case steps text)
  leaves_missed none = record { adds = sym (leaves.so_far ∙ ap (plus now.captures.items) none); more = λ e. leaves.more; whole = leaves.whole }

  -- No step is left.
  pub leaves_end : (is_empty : Bool) → left ≡ [] → (is_empty ≡ true → rest ≡ []) → (is_empty ≡ false → ¬ (rest ≡ [])) → MatchesInTurn old now is_empty (walk ignore_case steps text)
  leaves_end is_empty none full some = record {
    adds = end_taken ignore_case now.captures.items left rest is_empty is_empty none full some refl ∙ sym leaves.so_far;
    more = λ e. leaves.more;
    whole = leaves.whole;
  }

-- ---- a text that is split

-- The text is split after `front`, and `Holds` is true of the characters that follow.
abbrev pub IsCut : (text front : List ℕ) → (Holds : List ℕ → Type 0) → Type 0
IsCut text front Holds = (rest : List ℕ) × IsUtf8 rest × (text ≡ front ++ rest) × Holds (chars rest)

-- At the end of the text nothing follows.
pub cut_end : (text : List ℕ) (Holds : List ℕ → Type 0) → Holds [] → IsCut text text Holds
cut_end text Holds holds = ([], ([], (refl, refl)), sym (append-nil text), subst Holds (sym (chars-empty [] refl)) holds)

-- The last character of a prefix is moved to the rest.
pub cut_sooner : (text front shorter rest : List ℕ) (c : ℕ) (Holds : List ℕ → Type 0) → IsScalar c → IsUtf8 rest → text ≡ front ++ rest → front ≡ shorter ++ encode_utf8 c
    → Holds (chars (encode_utf8 c ++ rest)) → IsCut text shorter Holds
cut_sooner text front shorter rest c Holds scalar u e f holds =
    let cut = front_shortened text front shorter rest c scalar u e f in
    (encode_utf8 c ++ rest, cut.0, cut.1, holds)

-- The rest after an empty prefix is the whole text.
pub cut_whole : (text front rest : List ℕ) (Holds : (front text : List ℕ) → Type 0) → text ≡ front ++ rest → front ≡ [] → Holds (chars front) (chars rest) → Holds [] (chars text)
cut_whole text front rest Holds e empty holds =
    subst (λ f. Holds f (chars text)) (chars-empty front (ap length empty))
    (subst (λ t. Holds (chars front) (chars t)) (sym (e ∙ ap (λ f. f ++ rest) empty)) holds)

-- Prefixes of the text are tried in turn: nothing was captured so far, and `Holds` is true of the
-- characters after the prefix.
pub record Tries (old now : Attempt) (text front : List ℕ) (Holds : List ℕ → Type 0) : Type 0 where
  pub is_text : shadow (Utf8 front)
  pub so_far : IsCut text front Holds
  pub before : Untouched old now
