-- Lemmas on decisions.
use Rattle.std.proofs.Common.{◌≡◌, ℕ, Bool, true, false, List, Option, Some, Ok, Err, MatchBool, refl, ap, ◌∙◌, slice_get}
use Rattle.std.specs.Map.{values_of}
use Rattle.std.specs.Bool.{OnFalse, OnTrue}
use mathlib.Core.Logic.{inl, inr}
use Rattle.url.specs.Parser.{Parsed}
use Rattle.url.specs.declared.error.ParseError.{ParseError}
use Rattle.urlpattern.specs.FirstMatch.{IsFirstCaptured, IsFirstMatchOf}
use Rattle.std.specs.Borrow.{Bor}
use Rattle.urlpattern.specs.PatternMaps.{entry_patterns, HasValueAt, without_value}
use Rattle.urlpattern_matches.specs.BorrowedMatches.{pattern_captures_view}
use Rattle.urlpattern_matches.specs.declared.captures.UrlPatternCaptures.{UrlPatternCaptures}
use Rattle.urlpattern_canonical.specs.Canonical.{Reports}
use Rattle.urlpattern_components.specs.Eight.{Texts}
use Rattle.urlpattern_meaning.specs.PartMeaning.{Captures}
use Rattle.urlpattern_matches.specs.ResultViews.{ResultView}
use Rattle.urlpattern_components.specs.declared.eight.ComponentName.{ComponentName}
use Rattle.urlpattern_policy.proofs.SpellingLaws.{plain_texts-kept}
use Rattle.urlpattern_policy.specs.Decisions.{DecidesParsed, IsFirstRule, IsHostRefusal, IsRefusal, Rules, matched_texts}
use Rattle.urlpattern_policy.specs.Spellings.{ArePlain, plain_texts}
use Rattle.urlpattern_policy.specs.declared.decision.Decision.{Decision}
use Rattle.urlpattern_policy.specs.declared.decision.Decision.TheVariants.{Deny}
use Rattle.urlpattern_policy.specs.declared.decision.DenyReason.{DenyReason}
use Rattle.urlpattern_policy.specs.declared.decision.DenyReason.TheVariants as reasons
use Rattle.urlpattern_differences.specs.declared.rules.Effect.{Effect}
use Rattle.urlpattern_policy.specs.declared.policy.PolicyOptions.{PolicyOptions}
use Rattle.urlpattern_syntax.specs.Errors.{MemoryOr}
use Rattle.urlpattern_syntax.specs.declared.error.Error.{Error}

pub at_true : (b : Bool) (P Q : Type 0) → b ≡ true → P → MatchBool b P Q
at_true true P Q is p = p
at_true false P Q is p = absurd cc

pub at_false : (b : Bool) (P Q : Type 0) → b ≡ false → Q → MatchBool b P Q
at_false true P Q is q = absurd cc
at_false false P Q is q = q

-- The first match of the patterns is by the first rule, which has the value that a map has there.
pub first_rule : {E : Type 0} → (answer : E → List ℕ → Option Captures) (rules : Rules E) (texts : Texts) (index : ℕ) (view : ComponentName → ResultView) (effect wanted : Effect) → IsFirstMatchOf answer (entry_patterns rules) texts (Some (index, view)) → slice_get (values_of rules) index ≡ Some effect → effect ≡ wanted → IsFirstRule answer rules texts index wanted
first_rule answer rules texts index view effect wanted found value is = record {
  decides = value ∙ ap (λ it. Some it) is;
  matches = (found.0.0, found.0.1, λ name. (found.0.2.captures name, found.0.2.are_answers name));
  first = found.1;
}

pub found_rule : {E : Type 0} → (answer : E → List ℕ → Option Captures) (rules : Rules E) (texts : Texts) (found : Option (ℕ × Bor Effect × UrlPatternCaptures)) (index : ℕ) (effect : Bor Effect) (captures : UrlPatternCaptures) (wanted : Effect) → found ≡ Some (index, effect, captures) → IsFirstCaptured answer (entry_patterns rules) texts (without_value found) → HasValueAt rules found → effect.now ≡ wanted → IsFirstRule answer rules texts index wanted
found_rule answer rules texts found index effect captures wanted is first value same =
    first_rule answer rules texts index (pattern_captures_view captures) effect.now wanted (rw is at first) (rw is at value) same

-- What is rejected before any rule is asked is denied.
pub rejected_is_denied : {T : Type 0} → (Decides : T → Decision → Type 0) (parsed : Parsed T) (reason : DenyReason) → IsRefusal parsed reason → DecidesParsed Decides parsed (Deny reason)
rejected_is_denied Decides (Ok value) reason (inl memory) = inr (ap (λ it. Deny it) memory)
rejected_is_denied Decides (Ok value) reason (inr other) = absurd (cc other.1)
rejected_is_denied Decides (Err error) reason (inl memory) = inr (ap (λ it. Deny it) memory)
rejected_is_denied Decides (Err error) reason (inr other) =
    let same : other.0 ≡ error = cc other.1 in
    inl (ap (λ it. Deny it) (other.2 ∙ ap (λ it. reasons.NotAUrl it) same))

-- What is denied for an error of `url` for a host is denied for the host.
pub refused_host : (asked : Parsed (List ℕ)) (bytes : ℕ) (error : ParseError) (reason : DenyReason) → MemoryOr (Reports asked bytes) (Error.Url error) → IsHostRefusal error reason → IsRefusal asked reason
refused_host asked bytes error reason (inl memory) refusal = absurd (cc memory)
refused_host asked bytes error reason (inr reports) (inl memory) = inl memory
refused_host asked bytes error reason (inr reports) (inr other) =
    elim reports.1 [ inl is ↦ inr (error, is, other.1) | inr long ↦ absurd (other.0 long.0) ]

-- ---- spelling

pub kept_unspelled : (options : PolicyOptions) (texts : Texts) → options.plain_spelling ≡ false → matched_texts options texts ≡ texts
kept_unspelled options texts is = rw is refl

pub respelled : (options : PolicyOptions) (texts : Texts) → options.plain_spelling ≡ true → matched_texts options texts ≡ plain_texts texts
respelled options texts is = rw is refl

pub kept_plain : (options : PolicyOptions) (texts : Texts) → options.plain_spelling ≡ true → ArePlain texts → matched_texts options texts ≡ texts
kept_plain options texts is are = respelled options texts is ∙ plain_texts-kept texts are

-- ---- facts for one value of a Bool

pub on_true : (b : Bool) (P : Type 0) → b ≡ true → OnTrue b P → P
on_true true P is p = p
on_true false P is p = absurd cc

pub on_false : (b : Bool) (P : Type 0) → b ≡ false → OnFalse b P → P
on_false true P is p = absurd cc
on_false false P is p = p

pub on_true_from : (b : Bool) (P : Type 0) → (b ≡ true → P) → OnTrue b P
on_true_from true P p = p refl
on_true_from false P p = tt

pub on_false_from : (b : Bool) (P : Type 0) → (b ≡ false → P) → OnFalse b P
on_false_from true P p = tt
on_false_from false P p = p refl

-- A test that is false of what would make it true.
pub not_both : (b : Bool) → b ≡ true → b ≡ false → ⊥
not_both b is not_so = cc
