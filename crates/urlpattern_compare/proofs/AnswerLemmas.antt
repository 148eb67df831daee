-- Whether parts tell which texts they match, and what their automata accept.
use Rattle.std.proofs.Common.{◌≡◌, ◌↔◌, Bool, true, false, List, sym, subst, ◌∙◌, inl, inr, true≢false, Option, Some, None, Result, Ok, Err, IfOk, IfSome, IfNone, IsTrue}
use Rattle.std.specs.declared.alloc.{AllocError.AllocError}
use Rattle.urlpattern_compare.specs.Answers.{AcceptsMeaning, IsByCase, AreKnown, AreUnknownBy}
use Rattle.urlpattern_compare.specs.Automata.{IsWithin}
use Rattle.urlpattern_compare.specs.Making.{IsMadeOf}
use Rattle.urlpattern_compare.specs.declared.coverage.Reason.{Reason}
use Rattle.urlpattern_compare.specs.declared.coverage.Reason.TheVariants as reasons
use Rattle.urlpattern_compare.specs.declared.parts_automaton.PartsAutomaton.{PartsAutomaton}
use Rattle.urlpattern_compare.proofs.PartsRead.{made_within, meaning_accepted}
use Rattle.urlpattern_expressions.proofs.SimpleLemmas.{generated_simple}
use Rattle.urlpattern_expressions.specs.SimpleExpressions.{AreSimple}
use Rattle.urlpattern_meaning.specs.PartMeaning.{AreGenerated}
use Rattle.urlpattern_syntax.specs.{Options.OptionsView, Parts.PartView}

-- ---- parts

-- Parts of which none is custom tell.
pub generated_known : (options : OptionsView) (parts : List PartView) → AreGenerated parts → AreKnown options parts
generated_known options parts are = record { simple = generated_simple parts are; by_case = inr are }

-- Where case is ignored, parts that tell have no custom part among them.
pub known_generated : (options : OptionsView) (parts : List PartView) → AreKnown options parts → options.ignore_case ≡ true → AreGenerated parts
known_generated options parts told ignored = elim told.by_case [
  | inl kept ↦ absurd (true≢false (sym ignored ∙ kept))
  | inr generated ↦ generated
]

-- ---- reasons

-- What is known of a value that is `Some`, or of `None`.
pub in_some : {X : Type 0} (P : X → Type 0) (found : Option X) (x : X) → found ≡ Some x → IfSome found P → P x
in_some P found x e is = subst (λ it. IfSome it P) e is

pub in_none : {X : Type 0} (P : Type 0) (found : Option X) → found ≡ None → IfNone found P → P
in_none P found e is = subst (λ it. IfNone it P) e is

-- Why parts do not tell where case is ignored.
pub ignored_known : (options : OptionsView) (parts : List PartView) (found : Option Reason) → IfNone found (AreGenerated parts) → IfNone found (AreKnown options parts)
ignored_known options parts None are = generated_known options parts are
ignored_known options parts (Some reason) are = tt

pub ignored_reason : (options : OptionsView) (parts : List PartView) (found : Option Reason) → options.ignore_case ≡ true → IfSome found (λ reason. (¬ AreGenerated parts) × (reason ≡ reasons.IgnoredCase)) → IfSome found (AreUnknownBy options parts)
ignored_reason options parts None ignored is = tt
ignored_reason options parts (Some reason) ignored (custom, e) = subst (AreUnknownBy options parts) (sym e) (custom, ignored)

-- Why parts do not tell where case is kept.
pub kept_known : (options : OptionsView) (parts : List PartView) (simple : Bool) (found : Option Reason) → options.ignore_case ≡ false → IsTrue simple ↔ AreSimple parts → IfNone found (IsTrue simple) → IfNone found (AreKnown options parts)
kept_known options parts simple None kept same is = record { simple = same.0 is; by_case = inl kept }
kept_known options parts simple (Some reason) kept same is = tt

pub kept_reason : (options : OptionsView) (parts : List PartView) (simple : Bool) (found : Option Reason) → options.ignore_case ≡ false → IsTrue simple ↔ AreSimple parts → IfSome found (λ reason. (simple ≡ false) × (reason ≡ reasons.CustomExpression)) →
    IfSome found (AreUnknownBy options parts)
kept_reason options parts simple None kept same is = tt
kept_reason options parts simple (Some reason) kept same (complex, e) = subst (AreUnknownBy options parts) (sym e) ((λ are. true≢false (sym (same.1 are) ∙ complex)), kept)

-- ---- automata

pub all_within : (options : OptionsView) (parts : List PartView) (result : Result (Option PartsAutomaton) AllocError) →
    IfOk result (λ found. IfSome found (IsMadeOf options parts)) → IfOk result (λ found. IfSome found IsWithin)
all_within options parts (Err e) is = is
all_within options parts (Ok None) is = is
all_within options parts (Ok (Some automaton)) is = made_within options parts automaton is

pub made_accepts : (options : OptionsView) (parts : List PartView) (result : Result (Option PartsAutomaton) AllocError) → IsByCase options parts →
    IfOk result (λ found. IfSome found (IsMadeOf options parts)) → IfOk result (λ found. IfSome found (AcceptsMeaning options parts))
made_accepts options parts (Err e) by is = is
made_accepts options parts (Ok None) by is = is
made_accepts options parts (Ok (Some automaton)) by is = meaning_accepted options parts automaton by is
