-- The matcher of parts that can be read in one way only returns what they capture.
use Rattle.std.proofs.Common.{◌≡◌, ℕ, false, cond, codes, List, [], ◌∷◌, sym, ap, subst, refl, IsTrue, Some, None, Option}
use Rattle.std.proofs.lemmas.Bool.{and_parts}
use Rattle.std.proofs.lemmas.List.Elements.{All-cons, All-nil}
use Rattle.std.specs.Prelude.{◌≢◌}
use Rattle.std.specs.Str.{all_scalars}
use Rattle.url.specs.Ascii.{slash}
use Rattle.urlpattern_matcher.specs.Components.{IsEngineOf, engine_flags}
use Rattle.urlpattern_matcher.specs.declared.regexp.RegExp.{Ghosts as Engine}
use Rattle.urlpattern_meaning.proofs.FirstResults.{of_made}
use Rattle.urlpattern_meaning.proofs.MatcherMeaning.{matcher_agrees}
use Rattle.urlpattern_meaning.specs.FirstResults.{AcceptedText}
use Rattle.urlpattern_meaning.specs.Matching.{Agrees, AgreesInMiddle, IsMadeOf, MatcherView, Returns, ValuesAgreeWithParts}
use Rattle.urlpattern_meaning.specs.PartMeaning.{AreGenerated, Captures}
use Rattle.urlpattern_paths.proofs.PathLaws.{complete, sound}
use Rattle.urlpattern_paths.specs.PathCaptures.{are_read_once, captured, is_read_once}
use Rattle.urlpattern_syntax.specs.Options.{OptionsView}
use Rattle.urlpattern_syntax.specs.Parts.{PartView}
use Rattle.urlpattern_syntax.specs.RegexpText.{regexp_text}
use Rattle.urlpattern_syntax.specs.Text.{lacks, line_feed}
use Rattle.urlpattern_syntax.specs.declared.parser.PartType.{PartType}
use Rattle.urlpattern_syntax.specs.declared.parser.PartType.TheVariants.{Regexp}

no-custom : (kind : PartType) (part : PartView) (parts : List PartView) → IsTrue (is_read_once kind part parts) → kind ≡ Regexp → ⊥
no-custom kind part parts once custom = let never : IsTrue false = subst (λ k. IsTrue (is_read_once k part parts)) custom once in absurd cc

-- None of the parts is custom.
pub once-generated : (parts : List PartView) → IsTrue (are_read_once parts) → AreGenerated parts
once-generated [] once = All-nil (λ part. part.kind ≢ Regexp)
once-generated (part ∷ parts) once =
    let (plain, later) = and_parts _ _ once in
    let (first, others) = and_parts _ _ later in
    All-cons (λ part. part.kind ≢ Regexp) part parts (no-custom part.kind part parts first) (once-generated parts others)

module _ {E : Type 0} (engine : Engine E) (options : OptionsView) (parts : List PartView) (matcher : MatcherView E)
    (made : IsMadeOf (IsEngineOf engine false (engine_flags options)) options parts matcher)
    (kept : options.ignore_case ≡ false) (slashed : options.delimiter ≡ Some slash) (once : IsTrue (are_read_once parts))
    (took : AcceptedText (λ (value : E). ValuesAgreeWithParts engine.IsMade engine.answer) matcher.inner) where
  in_middle : AgreesInMiddle engine.answer options parts matcher.inner
  in_middle =
      of_made (IsEngineOf engine false (engine_flags options)) options
      (λ (value : E) (middle : List PartView). (text : List ℕ) → IsTrue (all_scalars text) → Agrees options middle text (engine.answer value text))
      (λ (value : E). ValuesAgreeWithParts engine.IsMade engine.answer)
      parts matcher made (once-generated parts once) took
      (λ value middle plain of agree text scalars.
      let by_u : engine.IsMade value (regexp_text options middle) (codes "u") =
      subst (engine.IsMade value (regexp_text options middle)) (ap (λ b. cond b (codes "ui") (codes "u")) kept) of in
      agree options middle value plain by_u text)

  -- What the matcher returns for a line is what the parts capture.
  pub returned-is : (text : List ℕ) (result : Option Captures) → IsTrue (lacks line_feed text) → IsTrue (all_scalars text) → Returns engine.answer matcher text result → result ≡ captured parts text
  returned-is text result line scalars returns =
      same result (matcher_agrees engine.answer (IsEngineOf engine false (engine_flags options)) options parts matcher text result made kept line scalars in_middle returns)
    where
      none : (found : Option Captures) → captured parts text ≡ found → ((captures : Captures) → ¬ (captured parts text ≡ Some captures)) → None ≡ captured parts text
      none None is never = sym is
      none (Some captures) is never = absurd (never captures is)

      same : (result : Option Captures) → Agrees options parts text result → result ≡ captured parts text
      same (Some captures) means = sym (complete options slashed parts text captures once means)
      same None never = none (captured parts text) refl (λ captures is. never captures (sound options slashed parts text captures once line is))
