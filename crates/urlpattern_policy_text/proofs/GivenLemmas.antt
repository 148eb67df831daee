-- Lemmas on patterns as JSON has them.
use Rattle.std.proofs.Common.{◌≡◌, ℕ, List, Ok, Err, Option, None, Some, Result, inr, option_map, refl, string_bytes}
use Rattle.std.specs.Prelude.{IfErr, IfOk, String}
use Rattle.std.specs.Str.{chars}
use Rattle.std.specs.declared.alloc.Global.{Global}
use Rattle.urlpattern_components.specs.Eight.{at, each}
use Rattle.urlpattern_diagnosis.specs.declared.diagnosis.Diagnosis.{Diagnosis}
use Rattle.urlpattern_init.specs.Inheritance.{values_of}
use Rattle.urlpattern_init.specs.declared.init.UrlPatternInit.{UrlPatternInit}
use Rattle.urlpattern_inputs.specs.InputValues.{InitView, init_view, of_init, plain_init_texts}
use Rattle.urlpattern_inputs.specs.declared.init.UrlPatternInit.{UrlPatternInit as PlainInit}
use Rattle.urlpattern_matcher.specs.declared.regexp.RegExp.{Ghosts as Engine}
use Rattle.urlpattern_pattern.specs.UrlPatterns.{UrlPattern}
use Rattle.urlpattern_policy_text.specs.PolicyJson.{IsGivenCompiled, IsGivenRejected, IsInitUnder, IsMadeCompiled, IsMadeRejected}
use Rattle.urlpattern_syntax.specs.Text.{text_of}

chars_of : (text : Option (String Global)) → option_map text_of text ≡ option_map chars (option_map string_bytes text)
chars_of None = refl
chars_of (Some text) = refl

-- The values of an init, by its view.
pub values_by_view : (init : PlainInit) → values_of (plain_init_texts init) ≡ each (λ name. option_map chars (at (init_view init).texts name))
values_by_view init =
    rw (chars_of init.protocol, chars_of init.username, chars_of init.password, chars_of init.hostname, chars_of init.port, chars_of init.pathname, chars_of init.search, chars_of init.hash) refl

module _ {E M : Type 0} (engine : Engine E) (base : Option (List ℕ)) (init : InitView) (made : UrlPatternInit) where
  -- What is compiled of an init is compiled of what is given.
  pub given_compiled : (result : Result (Result (UrlPattern E) Diagnosis) M) → IsInitUnder base init made → IfOk result (λ it. IfOk it (IsMadeCompiled engine made)) → IfOk result (λ it. IfOk it (IsGivenCompiled engine base (of_init init)))
  given_compiled (Ok (Ok pattern)) is compiled = (made, is, compiled)
  given_compiled (Ok (Err diagnosis)) is compiled = tt
  given_compiled (Err memory) is compiled = tt

  pub given_rejected : (result : Result (Result (UrlPattern E) Diagnosis) M) → IsInitUnder base init made → IfOk result (λ it. IfErr it (IsMadeRejected engine made)) → IfOk result (λ it. IfErr it (IsGivenRejected engine base (of_init init)))
  given_rejected (Ok (Ok pattern)) is rejected = tt
  given_rejected (Ok (Err diagnosis)) is rejected = inr (made, is, rejected)
  given_rejected (Err memory) is rejected = tt
