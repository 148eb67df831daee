-- Lemmas on canonical values: a value is set on a URL and read back.
use Rattle.std.proofs.Common.{◌≡◌, ◌≢◌, ℕ, false, true, ◌==◌, List, [], length, max, Ok, Err, String, string_bytes, subst, refl, sym, ap, ◌∙◌}
use Rattle.std.proofs.lemmas.Str.{encodes-chars}
use Rattle.std.specs.Prelude.{Bool, encode_utf8_all, unwrap_or, IsErrAnd, Option, Result}
use Rattle.std.specs.Borrow.{Bor}
use Rattle.std.specs.Str.{chars, IsUtf8}
use Rattle.std.specs.declared.alloc.Global.{Global}
use Rattle.url.specs.declared.error.ParseError.{ParseError}
use Rattle.url.specs.declared.error.ParseError.TheVariants.{OutOfMemory}
use Rattle.url.specs.Parser.{GivesBy, Parsed}
use Rattle.url.specs.Parts.{Parts}
use Rattle.urlpattern_canonical.proofs.CanonicalLemmas.{after-err, after-ok, canonical-empty, canonical-err, canonical-ok, is_empty-false, is_empty-true, reports-through, reported-err, reported-ok, rejected_as-err, rejected_as-ok, unwrap_or-text, unwrapped-copied}
use Rattle.urlpattern_canonical.specs.RejectedAs.{IsRejectedAs}
use Rattle.urlpattern_canonical.specs.Canonical.{IsResult, IsReported, Reports, get_after_set, canonical, canonical_port, port_bytes, port_of, scheme_for_port, rejected_as}
use Rattle.urlpattern_syntax.specs.declared.error.Error.{Error}
use Rattle.urlpattern_syntax.specs.Errors.{MemoryOr}
use Rattle.urlpattern_syntax.specs.Text.{option_text, text_of}

-- ---- any result of `url`

-- The empty text is its own canonical value.
pub empty_answered : (ask : List ℕ → Parsed (List ℕ)) (value : List ℕ) {tested : Bool} (string : String Global) → tested ≡ (length value == 0)
    → tested ≡ true → string_bytes string ≡ [] → canonical ask (chars value) ≡ Ok (text_of string)
empty_answered ask value {tested} string is_tested none empty =
    canonical-empty ask value string (is_empty-true value tested is_tested none) empty

-- The canonical value of a text that is not empty.
pub answered : (ask : List ℕ → Parsed (List ℕ)) (value : List ℕ) {tested : Bool} (answer : List ℕ) (string : String Global) → IsUtf8 value
    → tested ≡ (length value == 0) → tested ≡ false → ask value ≡ Ok answer → string_bytes string ≡ answer
    → canonical ask (chars value) ≡ Ok (text_of string)
answered ask value {tested} answer string u is_tested some asked is_answer =
    canonical-ok ask value answer string u (is_empty-false value tested is_tested some) asked is_answer

-- An error that is passed on.
handed_on : (asked : Parsed (List ℕ)) (bytes : ℕ) (result : Result (String Global) Error) (error : Error) → IsErrAnd result (λ e. e ≡ error)
    → MemoryOr (Reports asked bytes) error → IsResult asked bytes result
handed_on asked bytes (Ok text) error was reported = absurd was
handed_on asked bytes (Err e) error was reported = subst (MemoryOr (Reports asked bytes)) (sym was) reported

-- An error of a step is the error of the call.
pub refused : {T : Type 0} (ask : List ℕ → Parsed (List ℕ)) (asked : Parsed T) (value : List ℕ) {tested : Bool} (bytes : ℕ)
    (result : Result (String Global) Error) (error : Error) → IsUtf8 value → tested ≡ (length value == 0) → tested ≡ false
    → ((reason : ParseError) → asked ≡ Err reason → ask value ≡ Err reason) → MemoryOr (Reports asked bytes) error
    → IsErrAnd result (λ e. e ≡ error) → IsResult (canonical ask (chars value)) bytes result
refused ask asked value {tested} bytes result error u is_tested some step reported was =
    handed_on (canonical ask (chars value)) bytes result error was
    (reports-through asked (canonical ask (chars value)) bytes error
    (λ reason no. canonical-err ask value reason u (is_empty-false value tested is_tested some) (step reason no)) reported)

-- ---- a value that is set

module _ {T : Type 0} (url : Parsed Parts) (set : List ℕ → Parts → Parsed Parts) (get : Parts → List ℕ) (value : List ℕ) {tested : Bool}
    {old : Parts} (new : Parts) (answer : Parsed T) (reported : Result T Error) where
  pub set-answered : {found : T} (string : String Global) → IsUtf8 value → tested ≡ (length value == 0) → tested ≡ false → url ≡ Ok old
      → GivesBy (λ _. new) answer (set value old) → IsReported answer (length value) reported → reported ≡ Ok found → string_bytes string ≡ get new
      → canonical (λ bytes. get_after_set url (set bytes) get) (chars value) ≡ Ok (text_of string)
  set-answered {found} string u is_tested some is_old gives is_reported was is_new =
      answered (λ bytes. get_after_set url (set bytes) get) value (get new) string u is_tested some
      (after-ok url (set value) get old new is_old
      (reported-ok (λ _. new) answer (set value old) (length value) reported found gives is_reported was)) is_new

  pub set-refused : (result : Result (String Global) Error) (error : Error) → IsUtf8 value → tested ≡ (length value == 0) → tested ≡ false
      → url ≡ Ok old → GivesBy (λ _. new) answer (set value old) → IsReported answer (length value) reported → reported ≡ Err error
      → IsErrAnd result (λ e. e ≡ error) → IsResult (canonical (λ bytes. get_after_set url (set bytes) get) (chars value)) (length value) result
  set-refused result error u is_tested some is_old gives is_reported failed was =
      let ask : List ℕ → Parsed (List ℕ) = λ bytes. get_after_set url (set bytes) get in
      handed_on (canonical ask (chars value)) (length value) result error was
      (reported-err (λ _. new) answer (set value old) (canonical ask (chars value)) (length value) reported error gives is_reported failed
      (λ reason no. canonical-err ask value reason u (is_empty-false value tested is_tested some) (after-err url (set value) get old reason is_old no)))

-- The canonical value with `reason` for each error of setting it.
abbrev pub ask_as : ParseError → Parsed Parts → (List ℕ → Parts → Parsed Parts) → (Parts → List ℕ) → List ℕ → Parsed (List ℕ)
ask_as reason url set get text = get_after_set url (λ start. rejected_as reason (set text start)) get

module _ {T : Type 0} (reason : ParseError) (url : Parsed Parts) (set : List ℕ → Parts → Parsed Parts) (get : Parts → List ℕ) (value : List ℕ)
    {tested : Bool} (bytes : ℕ) {old : Parts} (new : Parts) (answer : Parsed T) (reported : Result T Error) where
  pub set_as-answered : {found : T} (string : String Global) → IsUtf8 value → tested ≡ (length value == 0) → tested ≡ false → url ≡ Ok old
      → GivesBy (λ _. new) answer (set value old) → IsRejectedAs reason answer bytes reported → reported ≡ Ok found → string_bytes string ≡ get new
      → canonical (ask_as reason url set get) (chars value) ≡ Ok (text_of string)
  set_as-answered {found} string u is_tested some is_old gives is_reported was is_new =
      answered (ask_as reason url set get) value (get new) string u is_tested some
      (after-ok url (λ start. rejected_as reason (set value start)) get old new is_old
      (rejected_as-ok (λ _. new) answer (set value old) reason bytes reported found gives is_reported was)) is_new

  pub set_as-refused : (result : Result (String Global) Error) (error : Error) → reason ≢ OutOfMemory → IsUtf8 value
      → tested ≡ (length value == 0) → tested ≡ false → url ≡ Ok old → GivesBy (λ _. new) answer (set value old)
      → IsRejectedAs reason answer bytes reported → reported ≡ Err error → IsErrAnd result (λ e. e ≡ error)
      → IsResult (canonical (ask_as reason url set get) (chars value)) bytes result
  set_as-refused result error proper u is_tested some is_old gives is_reported failed was =
      handed_on (canonical (ask_as reason url set get) (chars value)) bytes result error was
      (rejected_as-err (λ _. new) answer (set value old) (canonical (ask_as reason url set get) (chars value)) reason bytes reported error proper gives is_reported failed
      (λ no. canonical-err (ask_as reason url set get) value reason u (is_empty-false value tested is_tested some)
      (after-err url (λ start. rejected_as reason (set value start)) get old reason is_old no)))

-- ---- the scheme under which a port is set, and the longer of port and protocol

module _ (protocol : Option (Bor (List ℕ))) (given default : Bor (List ℕ)) where
  pub port-scheme : (scheme : List ℕ) → default.now ≡ [] → given ≡ unwrap_or protocol default → chars scheme ≡ scheme_for_port (chars given.now)
      → IsUtf8 scheme → scheme ≡ encode_utf8_all (scheme_for_port (unwrap_or (option_text protocol) []))
  port-scheme scheme empty is_given is_scheme u =
      let found : unwrap_or (option_text protocol) [] ≡ chars given.now
      = unwrap_or-text protocol ∙ ap chars (sym (unwrapped-copied protocol given default _ refl empty is_given))
      in
      sym (ap (λ t. encode_utf8_all (scheme_for_port t)) found ∙ ap encode_utf8_all (sym is_scheme) ∙ encodes-chars scheme u)

  pub port-bytes : (value : List ℕ) (bytes : ℕ) → default.now ≡ [] → given ≡ unwrap_or protocol default → bytes ≡ max (length value) (length given.now)
      → bytes ≡ port_bytes value protocol
  port-bytes value bytes empty is_given is_bytes =
      is_bytes ∙ ap (λ t. max (length value) (length t)) (unwrapped-copied protocol given default _ refl empty is_given)

  -- The result for the port under the scheme is the result under the protocol.
  pub port-answer : (scheme value : List ℕ) (bytes : ℕ) (result : Result (String Global) Error) → default.now ≡ [] → given ≡ unwrap_or protocol default
      → chars scheme ≡ scheme_for_port (chars given.now) → IsUtf8 scheme → bytes ≡ max (length value) (length given.now)
      → IsResult (canonical (port_of scheme) (chars value)) bytes result
      → IsResult (canonical_port (option_text protocol) (chars value)) (port_bytes value protocol) result
  port-answer scheme value bytes result empty is_given is_scheme u is_bytes answer =
      subst (λ s. IsResult (canonical (port_of s) (chars value)) (port_bytes value protocol) result) (port-scheme scheme empty is_given is_scheme u)
      (subst (λ n. IsResult (canonical (port_of scheme) (chars value)) n result) (port-bytes value bytes empty is_given is_bytes) answer)
