-- The values of an init, given and processed, one component at a time.
use Rattle.std.specs.Prelude.{◌≡◌, ◌≢◌, ℕ, List, [], length, max, Option, Result, String, Ok, option_copied, option_map, unwrap_or, IfErr, IfOk}
use Rattle.std.specs.{Borrow.Bor, Option.option_or}
use Rattle.std.specs.declared.alloc.Global.{Global}
use Rattle.url.specs.Parser.{Parsed}
use Rattle.urlpattern_canonical.specs.Canonical.{IsResult, Reports, bytes_passed}
use Rattle.urlpattern_init.specs.declared.init.processing.Processing.{Processing}
use Rattle.urlpattern_init.specs.Inheritance.{bytes_of, given_bytes, given_text, inherited, longest_init_bytes, init_values, missing, processed_text, processed_value, values_view}
use Rattle.urlpattern_components.specs.declared.eight.ComponentName.{ComponentName}
use Rattle.urlpattern_components.specs.Eight.{Values}
use Rattle.urlpattern_syntax.specs.Errors.{MemoryOr}
use Rattle.urlpattern_syntax.specs.declared.error.Error.{Error}
use Rattle.urlpattern_syntax.specs.Text.{byte_len, option_text, text_of}

-- The texts of the init's components, before they are processed.
abbrev pub given_values : Processing → Values
given_values processing = values_view processing.init.now

-- The processed value of a component of the init, or its error, where `protocol` is the processed
-- value of the protocol.
abbrev pub value_in : Processing → (protocol : Option (List ℕ)) → ComponentName
    → Parsed (Option (List ℕ))
value_in processing protocol component =
    processed_value processing.kind.now (given_values processing) processing.init.now.base_url
    protocol component

-- The processed values of the init, or the first error.
abbrev pub values_in : Processing → Parsed Values
values_in processing = init_values processing.kind.now processing.init.now

-- The length in bytes of the longest text of the init that `url` receives; 0 for a pattern.
abbrev pub bytes_in : Processing → ℕ
bytes_in processing = longest_init_bytes processing.kind.now processing.init.now

-- The length in bytes of the longest text that `url` receives for one component, where the
-- processed protocol has `protocol_bytes` bytes; 0 for a pattern.
abbrev pub component_bytes : Processing → (protocol_bytes : ℕ) → ComponentName → ℕ
component_bytes processing protocol_bytes component =
    bytes_passed processing.kind.now
    (max protocol_bytes (given_bytes processing.kind.now (given_values processing)
    processing.init.now.base_url component))

-- The text that is processed for `text`, the text of a component in the init: a relative pathname
-- after the base URL's path up to its last slash, unless that path is opaque; any other text
-- unchanged.
abbrev pub given_in : Processing → ComponentName → List ℕ → List ℕ
given_in processing component text =
    given_text processing.kind.now processing.init.now.base_url component text

-- The processed value of `text`, the text of a component in the init, or its error. `protocol` is
-- the processed value of the protocol.
abbrev pub text_value_in : Processing → (protocol : Option (List ℕ)) → ComponentName → List ℕ
    → Parsed (List ℕ)
text_value_in processing protocol component text =
    processed_text processing.kind.now protocol component (given_in processing component text)

-- The length in bytes of an optional text; 0 for None.
abbrev pub optional_bytes : Option (Bor (List ℕ)) → ℕ
optional_bytes text = length (unwrap_or (option_copied text) [])

-- `result` is the processed value of `text`, the text of a component in the init, under `protocol`;
-- or the error of `url` for it, or out of memory.
abbrev pub IsTextResult : Processing → (protocol : Option (Bor (List ℕ))) → ComponentName → List ℕ
    → Result (String Global) Error → Type 0
IsTextResult processing protocol component text result =
    IsResult (text_value_in processing (option_text protocol) component text)
    (bytes_passed processing.kind.now
    (max (optional_bytes protocol) (byte_len (given_in processing component text)))) result

-- `result` is the processed value of the pathname `text` of the init under `protocol`; or the error
-- of `url` for it, or out of memory. Whether the text may be too long for `url` depends on the
-- length of the pathname, and not of `protocol`.
abbrev pub IsGivenPathnameResult : Processing → (protocol : Option (Bor (List ℕ))) → List ℕ
    → Result (String Global) Error → Type 0
IsGivenPathnameResult processing protocol text result =
    IsResult (text_value_in processing (option_text protocol) ComponentName.Pathname text)
    (bytes_passed processing.kind.now (byte_len (given_in processing ComponentName.Pathname text)))
    result

-- The value of a component that the init lacks: inherited, or else None in a pattern and empty in a
-- URL.
abbrev pub lacking_in : Processing → ComponentName → Option (List ℕ)
lacking_in processing component =
    option_or (inherited processing.kind.now (given_values processing) processing.init.now.base_url
    component) (missing processing.kind.now)

-- `url` rejects the component of the init with this error under `protocol`, the processed protocol,
-- of `protocol_bytes` bytes, or the error is `OutOfMemory`.
abbrev pub IsFailureIn : Processing → (protocol : Option (List ℕ)) → (protocol_bytes : ℕ)
    → ComponentName → Error → Type 0
IsFailureIn processing protocol protocol_bytes component =
    MemoryOr (Reports (value_in processing protocol component)
    (component_bytes processing protocol_bytes component))

-- `result` is the processed value of `component` under `protocol`, or its error. For the protocol
-- itself it may be any value.
pub record IsValueUnlessProtocol (processing : Processing) (protocol : Option (List ℕ))
    (component : ComponentName) (result : Result (Option (String Global)) Error) : Type 0 where
  pub ok : IfOk result (λ value.
      component ≢ ComponentName.Protocol
      → value_in processing protocol component ≡ Ok (option_map text_of value))
  pub err : IfErr result (IsFailureIn processing protocol (bytes_of protocol) component)
