-- Lemmas on canonical values.
use Rattle.std.proofs.Common.{◌≡◌, ◌≢◌, ℕ, Bool, true, false, ◌==◌, ◌≤◌, ◌<◌, ◌⊎◌, List, [], ◌∷◌, ◌++◌, length, length-append, codes, Ok, Err, String, string_bytes, subst, refl, sym, ap, ◌∙◌, arith, inl, inr}
use Rattle.std.proofs.lemmas.Bool.{cases_lt, le-ltb, lt-ltb}
use Rattle.std.proofs.lemmas.Str.{byte_from_char, len_utf8_bounds, length-encode, char_from_byte, chars-nil, encodes-chars}
use Rattle.std.specs.Prelude.{encode_utf8_all, option_copied, slice_index, if◌then◌else◌, unwrap_or, IfErr, IfOk, Option, None, Some, Result}
use Rattle.std.specs.Borrow.{Bor}
use Rattle.std.specs.Char.{encode_utf8}
use Rattle.std.specs.Str.{chars, IsUtf8}
use Rattle.std.specs.declared.alloc.Global.{Global}
use Rattle.url.specs.Ascii.{slash}
use Rattle.url.proofs.OnLiterals.{url_on_literals}
use Rattle.url.specs.declared.error.ParseError.{ParseError}
use Rattle.url.specs.declared.error.ParseError.TheVariants.{Overflow, OutOfMemory}
use Rattle.url.specs.Parser.{Gives, GivesBy, IsOutOfRoom, Parsed, and_then, parse_url}
use Rattle.url.specs.Parts.{Parts}
use Rattle.urlpattern_canonical.specs.RejectedAs.{IsRejectedAs, reported_as}
use Rattle.urlpattern_canonical.specs.Canonical.{IsRejectedByUrl, IsResult, IsReported, Reports, get_after_set, canonical, dummy_url, long_text, path_of, pathname_of, reported_error, scheme_for_port, rejected_as, without_added_prefix}
use Rattle.urlpattern_syntax.proofs.TextLemmas.{chars-empty}
use Rattle.urlpattern_syntax.specs.declared.error.Error.{Error}
use Rattle.urlpattern_syntax.specs.declared.error.Error.TheVariants as errors
use Rattle.urlpattern_syntax.specs.declared.error.ParserError.TheVariants as parser_errors
use Rattle.urlpattern_syntax.specs.Errors.{ErrorView, error_view, ErrorView as views, MemoryOr}
use Rattle.urlpattern_syntax.specs.Text.{begins_with, option_text, text_of}

-- ---- rejections

reported_short : (bytes : ℕ) → bytes < long_text → reported_error Overflow bytes ≡ views.OutOfMemory
reported_short bytes short = ap (λ is_short. if is_short then views.OutOfMemory else views.Url Overflow) (lt-ltb bytes long_text short)

reported_long : (bytes : ℕ) → long_text ≤ bytes → reported_error Overflow bytes ≡ views.Url Overflow
reported_long bytes long = ap (λ is_short. if is_short then views.OutOfMemory else views.Url Overflow) (le-ltb bytes long_text long)

overflow_is_not_out_of_memory : Overflow ≢ OutOfMemory
overflow_is_not_out_of_memory same = cc

-- An overflow is out of memory, or an error of any value of this length.
overflow_reports : {T : Type 0} (whole : Parsed T) (bytes : ℕ) (error : Error) → error_view error ≡ reported_error Overflow bytes → MemoryOr (Reports whole bytes) error
overflow_reports whole bytes error is =
    let Holds : ErrorView → Type 0 = λ view. Reports whole bytes view in
    elim (cases_lt bytes long_text) [
      | inl short ↦ inl (is ∙ reported_short bytes short)
      | inr long ↦ inr (subst Holds (sym (is ∙ reported_long bytes long)) (overflow_is_not_out_of_memory, inr (refl, long)))
    ]

-- An error other than an overflow and out of memory is that of the value.
refused_by : {T : Type 0} (asked : Parsed T) (reason : ParseError) → reason ≢ OutOfMemory → reason ≢ Overflow
    → (asked ≡ Err reason) ⊎ IsOutOfRoom reason → asked ≡ Err reason
refused_by asked reason is_other is_no_overflow gives =
    elim gives [
      | inl refused ↦ refused
      | inr room ↦ elim room [ inl memory ↦ absurd (is_other memory) | inr long ↦ absurd (is_no_overflow long) ]
    ]

url_reports : {T : Type 0} (whole : Parsed T) (reason : ParseError) (bytes : ℕ) (error : Error) → reason ≢ OutOfMemory → whole ≡ Err reason
    → error_view error ≡ views.Url reason → MemoryOr (Reports whole bytes) error
url_reports whole reason bytes error is_other refused is =
    let Holds : ErrorView → Type 0 = λ view. Reports whole bytes view in inr (subst Holds (sym is) (is_other, inl refused))

-- An error of a step is an error of the whole.
reports : {T U : Type 0} (asked : Parsed T) (whole : Parsed U) (reason : ParseError) (bytes : ℕ) (error : Error)
    → (asked ≡ Err reason → whole ≡ Err reason) → (asked ≡ Err reason) ⊎ IsOutOfRoom reason → error_view error ≡ reported_error reason bytes
    → MemoryOr (Reports whole bytes) error
reports asked whole OutOfMemory bytes error step gives is = inl is
reports asked whole Overflow bytes error step gives is = overflow_reports whole bytes error is
reports asked whole reason bytes error step gives is =
    url_reports whole reason bytes error (λ same. cc) (step (refused_by asked reason (λ same. cc) (λ same. cc) gives)) is

-- An error of a step that is reported as `reason` is an error of the whole.
reports_as : {T U : Type 0} (asked : Parsed T) (whole : Parsed U) (reason other : ParseError) (bytes : ℕ) (error : Error)
    → reason ≢ OutOfMemory → (rejected_as reason asked ≡ Err reason → whole ≡ Err reason) → (asked ≡ Err other) ⊎ IsOutOfRoom other
    → error_view error ≡ reported_as reason other bytes → MemoryOr (Reports whole bytes) error
reports_as asked whole reason OutOfMemory bytes error proper step gives is = inl is
reports_as asked whole reason Overflow bytes error proper step gives is = overflow_reports whole bytes error is
reports_as asked whole reason other bytes error proper step gives is =
    url_reports whole reason bytes error proper
    (step (ap (rejected_as reason) (refused_by asked other (λ same. cc) (λ same. cc) gives))) is

-- A value returned is that of `url`, seen through `view`.
pub reported-ok : {T U : Type 0} (view : T → U) (answer : Parsed T) (asked : Parsed U) (bytes : ℕ) (result : Result T Error) (value : T)
    → GivesBy view answer asked → IsReported answer bytes result → result ≡ Ok value → asked ≡ Ok (view value)
reported-ok view (Ok found) asked bytes result value gives reported was = gives ∙ ap (λ x. Ok (view x)) (let same : found ≡ value = cc in same)
reported-ok view (Err reason) asked bytes result value gives reported was = absurd (rw was at reported)

pub reported-err : {T U V : Type 0} (view : T → U) (answer : Parsed T) (asked : Parsed U) (whole : Parsed V) (bytes : ℕ) (result : Result T Error)
    (error : Error) → GivesBy view answer asked → IsReported answer bytes result → result ≡ Err error
    → ((reason : ParseError) → asked ≡ Err reason → whole ≡ Err reason) → MemoryOr (Reports whole bytes) error
reported-err view (Ok found) asked whole bytes result error gives reported was step = absurd cc
reported-err view (Err reason) asked whole bytes result error gives reported was step =
    reports asked whole reason bytes error (step reason) gives (rw was at reported)

pub rejected_as-ok : {T U : Type 0} (view : T → U) (answer : Parsed T) (asked : Parsed U) (reason : ParseError) (bytes : ℕ) (result : Result T Error)
    (value : T) → GivesBy view answer asked → IsRejectedAs reason answer bytes result → result ≡ Ok value → rejected_as reason asked ≡ Ok (view value)
rejected_as-ok view (Ok found) asked reason bytes result value gives reported was =
    ap (rejected_as reason) gives ∙ ap (λ x. Ok (view x)) (let same : found ≡ value = cc in same)
rejected_as-ok view (Err other) asked reason bytes result value gives reported was = absurd (rw was at reported)

pub rejected_as-err : {T U V : Type 0} (view : T → U) (answer : Parsed T) (asked : Parsed U) (whole : Parsed V) (reason : ParseError) (bytes : ℕ)
    (result : Result T Error) (error : Error) → reason ≢ OutOfMemory → GivesBy view answer asked → IsRejectedAs reason answer bytes result
    → result ≡ Err error → (rejected_as reason asked ≡ Err reason → whole ≡ Err reason) → MemoryOr (Reports whole bytes) error
rejected_as-err view (Ok found) asked whole reason bytes result error proper gives reported was step = absurd cc
rejected_as-err view (Err other) asked whole reason bytes result error proper gives reported was step =
    reports_as asked whole reason other bytes error proper step gives (rw was at reported)

-- An error that a step reports is one that the whole reports.
reports-through_view : {T U : Type 0} (asked : Parsed T) (whole : Parsed U) (bytes : ℕ) (error : ErrorView)
    → ((reason : ParseError) → asked ≡ Err reason → whole ≡ Err reason) → Reports asked bytes error → Reports whole bytes error
reports-through_view asked whole bytes (views.Url reason) step reported =
    (reported.0, elim reported.1 [ inl refused ↦ inl (step reason refused) | inr long ↦ inr long ])
reports-through_view asked whole bytes error step reported = absurd reported

pub reports-through : {T U : Type 0} (asked : Parsed T) (whole : Parsed U) (bytes : ℕ) (error : Error)
    → ((reason : ParseError) → asked ≡ Err reason → whole ≡ Err reason) → MemoryOr (Reports asked bytes) error → MemoryOr (Reports whole bytes) error
reports-through asked whole bytes error step reported =
    elim reported [ inl memory ↦ inl memory | inr refused ↦ inr (reports-through_view asked whole bytes (error_view error) step refused) ]

-- An error for texts of a length is an error for longer texts.
reports-more_view : {T : Type 0} (asked : Parsed T) (few many : ℕ) (error : ErrorView) → few ≤ many → Reports asked few error → Reports asked many error
reports-more_view asked few many (views.Url reason) more reported =
    (reported.0, elim reported.1 [ inl refused ↦ inl refused | inr long ↦ inr (long.0, omega (arith, long.1)) ])
reports-more_view asked few many error more reported = absurd reported

pub reports-more : {T : Type 0} (asked : Parsed T) (few many : ℕ) (error : Error) → few ≤ many → MemoryOr (Reports asked few) error
    → MemoryOr (Reports asked many) error
reports-more asked few many error more reported =
    elim reported [ inl memory ↦ inl memory | inr refused ↦ inr (reports-more_view asked few many (error_view error) more refused) ]

pub answers-more : (asked : Parsed (List ℕ)) (few many : ℕ) (result : Result (String Global) Error) → few ≤ many → IsResult asked few result
    → IsResult asked many result
answers-more asked few many (Ok text) more answer = answer
answers-more asked few many (Err error) more answer = reports-more asked few many error more answer

-- The result of parsing a URL.
pub reported_parse : (answer : Parsed Parts) (asked : Parsed Parts) (bytes : ℕ) (result : Result Parts Error) → Gives answer asked
    → IsReported answer bytes result → IfOk result (λ url. asked ≡ Ok url) × IfErr result (MemoryOr (Reports asked bytes))
reported_parse answer asked bytes (Ok url) gives reported = (reported-ok (λ x. x) answer asked bytes (Ok url) url gives reported refl, tt)
reported_parse answer asked bytes (Err error) gives reported =
    (tt, reported-err (λ x. x) answer asked asked bytes (Err error) error gives reported refl (λ reason e. e))

-- An error of a URL is a rejection by `url`.
pub refused_by_url : {T : Type 0} (asked : Parsed T) (bytes : ℕ) (error : Error) (reason : ParseError) → error ≡ errors.Url reason
    → MemoryOr (Reports asked bytes) error → IsRejectedByUrl asked bytes
refused_by_url asked bytes error reason is reported =
    elim (rw is at reported) [
      | inl memory ↦ absurd cc
      | inr refused ↦ elim refused.1 [
        | inl same ↦ inl (reason, same)
        | inr long ↦ inr long.1
      ]
    ]

-- ---- the steps of a canonical value

pub after-ok : (url : Parsed Parts) (set : Parts → Parsed Parts) (get : Parts → List ℕ) (old new : Parts) → url ≡ Ok old → set old ≡ Ok new
    → get_after_set url set get ≡ Ok (get new)
after-ok url set get old new is_old is_new =
    ap (λ parsed. and_then parsed (λ start. and_then (set start) (λ end. Ok (get end)))) is_old
    ∙ ap (λ parsed. and_then parsed (λ end. Ok (get end))) is_new

pub after-err : (url : Parsed Parts) (set : Parts → Parsed Parts) (get : Parts → List ℕ) (old : Parts) (reason : ParseError) → url ≡ Ok old
    → set old ≡ Err reason → get_after_set url set get ≡ Err reason
after-err url set get old reason is_old refused =
    ap (λ parsed. and_then parsed (λ start. and_then (set start) (λ end. Ok (get end)))) is_old
    ∙ ap (λ parsed. and_then parsed (λ end. Ok (get end))) refused

pub after-refused : (url : Parsed Parts) (set : Parts → Parsed Parts) (get : Parts → List ℕ) (reason : ParseError) → url ≡ Err reason
    → get_after_set url set get ≡ Err reason
after-refused url set get reason refused = ap (λ parsed. and_then parsed (λ start. and_then (set start) (λ end. Ok (get end)))) refused

-- ---- canonical values

canonical_of : (ask : List ℕ → Parsed (List ℕ)) (value text : List ℕ) → encode_utf8_all text ≡ value → ¬ (length value ≡ 0)
    → canonical ask text ≡ and_then (ask value) (λ answer. Ok (chars answer))
canonical_of ask value [] e some = absurd (some (ap length (sym e)))
canonical_of ask value (c ∷ text) e some = ap (λ bytes. and_then (ask bytes) (λ answer. Ok (chars answer))) e

canonical-chars : (ask : List ℕ → Parsed (List ℕ)) (value : List ℕ) → IsUtf8 value → ¬ (length value ≡ 0)
    → canonical ask (chars value) ≡ and_then (ask value) (λ answer. Ok (chars answer))
canonical-chars ask value u some = canonical_of ask value (chars value) (encodes-chars value u) some

-- The empty text is its own canonical value.
pub canonical-empty : (ask : List ℕ → Parsed (List ℕ)) (value : List ℕ) (string : String Global) → length value ≡ 0 → string_bytes string ≡ []
    → canonical ask (chars value) ≡ Ok (text_of string)
canonical-empty ask value string none empty =
    ap (canonical ask) (chars-empty value none) ∙ ap (λ text. Ok text) (sym (ap chars empty ∙ chars-nil))

pub canonical-ok : (ask : List ℕ → Parsed (List ℕ)) (value answer : List ℕ) (string : String Global) → IsUtf8 value → ¬ (length value ≡ 0)
    → ask value ≡ Ok answer → string_bytes string ≡ answer → canonical ask (chars value) ≡ Ok (text_of string)
canonical-ok ask value answer string u some asked is_answer =
    canonical-chars ask value u some ∙ ap (λ parsed. and_then parsed (λ bytes. Ok (chars bytes))) asked
    ∙ ap (λ bytes. Ok (chars bytes)) (sym is_answer)

pub canonical-err : (ask : List ℕ → Parsed (List ℕ)) (value : List ℕ) (reason : ParseError) → IsUtf8 value → ¬ (length value ≡ 0)
    → ask value ≡ Err reason → canonical ask (chars value) ≡ Err reason
canonical-err ask value reason u some refused =
    canonical-chars ask value u some ∙ ap (λ parsed. and_then parsed (λ bytes. Ok (chars bytes))) refused

-- ---- the URLs on which values are set are URLs

pub dummy_is_parsed : (url : Parts) × (dummy_url ≡ Ok url)
unfolding url_on_literals
dummy_is_parsed = (_, refl)

pub opaque_is_parsed : (url : Parts) × (parse_url None (codes "data:dummy,test") ≡ Ok url)
unfolding url_on_literals
opaque_is_parsed = (_, refl)

-- Parsing a short URL that is valid fails only for lack of memory.
pub only_memory : (asked : Parsed Parts) (url : Parts) (bytes : ℕ) (error : Error) → asked ≡ Ok url → bytes < long_text → MemoryOr (Reports asked bytes) error
    → error_view error ≡ views.OutOfMemory
only_memory asked url bytes error is_url few reported =
    elim reported [ inl memory ↦ memory | inr refused ↦ none asked url bytes (error_view error) is_url few refused ]
  where
    none : (asked : Parsed Parts) (url : Parts) (bytes : ℕ) (view : ErrorView) → asked ≡ Ok url → bytes < long_text → Reports asked bytes view
        → view ≡ views.OutOfMemory
    none asked url bytes (views.Url reason) is_url few refused =
        elim refused.1 [ inl same ↦ absurd cc | inr long ↦ absurd (omega (arith, long.1)) ]
    none asked url bytes view is_url few refused = absurd refused

pub out_of_memory : (error : Error) → error_view error ≡ views.OutOfMemory → error ≡ errors.OutOfMemory
out_of_memory errors.OutOfMemory e = refl
out_of_memory errors.BaseUrlRequired e = absurd cc
out_of_memory errors.BaseUrlWithInit e = absurd cc
out_of_memory (errors.Tokenizer fault place) e = absurd cc
out_of_memory (errors.Parser (parser_errors.ExpectedToken expected found value)) e = absurd cc
out_of_memory (errors.Parser (parser_errors.DuplicateName name)) e = absurd cc
out_of_memory (errors.Url reason) e = absurd cc
out_of_memory (errors.RegExp unit) e = absurd cc

pub memory_alone : (asked : Parsed Parts) (url : Parts) (bytes : ℕ) (result : Result Parts Error) → asked ≡ Ok url → bytes < long_text
    → IfErr result (MemoryOr (Reports asked bytes)) → IfErr result (λ error. error ≡ errors.OutOfMemory)
memory_alone asked url bytes (Ok found) is_url few reported = tt
memory_alone asked url bytes (Err error) is_url few reported = out_of_memory error (only_memory asked url bytes error is_url few reported)

-- ---- the test for an empty text

pub is_empty-true : (bytes : List ℕ) (tested : Bool) → tested ≡ (length bytes == 0) → tested ≡ true → length bytes ≡ 0
is_empty-true bytes tested is_tested e = grind arith

pub is_empty-false : (bytes : List ℕ) (tested : Bool) → tested ≡ (length bytes == 0) → tested ≡ false → ¬ (length bytes ≡ 0)
is_empty-false bytes tested is_tested e none = absurd (grind arith)

-- ---- the text of an optional reference, or the empty text

pub unwrapped-copied : (found : Option (Bor (List ℕ))) (text default : Bor (List ℕ)) (answer : Option (List ℕ)) → option_copied found ≡ answer
    → default.now ≡ [] → text ≡ unwrap_or found default → text.now ≡ unwrap_or answer []
unwrapped-copied None text default answer is_answer empty is_text =
    ap (λ bor. bor.now) is_text ∙ empty ∙ ap (λ found. unwrap_or found []) is_answer
unwrapped-copied (Some value) text default answer is_answer empty is_text =
    ap (λ bor. bor.now) is_text ∙ ap (λ found. unwrap_or found []) is_answer

-- ---- the first character of a text, and its first byte

some_bytes : (c : ℕ) (rest : List ℕ) → 0 < length (encode_utf8 c ++ rest)
some_bytes c rest = omega (arith, length-append (encode_utf8 c) rest, length-encode c, len_utf8_bounds c)

first_byte : (mark : ℕ) (text bytes : List ℕ) → 0 < mark → mark < 128 → encode_utf8_all text ≡ bytes
    → begins_with (λ c. c == mark) text ≡ (slice_index bytes 0 == mark)
first_byte mark [] bytes some ascii e = rw (← e) (grind arith)
first_byte mark (c ∷ text) bytes some ascii e =
    let to = byte_from_char bytes (encode_utf8_all text) c (sym e) in
    let from = char_from_byte bytes (encode_utf8_all text) c (sym e) in
    let long : 0 < length bytes = subst (λ xs. 0 < length xs) e (some_bytes c (encode_utf8_all text)) in
    elim (c == mark) as (λ same. c == mark ≡ same → same ≡ (slice_index bytes 0 == mark)) [
      | true ↦ λ is. let first : slice_index bytes 0 ≡ c = to (grind arith) in grind arith
      | false ↦ λ is. elim (slice_index bytes 0 == mark) as (λ same. slice_index bytes 0 == mark ≡ same → false ≡ same) [
        | true ↦ λ at. let first : c ≡ slice_index bytes 0 = from (grind arith) long in absurd (grind arith)
        | false ↦ λ at. refl
      ] refl
    ] refl

pub begins_with-chars : (mark : ℕ) (bytes : List ℕ) → 0 < mark → mark < 128 → IsUtf8 bytes
    → begins_with (λ c. c == mark) (chars bytes) ≡ (slice_index bytes 0 == mark)
begins_with-chars mark bytes some ascii u = first_byte mark (chars bytes) bytes some ascii (encodes-chars bytes u)

-- ---- paths with and without an initial slash

pub pathname_of-slash : (value : List ℕ) → (slice_index value 0 == slash) ≡ true → pathname_of value ≡ path_of dummy_url value
pathname_of-slash value slash =
    ap
    (λ test. if test then path_of dummy_url value
    else and_then (path_of dummy_url (codes "/-" ++ value)) (λ path. Ok (without_added_prefix path)))
    slash

pub pathname_of-bare : (value : List ℕ) → (slice_index value 0 == slash) ≡ false
    → pathname_of value ≡ and_then (path_of dummy_url (codes "/-" ++ value)) (λ path. Ok (without_added_prefix path))
pathname_of-bare value bare =
    ap
    (λ test. if test then path_of dummy_url value
    else and_then (path_of dummy_url (codes "/-" ++ value)) (λ path. Ok (without_added_prefix path)))
    bare

-- ---- the scheme of a port

pub scheme_for_port-some : (bytes : List ℕ) → ¬ (chars bytes ≡ []) → chars bytes ≡ scheme_for_port (chars bytes)
scheme_for_port-some bytes some = same (chars bytes) some
  where
    same : (text : List ℕ) → ¬ (text ≡ []) → text ≡ scheme_for_port text
    same [] some = absurd (some refl)
    same (c ∷ text) some = refl

pub chars_dummy : chars (codes "dummy") ≡ codes "dummy"
unfolding chars
chars_dummy = refl

-- The characters of an optional text, or of the empty text.
pub unwrap_or-text : (found : Option (Bor (List ℕ))) → unwrap_or (option_text found) [] ≡ chars (unwrap_or (option_copied found) [])
unwrap_or-text None = sym chars-nil
unwrap_or-text (Some value) = refl
