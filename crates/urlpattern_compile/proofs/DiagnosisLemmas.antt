-- Lemmas on the rejected component, and on what its diagnosis shows.
use Rattle.std.proofs.Common.{◌≡◌, ◌≢◌, Bor, ℕ, ◌+◌, ◌<◌, ◌≤◌, arith, List, [], ◌∷◌, ◌++◌, length, get_or, take, drop, Bool, false, true, Option, Some, None, Ok, Err, refl, sym, ap, ◌∙◌, subst, inl, inr, add-one, drop-cons}
use Rattle.std.proofs.lemmas.List.{take-append-drop}
use Rattle.std.specs.List.{AllByRecursion}
use Rattle.std.specs.Prelude.{Result, IfNone, IfOk, IfSome, IsSomeAnd, MatchBool, option_copied, string_bytes, unwrap_or}
use Rattle.std.specs.Str.{IsUtf8, chars}
use Rattle.std.proofs.lemmas.Str.{chars-nil}
use Rattle.urlpattern_matcher.specs.Components.{ComponentView}
use Rattle.urlpattern_matcher.specs.declared.regexp.RegExp.{Ghosts as Engine}
use Rattle.urlpattern_diagnosis.specs.Faults.{IsFaultOf, IsSingleSpan, IsUrlFault, lacks_colon}
use Rattle.urlpattern_diagnosis.specs.PatternOffsets.{IsFaultMoved}
use Rattle.urlpattern_diagnosis.specs.declared.diagnosis.Diagnosis.{Diagnosis}
use Rattle.urlpattern_diagnosis.specs.declared.diagnosis.Subject.{Subject}
use Rattle.urlpattern_diagnosis.specs.declared.diagnosis.Subject.TheVariants as subjects
use Rattle.urlpattern_diagnosis.specs.Spans.{IsSpanAt, span_between}
use Rattle.urlpattern_diagnosis.specs.declared.{fault.Fault.Fault, span.Span.Span}
use Rattle.urlpattern_inputs.specs.declared.options.UrlPatternOptions.{UrlPatternOptions}
use Rattle.urlpattern_compile.specs.Compiled.{FirstRejected, IsComponentCompiled, IsComponentRejected, IsPathKind, IsPatternOfInit, ParseSettings, RejectsInit, RejectsValues, after_protocol, pattern_of, settings_of}
use Rattle.urlpattern_compile.specs.Diagnoses.{AcceptsEach, AcceptsValues, IsFirstRejection, IsRejectionOf, IsTextFor, IsTextOfSubject, RejectsComponent, RejectsFirst, ShowsAll, ShowsFault, ShowsMisread, ShowsPattern, ShowsProtocol, ShowsRejectedProtocol, ShowsRejection, ShowsText, ShowsValues, ShowsWritten, Written, error_of, is_misread, span_from, span_in, whole_text}
use Rattle.urlpattern_compile.proofs.CompiledLemmas.{first_rejected}
use Rattle.urlpattern_compile.specs.FromString.{IsInitOfText, IsPatternOfText, RejectsPatternOfText, RejectsSplit}
use Rattle.urlpattern_compile.specs.PatternViews.{PatternView}
use Rattle.urlpattern_constructor.specs.Split.{HasProtocol, IsSplitTextBetween, SplitTextView}
use Rattle.urlpattern_constructor.specs.Splitting.{HasPartAt, Starts, split_text_view}
use Rattle.urlpattern_constructor.specs.declared.tokens.SplitText.{SplitText}
use Rattle.urlpattern_init.specs.{ConstructorString.SplitsAt, Inheritance.values_view, SpecialProtocol.IsSpecialTo}
use Rattle.urlpattern_init.specs.declared.init.UrlPatternInit.{UrlPatternInit}
use Rattle.urlpattern_components.specs.declared.eight.ComponentName.{ComponentName}
use Rattle.urlpattern_compile.specs.declared.rejection.Rejection.{Rejection}
use Rattle.urlpattern_components.specs.declared.eight.ComponentName.TheVariants.{Protocol, Username, Password, Hostname, Port, Pathname, Search, Hash}
use Rattle.urlpattern_components.proofs.EightLemmas.{by_name}
use Rattle.urlpattern_syntax.specs.declared.error.Error.{Error}
use Rattle.urlpattern_syntax.specs.declared.error.OutOfMemory.{OutOfMemory}
use Rattle.urlpattern_components.specs.Eight.{Values, at}
use Rattle.urlpattern_syntax.specs.Errors.{ErrorView, ErrorView as views, MemoryOr, error_view}
use Rattle.urlpattern_syntax.specs.Text.{byte_len, option_text}
use Rattle.urlpattern_syntax.proofs.TextLemmas.{byte_len-append, byte_len-chars}

-- An error other than `OutOfMemory` has the property `P`.
pub is_other : (P : ErrorView → Type 0) (error other : Error) → MemoryOr P error → (other ≡ error) × (error_view error ≢ views.OutOfMemory) → P (error_view other)
is_other P error other (inl e) same = absurd (same.1 e)
is_other P error other (inr h) same = subst (λ (x : Error). P (error_view x)) (sym same.0) h

module _ {E : Type 0} (engine : Engine E) (asked : UrlPatternOptions) (values : Values) where
  -- The protocol is rejected.
  pub protocol_refused : (error : Error) → IsComponentRejected engine (settings_of asked values false Protocol) (error_view error) →
      IsRejectionOf engine asked values (record { component = Protocol; hierarchical = false; error = error })
  protocol_refused error h = (inl h, inl (refl, h))

  -- A component after the protocol is rejected.
  pub later_refused : (hierarchical : Bool) (protocol : ComponentView E) → IsComponentCompiled engine (settings_of asked values hierarchical Protocol) protocol →
      IsPathKind engine.answer values protocol.matcher hierarchical → (result : Result (Option Rejection) OutOfMemory) →
      IfOk result (λ found. IfSome found (IsFirstRejection engine (settings_of asked values hierarchical) after_protocol)) →
      IfOk result (λ found. IfSome found (RejectsComponent engine (settings_of asked values hierarchical) hierarchical)) →
      IfOk result (λ found. IfSome found (IsRejectionOf engine asked values))
  later_refused hierarchical protocol compiled kind (Err memory) first refused = tt
  later_refused hierarchical protocol compiled kind (Ok None) first refused = tt
  later_refused hierarchical protocol compiled kind (Ok (Some rejection)) first refused =
      let settings = settings_of asked values hierarchical in
      let is : FirstRejected engine settings after_protocol (error_of rejection) = subst (λ (names : List ComponentName). FirstRejected engine settings names (error_of rejection)) (sym first.place)
      (first_rejected engine settings first.before first.after rejection.component (error_of rejection) first.are_accepted first.is_refused) in (
        inr (record { protocol = protocol; hierarchical = hierarchical; is_compiled = compiled; path_kind = kind; refused = is }),
        subst (λ (path : Bool). RejectsFirst engine asked values path rejection.component (error_of rejection)) (sym refused.0) (inr ((protocol, compiled, kind), first)),
      )

  -- Each component is accepted.
  pub all_accepted : (hierarchical : Bool) (protocol : ComponentView E) → IsComponentCompiled engine (settings_of asked values hierarchical Protocol) protocol →
      IsPathKind engine.answer values protocol.matcher hierarchical → (result : Result (Option Rejection) OutOfMemory) →
      IfOk result (λ found. IfNone found (AcceptsEach engine (settings_of asked values hierarchical) after_protocol)) →
      IfOk result (λ found. IfNone found (AcceptsValues engine asked values))
  all_accepted hierarchical protocol compiled kind (Err memory) each = tt
  all_accepted hierarchical protocol compiled kind (Ok (Some rejection)) each = tt
  all_accepted hierarchical protocol compiled kind (Ok None) (hostname, (pathname, (username, (password, (port, (query, (hash, done))))))) =
      (pattern, record { hierarchical = hierarchical; path_kind = kind; are_compiled = by_name (λ name. IsComponentCompiled engine (settings_of asked values hierarchical name) (pattern name)) compiled username.1 password.1 hostname.1 port.1 pathname.1 query.1 hash.1 })
    where
      pattern : ComponentName → ComponentView E
      pattern Protocol = protocol
      pattern Username = username.0
      pattern Password = password.0
      pattern Hostname = hostname.0
      pattern Port = port.0
      pattern Pathname = pathname.0
      pattern Search = query.0
      pattern Hash = hash.0

  module _ (rejection : Rejection) (result : Result Diagnosis OutOfMemory) (is : IsRejectionOf engine asked values rejection) (same : IfOk result (λ (diagnosis : Diagnosis). diagnosis.error ≡ rejection.error)) where
    -- The values are rejected with the error of the diagnosis.
    pub refused_so : IfOk result (λ (diagnosis : Diagnosis). RejectsValues engine asked values (error_view diagnosis.error))
    refused_so = by_result result same
      where
        by_result : (result : Result Diagnosis OutOfMemory) → IfOk result (λ (diagnosis : Diagnosis). diagnosis.error ≡ rejection.error) → IfOk result (λ (diagnosis : Diagnosis). RejectsValues engine asked values (error_view diagnosis.error))
        by_result (Err memory) same = tt
        by_result (Ok diagnosis) same = subst (λ (error : Error). RejectsValues engine asked values (error_view error)) (sym same) is.0

-- The diagnosis shows the whole text.
pub shows_all : (bytes : List ℕ) (diagnosis : Diagnosis) → string_bytes diagnosis.text ≡ bytes → IsUrlFault bytes diagnosis.fault → ShowsAll diagnosis
shows_all bytes diagnosis text fault = subst (λ (x : List ℕ). IsUrlFault x diagnosis.fault) (sym text) fault

-- The diagnosis shows the component.
pub shown_so : {E : Type 0} (engine : Engine E) (asked : UrlPatternOptions) (values : Values) (written : Written) (rejection : Rejection) (result : Result Diagnosis OutOfMemory) → IsRejectionOf engine asked values rejection →
    IfOk result (λ (diagnosis : Diagnosis). diagnosis.error ≡ rejection.error) → IfOk result (λ (diagnosis : Diagnosis). diagnosis.subject ≡ subjects.Component rejection.component) →
    IfOk result (λ (diagnosis : Diagnosis). ShowsPattern engine rejection.component (settings_of asked values rejection.hierarchical rejection.component) (span_in written.string written.components (string_bytes diagnosis.text) rejection.component) diagnosis) →
    IfOk result (λ (diagnosis : Diagnosis). IsTextFor written.string (at written.components rejection.component) (pattern_of values rejection.component) (string_bytes diagnosis.text)) →
    IfOk result (ShowsValues engine asked values written)
shown_so engine asked values written rejection (Err memory) is same subject shows text = tt
shown_so engine asked values written rejection (Ok diagnosis) is same subject shows text = (
  subst (λ (what : Subject). ShowsRejection engine asked values (span_in written.string written.components (string_bytes diagnosis.text)) what diagnosis) (sym subject) (record {
    hierarchical = rejection.hierarchical;
    is_first = subst (λ (error : Error). RejectsFirst engine asked values rejection.hierarchical rejection.component (error_view error)) (sym same) is.1;
    shows_pattern = shows;
  }),
  subst (λ (what : Subject). IsTextOfSubject written values what (string_bytes diagnosis.text)) (sym subject) text,
)

-- The diagnosis shows the whole text of values that are accepted the second time.
pub whole_shown : {E : Type 0} (engine : Engine E) (asked : UrlPatternOptions) (values : Values) (written : Written) (bytes : List ℕ) (diagnosis : Diagnosis) → AcceptsValues engine asked values →
    string_bytes diagnosis.text ≡ bytes → diagnosis.subject ≡ subjects.Whole → IsUrlFault bytes diagnosis.fault → bytes ≡ whole_text written.string → ShowsValues engine asked values written diagnosis
whole_shown engine asked values written bytes diagnosis accepted text subject fault is = (
  subst (λ (what : Subject). ShowsRejection engine asked values (span_in written.string written.components (string_bytes diagnosis.text)) what diagnosis) (sym subject) (accepted, shows_all bytes diagnosis text fault),
  subst (λ (what : Subject). IsTextOfSubject written values what (string_bytes diagnosis.text)) (sym subject) (text ∙ is),
)

-- The diagnosis shows a fault of a pattern where the text has the value.
pub shows_fault : (Is : Error → Fault → Type 0) (component : ComponentName) (bytes pattern : List ℕ) (span : List ℕ → Option Span) (error : Error) (diagnosis : Diagnosis) (fault : Fault) → diagnosis.error ≡ error → string_bytes diagnosis.text ≡ bytes →
    Is error fault → IsFaultMoved component bytes pattern (span bytes) fault diagnosis.fault → ShowsFault (Is diagnosis.error) component pattern (span (string_bytes diagnosis.text)) diagnosis
shows_fault Is component bytes pattern span error diagnosis fault same text is moved = (
  fault,
  subst (λ (x : Error). Is x fault) (sym same) is,
  subst (λ (x : List ℕ). IsFaultMoved component x pattern (span x) fault diagnosis.fault) (sym text) moved,
)

-- ---- rejected protocols

module _ (bytes pattern : List ℕ) (span : Span) (error : Error) (diagnosis : Diagnosis) (same : diagnosis.error ≡ error) (text : string_bytes diagnosis.text ≡ bytes) where
  misread_same : (b : Bool) → is_misread bytes pattern error ≡ b → is_misread (string_bytes diagnosis.text) pattern diagnosis.error ≡ b
  misread_same b e = ap (λ (x : List ℕ). is_misread x pattern diagnosis.error) text ∙ ap (is_misread bytes pattern) same ∙ e

  -- The diagnosis shows the pattern of the protocol.
  pub protocol_shown : (fault : Fault) → diagnosis.subject ≡ subjects.Component Protocol → is_misread bytes pattern error ≡ false → IsFaultOf (Some Protocol) pattern (chars []) error fault →
      IsFaultMoved Protocol bytes pattern (Some span) fault diagnosis.fault → ShowsRejectedProtocol pattern span diagnosis.subject diagnosis
  protocol_shown fault subject meant is moved =
      subst (λ (what : Subject). ShowsRejectedProtocol pattern span what diagnosis) (sym subject) (
        refl,
        misread_same false meant,
        shows_fault (IsFaultOf (Some Protocol) pattern []) Protocol bytes pattern (λ (x : List ℕ). Some span) error diagnosis fault same text
            (subst (λ (x : List ℕ). IsFaultOf (Some Protocol) pattern x error fault) chars-nil is) moved,
      )

  shows_misread : (b : Bool) → lacks_colon bytes ≡ b → MatchBool b (IsUrlFault bytes diagnosis.fault) (IsSingleSpan (IsSpanAt bytes span.end 1) diagnosis.fault) → ShowsMisread span.end diagnosis
  shows_misread b e shows = subst (λ (x : List ℕ). MatchBool (lacks_colon x) (IsUrlFault x diagnosis.fault) (IsSingleSpan (IsSpanAt x span.end 1) diagnosis.fault)) (sym text)
      (subst (λ (x : Bool). MatchBool x (IsUrlFault bytes diagnosis.fault) (IsSingleSpan (IsSpanAt bytes span.end 1) diagnosis.fault)) (sym e) shows)

  -- The diagnosis shows a place outside of the protocol.
  pub misread_shown : (b : Bool) → diagnosis.subject ≡ subjects.Whole → is_misread bytes pattern error ≡ true → lacks_colon bytes ≡ b →
      MatchBool b (IsUrlFault bytes diagnosis.fault) (IsSingleSpan (IsSpanAt bytes span.end 1) diagnosis.fault) → ShowsRejectedProtocol pattern span diagnosis.subject diagnosis
  misread_shown b subject misread e shows =
      subst (λ (what : Subject). ShowsRejectedProtocol pattern span what diagnosis) (sym subject) (misread_same true misread, shows_misread b e shows)

-- ---- places

-- A part of a text ends within the text.
pub part_ends : (bytes part : List ℕ) (start : ℕ) → IsUtf8 bytes → HasPartAt (chars bytes) part start → start + byte_len part ≤ length bytes
part_ends bytes part start utf8 (before, after, cut, is) =
    let all = byte_len-chars bytes utf8 in
    let sum = ap byte_len cut ∙ byte_len-append (before ++ part) after in
    let more = byte_len-append before part in
    omega (arith, is)

-- The value of a component ends within the text that has it.
pub value_ends : (bytes : List ℕ) (value : Option (List ℕ)) (start : ℕ) → IsUtf8 bytes → IsSomeAnd value (λ part. HasPartAt (chars bytes) part start) → start + byte_len (unwrap_or value []) ≤ length bytes
value_ends bytes None start utf8 there = absurd there
value_ends bytes (Some part) start utf8 there = part_ends bytes part start utf8 there

-- The text of a component, or another in its place.
pub lent_or : (value : Option (Bor (List ℕ))) (found other : Bor (List ℕ)) → found ≡ unwrap_or value other → chars found.now ≡ unwrap_or (option_text value) (chars other.now)
lent_or None found other e = ap (λ (b : Bor (List ℕ)). chars b.now) e
lent_or (Some text) found other e = ap (λ (b : Bor (List ℕ)). chars b.now) e

-- The length of a component's value in bytes.
pub value_len : (lent : Option (Bor (List ℕ))) (found other : Bor (List ℕ)) (value : Option (List ℕ)) → found ≡ unwrap_or lent other → other.now ≡ [] → option_text lent ≡ value → IsUtf8 found.now → length found.now ≡ byte_len (unwrap_or value [])
value_len lent found other value e is same utf8 =
    sym (byte_len-chars found.now utf8)
    ∙ ap byte_len (lent_or lent found other e ∙ ap (unwrap_or (option_text lent)) (ap chars is ∙ chars-nil) ∙ ap (λ (v : Option (List ℕ)). unwrap_or v []) same)

-- The span that the code makes of a value is its place.
pub span_is : (at_start : Option ℕ) (start len : ℕ) (part : List ℕ) → at_start ≡ Some start → len ≡ byte_len part → Some (span_between start (start + len)) ≡ span_from at_start part
span_is at_start start len part e is = ap (λ n. Some (span_between start (start + n))) is ∙ sym (ap (λ (s : Option ℕ). span_from s part) e)

-- Where a text has its protocol.
pub record ProtocolPlace (bytes : List ℕ) (protocol : SplitText) : Type 0 where
  pub start : ℕ
  pub is_start : protocol.start ≡ Some start
  pub there : HasPartAt (chars bytes) (chars protocol.text.now) start

pub protocol_place : (bytes : List ℕ) (protocol : SplitText) → HasProtocol (chars bytes) (λ (found : SplitTextView). found ≡ split_text_view protocol) → ProtocolPlace bytes protocol
protocol_place bytes protocol (tokens, colon, found, are_tokens, ends, sign, between, same) =
    let is = subst (IsSplitTextBetween (chars bytes) tokens 0 colon) same between in
    record { start = byte_len is.0.front; is_start = is.1; there = (is.0.front, is.0.rest, is.0.cut, refl) }

pub has_span : (bytes : List ℕ) (protocol : SplitText) (span : Span) → HasProtocol (chars bytes) (λ (found : SplitTextView). found ≡ split_text_view protocol) → span_from protocol.start (chars protocol.text.now) ≡ Some span →
    HasProtocol (chars bytes) (λ (found : SplitTextView). (found.text ≡ chars protocol.text.now) × (span_from found.start found.text ≡ Some span))
has_span bytes protocol span (tokens, colon, found, are_tokens, ends, sign, between, same) is =
    (tokens, colon, found, are_tokens, ends, sign, between, (ap (λ (x : SplitTextView). x.text) same, ap (λ (x : SplitTextView). span_from x.start x.text) same ∙ is))

-- A missing text is replaced by an empty one.
pub text-or_nothing : (base : Option (Bor (List ℕ))) (found nothing : Bor (List ℕ)) → found ≡ unwrap_or base nothing → nothing.now ≡ [] → found.now ≡ unwrap_or (option_copied base) []
text-or_nothing None found nothing e is = ap (λ (b : Bor (List ℕ)). b.now) e ∙ is
text-or_nothing (Some text) found nothing e is = ap (λ (b : Bor (List ℕ)). b.now) e

-- A list is split at an element.
pub cut_at : {A : Type 0} (xs : List A) (i : ℕ) (d : A) → i < length xs → take i xs ++ get_or xs i d ∷ drop (i + 1) xs ≡ xs
cut_at xs i d lt = ap (λ n. take i xs ++ get_or xs i d ∷ drop n xs) (add-one i) ∙ ap (λ x. take i xs ++ x) (sym (drop-cons xs i d lt)) ∙ take-append-drop i xs

-- A fact about all elements, after another is appended.
pub all_more : {A : Type 0} (P : A → Type 0) (xs : List A) (x : A) → AllByRecursion P xs → P x → AllByRecursion P (xs ++ x ∷ [])
all_more P [] x all h = (h, tt)
all_more P (y ∷ xs) x all h = (all.0, all_more P xs x all.1 h)

-- A component is compiled in its manner.
abbrev pub IsCompiledBy : {E : Type 0} → Engine E → (settings : ComponentName → ParseSettings) → ComponentName → Type 0
IsCompiledBy {E} engine settings component = (compiled : ComponentView E) × IsComponentCompiled engine (settings component) compiled

-- ---- constructor strings

module _ {E : Type 0} (engine : Engine E) (bytes : List ℕ) (base : Option (List ℕ)) (asked : UrlPatternOptions) where
  -- The diagnosis shows the protocol.
  pub split_shown : (diagnosis : Diagnosis) → string_bytes diagnosis.text ≡ bytes → RejectsSplit (chars bytes) base (error_view diagnosis.error) → ShowsProtocol (chars bytes) diagnosis →
      ShowsText engine bytes base asked diagnosis.subject diagnosis
  split_shown diagnosis text refused shows = by_subject diagnosis.subject refl
    where
      no_base : diagnosis.subject ≡ subjects.Base → ShowsProtocol (chars bytes) diagnosis → ⊥
      no_base e (inl lacks) = subst (λ (what : Subject). IsWhole what) (sym lacks.1 ∙ e) tt
        where
          IsWhole : Subject → Type 0
          IsWhole subjects.Whole = Unit {0}
          IsWhole what = ⊥
      no_base e (inr has) = subst (λ (what : Subject). ShowsRejectedProtocol has.0 has.1 what diagnosis) e has.3

      by_subject : (what : Subject) → diagnosis.subject ≡ what → ShowsText engine bytes base asked what diagnosis
      by_subject subjects.Base e = absurd (no_base e shows)
      by_subject subjects.Whole e = inl (text, refused, shows)
      by_subject (subjects.Component component) e = inl (text, refused, shows)

  module _ (init : UrlPatternInit) (starts : Starts) (is : IsInitOfText engine (chars bytes) base init) (splits : SplitsAt (IsSpecialTo engine) (chars bytes) (values_view init) starts) where
    by_subject : (what : Subject) (diagnosis : Diagnosis) → diagnosis.subject ≡ what → ShowsWritten engine (Some (bytes, starts)) init asked diagnosis → ShowsText engine bytes base asked what diagnosis
    by_subject subjects.Base diagnosis e shows =
        absurd (subst (λ (what : Subject). ShowsRejection engine asked shows.0 (span_in (Some (bytes, starts)) (values_view init) (string_bytes diagnosis.text)) what diagnosis) e shows.2.0)
    by_subject subjects.Whole diagnosis e shows = inr (init, starts, is, splits, shows)
    by_subject (subjects.Component component) diagnosis e shows = inr (init, starts, is, splits, shows)

    -- The diagnosis shows the init.
    pub init_shown : (result : Result (Option Diagnosis) OutOfMemory) → IfOk result (λ found. IfSome found (ShowsWritten engine (Some (bytes, starts)) init asked)) →
        IfOk result (λ found. IfSome found (λ (diagnosis : Diagnosis). ShowsText engine bytes base asked diagnosis.subject diagnosis))
    init_shown (Err memory) shows = tt
    init_shown (Ok None) shows = tt
    init_shown (Ok (Some diagnosis)) shows = by_subject diagnosis.subject diagnosis refl shows

    -- The init is rejected.
    pub init_refused : (result : Result (Option Diagnosis) OutOfMemory) → IfOk result (λ found. IfSome found (λ (diagnosis : Diagnosis). RejectsInit engine init asked (error_view diagnosis.error))) →
        IfOk result (λ found. IfSome found (λ (diagnosis : Diagnosis). RejectsPatternOfText engine (chars bytes) base asked (error_view diagnosis.error)))
    init_refused (Err memory) refused = tt
    init_refused (Ok None) refused = tt
    init_refused (Ok (Some diagnosis)) refused = inr (init, is, refused)

    -- The init is compiled.
    pub init_accepted : (result : Result (Option Diagnosis) OutOfMemory) → IfOk result (λ found. IfNone found ((compiled : PatternView E) × IsPatternOfInit engine init asked compiled)) →
        IfOk result (λ found. IfNone found ((compiled : PatternView E) × IsPatternOfText engine (chars bytes) base asked compiled))
    init_accepted (Err memory) h = tt
    init_accepted (Ok (Some diagnosis)) h = tt
    init_accepted (Ok None) h = (h.0, record { init = init; is_constructed = is; is_compiled = h.1 })
