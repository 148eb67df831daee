-- Every text has tokens or a first fault, and lenient tokens.
use Rattle.std.proofs.Common.{◌≡◌, ℕ, suc, zero, ◌+◌, ◌-◌, ◌≤◌, ◌<◌, ◌⊎◌, Bool, true, false, List, [], ◌∷◌, ◌++◌, length, refl, sym, ap, ◌∙◌, subst, inl, inr, arith}
use Rattle.std.specs.Prelude.{codes, IsTrue, ◌==◌}
use Rattle.std.specs.List.{list_all}
use Rattle.std.proofs.lemmas.Bool.{and_from, both_ways, eqb-true, false≢true, ltb-false, ltb-true, or_cases, or_left}
use lib.Dec.{ltb}
use Rattle.urlpattern_syntax.proofs.BodyLemmas.{HasRead, HasRead-start, HasRead-plain, HasRead-escaped, HasRead-opened, HasRead-closed, body_lexed, fault_not_ascii, fault_escape, fault_group, fault_end}
use Rattle.urlpattern_syntax.proofs.TextLemmas.{byte_len-append}
use Rattle.urlpattern_syntax.proofs.TokenLemmas.{IsInvalidChar-shorter, IsLexed-shorter, SkipsBy-none, Spells-char, character_lexed, escaped_lexed, name_lexed, no_name}
use Rattle.urlpattern_syntax.specs.declared.tokenizer.TokenType.{TokenType}
use Rattle.urlpattern_syntax.specs.declared.tokenizer.TokenType.TheVariants.{Asterisk, Char, Close, EscapedChar, InvalidChar, Name, Open, OtherModifier, Regexp}
use Rattle.urlpattern_meaning.specs.Laws.{HasLenientTokens, HasTokensOrFault}
use Rattle.urlpattern_syntax.specs.Text.{byte_len, BeginsAt, BeginsWith, is_among, is_name_start, is_name_part}
use Rattle.urlpattern_syntax.specs.Tokens.{FaultView, IncompleteEscapeCode, InvalidName, InvalidRegex, StartsWithQuestionMark, NotAscii, EscapedNotAscii, GroupAtEnd, CapturingGroup, NotClosed, NoBody, reason, IsFaultAt, is_question_mark, IsMaximal, IsCut, IsLexed, IsTokenOf, Skips, SkipsBy, Spells, TokenView, end_of, is_ignored, marks}
use Rattle.urlpattern_meaning.proofs.TokensUnique.{LenientItem}

-- ---- characters that are skipped

-- The text after all the characters at the beginning that pass the test.
record Skipped (test : ℕ → Bool) (text : List ℕ) : Type 0 where
  pub rest : List ℕ
  pub skips : SkipsBy test text rest
  pub stops : ¬ BeginsWith test rest

skipped_more : (test : ℕ → Bool) (c : ℕ) (text : List ℕ) (b : Bool) → test c ≡ b → Skipped test text → Skipped test (c ∷ text)
skipped_more test c text true e s = record {
  rest = s.rest;
  skips = (c ∷ s.skips.0, ap (λ x. c ∷ x) s.skips.1, and_from (test c) (list_all test s.skips.0) e s.skips.2);
  stops = s.stops;
}
skipped_more test c text false e s = record { rest = c ∷ text; skips = SkipsBy-none test (c ∷ text); stops = both_ways (test c) e }

skipped : (test : ℕ → Bool) (text : List ℕ) → Skipped test text
skipped test [] = record { rest = []; skips = SkipsBy-none test []; stops = false≢true }
skipped test (c ∷ text) = skipped_more test c text (test c) refl (skipped test text)

-- ---- a token or a fault at the beginning of a text

-- The token at the beginning of the text, or the reason why there is none.
data Lexing (text : List ℕ) : Type 0 where
  Lexed : (kind : TokenType) (value rest : List ℕ) → IsLexed text kind value rest → Lexing text
  Faulty : (fault : FaultView) → IsFaultAt text fault → Lexing text

-- A character among some marks is the first of them or among the others.
by_mark : (P : ℕ → Type 0) (mark c : ℕ) (many : List ℕ) → IsTrue (is_among (mark ∷ many) c) → P mark → (IsTrue (is_among many c) → P c) → P c
by_mark P mark c many h here later =
    elim (or_cases (mark == c) (is_among many c) h) [ inl e ↦ subst P (eqb-true mark c e) here | inr g ↦ later g ]

escape_lexing : (text : List ℕ) → Lexing (codes "\\" ++ text)
escape_lexing [] = Faulty IncompleteEscapeCode (inl refl)
escape_lexing (c ∷ text) = Lexed EscapedChar (c ∷ []) text (escaped_lexed (c ∷ text) (c ∷ []) text c refl refl)

name_lexing : (text : List ℕ) → Lexing (codes ":" ++ text)
name_lexing [] = Faulty InvalidName (no_name [] false≢true)
name_lexing (c ∷ text) = by_start (is_name_start c) refl
  where
    by_start : (b : Bool) → is_name_start c ≡ b → Lexing (codes ":" ++ (c ∷ text))
    by_start true e =
        let s = skipped is_name_part text in
        Lexed Name (c ∷ s.skips.0) s.rest (name_lexed (c ∷ text) (c ∷ s.skips.0) text s.rest c refl e s.skips s.stops (ap (λ x. c ∷ x) s.skips.1))
    by_start false e = Faulty InvalidName (no_name (c ∷ text) (both_ways (is_name_start c) e))

-- ---- the body of a custom regular expression

-- The body ends or has a fault, or it continues with fewer characters.
data BodyStep (text rest : List ℕ) : Type 0 where
  Ends : Lexing (codes "(" ++ text) → BodyStep text rest
  GoesOn : (after : List ℕ) (depth : ℕ) → HasRead text after depth → length after < length rest → BodyStep text rest

module _ (text : List ℕ) (unmarked : ¬ BeginsWith (is_among (codes "?)")) text) where
  escape_step : (rest after : List ℕ) (depth : ℕ) → HasRead text rest depth → rest ≡ codes "\\" ++ after → BodyStep text rest
  escape_step rest [] depth h e = Ends (Faulty IncompleteEscapeCode (fault_escape text rest depth h unmarked [] IncompleteEscapeCode e refl))
  escape_step rest (c ∷ after) depth h e = by_ascii (ltb c 128) refl
    where
      by_ascii : (b : Bool) → ltb c 128 ≡ b → BodyStep text rest
      by_ascii true f =
          let l = ap length e in
          GoesOn after depth (HasRead-escaped text rest (c ∷ after) after depth c h e refl (ltb-true c 128 f)) (omega arith)
      by_ascii false f =
          let reported = InvalidRegex (reason EscapedNotAscii) in
          Ends (Faulty reported (fault_escape text rest depth h unmarked (c ∷ after) reported e (c, after, refl, ltb-false c 128 f, refl)))

  group_step : (rest after : List ℕ) (depth : ℕ) → HasRead text rest depth → rest ≡ codes "(" ++ after → BodyStep text rest
  group_step rest [] depth h e =
      let reported = InvalidRegex (reason GroupAtEnd) in
      Ends (Faulty reported (fault_group text rest depth h unmarked [] reported e (inl (refl, refl))))
  group_step rest (c ∷ after) depth h e = by_question_mark (is_question_mark c) refl
    where
      by_question_mark : (b : Bool) → is_question_mark c ≡ b → BodyStep text rest
      by_question_mark true f =
          let l = ap length e in
          let marked : c ∷ after ≡ codes "?" ++ after = by_mark (λ x. x ∷ after ≡ codes "?" ++ after) 63 c [] f refl (λ g. absurd (false≢true g)) in
          GoesOn after (depth + 1) (HasRead-opened text rest (c ∷ after) after depth h e marked) (omega arith)
      by_question_mark false f =
          let reported = InvalidRegex (reason CapturingGroup) in
          Ends (Faulty reported (fault_group text rest depth h unmarked (c ∷ after) reported e (inr (c, after, refl, both_ways (is_question_mark c) f, refl))))

  close_step : (rest after : List ℕ) (depth : ℕ) → HasRead text rest depth → rest ≡ codes ")" ++ after → BodyStep text rest
  close_step rest after zero h e = Ends (Lexed Regexp h.read after (body_lexed text rest 0 h unmarked h.read after refl e h.cut))
  close_step rest after (suc depth) h e =
      let l = ap length e in
      GoesOn after (suc depth - 1) (HasRead-closed text rest after (suc depth) h (omega arith) e) (omega arith)

  body_step : (rest : List ℕ) (depth : ℕ) → HasRead text rest depth → BodyStep text rest
  body_step [] depth h = Ends (Faulty (InvalidRegex (reason NotClosed)) (fault_end text [] depth h unmarked refl))
  body_step (c ∷ after) depth h = by_kind (is_among (codes "\\()") c) refl
    where
      unit : ℕ → Type 0
      unit mark = mark ≡ c → BodyStep text (c ∷ after)

      by_kind : (b : Bool) → is_among (codes "\\()") c ≡ b → BodyStep text (c ∷ after)
      by_kind true e =
          by_mark unit 92 c (codes "()") e (λ same. escape_step (c ∷ after) after depth h (ap (λ x. x ∷ after) (sym same)))
          (λ f. by_mark unit 40 c (codes ")") f (λ same. group_step (c ∷ after) after depth h (ap (λ x. x ∷ after) (sym same)))
          (λ g. by_mark unit 41 c [] g (λ same. close_step (c ∷ after) after depth h (ap (λ x. x ∷ after) (sym same)))
          (λ k. absurd (false≢true k)))) refl
      by_kind false e = by_ascii (ltb c 128) refl
        where
          by_ascii : (b : Bool) → ltb c 128 ≡ b → BodyStep text (c ∷ after)
          by_ascii true f = GoesOn after depth (HasRead-plain text (c ∷ after) after depth c h refl (ltb-true c 128 f) e) (omega arith)
          by_ascii false f = Ends (Faulty (InvalidRegex (reason NotAscii)) (fault_not_ascii text (c ∷ after) depth h unmarked after c refl (ltb-false c 128 f)))

  body_within : (n : ℕ) (rest : List ℕ) (depth : ℕ) → length rest < n → HasRead text rest depth → Lexing (codes "(" ++ text)
  body_within zero rest depth few h = absurd (omega arith)
  body_within (suc n) rest depth few h = elim (body_step rest depth h) [
    | Ends lexing ↦ lexing
    | GoesOn after next read less ↦ body_within n after next (omega arith) read
  ]

  body_lexing : Lexing (codes "(" ++ text)
  body_lexing = body_within (suc (length text)) text 0 (omega arith) (HasRead-start text)

regexp_lexing : (text : List ℕ) → Lexing (codes "(" ++ text)
regexp_lexing [] = body_lexing [] false≢true
regexp_lexing (c ∷ text) = by_question_mark (is_question_mark c) refl
  where
    by_close : (b : Bool) → is_among (codes ")") c ≡ b → is_question_mark c ≡ false → Lexing (codes "(" ++ (c ∷ text))
    by_close true e other =
        let cut : c ∷ text ≡ codes ")" ++ text = by_mark (λ x. x ∷ text ≡ codes ")" ++ text) 41 c [] e refl (λ g. absurd (false≢true g)) in
        Faulty (InvalidRegex (reason NoBody)) (c ∷ text, NoBody, refl, (text, cut), refl)
    by_close false e other = body_lexing (c ∷ text) (λ h. elim (or_cases (63 == c) (is_among (codes ")") c) h) [
      | inl f ↦ both_ways (is_question_mark c) other (or_left (63 == c) false f)
      | inr f ↦ both_ways (is_among (codes ")") c) e f
    ])

    by_question_mark : (b : Bool) → is_question_mark c ≡ b → Lexing (codes "(" ++ (c ∷ text))
    by_question_mark true e = Faulty (InvalidRegex (reason StartsWithQuestionMark)) (c ∷ text, StartsWithQuestionMark, refl, e, refl)
    by_question_mark false e = by_close (is_among (codes ")") c) refl e

-- ---- the beginning of any text

-- A token of a single character.
single : (kind : TokenType) (c : ℕ) (text : List ℕ) → ((spelling : List ℕ) → spelling ≡ c ∷ [] → Spells kind spelling spelling) → ((rest : List ℕ) → IsMaximal kind rest) → Lexing (c ∷ text)
single kind c text spells ends = Lexed kind (c ∷ []) text (character_lexed kind (c ∷ text) (c ∷ []) text c refl refl spells (ends text))

marked_lexing : (c : ℕ) (text : List ℕ) → IsTrue (is_among marks c) → Lexing (c ∷ text)
marked_lexing c text h =
    by_mark at 123 c (codes "}*+?\\:(") h (single Open 123 text (λ s e. (refl, e)) (λ _. tt))
    (λ h. by_mark at 125 c (codes "*+?\\:(") h (single Close 125 text (λ s e. (refl, e)) (λ _. tt))
    (λ h. by_mark at 42 c (codes "+?\\:(") h (single Asterisk 42 text (λ s e. (refl, e)) (λ _. tt))
    (λ h. by_mark at 43 c (codes "?\\:(") h (single OtherModifier 43 text (λ s e. (refl, inl e)) (λ _. tt))
    (λ h. by_mark at 63 c (codes "\\:(") h (single OtherModifier 63 text (λ s e. (refl, inr e)) (λ _. tt))
    (λ h. by_mark at 92 c (codes ":(") h (escape_lexing text)
    (λ h. by_mark at 58 c (codes "(") h (name_lexing text)
    (λ h. by_mark at 40 c [] h (regexp_lexing text) (λ h. absurd (false≢true h)))))))))
  where
    at : ℕ → Type 0
    at mark = Lexing (mark ∷ text)

lexing : (c : ℕ) (text : List ℕ) → ¬ IsTrue (is_ignored c) → Lexing (c ∷ text)
lexing c text counts = by_kind (is_among marks c) refl
  where
    by_kind : (b : Bool) → is_among marks c ≡ b → Lexing (c ∷ text)
    by_kind true e = marked_lexing c text e
    by_kind false e = single Char c text (Spells-char c e counts) (λ _. tt)

-- The text after skipped characters: nothing, a token or a fault.
data Start (text : List ℕ) : Type 0 where
  AtEnd : Skips text [] → Start text
  AtToken : (start : List ℕ) (kind : TokenType) (value rest : List ℕ) → Skips text start → IsLexed start kind value rest → Start text
  AtFault : (c : ℕ) (rest : List ℕ) (fault : FaultView) → Skips text (c ∷ rest) → IsFaultAt (c ∷ rest) fault → Start text

start_at : (text rest : List ℕ) → Skips text rest → ¬ BeginsWith is_ignored rest → Start text
start_at text [] skips counts = AtEnd skips
start_at text (c ∷ rest) skips counts = elim (lexing c rest counts) [
  | Lexed kind value behind lexed ↦ AtToken (c ∷ rest) kind value behind skips lexed
  | Faulty fault is_fault ↦ AtFault c rest fault skips is_fault
]

start_of : (text : List ℕ) → Start text
start_of text = let s = skipped is_ignored text in start_at text s.rest s.skips s.stops

-- ---- whole texts

-- Skipping leaves no more bytes.
Skips-fewer : (text rest : List ℕ) → Skips text rest → byte_len rest ≤ byte_len text
Skips-fewer text rest s =
    let e = ap byte_len s.1 ∙ byte_len-append s.0 rest in
    omega arith

-- A place in the whole text.
begins_at : (whole rest : List ℕ) → byte_len rest ≤ byte_len whole → BeginsAt whole rest (byte_len whole - byte_len rest)
begins_at whole rest le = omega arith

-- The strict tokens of an end of the whole text, up to its end or a fault.
record StrictCut (whole text : List ℕ) : Type 0 where
  pub tokens : List TokenView
  pub left : List ℕ
  pub cut : IsCut (IsTokenOf whole) text tokens left
  pub ends : (left ≡ []) ⊎ ((fault : FaultView) × (place : ℕ) × IsFaultAt left fault × BeginsAt whole left place)

strict_within : (n : ℕ) (whole text : List ℕ) → byte_len text ≤ byte_len whole → byte_len text < n → StrictCut whole text
strict_within zero whole text within few = absurd (omega arith)
strict_within (suc n) whole text within few = elim (start_of text) [
  | AtEnd skips ↦ record { tokens = []; left = []; cut = skips; ends = inl refl }
  | AtToken start kind value rest skips lexed ↦
      let fewer = Skips-fewer text start skips in
      let shorter = IsLexed-shorter start value rest kind lexed in
      let more = strict_within n whole rest (omega arith) (omega arith) in
      let index = byte_len whole - byte_len start in
      record {
        tokens = record { kind = kind; index = index; value = value } ∷ more.tokens;
        left = more.left;
        cut = (start, rest, skips, record { lexed = lexed; place = begins_at whole start (omega arith) }, more.cut);
        ends = more.ends;
      }
  | AtFault c rest fault skips is_fault ↦
      let fewer = Skips-fewer text (c ∷ rest) skips in
      record {
        tokens = [];
        left = c ∷ rest;
        cut = skips;
        ends = inr (fault, byte_len whole - byte_len (c ∷ rest), is_fault, begins_at whole (c ∷ rest) (omega arith));
      }
]

-- A text has strict tokens or a first fault.
pub tokens_or_fault_exist : (text : List ℕ) → HasTokensOrFault text
tokens_or_fault_exist text = by_end (strict_within (suc (byte_len text)) text text (omega arith) (omega arith))
  where
    by_end : StrictCut text text → HasTokensOrFault text
    by_end s = elim s.ends [
      | inl e ↦ inl (s.tokens ++ end_of text ∷ [], record { front = s.tokens; cut = subst (IsCut (IsTokenOf text) text s.tokens) e s.cut; all = refl })
      | inr f ↦ inr (f.0, f.1, record { front = s.tokens; left = s.left; cut = s.cut; place = f.3; fault = f.2 })
    ]

lenient_within : (n : ℕ) (whole text : List ℕ) → byte_len text ≤ byte_len whole → byte_len text < n → (tokens : List TokenView) × IsCut (LenientItem whole) text tokens []
lenient_within zero whole text within few = absurd (omega arith)
lenient_within (suc n) whole text within few = elim (start_of text) [
  | AtEnd skips ↦ ([], skips)
  | AtToken start kind value rest skips lexed ↦
      let fewer = Skips-fewer text start skips in
      let shorter = IsLexed-shorter start value rest kind lexed in
      let more = lenient_within n whole rest (omega arith) (omega arith) in (
        record { kind = kind; index = byte_len whole - byte_len start; value = value } ∷ more.0,
        (start, rest, skips, inl (record { lexed = lexed; place = begins_at whole start (omega arith) }), more.1),
      )
  | AtFault c rest fault skips is_fault ↦
      let fewer = Skips-fewer text (c ∷ rest) skips in
      let shorter = IsInvalidChar-shorter (c ∷ rest) (c ∷ []) rest InvalidChar
      (record { character = c; cut = refl; fault = fault; is_fault = is_fault; is_kind = refl; is_value = refl }) in
      let more = lenient_within n whole rest (omega arith) (omega arith) in
      let index = byte_len whole - byte_len (c ∷ rest) in (
        record { kind = InvalidChar; index = index; value = c ∷ [] } ∷ more.0,
        (
          c ∷ rest,
          rest,
          skips,
          inr (record {
            character = c;
            cut = refl;
            fault = fault;
            is_fault = is_fault;
            is_token = refl;
            place = begins_at whole (c ∷ rest) (omega arith);
          }),
          more.1,
        ),
      )
]

-- A text has lenient tokens.
pub lenient_tokens_exist : (text : List ℕ) → HasLenientTokens text
lenient_tokens_exist text =
    let all = lenient_within (suc (byte_len text)) text text (omega arith) (omega arith) in
    (all.0 ++ end_of text ∷ [], record { front = all.0; cut = all.1; all = refl })
