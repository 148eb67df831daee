-- A text begins with one token or with one fault, and never with both.
use Rattle.std.proofs.Common.{◌≡◌, ℕ, suc, zero, ◌≤◌, Bool, false, cond, List, [], ◌∷◌, ◌++◌, refl, sym, ap, ◌∙◌, subst, inl, inr, append_assoc, arith}
use Rattle.std.specs.Prelude.{codes, IsTrue, ◌==◌}
use Rattle.std.specs.List.{list_all}
use Rattle.std.proofs.lemmas.Bool.{false≢true, or_cases, and_parts, eqb-true, ltb-true, ne_eqb, or_from, lt-ltb, le-ltb, cond-true, cond-false, false_from_ne_true}
use Rattle.std.proofs.lemmas.List.{append-nil, append_cancel_right}
use lib.Dec.{ltb}
use Rattle.urlpattern_syntax.specs.declared.tokenizer.TokenType.{TokenType}
use Rattle.urlpattern_syntax.specs.declared.tokenizer.TokenType.TheVariants.{Asterisk, Char, Close, End, EscapedChar, InvalidChar, Name, Open, OtherModifier, Regexp}
use Rattle.urlpattern_syntax.specs.Text.{BeginsWith, is_among, is_name_start, is_name_part}
use Rattle.urlpattern_syntax.specs.Tokens.{Body, BodyStart, body_text, body_start_text, IsBody, IsBodyStart, IsRegexpBody, IsRegexpStart, is_question_mark, Body as bodies, BodyStart as fronts, FaultView, IncompleteEscapeCode, InvalidName, InvalidRegex, RegexpFault, StartsWithQuestionMark, NotAscii, EscapedNotAscii, GroupAtEnd, CapturingGroup, NotClosed, NoBody, reason, LacksRegexp, IsFaultAt, IsLexed, Spells, IsMaximal, IsName, marks, is_ignored, SkipsBy}

-- ---- reading the text after an opening bracket from left to right

-- The closing bracket was found, with the text after it, or there is a fault.
data Reached : Type 0 where
  Shut : List ℕ → Reached
  Fails : FaultView → Reached

-- The text before: a whole unit, a backslash, or an inner bracket that opens.
data Mode : Type 0 where
  Reads Escapes Opens : Mode

close : Reached → (ℕ → Reached) → ℕ → Reached
close shut inside zero = shut
close shut inside (suc depth) = inside depth

-- The text after a body, where `depth` inner brackets are open.
scan : List ℕ → Mode → ℕ → Reached
scan [] Reads depth = Fails (InvalidRegex (reason NotClosed))
scan [] Escapes depth = Fails IncompleteEscapeCode
scan [] Opens depth = Fails (InvalidRegex (reason GroupAtEnd))
scan (c ∷ text) Reads depth =
    cond (is_among (codes "\\()") c)
    (cond (is_among (codes "\\") c) (scan text Escapes depth)
    (cond (is_among (codes "(") c) (scan text Opens depth) (close (Shut text) (λ d. scan text Reads d) depth)))
    (cond (ltb c 128) (scan text Reads depth) (Fails (InvalidRegex (reason NotAscii))))
scan (c ∷ text) Escapes depth = cond (ltb c 128) (scan text Reads depth) (Fails (InvalidRegex (reason EscapedNotAscii)))
scan (c ∷ text) Opens depth = cond (is_question_mark c) (scan text Reads (suc depth)) (Fails (InvalidRegex (reason CapturingGroup)))

mark_is : (mark c : ℕ) → IsTrue (is_among (mark ∷ []) c) → mark ≡ c
mark_is mark c h = elim (or_cases (mark == c) false h) [ inl e ↦ eqb-true mark c e | inr e ↦ absurd (false≢true e) ]

scan-opened : (text : List ℕ) (depth : ℕ) → BeginsWith is_question_mark text → scan text Opens depth ≡ scan text Reads (suc depth)
unfolding scan
scan-opened [] depth h = absurd (false≢true h)
scan-opened (c ∷ text) depth h = subst (λ x. scan (x ∷ text) Opens depth ≡ scan (x ∷ text) Reads (suc depth)) (mark_is 63 c h) refl

begins_longer : (p : ℕ → Bool) (xs ys : List ℕ) → BeginsWith p xs → BeginsWith p (xs ++ ys)
begins_longer p [] ys h = absurd (false≢true h)
begins_longer p (x ∷ xs) ys h = h

-- A scan passes over a body.
scan-body : (body : Body) → IsBody body → (rest : List ℕ) (depth : ℕ) → scan (body_text body ++ rest) Reads depth ≡ scan rest Reads depth
unfolding scan close
scan-body bodies.Nothing h rest depth = refl
scan-body (bodies.Escaped c body) h rest depth =
    cond-true (ltb c 128) _ _ (lt-ltb c 128 h.0) ∙ scan-body body h.1 rest depth
scan-body (bodies.Plain c body) h rest depth =
    cond-false (is_among (codes "\\()") c) _ _ (false_from_ne_true _ h.1)
    ∙ cond-true (ltb c 128) _ _ (lt-ltb c 128 h.0) ∙ scan-body body h.2 rest depth
scan-body (bodies.Group inner body) h rest depth =
    let behind : List ℕ = codes ")" ++ body_text body ++ rest in
    ap (λ x. scan x Opens depth) (append_assoc (body_text inner ++ codes ")") (body_text body) rest ∙ append_assoc (body_text inner) (codes ")") (body_text body ++ rest))
    ∙ scan-opened (body_text inner ++ behind) depth (begins_longer is_question_mark (body_text inner) behind h.0)
    ∙ scan-body inner h.1 behind (suc depth)
    ∙ scan-body body h.2 rest depth

depth_of : BodyStart → ℕ → ℕ
depth_of (fronts.Here body) depth = depth
depth_of (fronts.Inside body front) depth = depth_of front (suc depth)

scan-front : (front : BodyStart) → IsBodyStart front → (rest : List ℕ) (depth : ℕ) → scan (body_start_text front ++ rest) Reads depth ≡ scan rest Reads (depth_of front depth)
unfolding scan depth_of
scan-front (fronts.Here body) h rest depth = scan-body body h rest depth
scan-front (fronts.Inside body front) h rest depth =
    ap (λ x. scan x Reads depth) (append_assoc (body_text body ++ codes "(") (body_start_text front) rest ∙ append_assoc (body_text body) (codes "(") (body_start_text front ++ rest))
    ∙ scan-body body h.0 (codes "(" ++ (body_start_text front ++ rest)) depth
    ∙ scan-opened (body_start_text front ++ rest) depth (begins_longer is_question_mark (body_start_text front) rest h.2)
    ∙ scan-front front h.1 rest (suc depth)

-- ---- reading a token or a fault at the beginning of a text

-- The beginning of a text: a token, a fault, or neither.
data Lexing : Type 0 where
  Token : TokenType → List ℕ → Lexing
  Fault : FaultView → Lexing
  None : Lexing

begins : (ℕ → Bool) → List ℕ → Bool
begins p [] = false
begins p (c ∷ text) = p c

reported : Reached → Lexing
reported (Shut rest) = Token Regexp rest
reported (Fails fault) = Fault fault

bracketed : List ℕ → Lexing
bracketed text =
    cond (begins is_question_mark text) (Fault (InvalidRegex (reason StartsWithQuestionMark)))
    (cond (begins (is_among (codes ")")) text) (Fault (InvalidRegex (reason NoBody))) (reported (scan text Reads 0)))

-- The text after the characters that pass the test.
after : (ℕ → Bool) → List ℕ → List ℕ
after p [] = []
after p (c ∷ text) = cond (p c) (after p text) (c ∷ text)

named : List ℕ → Lexing
named [] = Fault InvalidName
named (c ∷ text) = cond (is_name_start c) (Token Name (after is_name_part text)) (Fault InvalidName)

escaped : List ℕ → Lexing
escaped [] = Fault IncompleteEscapeCode
escaped (c ∷ text) = Token EscapedChar text

marked : ℕ → List ℕ → Lexing
marked c text =
    cond (is_among (codes "{") c) (Token Open text)
    (cond (is_among (codes "}") c) (Token Close text)
    (cond (is_among (codes "*") c) (Token Asterisk text)
    (cond (is_among (codes "+?") c) (Token OtherModifier text)
    (cond (is_among (codes "\\") c) (escaped text)
    (cond (is_among (codes ":") c) (named text) (bracketed text))))))

lex : List ℕ → Lexing
lex [] = None
lex (c ∷ text) = cond (is_among marks c) (marked c text) (cond (is_ignored c) None (Token Char text))

-- ---- the results of reading

after-all : (p : ℕ → Bool) (front rest : List ℕ) → IsTrue (list_all p front) → ¬ BeginsWith p rest → after p (front ++ rest) ≡ rest
unfolding after
after-all p [] [] h stops = refl
after-all p [] (c ∷ rest) h stops = cond-false (p c) _ _ (false_from_ne_true (p c) stops)
after-all p (c ∷ front) rest h stops =
    let parts = and_parts (p c) (list_all p front) h in
    cond-true (p c) _ _ parts.0 ∙ after-all p front rest parts.1 stops

begins-append : (p : ℕ → Bool) (front rest : List ℕ) → ¬ BeginsWith p front → (front ≡ [] → begins p rest ≡ false) → begins p (front ++ rest) ≡ false
unfolding begins
begins-append p [] rest h e = e refl
begins-append p (c ∷ front) rest h e = false_from_ne_true (p c) h

-- A body does not begin with a closing bracket.
body-unclosed : (body : Body) → IsBody body → ¬ BeginsWith (is_among (codes ")")) (body_text body)
body-unclosed bodies.Nothing h b = false≢true b
body-unclosed (bodies.Escaped c body) h b = false≢true b
body-unclosed (bodies.Plain c body) h b = h.1 (subst (λ x. IsTrue (is_among (codes "\\()") x)) (mark_is 41 c b) refl)
body-unclosed (bodies.Group inner body) h b = false≢true b

front-unclosed : (front : BodyStart) → IsBodyStart front → ¬ BeginsWith (is_among (codes ")")) (body_start_text front)
front-unclosed (fronts.Here body) h b = body-unclosed body h b
front-unclosed (fronts.Inside bodies.Nothing front) h b = false≢true b
front-unclosed (fronts.Inside (bodies.Escaped c body) front) h b = false≢true b
front-unclosed (fronts.Inside (bodies.Plain c body) front) h b = body-unclosed (bodies.Plain c body) h.0 b
front-unclosed (fronts.Inside (bodies.Group inner body) front) h b = false≢true b

bracketed-scan : (front rest : List ℕ) → ¬ BeginsWith is_question_mark front → ¬ BeginsWith (is_among (codes ")")) front → (front ≡ [] → begins is_question_mark rest ≡ false) → (front ≡ [] → begins (is_among (codes ")")) rest ≡ false) → bracketed (front ++ rest) ≡ reported (scan (front ++ rest) Reads 0)
unfolding bracketed
bracketed-scan front rest unmarked unclosed e f =
    cond-false _ _ _ (begins-append is_question_mark front rest unmarked e)
    ∙ cond-false _ _ _ (begins-append (is_among (codes ")")) front rest unclosed f)

bracketed-body : (value rest : List ℕ) → IsRegexpBody value → bracketed (value ++ (codes ")" ++ rest)) ≡ Token Regexp rest
unfolding scan close reported
bracketed-body value rest h =
    bracketed-scan value (codes ")" ++ rest) h.not_marked (λ b. body-unclosed h.body h.is_body (subst (BeginsWith (is_among (codes ")"))) h.spelled b)) (λ e. absurd (h.not_empty e)) (λ e. absurd (h.not_empty e))
    ∙ ap (λ x. reported (scan (x ++ (codes ")" ++ rest)) Reads 0)) h.spelled
    ∙ ap reported (scan-body h.body h.is_body (codes ")" ++ rest) 0)

bracketed-front : (front rest : List ℕ) (h : IsRegexpStart front) → begins is_question_mark rest ≡ false → begins (is_among (codes ")")) rest ≡ false → bracketed (front ++ rest) ≡ reported (scan rest Reads (depth_of h.front 0))
unfolding scan
bracketed-front front rest h e f =
    bracketed-scan front rest h.not_marked (λ b. front-unclosed h.front h.is_front (subst (BeginsWith (is_among (codes ")"))) h.spelled b)) (λ _. e) (λ _. f)
    ∙ ap (λ x. reported (scan (x ++ rest) Reads 0)) h.spelled
    ∙ ap reported (scan-front h.front h.is_front rest 0)

named-name : (value rest : List ℕ) → IsName value → ¬ BeginsWith is_name_part rest → named (value ++ rest) ≡ Token Name rest
unfolding named
named-name [] rest h ends = absurd h
named-name (c ∷ value) rest h ends =
    cond-true (is_name_start c) _ _ h.0 ∙ ap (λ x. Token Name x) (after-all is_name_part value rest h.1 ends)

named-not : (rest : List ℕ) → ¬ BeginsWith is_name_start rest → named rest ≡ Fault InvalidName
unfolding named
named-not [] h = refl
named-not (c ∷ rest) h = cond-false (is_name_start c) _ _ (false_from_ne_true _ h)

lex-spelled : (kind : TokenType) (value text rest : List ℕ) → Spells kind value text → IsMaximal kind rest → lex (text ++ rest) ≡ Token kind rest
unfolding lex marked escaped
lex-spelled Open value text rest h ends = ap (λ x. lex (x ++ rest)) h.1
lex-spelled Close value text rest h ends = ap (λ x. lex (x ++ rest)) h.1
lex-spelled Asterisk value text rest h ends = ap (λ x. lex (x ++ rest)) h.1
lex-spelled OtherModifier value text rest h ends = elim h.1 [ inl e ↦ ap (λ x. lex (x ++ rest)) e | inr e ↦ ap (λ x. lex (x ++ rest)) e ]
lex-spelled EscapedChar value text rest h ends = ap (λ x. lex (x ++ rest)) (h.0 ∙ ap (λ x. codes "\\" ++ x) h.1.1)
lex-spelled Name value text rest h ends = ap (λ x. lex (x ++ rest)) h.0 ∙ named-name value rest h.1 ends
lex-spelled Regexp value text rest h ends =
    ap (λ x. lex (x ++ rest)) h.0 ∙ ap bracketed (append_assoc value (codes ")") rest) ∙ bracketed-body value rest h.1
lex-spelled Char value text rest h ends =
    ap (λ x. lex (x ++ rest)) h.1.1
    ∙ cond-false (is_among marks h.1.0) _ _ (false_from_ne_true _ h.1.2) ∙ cond-false (is_ignored h.1.0) _ _ (false_from_ne_true _ h.1.3)
lex-spelled End value text rest h ends = absurd h
lex-spelled InvalidChar value text rest h ends = absurd h

lex-token : (text : List ℕ) (kind : TokenType) (value rest : List ℕ) → IsLexed text kind value rest → lex text ≡ Token kind rest
lex-token text kind value rest h = ap lex h.cut ∙ lex-spelled kind value h.spelling rest h.spells h.ends

-- A character that is not ASCII is none of some ASCII marks.
over_ascii : (c : ℕ) → 128 ≤ c → (many : List ℕ) → IsTrue (list_all (λ mark. ltb mark 128) many) → is_among many c ≡ false
over_ascii c big [] h = refl
over_ascii c big (mark ∷ many) h =
    let parts = and_parts (ltb mark 128) _ h in
    let less = ltb-true mark 128 parts.0 in
    or_from (mark == c) _ (ne_eqb mark c (λ e. omega arith)) (over_ascii c big many parts.1)

-- No token begins with a character that is skipped.
ignored_unmarked : (c : ℕ) → IsTrue (is_ignored c) → is_among marks c ≡ false
ignored_unmarked c h =
    elim (or_cases (9 == c) _ h) [
      | inl e ↦ ap (is_among marks) (sym (eqb-true 9 c e))
      | inr g ↦ elim (or_cases (10 == c) _ g) [
        | inl e ↦ ap (is_among marks) (sym (eqb-true 10 c e))
        | inr k ↦ ap (is_among marks) (sym (mark_is 13 c k))
      ]
    ]

-- A spelling has one value.
value_one : (kind : TokenType) (value other text : List ℕ) → Spells kind value text → Spells kind other text → value ≡ other
value_one Open value other text h g = h.0 ∙ sym g.0
value_one Close value other text h g = h.0 ∙ sym g.0
value_one Asterisk value other text h g = h.0 ∙ sym g.0
value_one OtherModifier value other text h g = h.0 ∙ sym g.0
value_one EscapedChar value other text h g = cc (h.0, g.0)
value_one Name value other text h g = cc (h.0, g.0)
value_one Regexp value other text h g =
    let e = sym h.0 ∙ g.0 in
    append_cancel_right value other (codes ")") (cc e)
value_one Char value other text h g = h.0 ∙ sym g.0
value_one End value other text h g = absurd h
value_one InvalidChar value other text h g = absurd h

lex-lacks : (rest : List ℕ) (fault : RegexpFault) → LacksRegexp rest fault → bracketed rest ≡ Fault (InvalidRegex (reason fault))
unfolding bracketed begins scan reported
lex-lacks [] StartsWithQuestionMark h = absurd (false≢true h)
lex-lacks (c ∷ rest) StartsWithQuestionMark h = cond-true (is_question_mark c) _ _ h
lex-lacks rest NotAscii h =
    let odd = over_ascii h.2 h.5 in
    ap bracketed h.4
    ∙ bracketed-front h.0 (h.2 ∷ h.1) h.3 (odd (codes "?") refl) (odd (codes ")") refl)
    ∙ ap reported (cond-false _ _ _ (odd (codes "\\()") refl) ∙ cond-false _ _ _ (le-ltb h.2 128 h.5))
lex-lacks rest EscapedNotAscii h =
    ap bracketed (h.4 ∙ append_assoc h.0 (codes "\\") (h.2 ∷ h.1))
    ∙ bracketed-front h.0 (codes "\\" ++ h.2 ∷ h.1) h.3 refl refl
    ∙ ap reported (cond-false _ _ _ (le-ltb h.2 128 h.5))
lex-lacks rest GroupAtEnd h = ap bracketed h.2 ∙ bracketed-front h.0 (codes "(") h.1 refl refl
lex-lacks rest CapturingGroup h =
    ap bracketed (h.4 ∙ append_assoc h.0 (codes "(") (h.2 ∷ h.1))
    ∙ bracketed-front h.0 (codes "(" ++ h.2 ∷ h.1) h.3 refl refl
    ∙ ap reported (cond-false _ _ _ (false_from_ne_true _ h.5))
lex-lacks rest NotClosed h = ap bracketed (sym (append-nil rest)) ∙ bracketed-front rest [] h refl refl
lex-lacks rest NoBody h = ap bracketed h.1

lex-fault : (text : List ℕ) (fault : FaultView) → IsFaultAt text fault → lex text ≡ Fault fault
unfolding lex marked escaped begins scan reported
lex-fault text IncompleteEscapeCode (inl e) = ap lex e
lex-fault text IncompleteEscapeCode (inr h) =
    ap lex h.2 ∙ bracketed-front h.0 (codes "\\") h.1 refl refl
lex-fault text InvalidName h = ap lex h.1 ∙ named-not h.0 h.2
lex-fault text (InvalidRegex words) h =
    ap lex h.2 ∙ lex-lacks h.0 h.1 h.3 ∙ ap (λ x. Fault (InvalidRegex x)) (sym h.4)

lex-ignored : (text : List ℕ) → BeginsWith is_ignored text → lex text ≡ None
unfolding lex
lex-ignored [] h = refl
lex-ignored (c ∷ text) h = cond-false (is_among marks c) _ _ (ignored_unmarked c h) ∙ cond-true (is_ignored c) _ _ h

-- ---- one token or one fault

-- A text begins with at most one token.
pub lexed_one : (text : List ℕ) (kind other : TokenType) (value word rest left : List ℕ) → IsLexed text kind value rest → IsLexed text other word left → (kind ≡ other) × (value ≡ word) × (rest ≡ left)
lexed_one text kind other value word rest left h g =
    let e = sym (lex-token text kind value rest h) ∙ lex-token text other word left g in
    let same_kind : kind ≡ other = cc e in
    let same_rest : rest ≡ left = cc e in
    let same_spelling : h.spelling ≡ g.spelling =
    append_cancel_right h.spelling g.spelling rest (sym h.cut ∙ g.cut ∙ ap (λ x. g.spelling ++ x) (sym same_rest)) in (
      same_kind,
      value_one other value word g.spelling (subst (λ k. Spells k value g.spelling) same_kind (subst (λ x. Spells kind value x) same_spelling h.spells)) g.spells,
      same_rest,
    )

-- A text begins with at most one fault.
pub fault_at_one : (text : List ℕ) (fault other : FaultView) → IsFaultAt text fault → IsFaultAt text other → fault ≡ other
fault_at_one text fault other h g = cc (lex-fault text fault h, lex-fault text other g)

-- A text never begins with both a token and a fault.
pub lexed_or_fault : (text : List ℕ) (kind : TokenType) (value rest : List ℕ) (fault : FaultView) → IsLexed text kind value rest → IsFaultAt text fault → ⊥
lexed_or_fault text kind value rest fault h g = cc (lex-token text kind value rest h, lex-fault text fault g)

-- No token begins with a character that is skipped.
pub lexed_counts : (text : List ℕ) (kind : TokenType) (value rest : List ℕ) → IsLexed text kind value rest → ¬ BeginsWith is_ignored text
lexed_counts text kind value rest h b = cc (lex-token text kind value rest h, lex-ignored text b)

-- No fault is at a character that is skipped.
pub fault_counts : (text : List ℕ) (fault : FaultView) → IsFaultAt text fault → ¬ BeginsWith is_ignored text
fault_counts text fault h b = cc (lex-fault text fault h, lex-ignored text b)

-- The empty text begins with no token and has no fault.
pub nothing_lexed : (kind : TokenType) (value rest : List ℕ) → IsLexed [] kind value rest → ⊥
unfolding lex
nothing_lexed kind value rest h = let e : None ≡ Token kind rest = lex-token [] kind value rest h in cc e

pub no_fault : (fault : FaultView) → IsFaultAt [] fault → ⊥
unfolding lex
no_fault fault h = let e : None ≡ Fault fault = lex-fault [] fault h in cc e

-- At most one rest is left after all characters that pass the test.
pub skips_one : (p : ℕ → Bool) (text rest left : List ℕ) → SkipsBy p text rest → SkipsBy p text left → ¬ BeginsWith p rest → ¬ BeginsWith p left → rest ≡ left
skips_one p text rest left s t rest_stops left_stops =
    sym (ap (after p) s.1 ∙ after-all p s.0 rest s.2 rest_stops) ∙ ap (after p) t.1 ∙ after-all p t.0 left t.2 left_stops
