-- Lemmas on the body of a custom regular expression: how the start of a body continues to its end
-- or to a fault.
use Rattle.std.proofs.Common.{◌≡◌, ℕ, suc, zero, ◌≤◌, ◌<◌, ◌⊎◌, Bool, false, List, [], ◌∷◌, ◌++◌, refl, sym, ap, ◌∙◌, subst, inl, inr, append_assoc, ◌+◌, ◌-◌, ◌==◌, arith}
use Rattle.std.specs.Prelude.{codes, IsTrue}
use Rattle.std.proofs.Math.Numerals.{add-one}
use Rattle.std.proofs.lemmas.Bool.{false≢true, both_ways, or_cases, or_left}
use Rattle.std.proofs.lemmas.List.{append-nil, append_cancel_right}
use Rattle.urlpattern_syntax.specs.declared.tokenizer.TokenType.TheVariants.{Regexp}
use Rattle.urlpattern_syntax.specs.Tokens.{FaultView, IncompleteEscapeCode, InvalidName, InvalidRegex, NotAscii, EscapedNotAscii, GroupAtEnd, CapturingGroup, NotClosed, reason, IsFaultAt, IsLexed, LacksEscaped, LacksQuestionMark, Body, BodyStart, body_text, body_start_text, IsBody, IsBodyStart, IsRegexpStart, is_question_mark, Body as bodies, BodyStart as fronts}
use Rattle.urlpattern_syntax.specs.Text.{BeginsWith, is_among}

-- The text is a body.
pub record IsBodyText (text : List ℕ) : Type 0 where
  pub body : Body
  pub is_body : IsBody body
  pub spelled : text ≡ body_text body

-- The text is the start of a body.
pub record IsFrontText (text : List ℕ) : Type 0 where
  pub front : BodyStart
  pub is_front : IsBodyStart front
  pub spelled : text ≡ body_start_text front

-- A text that may be put before a body.
pub record Prepends (unit : List ℕ) : Type 0 where
  pub onto : Body → Body
  pub keeps : (body : Body) → IsBody body → IsBody (onto body)
  pub spells : (body : Body) → body_text (onto body) ≡ unit ++ body_text body

pub nothing : IsBodyText []
nothing = record { body = bodies.Nothing; is_body = tt; spelled = refl }

pub nowhere : IsFrontText []
nowhere = record { front = fronts.Here bodies.Nothing; is_front = tt; spelled = refl }

pub prepended : (unit text : List ℕ) → Prepends unit → IsBodyText text → IsBodyText (unit ++ text)
prepended unit text p b = record {
  body = p.onto b.body;
  is_body = p.keeps b.body b.is_body;
  spelled = ap (λ x. unit ++ x) b.spelled ∙ sym (p.spells b.body);
}

front_onto : (unit : List ℕ) → Prepends unit → BodyStart → BodyStart
front_onto unit p (fronts.Here body) = fronts.Here (p.onto body)
front_onto unit p (fronts.Inside body front) = fronts.Inside (p.onto body) front

front_keeps : (unit : List ℕ) (p : Prepends unit) (front : BodyStart) → IsBodyStart front → IsBodyStart (front_onto unit p front)
unfolding front_onto
front_keeps unit p (fronts.Here body) h = p.keeps body h
front_keeps unit p (fronts.Inside body front) h = (p.keeps body h.0, h.1, h.2)

front_spells : (unit : List ℕ) (p : Prepends unit) (front : BodyStart) → body_start_text (front_onto unit p front) ≡ unit ++ body_start_text front
unfolding front_onto
front_spells unit p (fronts.Here body) = p.spells body
front_spells unit p (fronts.Inside body front) =
    ap (λ x. (x ++ codes "(") ++ body_start_text front) (p.spells body)
    ∙ ap (λ x. x ++ body_start_text front) (append_assoc unit (body_text body) (codes "("))
    ∙ append_assoc unit (body_text body ++ codes "(") (body_start_text front)

pub prepended_front : (unit text : List ℕ) → Prepends unit → IsFrontText text → IsFrontText (unit ++ text)
prepended_front unit text p f = record {
  front = front_onto unit p f.front;
  is_front = front_keeps unit p f.front f.is_front;
  spelled = ap (λ x. unit ++ x) f.spelled ∙ sym (front_spells unit p f.front);
}

pub prepends_plain : (c : ℕ) → c < 128 → ¬ IsTrue (is_among (codes "\\()") c) → Prepends (c ∷ [])
prepends_plain c ascii plain = record { onto = bodies.Plain c; keeps = λ body h. (ascii, plain, h); spells = λ body. refl }

pub prepends_escaped : (c : ℕ) → c < 128 → Prepends (codes "\\" ++ c ∷ [])
prepends_escaped c ascii = record { onto = bodies.Escaped c; keeps = λ body h. (ascii, h); spells = λ body. refl }

-- A group whose body begins with a question mark.
pub prepends_group : (inner : List ℕ) → IsBodyText inner → BeginsWith is_question_mark inner → Prepends (codes "(" ++ inner ++ codes ")")
prepends_group inner i marked = record {
  onto = bodies.Group i.body;
  keeps = λ body h. (subst (BeginsWith is_question_mark) i.spelled marked, i.is_body, h);
  spells = λ body. ap (λ x. (codes "(" ++ x ++ codes ")") ++ body_text body) (sym i.spelled);
}

-- ---- the rest of a body inside inner parentheses

-- The text closes as many parentheses as `depth` says, and is then the rest of a body.
abbrev pub Closes : ℕ → List ℕ → Type 0
Closes zero text = IsBodyText text
Closes (suc depth) text = (inner rest : List ℕ) × (text ≡ (inner ++ codes ")") ++ rest) × IsBodyText inner × Closes depth rest

-- The text closes some of the parentheses, and is then the start of a body.
abbrev pub GoesOn : ℕ → List ℕ → Type 0
GoesOn zero text = IsFrontText text
GoesOn (suc depth) text =
    IsFrontText text ⊎ ((inner rest : List ℕ) × (text ≡ (inner ++ codes ")") ++ rest) × IsBodyText inner × GoesOn depth rest)

pub GoesOn-front : (depth : ℕ) (text : List ℕ) → IsFrontText text → GoesOn depth text
GoesOn-front zero text f = f
GoesOn-front (suc depth) text f = inl f

behind : (unit inner rest text : List ℕ) → text ≡ (inner ++ codes ")") ++ rest → unit ++ text ≡ ((unit ++ inner) ++ codes ")") ++ rest
behind unit inner rest text e =
    ap (λ x. unit ++ x) e ∙ sym (append_assoc unit (inner ++ codes ")") rest) ∙ ap (λ x. x ++ rest) (sym (append_assoc unit inner (codes ")")))

pub Closes-prepended : (depth : ℕ) (unit text : List ℕ) → Prepends unit → Closes depth text → Closes depth (unit ++ text)
Closes-prepended zero unit text p h = prepended unit text p h
Closes-prepended (suc depth) unit text p h =
    (unit ++ h.0, h.1, behind unit h.0 h.1 text h.2, prepended unit h.0 p h.3, h.4)

pub GoesOn-prepended : (depth : ℕ) (unit text : List ℕ) → Prepends unit → GoesOn depth text → GoesOn depth (unit ++ text)
GoesOn-prepended zero unit text p h = prepended_front unit text p h
GoesOn-prepended (suc depth) unit text p (inl f) = inl (prepended_front unit text p f)
GoesOn-prepended (suc depth) unit text p (inr h) =
    inr (unit ++ h.0, h.1, behind unit h.0 h.1 text h.2, prepended unit h.0 p h.3, h.4)

-- A closing parenthesis closes a group.
pub Closes-closed : (depth : ℕ) (text : List ℕ) → Closes depth text → Closes (suc depth) (codes ")" ++ text)
Closes-closed depth text h = ([], text, refl, nothing, h)

pub GoesOn-closed : (depth : ℕ) (text : List ℕ) → GoesOn depth text → GoesOn (suc depth) (codes ")" ++ text)
GoesOn-closed depth text h = inr ([], text, refl, nothing, h)

question_mark : Prepends (codes "?")
question_mark = prepends_plain 63 (omega arith) (λ h. false≢true h)

-- An opening parenthesis and its question mark open a group.
pub Closes-opened : (depth : ℕ) (text : List ℕ) → Closes (suc depth) text → Closes depth (codes "(?" ++ text)
Closes-opened depth text h =
    subst (Closes depth) (ap (λ x. codes "(?" ++ x) (sym h.2))
    (Closes-prepended depth (codes "(" ++ (codes "?" ++ h.0) ++ codes ")") h.1
    (prepends_group (codes "?" ++ h.0) (prepended (codes "?") h.0 question_mark h.3) refl) h.4)

pub GoesOn-opened : (depth : ℕ) (text : List ℕ) → GoesOn (suc depth) text → GoesOn depth (codes "(?" ++ text)
GoesOn-opened depth text (inl f) =
    let g = prepended_front (codes "?") text question_mark f in
    GoesOn-front depth (codes "(?" ++ text) (record {
      front = fronts.Inside bodies.Nothing g.front;
      is_front = (tt, g.is_front, subst (BeginsWith is_question_mark) g.spelled refl);
      spelled = ap (λ x. codes "(" ++ x) g.spelled;
    })
GoesOn-opened depth text (inr h) =
    subst (GoesOn depth) (ap (λ x. codes "(?" ++ x) (sym h.2))
    (GoesOn-prepended depth (codes "(" ++ (codes "?" ++ h.0) ++ codes ")") h.1
    (prepends_group (codes "?" ++ h.0) (prepended (codes "?") h.0 question_mark h.3) refl) h.4)

-- ---- reading

-- The text before `rest` is the start of a body, with as many open parentheses as `depth` says.
pub record HasRead (text rest : List ℕ) (depth : ℕ) : Type 0 where
  pub read : List ℕ
  pub cut : text ≡ read ++ rest
  pub closes : (more : List ℕ) → Closes depth more → IsBodyText (read ++ more)
  pub goes_on : (more : List ℕ) → GoesOn depth more → IsFrontText (read ++ more)

pub HasRead-start : (text : List ℕ) → HasRead text text 0
HasRead-start text = record { read = []; cut = refl; closes = λ more h. h; goes_on = λ more h. h }

HasRead-on : (text rest after unit : List ℕ) (depth next : ℕ) → HasRead text rest depth → rest ≡ unit ++ after → ((more : List ℕ) → Closes next more → Closes depth (unit ++ more)) → ((more : List ℕ) → GoesOn next more → GoesOn depth (unit ++ more)) → HasRead text after next
HasRead-on text rest after unit depth next h e closes goes_on = record {
  read = h.read ++ unit;
  cut = h.cut ∙ ap (λ x. h.read ++ x) e ∙ sym (append_assoc h.read unit after);
  closes = λ more g. subst IsBodyText (sym (append_assoc h.read unit more)) (h.closes (unit ++ more) (closes more g));
  goes_on = λ more g. subst IsFrontText (sym (append_assoc h.read unit more)) (h.goes_on (unit ++ more) (goes_on more g));
}

HasRead-unit : (text rest after unit : List ℕ) (depth : ℕ) → Prepends unit → HasRead text rest depth → rest ≡ unit ++ after → HasRead text after depth
HasRead-unit text rest after unit depth p h e =
    HasRead-on text rest after unit depth depth h e (λ more g. Closes-prepended depth unit more p g) (λ more g. GoesOn-prepended depth unit more p g)

pub HasRead-plain : (text rest after : List ℕ) (depth c : ℕ) → HasRead text rest depth → rest ≡ c ∷ after → c < 128 → is_among (codes "\\()") c ≡ false → HasRead text after depth
HasRead-plain text rest after depth c h e ascii plain =
    HasRead-unit text rest after (c ∷ []) depth (prepends_plain c ascii (λ g. both_ways _ plain g)) h e

pub HasRead-escaped : (text rest tail after : List ℕ) (depth c : ℕ) → HasRead text rest depth → rest ≡ codes "\\" ++ tail → tail ≡ c ∷ after → c < 128 → HasRead text after depth
HasRead-escaped text rest tail after depth c h e f ascii =
    HasRead-unit text rest after (codes "\\" ++ c ∷ []) depth (prepends_escaped c ascii) h (e ∙ ap (λ x. codes "\\" ++ x) f)

pub HasRead-opened : (text rest tail after : List ℕ) (depth : ℕ) → HasRead text rest depth → rest ≡ codes "(" ++ tail → tail ≡ codes "?" ++ after → HasRead text after (depth + 1)
HasRead-opened text rest tail after depth h e f =
    subst (HasRead text after) (sym (add-one depth))
    (HasRead-on text rest after (codes "(?") depth (suc depth) h (e ∙ ap (λ x. codes "(" ++ x) f) (Closes-opened depth) (GoesOn-opened depth))

HasRead-closed_suc : (text rest after : List ℕ) (depth : ℕ) → HasRead text rest (suc depth) → rest ≡ codes ")" ++ after → HasRead text after depth
HasRead-closed_suc text rest after depth h e =
    HasRead-on text rest after (codes ")") (suc depth) depth h e (Closes-closed depth) (GoesOn-closed depth)

pub HasRead-closed : (text rest after : List ℕ) (depth : ℕ) → HasRead text rest depth → 0 < depth → rest ≡ codes ")" ++ after → HasRead text after (depth - 1)
HasRead-closed text rest after depth h some e =
    HasRead-closed_suc text rest after (depth - 1) (subst (HasRead text rest) (let p : depth ≡ suc (depth - 1) = omega arith in p) h) e

-- ---- the end of the loop

begins_longer : (p : ℕ → Bool) (xs ys : List ℕ) → BeginsWith p xs → BeginsWith p (xs ++ ys)
begins_longer p [] ys h = absurd (false≢true h)
begins_longer p (x ∷ xs) ys h = h

begins_among : (text : List ℕ) → BeginsWith is_question_mark text → BeginsWith (is_among (codes "?)")) text
begins_among [] h = h
begins_among (c ∷ text) h = elim (or_cases (63 == c) false h) [ inl e ↦ or_left (63 == c) (is_among (codes ")") c) e | inr e ↦ absurd (false≢true e) ]

module _ (text rest : List ℕ) (depth : ℕ) (h : HasRead text rest depth) (unmarked : ¬ BeginsWith (is_among (codes "?)")) text) where
  -- The text read may precede a fault.
  pub front_read : IsRegexpStart h.read
  front_read =
      let f : IsFrontText h.read = subst IsFrontText (append-nil h.read) (h.goes_on [] (GoesOn-front depth [] nowhere)) in
      record {
        front = f.front;
        is_front = f.is_front;
        spelled = f.spelled;
        not_marked = λ b. unmarked (begins_among text (subst (BeginsWith is_question_mark) (sym h.cut) (begins_longer is_question_mark h.read rest b)));
      }

  pub body_lexed : (value after : List ℕ) → depth ≡ 0 → rest ≡ codes ")" ++ after → text ≡ value ++ rest → IsLexed (codes "(" ++ text) Regexp value after
  body_lexed value after zero_depth e f =
      let same : value ≡ h.read = append_cancel_right value h.read rest (sym f ∙ h.cut) in
      let b : IsBodyText value = subst IsBodyText (append-nil h.read ∙ sym same) (h.closes [] (subst (λ d. Closes d []) (sym zero_depth) nothing)) in
      record {
        spelling = codes "(" ++ value ++ codes ")";
        cut = ap (λ x. codes "(" ++ x) (f ∙ ap (λ x. value ++ x) e ∙ sym (append_assoc value (codes ")") after));
        spells = (
          refl,
          record {
            body = b.body;
            is_body = b.is_body;
            spelled = b.spelled;
            not_empty = λ empty. unmarked (subst (BeginsWith (is_among (codes "?)"))) (sym (f ∙ ap (λ x. x ++ rest) empty ∙ e)) refl);
            not_marked = λ g. unmarked (begins_among text (subst (BeginsWith is_question_mark) (sym f) (begins_longer is_question_mark value rest g)));
          },
        );
        ends = tt;
      }

  pub fault_not_ascii : (after : List ℕ) (c : ℕ) → rest ≡ c ∷ after → 128 ≤ c → IsFaultAt (codes "(" ++ text) (InvalidRegex (reason NotAscii))
  fault_not_ascii after c e big = (text, NotAscii, refl, (h.read, after, c, front_read, h.cut ∙ ap (λ x. h.read ++ x) e, big), refl)

  pub fault_escape : (tail : List ℕ) (fault : FaultView) → rest ≡ codes "\\" ++ tail → LacksEscaped tail fault → IsFaultAt (codes "(" ++ text) fault
  fault_escape tail IncompleteEscapeCode e lacks =
      inr (h.read, front_read, ap (λ x. codes "(" ++ x) (h.cut ∙ ap (λ x. h.read ++ x) (e ∙ ap (λ x. codes "\\" ++ x) lacks)))
  fault_escape tail InvalidName e lacks = absurd lacks
  fault_escape tail (InvalidRegex reported) e lacks = (
    text,
    EscapedNotAscii,
    refl,
    (
      h.read,
      lacks.1,
      lacks.0,
      front_read,
      h.cut ∙ ap (λ x. h.read ++ x) (e ∙ ap (λ x. codes "\\" ++ x) lacks.2) ∙ sym (append_assoc h.read (codes "\\") (lacks.0 ∷ lacks.1)),
      lacks.3,
    ),
    lacks.4,
  )

  pub fault_group : (tail : List ℕ) (fault : FaultView) → rest ≡ codes "(" ++ tail → LacksQuestionMark tail fault → IsFaultAt (codes "(" ++ text) fault
  fault_group tail IncompleteEscapeCode e lacks = absurd lacks
  fault_group tail InvalidName e lacks = absurd lacks
  fault_group tail (InvalidRegex reported) e (inl lacks) =
      (text, GroupAtEnd, refl, (h.read, front_read, h.cut ∙ ap (λ x. h.read ++ x) (e ∙ ap (λ x. codes "(" ++ x) lacks.0)), lacks.1)
  fault_group tail (InvalidRegex reported) e (inr lacks) = (
    text,
    CapturingGroup,
    refl,
    (
      h.read,
      lacks.1,
      lacks.0,
      front_read,
      h.cut ∙ ap (λ x. h.read ++ x) (e ∙ ap (λ x. codes "(" ++ x) lacks.2) ∙ sym (append_assoc h.read (codes "(") (lacks.0 ∷ lacks.1)),
      lacks.3,
    ),
    lacks.4,
  )

  pub fault_end : rest ≡ [] → IsFaultAt (codes "(" ++ text) (InvalidRegex (reason NotClosed))
  fault_end e =
      (text, NotClosed, refl, subst IsRegexpStart (sym (h.cut ∙ ap (λ x. h.read ++ x) e ∙ append-nil h.read)) front_read, refl)
