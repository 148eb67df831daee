-- Worked examples of tokens and faults, and the steps by which examples cut a text.
use Rattle.std.proofs.Common.{◌≡◌, ℕ, ◌<◌, false, List, [], ◌∷◌, ◌++◌, refl, arith, inl, inr, lit<, lit≤}
use Rattle.std.proofs.lemmas.Bool.{both_ways}
use Rattle.std.specs.Char.{encode_utf8}
use Rattle.std.specs.Prelude.{codes, IsTrue}
use Rattle.ucd_table.proofs.Computing.{tables}
use Rattle.unicode.proofs.BinaryLemmas.{is_id_start_stepped, is_id_continue_stepped}
use Rattle.urlpattern_syntax.specs.declared.tokenizer.TokenType.{TokenType}
use Rattle.urlpattern_syntax.specs.declared.tokenizer.TokenType.TheVariants.{Close, Regexp, Name, Char, EscapedChar, End, InvalidChar}
use Rattle.urlpattern_syntax.specs.Text.{byte_len, BeginsAt, BeginsWith, is_among, is_name_start, is_name_part}
use Rattle.urlpattern_syntax.specs.Tokens.{TokenView, Spells, IsMaximal, IsName, IsTokenOf, AreTokens, AreLenientTokens, IsFault, IncompleteEscapeCode, InvalidName, InvalidRegex, Nothing, Plain, IsRegexpBody, Here, IsRegexpStart, IsCut, marks, is_ignored, is_question_mark, Skips, RegexpFault, LacksRegexp, reason, RegexpFault as regexp_faults}

-- ---- steps

-- `unfolding literals` lets `refl` compute the bytes of a literal text, and which characters may be
-- in a name.
unfoldable pub literals : Unit {0}
unfolding byte_len encode_utf8 tables is_id_start_stepped is_id_continue_stepped is_name_start is_name_part
literals = tt

abbrev pub token : TokenType → ℕ → List ℕ → TokenView
token kind index value = record { kind = kind; index = index; value = value }

-- A test that fails.
pub no : IsTrue false → ⊥
no = both_ways false refl

-- No character is skipped.
pub none : {text : List ℕ} → Skips text text
none = ([], refl, refl)

-- Tokens at the start of a text, one after the other, and the rest of it.
pub data Cut (whole left : List ℕ) : List ℕ → List TokenView → Type 0 where
  done : Cut whole left left []
  next : {text rest : List ℕ} {token : TokenView} {tokens : List TokenView} → IsTokenOf whole text token rest → Cut whole left rest tokens → Cut whole left text (token ∷ tokens)

-- The tokens of a cut by steps are a cut.
pub cut_of : {whole left text : List ℕ} {tokens : List TokenView} → Cut whole left text tokens → IsCut (IsTokenOf whole) text tokens left
cut_of done = none
cut_of (next {text} {rest} item more) = (text, rest, none, item, cut_of more)

-- A character that begins no other token.
pub char : {whole rest : List ℕ} {c index : ℕ} → is_among marks c ≡ false → is_ignored c ≡ false → BeginsAt whole (c ∷ rest) index → IsTokenOf whole (c ∷ rest) (token Char index (c ∷ [])) rest
char {whole} {rest} {c} {index} no_mark not_ignored place = record {
  lexed = record { spelling = c ∷ []; cut = refl; spells = (refl, (c, refl, both_ways _ no_mark, both_ways _ not_ignored)); ends = tt };
  place = place;
}

-- A character that is a token by itself.
pub mark : {whole rest : List ℕ} {kind : TokenType} {c index : ℕ} → Spells kind (c ∷ []) (c ∷ []) → IsMaximal kind rest → BeginsAt whole (c ∷ rest) index → IsTokenOf whole (c ∷ rest) (token kind index (c ∷ [])) rest
mark {whole} {rest} {kind} {c} {index} spells ends place =
    record { lexed = record { spelling = c ∷ []; cut = refl; spells = spells; ends = ends }; place = place }

-- A character after a backslash.
pub escaped_char : {whole rest : List ℕ} {c index : ℕ} → BeginsAt whole (codes "\\" ++ c ∷ rest) index → IsTokenOf whole (codes "\\" ++ c ∷ rest) (token EscapedChar index (c ∷ [])) rest
escaped_char {whole} {rest} {c} {index} place = record {
  lexed = record { spelling = codes "\\" ++ c ∷ []; cut = refl; spells = (refl, (c, refl)); ends = tt };
  place = place;
}

-- A colon and a name.
pub name : {whole rest : List ℕ} {index : ℕ} (value : List ℕ) → IsName value → ¬ BeginsWith is_name_part rest → BeginsAt whole (codes ":" ++ value ++ rest) index → IsTokenOf whole (codes ":" ++ value ++ rest) (token Name index value) rest
name {whole} {rest} {index} value is_name ends place = record {
  lexed = record { spelling = codes ":" ++ value; cut = refl; spells = (refl, is_name); ends = ends };
  place = place;
}

-- A custom regular expression.
pub regexp : {whole rest : List ℕ} {index : ℕ} (value : List ℕ) → IsRegexpBody value → BeginsAt whole (codes "(" ++ (value ++ codes ")") ++ rest) index → IsTokenOf whole (codes "(" ++ (value ++ codes ")") ++ rest) (token Regexp index value) rest
regexp {whole} {rest} {index} value is_body place = record {
  lexed = record { spelling = codes "(" ++ value ++ codes ")"; cut = refl; spells = (refl, is_body); ends = tt };
  place = place;
}

-- A body of a single plain character.
pub short_body : {c : ℕ} → c < 128 → is_among (codes "\\()") c ≡ false → is_question_mark c ≡ false → IsRegexpBody (c ∷ [])
short_body {c} ascii plain not_marked = record {
  body = Plain c Nothing;
  is_body = (ascii, both_ways _ plain, tt);
  spelled = refl;
  not_empty = λ e. cc;
  not_marked = both_ways _ not_marked;
}

-- The start of a body that is empty, and one of a single plain character.
pub no_front : IsRegexpStart []
no_front = record { front = Here Nothing; is_front = tt; spelled = refl; not_marked = no }

pub short_front : {c : ℕ} → c < 128 → is_among (codes "\\()") c ≡ false → is_question_mark c ≡ false → IsRegexpStart (c ∷ [])
short_front {c} ascii plain not_marked =
    record { front = Here (Plain c Nothing); is_front = (ascii, both_ways _ plain, tt); spelled = refl; not_marked = both_ways _ not_marked }

-- ---- tokens

-- The pattern `/users/:id`: a name has the letters after its colon.
abbrev pub users_front : List TokenView
users_front =
    token Char 0 (codes "/") ∷ token Char 1 (codes "u") ∷ token Char 2 (codes "s") ∷ token Char 3 (codes "e")
    ∷ token Char 4 (codes "r") ∷ token Char 5 (codes "s") ∷ token Char 6 (codes "/") ∷ token Name 7 (codes "id") ∷ []

pub users_tokens : AreTokens (codes "/users/:id") (users_front ++ token End 10 [] ∷ [])
unfolding literals
users_tokens = record {
  front = users_front;
  cut =
      cut_of (next (char refl refl refl) (next (char refl refl refl) (next (char refl refl refl)
      (next (char refl refl refl) (next (char refl refl refl) (next (char refl refl refl) (next (char refl refl refl)
      (next (name (codes "id") (refl, refl) no refl) done))))))));
  all = refl;
}

-- The pattern `a\{:b(c)`: a backslash escapes the brace, a parenthesis ends the name, and the
-- parentheses are not part of the value.
abbrev pub custom_front : List TokenView
custom_front =
    token Char 0 (codes "a") ∷ token EscapedChar 1 (codes "{") ∷ token Name 3 (codes "b") ∷ token Regexp 5 (codes "c")
    ∷ []

pub custom_tokens : AreTokens (codes "a\\{:b(c)") (custom_front ++ token End 8 [] ∷ [])
unfolding literals
custom_tokens = record {
  front = custom_front;
  cut =
      cut_of (next (char refl refl refl) (next (escaped_char refl) (next (name (codes "b") (refl, refl) no refl)
      (next (regexp (codes "c") (short_body (lit< tt) refl refl) refl) done))));
  all = refl;
}

-- The empty text has the End token alone.
pub empty : AreTokens [] (token End 0 [] ∷ [])
unfolding literals
empty = record { front = []; cut = none; all = refl }

-- A tab ends a name and is skipped. The character after it has its own byte index.
pub tabbed : AreTokens (codes ":a\tb\n") (token Name 0 (codes "a") ∷ token Char 3 (codes "b") ∷ token End 5 [] ∷ [])
unfolding literals
tabbed = record {
  front = token Name 0 (codes "a") ∷ token Char 3 (codes "b") ∷ [];
  cut = (_, _, none, name (codes "a") (refl, refl) no refl, (codes "b\n", _, (codes "\t", refl, refl), char refl refl refl, (codes "\n", refl, refl)));
  all = refl;
}

-- A backslash escapes a line feed too.
pub escaped_line_feed : AreTokens (codes "\\\n") (token EscapedChar 0 (codes "\n") ∷ token End 2 [] ∷ [])
unfolding literals
escaped_line_feed = record { front = token EscapedChar 0 (codes "\n") ∷ []; cut = cut_of (next (escaped_char refl) done); all = refl }

-- ---- faults

-- A colon without a name.
pub colon : IsFault (codes ":") InvalidName 0
unfolding literals
colon = record { front = []; left = _; cut = none; place = refl; fault = ([], refl, no) }

-- The place of a colon without a name is after the brace.
pub brace_colon : IsFault (codes "}:") InvalidName 1
unfolding literals
brace_colon = record {
  front = token Close 0 (codes "}") ∷ [];
  left = codes ":";
  cut = cut_of (next (mark (refl, refl) tt refl) done);
  place = refl;
  fault = ([], refl, no);
}

-- The place is counted in bytes. The first character has two.
pub accent_colon : IsFault (0xE9 ∷ codes ":") InvalidName 2
unfolding literals
accent_colon = record {
  front = token Char 0 (0xE9 ∷ []) ∷ [];
  left = codes ":";
  cut = cut_of (next (char refl refl refl) done);
  place = refl;
  fault = ([], refl, no);
}

-- The fault after a name is found too.
pub twice_colon : IsFault (codes ":a:a:") InvalidName 4
unfolding literals
twice_colon = record {
  front = token Name 0 (codes "a") ∷ token Name 2 (codes "a") ∷ [];
  left = codes ":";
  cut = cut_of (next (name (codes "a") (refl, refl) no refl) (next (name (codes "a") (refl, refl) no refl) done));
  place = refl;
  fault = ([], refl, no);
}

-- A backslash at the end of the text.
pub backslash : IsFault (codes "\\") IncompleteEscapeCode 0
unfolding literals
backslash = record { front = []; left = _; cut = none; place = refl; fault = inl refl }

-- A backslash at the end of a custom regular expression, reported at the opening parenthesis.
pub bracket_backslash : IsFault (codes "(\\") IncompleteEscapeCode 0
unfolding literals
bracket_backslash = record { front = []; left = _; cut = none; place = refl; fault = inr ([], no_front, refl) }

-- A fault after an opening parenthesis with which the text begins.
pub bracket : {text : List ℕ} (rest : List ℕ) (fault : RegexpFault) → text ≡ codes "(" ++ rest → LacksRegexp rest fault → IsFault text (InvalidRegex (reason fault)) 0
bracket {text} rest fault e lacks =
    record { front = []; left = text; cut = none; place = omega arith; fault = (rest, fault, e, lacks, refl) }

-- A parenthesis that is not closed.
pub not_closed : IsFault (codes "(") (InvalidRegex (codes "missing closing )")) 0
not_closed = bracket [] regexp_faults.NotClosed refl no_front

-- Parentheses without a body.
pub no_body : IsFault (codes "()") (InvalidRegex (codes "length must be > 0")) 0
no_body = bracket (codes ")") regexp_faults.NoBody refl ([], refl)

-- An inner parenthesis at the end of the text.
pub group_at_end : IsFault (codes "((") (InvalidRegex (codes "nested groups not closed")) 0
group_at_end = bracket (codes "(") regexp_faults.GroupAtEnd refl ([], no_front, refl)

-- An inner group that captures.
pub capturing_group : IsFault (codes "(a(b))") (InvalidRegex (codes "nested groups must start with ?")) 0
capturing_group = bracket (codes "a(b))") regexp_faults.CapturingGroup refl (codes "a", codes "))", _, short_front (lit< tt) refl refl, refl, no)

-- A question mark at the start of a body.
pub marked : IsFault (codes "(?") (InvalidRegex (codes "must not start with ?, and may only contain ascii")) 0
marked = bracket (codes "?") regexp_faults.StartsWithQuestionMark refl refl

-- A character that is not ASCII.
pub not_ascii : IsFault (codes "(" ++ 0xE9 ∷ []) (InvalidRegex (codes "must not start with ?, and may only contain ascii")) 0
not_ascii = bracket (0xE9 ∷ []) regexp_faults.NotAscii refl ([], [], 0xE9, no_front, refl, lit≤ tt)

-- A backslash before a character that is not ASCII.
pub escaped_not_ascii : IsFault (codes "(\\" ++ 0xE9 ∷ []) (InvalidRegex (codes "non ascii character was escaped")) 0
escaped_not_ascii = bracket (codes "\\" ++ 0xE9 ∷ []) regexp_faults.EscapedNotAscii refl ([], [], 0xE9, no_front, refl, lit≤ tt)

-- ---- lenient tokens

-- A backslash at the end of the text is an InvalidChar token.
pub lenient_backslash : AreLenientTokens (codes "\\") (token InvalidChar 0 (codes "\\") ∷ token End 1 [] ∷ [])
unfolding literals
lenient_backslash = record {
  front = token InvalidChar 0 (codes "\\") ∷ [];
  cut = (_, [], none, inr (record { character = _; cut = refl; fault = IncompleteEscapeCode; is_fault = inl refl; is_token = refl; place = refl }), none);
  all = refl;
}

-- After a parenthesis that is not closed, tokens continue with the next character.
pub lenient_bracket : AreLenientTokens (codes "(a") (token InvalidChar 0 (codes "(") ∷ token Char 1 (codes "a") ∷ token End 2 [] ∷ [])
unfolding literals
lenient_bracket = record {
  front = token InvalidChar 0 (codes "(") ∷ token Char 1 (codes "a") ∷ [];
  cut = (
    _,
    codes "a",
    none,
    inr (record {
      character = _;
      cut = refl;
      fault = InvalidRegex (codes "missing closing )");
      is_fault = (codes "a", regexp_faults.NotClosed, refl, short_front (lit< tt) refl refl, refl);
      is_token = refl;
      place = refl;
    }),
    (_, _, none, inl (char refl refl refl), none),
  );
  all = refl;
}
