-- The tokens of printed patterns, in which nothing is skipped, and the characters that no name has.
use Rattle.std.proofs.Common.{ℕ, ◌-◌, ◌≤◌, Bool, true, false, List, [], ◌∷◌, ◌++◌, refl, subst, inl, inr, arith}
use Rattle.std.specs.Prelude.{IsTrue, codes, not, ◌==◌}
use Rattle.std.specs.List.{list_all}
use Rattle.std.proofs.lemmas.Bool.{and_parts, eqb-true, or_cases}
use Rattle.urlpattern_syntax.proofs.TokenExamples.{literals, no, none}
use Rattle.urlpattern_syntax.proofs.TokenLemmas.{IsLexed-shorter}
use Rattle.urlpattern_syntax.specs.declared.tokenizer.TokenType.{TokenType}
use Rattle.urlpattern_syntax.specs.declared.tokenizer.TokenType.TheVariants.{Asterisk, Char, Close, EscapedChar, Name, Open, OtherModifier, Regexp}
use Rattle.urlpattern_syntax.specs.Text.{BeginsWith, byte_len, is_among, is_name_part}
use Rattle.urlpattern_syntax.specs.Tokens.{AreTokens, IsCut, IsLexed, IsName, IsRegexpBody, IsTokenOf, TokenView, end_of, is_ignored, marks}
use Rattle.urlpattern_meaning.specs.Printing.{pattern_marks}

-- ---- characters

-- A test that some characters pass holds of a character among them.
among_all : (test : ℕ → Bool) (some : List ℕ) (c : ℕ) → IsTrue (list_all test some) → IsTrue (is_among some c) → IsTrue (test c)
among_all test [] c all h = absurd (no h)
among_all test (mark ∷ some) c all h =
    let parts = and_parts (test mark) (list_all test some) all in
    elim (or_cases (mark == c) (is_among some c) h) [
      | inl e ↦ subst (λ x. IsTrue (test x)) (eqb-true mark c e) parts.0
      | inr more ↦ among_all test some c parts.1 more
    ]

-- A mark of tokens is a mark of patterns.
pub token_mark : (c : ℕ) → IsTrue (is_among marks c) → IsTrue (is_among pattern_marks c)
token_mark c h = among_all (is_among pattern_marks) marks c refl h

-- A mark of patterns is not a character of names.
no_parts : IsTrue (list_all (λ c. not (is_name_part c)) pattern_marks)
unfolding literals
no_parts = refl

pub not_true : (b : Bool) → IsTrue (not b) → ¬ IsTrue b
not_true true h g = no h
not_true false h g = no g

pub mark_no_part : (c : ℕ) → IsTrue (is_among pattern_marks c) → ¬ IsTrue (is_name_part c)
mark_no_part c h = not_true (is_name_part c) (among_all (λ x. not (is_name_part x)) pattern_marks c no_parts h)

-- A text that begins with a mark of patterns does not go on with a name.
pub mark_ends : (text : List ℕ) → BeginsWith (is_among pattern_marks) text → ¬ BeginsWith is_name_part text
mark_ends [] h = no
mark_ends (c ∷ text) h = mark_no_part c h

-- ---- one token

-- A token where this text begins, by the bytes of the whole.
abbrev pub token_at : (total : ℕ) → (text : List ℕ) → TokenType → List ℕ → TokenView
token_at total text kind value = record { kind = kind; index = total - byte_len text; value = value }

pub open_lexed : (rest : List ℕ) → IsLexed (codes "{" ++ rest) Open (codes "{") rest
open_lexed rest = record { spelling = codes "{"; cut = refl; spells = (refl, refl); ends = tt }

pub close_lexed : (rest : List ℕ) → IsLexed (codes "}" ++ rest) Close (codes "}") rest
close_lexed rest = record { spelling = codes "}"; cut = refl; spells = (refl, refl); ends = tt }

pub asterisk_lexed : (rest : List ℕ) → IsLexed (codes "*" ++ rest) Asterisk (codes "*") rest
asterisk_lexed rest = record { spelling = codes "*"; cut = refl; spells = (refl, refl); ends = tt }

pub plus_lexed : (rest : List ℕ) → IsLexed (codes "+" ++ rest) OtherModifier (codes "+") rest
plus_lexed rest = record { spelling = codes "+"; cut = refl; spells = (refl, inl refl); ends = tt }

pub optional_lexed : (rest : List ℕ) → IsLexed (codes "?" ++ rest) OtherModifier (codes "?") rest
optional_lexed rest = record { spelling = codes "?"; cut = refl; spells = (refl, inr refl); ends = tt }

pub char_lexed : (c : ℕ) (rest : List ℕ) → ¬ IsTrue (is_among pattern_marks c) → ¬ IsTrue (is_ignored c) → IsLexed (c ∷ rest) Char (c ∷ []) rest
char_lexed c rest plain kept =
    record { spelling = c ∷ []; cut = refl; spells = (refl, (c, refl, (λ h. plain (token_mark c h)), kept)); ends = tt }

pub backslash_lexed : (c : ℕ) (rest : List ℕ) → IsLexed (codes "\\" ++ c ∷ rest) EscapedChar (c ∷ []) rest
backslash_lexed c rest = record { spelling = codes "\\" ++ c ∷ []; cut = refl; spells = (refl, (c, refl)); ends = tt }

pub name_lexed : (name rest : List ℕ) → IsName name → ¬ BeginsWith is_name_part rest → IsLexed (codes ":" ++ name ++ rest) Name name rest
name_lexed name rest is ends = record { spelling = codes ":" ++ name; cut = refl; spells = (refl, is); ends = ends }

pub regexp_lexed : (body rest : List ℕ) → IsRegexpBody body → IsLexed (codes "(" ++ (body ++ codes ")") ++ rest) Regexp body rest
regexp_lexed body rest is = record { spelling = codes "(" ++ body ++ codes ")"; cut = refl; spells = (refl, is); ends = tt }

-- ---- tokens end to end

-- The text up to `left` is these tokens, with nothing skipped, where the whole text has `total`
-- bytes.
pub data Run (total : ℕ) (left : List ℕ) : List ℕ → List TokenView → Type 0 where
  done : Run total left left []
  next : {text rest : List ℕ} {kind : TokenType} {value : List ℕ} {tokens : List TokenView} → IsLexed text kind value rest → Run total left rest tokens → Run total left text (token_at total text kind value ∷ tokens)

pub run_joined : {total : ℕ} {middle left text : List ℕ} {tokens more : List TokenView} → Run total middle text tokens → Run total left middle more → Run total left text (tokens ++ more)
run_joined done behind = behind
run_joined (next lexed before) behind = next lexed (run_joined before behind)

-- Each token is where its text begins.
run_cut : (whole left text : List ℕ) (tokens : List TokenView) → byte_len text ≤ byte_len whole → Run (byte_len whole) left text tokens → IsCut (IsTokenOf whole) text tokens left
run_cut whole left text tokens within done = none
run_cut whole left text tokens within (next {rest = rest} {kind = kind} {value = value} {tokens = more} lexed behind) =
    let shorter = IsLexed-shorter text value rest kind lexed in
    (text, rest, none, record { lexed = lexed; place = omega arith }, run_cut whole left rest more (omega arith) behind)

pub run_tokens : (text : List ℕ) (tokens : List TokenView) → Run (byte_len text) [] text tokens → AreTokens text (tokens ++ end_of text ∷ [])
run_tokens text tokens run = record { front = tokens; cut = run_cut text [] text tokens (omega arith) run; all = refl }
