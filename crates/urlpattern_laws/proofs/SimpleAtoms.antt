-- What the signs of a simple expression say, and its atoms: the grammar of `regex` reads each as a
-- pattern of characters, without a group that captures.
use Rattle.std.proofs.Common.{◌≡◌, ℕ, zero, suc, ◌-◌, ◌*◌, ◌+◌, ◌^◌, Bool, true, false, not, ◌&&◌, ◌||◌, ◌==◌, List, [], ◌∷◌, ◌++◌, length, Option, Some, None, if◌then◌else◌, codes, refl, sym, ap, ◌∙◌, subst, arith, eq-eqb, eqb-true, ne_eqb, true≢false, ⊎_elim}
use Rattle.std.proofs.lemmas.Bool.{and_from, and_parts, cases_Bool}
use Rattle.std.proofs.lemmas.Option.{same_Some}
use Rattle.std.proofs.lemmas.Bool.Decides.{nat_tests}
use Rattle.std.specs.Char.{IsScalar, is_ascii}
use Rattle.std.specs.List.{list_all}
use Rattle.std.specs.Str.{chars}
use lib.Utf8.{encode}
use Rattle.regex_hir.proofs.AttemptLemmas.{option_and_then_some}
use Rattle.regex_hir.specs.Meaning.{optional, copies, up_to, at_least, repeat}
use Rattle.regex_hir.specs.Re.{Re, empty, cat, alt, group, plus}
use Rattle.regex_hir.specs.Text.{char_at, has_bytes_at}
use Rattle.regex_syntax.specs.Brackets.{Nested, flat, bracket}
use Rattle.regex_syntax.specs.Escapes.{Piece, character, one_letter, escape}
use Rattle.regex_syntax.specs.Grammar.{atom, char_meaning, piece_meaning, read}
use Rattle.regex_syntax.specs.Reading.{Text, ◌>>=◌, ◌>>◌, ◌∈◌, first}
use Rattle.regex_syntax.specs.Sets.{dot, negate_if, one_of, verbatim}
use Rattle.urlpattern_expressions.specs.Expressions.{config_for, is_groupless, matches_characters}
use Rattle.urlpattern_expressions.specs.SimpleExpressions.{begins_uncaptured, has_simple_signs, is_escapable, may_follow}
use Rattle.urlpattern_laws.proofs.PieceItems.{plain_written, silent_written}
use Rattle.urlpattern_engine.proofs.AtomsRead.{verbatim_itself}
use Rattle.urlpattern_laws.proofs.LeftTexts.{Found, Tail, bracket_after, found_either, found_none, found_some, found_test, found_then, found_value}
use Rattle.urlpattern_syntax.specs.Text.{is_among}
use Prim.Native.String.{String}

-- ---- signs

-- The character begins no escape and no class.
abbrev pub Quiet : ℕ → Type 0
Quiet c = is_among (codes "\\[") c ≡ false

-- A simple expression goes on with this text, after a sign that is complete.
pub record Ready (t : Text) : Type 0 where
  pub before : ℕ
  pub signs : has_simple_signs before t ≡ true
  pub quiet : Quiet before

or_left : (a b : Bool) → (a || b) ≡ false → a ≡ false
or_left true b h = absurd (true≢false h)
or_left false b h = refl

or_right : (a b : Bool) → (a || b) ≡ false → b ≡ false
or_right true b h = absurd (true≢false h)
or_right false b h = h

ascii_scalar : (c : ℕ) → is_ascii c ≡ true → IsScalar c
ascii_scalar c h = grind (arith, nat_tests)

-- A test against a single character, from either side.
turned : (c mark : ℕ) → (c == mark) ≡ false → (mark == c || false) ≡ false
turned c mark h = let other : (mark == c) ≡ false = ne_eqb mark c (λ e. true≢false (sym (eq-eqb c mark (sym e)) ∙ h)) in rw other refl

-- What may stand after a quiet character.
abbrev pub may_begin : ℕ → Text → Bool
may_begin c t =
    if is_among (codes "^") c then false else if is_among (codes "(") c then begins_uncaptured t else is_ascii c && not (is_among (codes "$#") c)

quiet_may : (before c : ℕ) (t : Text) → Quiet before → may_follow before c t ≡ may_begin c t
quiet_may before c t quiet =
    let slash : is_among (codes "\\") before ≡ false = rw (or_left (92 == before) (91 == before || false) quiet) refl in
    let bracket : is_among (codes "[") before ≡ false = or_right (92 == before) (91 == before || false) quiet in
    rw (slash, bracket) refl

-- What may begin here, and the signs after it.
pub begins : (c : ℕ) (t : Text) → Ready (c ∷ t) → (may_begin c t ≡ true) × (has_simple_signs c t ≡ true)
begins c t ready =
    let both = and_parts (may_follow ready.before c t) (has_simple_signs c t) ready.signs in
    (sym (quiet_may ready.before c t ready.quiet) ∙ both.0, both.1)

next_ready : (c : ℕ) (t : Text) → Quiet c → Ready (c ∷ t) → Ready t
next_ready c t quiet ready = record { before = c; signs = (begins c t ready).1; quiet = quiet }

pub signs_behind : (before c : ℕ) (front rest : Text) → has_simple_signs before (front ++ c ∷ rest) ≡ true → has_simple_signs c rest ≡ true
signs_behind before c [] rest h = (and_parts (may_follow before c rest) (has_simple_signs c rest) h).1
signs_behind before c (d ∷ front) rest h = signs_behind d c front rest (and_parts (may_follow before d (front ++ c ∷ rest)) (has_simple_signs d (front ++ c ∷ rest)) h).1

-- The text after a quiet character.
pub ready_behind : (c : ℕ) (t rest : Text) → Quiet c → Ready t → Tail t (c ∷ rest) → Ready rest
ready_behind c t rest quiet ready (front, cut) =
    record { before = c; signs = signs_behind ready.before c front rest (ap (has_simple_signs ready.before) (sym cut) ∙ ready.signs); quiet = quiet }

-- ---- characters after a backslash

-- The pattern, if there is one, is of characters and captures nothing.
is_plain : Option Re → Bool
is_plain None = true
is_plain (Some re) = matches_characters re && is_groupless re

-- What the grammar reads for a backslash before the character is such a pattern.
is_plain_letter : (ignore_case : Bool) → ℕ → Bool
is_plain_letter ignore_case c = is_plain (one_letter (config_for ignore_case) c >>= piece_meaning (config_for ignore_case))

abbrev escapables : List ℕ
escapables = codes "dDsSwW!\"$%&'()*+,-./:;=?@]^_`{|}~"

all_plain_letters : (ignore_case : Bool) → list_all (is_plain_letter ignore_case) escapables ≡ true
unfolding is_plain is_plain_letter one_letter piece_meaning negate_if verbatim one_of char_at has_bytes_at chars encode
all_plain_letters false = refl
all_plain_letters true = refl

listed : (test : ℕ → Bool) (marks : List ℕ) (c : ℕ) → list_all test marks ≡ true → is_among marks c ≡ true → test c ≡ true
listed test [] c all is = absurd (true≢false (sym is))
listed test (mark ∷ marks) c all is =
    let both = and_parts (test mark) (list_all test marks) all in
    ⊎_elim
    (λ (e : (mark == c) ≡ true). subst (λ d. test d ≡ true) (eqb-true mark c e) both.0)
    (λ (e : (mark == c) ≡ false). listed test marks c both.1 (rw e at is))
    (cases_Bool (mark == c))

false_of_not : (b : Bool) → not b ≡ true → b ≡ false
false_of_not true h = absurd (true≢false (sym h))
false_of_not false h = refl

-- ---- patterns

-- The pattern is of characters, and has no group that captures.
pub record Good (re : Re) : Type 0 where
  pub plain : matches_characters re ≡ true
  pub silent : is_groupless re ≡ true

good_of : (re : Re) → is_plain (Some re) ≡ true → Good re
unfolding is_plain
good_of re h = let both = and_parts (matches_characters re) (is_groupless re) h in record { plain = both.0; silent = both.1 }

pub good_empty : Good empty
good_empty = record { plain = refl; silent = refl }

pub good_cat : (a b : Re) → Good a → Good b → Good (cat a b)
good_cat a b g h = record { plain = and_from _ _ g.plain h.plain; silent = and_from _ _ g.silent h.silent }

pub good_alt : (a b : Re) → Good a → Good b → Good (alt a b)
good_alt a b g h = record { plain = and_from _ _ g.plain h.plain; silent = and_from _ _ g.silent h.silent }

good_plus : (greedy : Bool) (a : Re) → Good a → Good (plus greedy a)
good_plus greedy a g = record { plain = g.plain; silent = g.silent }

good_optional : (greedy : Bool) (a : Re) → Good a → Good (optional greedy a)
good_optional true a g = good_alt a empty g good_empty
good_optional false a g = good_alt empty a good_empty g

good_copies : (n : ℕ) (a b : Re) → Good a → Good b → Good (copies n a b)
good_copies zero a b g h = h
good_copies (suc n) a b g h = good_cat a (copies n a b) g (good_copies n a b g h)

good_up_to : (greedy : Bool) (n : ℕ) (a : Re) → Good a → Good (up_to greedy n a)
good_up_to greedy zero a g = good_empty
good_up_to greedy (suc n) a g = good_optional greedy (cat a (up_to greedy n a)) (good_cat a (up_to greedy n a) g (good_up_to greedy n a g))

good_at_least : (greedy : Bool) (n : ℕ) (a : Re) → Good a → Good (at_least greedy n a)
good_at_least greedy zero a g = good_optional greedy (plus greedy a) (good_plus greedy a g)
good_at_least greedy (suc n) a g = good_copies n a (plus greedy a) g (good_plus greedy a g)

pub good_repeat : (least : ℕ) (most : Option ℕ) (greedy : Bool) (a : Re) → Good a → Good (repeat least most greedy a)
unfolding repeat
good_repeat least None greedy a g = good_at_least greedy least a g
good_repeat least (Some most) greedy a g = good_copies least a (up_to greedy (most - least) a) g (good_up_to greedy (most - least) a g)

-- ---- atoms

-- A good pattern is read, and the expression goes on.
abbrev pub Reads : Option (Nested Re × Text) → Type 0
Reads found = Found (λ part rest. Good part.value × Ready rest) found

-- A character that stands for itself is ASCII.
ascii_of : (c : ℕ) (t : Text) → may_begin c t ≡ true → (c ∈ "^") ≡ false → (c ∈ "(") ≡ false → is_ascii c ≡ true
ascii_of c t may caret opens_none =
    let no_caret : is_among (codes "^") c ≡ false = turned c 94 caret in
    let no_group : is_among (codes "(") c ≡ false = turned c 40 opens_none in
    (and_parts (is_ascii c) (not (is_among (codes "$#") c)) (rw (no_caret, no_group) at may)).0

module _ (ignore_case : Bool) where
  char_good : (c : ℕ) (t : Text) → may_begin c t ≡ true → (c ∈ "(") ≡ false → (re : Re) → char_meaning (config_for ignore_case) c ≡ Some re → Good re
  unfolding char_meaning dot one_of
  char_good c t may other re e =
      ⊎_elim
      (λ (d : (c ∈ ".") ≡ true). let is = rw d at e in subst Good (same_Some _ _ is) (record { plain = refl; silent = refl }))
      (λ (d : (c ∈ ".") ≡ false).
      ⊎_elim
      (λ (f : (c ∈ "^") ≡ true). absurd (true≢false (sym (subst (λ x. may_begin x t ≡ true) (eqb-true c 94 f) may))))
      (λ (f : (c ∈ "^") ≡ false).
      ⊎_elim
      (λ (k : (c ∈ "$") ≡ true). absurd (true≢false (sym (subst (λ x. may_begin x t ≡ true) (eqb-true c 36 k) may))))
      (λ (k : (c ∈ "$") ≡ false).
      let is = rw (d, f, k, verbatim_itself ignore_case c) at e in
      subst Good (same_Some _ _ is) (record { plain = plain_written ignore_case c (ascii_scalar c (ascii_of c t may f other)); silent = silent_written ignore_case c }))
      (cases_Bool (c ∈ "$")))
      (cases_Bool (c ∈ "^")))
      (cases_Bool (c ∈ "."))

  -- What follows a backslash.
  letter_good : (c : ℕ) (rest : Text) → is_escapable c ≡ true → (piece : Piece) (left : Text) (re : Re) → escape (config_for ignore_case) (c ∷ rest) ≡ Some (piece, left) → piece_meaning (config_for ignore_case) piece ≡ Some re → Good re × (left ≡ rest) × Quiet c
  unfolding escape first is_plain_letter
  letter_good c rest is piece left re e f =
      let is_not : (w : String) → list_all (λ d. not (d ∈ w)) escapables ≡ true → (c ∈ w) ≡ false = λ w all. false_of_not (c ∈ w) (listed (λ d. not (d ∈ w)) escapables c all is) in
      let read : (one_letter (config_for ignore_case) c >>= λ found. Some (found, rest)) ≡ Some (piece, left) = rw (is_not "x" refl, is_not "u" refl, is_not "U" refl, is_not "pP" refl, is_not "b" refl) at e in
      let found = option_and_then_some (λ (found : Piece). Some (found, rest)) (one_letter (config_for ignore_case) c) (piece, left) read in
      let same : found.0 ≡ piece = ap (λ (pair : Piece × Text). pair.0) (same_Some _ _ found.2) in
      let rests : rest ≡ left = ap (λ (pair : Piece × Text). pair.1) (same_Some _ _ found.2) in
      let meant : (one_letter (config_for ignore_case) c >>= piece_meaning (config_for ignore_case)) ≡ Some re = ap (λ o. o >>= piece_meaning (config_for ignore_case)) (found.1 ∙ ap Some same) ∙ f in (
        good_of re (ap is_plain (sym meant) ∙ listed (is_plain_letter ignore_case) escapables c (all_plain_letters ignore_case) is),
        sym rests,
        false_of_not (is_among (codes "\\[") c) (listed (λ d. not (is_among (codes "\\[") d)) escapables c refl is),
      )

  -- What is read of an escape.
  abbrev escaped : Text → Option (Nested Re × Text)
  escaped t = escape (config_for ignore_case) t >>= λ (piece, rest). piece_meaning (config_for ignore_case) piece >>= λ re. Some (flat re, rest)

  escaped_reads : (t : Text) → (before : ℕ) → is_among (codes "\\") before ≡ true → has_simple_signs before t ≡ true → Reads (escaped t)
  unfolding escape first
  escaped_reads [] before slash signs = found_none _
  escaped_reads (c ∷ rest) before slash signs =
      let both = and_parts (may_follow before c rest) (has_simple_signs c rest) signs in
      let is : is_escapable c ≡ true = rw slash at both.0 in
      by (escape (config_for ignore_case) (c ∷ rest)) refl is both.1
    where
      by : (o : Option (Piece × Text)) → escape (config_for ignore_case) (c ∷ rest) ≡ o → is_escapable c ≡ true → has_simple_signs c rest ≡ true
          → Reads (o >>= λ (piece, left). piece_meaning (config_for ignore_case) piece >>= λ re. Some (flat re, left))
      by None e is more = found_none _
      by (Some (piece, left)) e is more = found_value _ (piece_meaning (config_for ignore_case) piece) _ (λ re f.
          let good = letter_good c rest is piece left re e f in
          found_some _ (flat re) left (good.0, subst Ready (sym good.1) (record { before = c; signs = more; quiet = good.2 })))

  pub atom_reads : (c : ℕ) (t : Text) → (c ∈ "(") ≡ false → Ready (c ∷ t) → Reads (atom (config_for ignore_case) (c ∷ t))
  unfolding atom first one_of
  atom_reads c t other ready =
      let both = begins c t ready in
      found_test _ (not (c ∈ "?*+{")) _
      (found_either _ (c ∈ "[") _ _
      (λ e. found_then _ _ (bracket (config_for ignore_case) (2 * length (c ∷ t) + 1) (c ∷ t)) _ (bracket_after (config_for ignore_case) (2 * length (c ∷ t) + 1) (c ∷ t)) (λ set rest ends.
      found_some _ _ rest (record { plain = refl; silent = refl }, ready_behind 93 (c ∷ t) rest refl ready ends)))
      (λ e.
      found_either _ (c ∈ "\\") _ _
      (λ f. escaped_reads t c (slash c f) both.1)
      (λ f. found_value _ (char_meaning (config_for ignore_case) c) _ (λ re g.
      found_some _ (flat re) t (char_good c t both.0 other re g, next_ready c t (quiet_of c e f) ready)))))
    where
      slash : (d : ℕ) → (d ∈ "\\") ≡ true → is_among (codes "\\") d ≡ true
      slash d f = subst (λ x. is_among (codes "\\") x ≡ true) (sym (eqb-true d 92 f)) refl

      quiet_of : (d : ℕ) → (d ∈ "[") ≡ false → (d ∈ "\\") ≡ false → Quiet d
      quiet_of d e f =
          let no_slash : (92 == d) ≡ false = or_left (92 == d) false (turned d 92 f) in
          rw no_slash (turned d 91 e)
