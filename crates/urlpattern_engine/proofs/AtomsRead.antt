-- How the crate `regex` reads the text of an atom: a character, a dot or a class.
use Rattle.std.proofs.Common.{◌≡◌, ℕ, Bool, ◌+◌, ◌-◌, ◌*◌, ◌≤◌, ◌<◌, List, [], ◌∷◌, ◌++◌, map, length, Some, None, true, false, not, ◌&&◌, ◌||◌, ◌==◌, refl, sym, ap, ◌∙◌, subst, arith, ne_eqb, eqb-true, ⊎_elim, ◌⊎◌, encode_utf8, codes, IsTrue}
use Rattle.std.proofs.lemmas.Bool.{both_ways, cases_Bool, and_right, false_from_ne_true}
use Rattle.std.proofs.lemmas.Bool.Decides.{nat_tests}
use Rattle.std.specs.Char.{is_ascii, is_ascii_alphanumeric}
use Rattle.regex_hir.specs.Re.{Re, literal}
use Rattle.regex_syntax.proofs.BracketLemmas.{union_ends, union_goes, bracket_opens, operations_end}
use Rattle.regex_syntax.proofs.ReadingLemmas.{take_up_to_stops}
use Rattle.regex_syntax.specs.Brackets.{Nested, flat, bracket, bracket_start, union, unite, item_or, posix, set_item, member, single, operator, set_items}
use Rattle.regex_syntax.specs.Escapes.{escape, character, one_letter}
use Rattle.regex_syntax.specs.Grammar.{atom, piece_meaning, char_meaning}
use Rattle.regex_syntax.specs.Reading.{Text, first, skip, is_at, take_run, take_up_to}
use Rattle.regex_syntax.specs.Sets.{verbatim, dot, one_of, negate, negate_if, case_fold, is_member}
use Rattle.regex_syntax.specs.declared.Config.{Config}
use Rattle.urlpattern_syntax.specs.RegexpText.{regexp_marks}
use Rattle.urlpattern_syntax.specs.Text.{is_among}
use Rattle.urlpattern_meaning.specs.Dialect.{Character, Plain, Escaped, character_of, character_text, IsCharacter, IsClassCharacter}
use Rattle.urlpattern_meaning.specs.Matching.{is_same_character}
use Rattle.urlpattern_expressions.specs.Expressions.{config_for}

-- ---- marks

pub differs : (marks : List ℕ) (c d : ℕ) → ¬ IsTrue (is_among marks c) → is_among marks d ≡ true → (c == d) ≡ false
differs marks c d plain mark = ne_eqb c d (λ e. both_ways _ (false_from_ne_true _ plain) (ap (is_among marks) e ∙ mark))

abbrev IsMark : ℕ → Type 0
IsMark c = ((35 ≤ c) × (c ≤ 47)) ⊎ ((c ≡ 63) ⊎ (((91 ≤ c) × (c ≤ 94)) ⊎ ((123 ≤ c) × (c ≤ 126))))

mark_range : (c : ℕ) → IsTrue (is_among (regexp_marks ++ codes "/") c) → IsMark c
mark_range c h = grind (arith, nat_tests, h)

pub full : (c : ℕ) (t : Text) → (length (c ∷ t) == 0) ≡ false
full c t = ne_eqb (length (c ∷ t)) 0 (λ e. omega arith)

-- Whether the grammar lets `c` match where the character `given` is written.
abbrev pub grammar_same : (ignore_case : Bool) → (c given : ℕ) → Bool
grammar_same ignore_case c given = case_fold (config_for ignore_case) (λ d. d == given) c

-- If case is kept, these are equal characters.
pub same_if_kept : grammar_same false ≡ is_same_character false
unfolding case_fold
same_if_kept = refl

-- The pattern of a character that is written as itself.
abbrev pub written : (ignore_case : Bool) → ℕ → Re
written false c = literal (encode_utf8 c)
written true c = one_of (config_for true) (case_fold (config_for true) (λ d. d == c))

pub verbatim_itself : (ignore_case : Bool) (c : ℕ) → verbatim (config_for ignore_case) c false ≡ Some (written ignore_case c)
unfolding verbatim
verbatim_itself false c = refl
verbatim_itself true c = refl

module _ (ignore_case : Bool) where
  abbrev config : Config
  config = config_for ignore_case

  pub escape_mark : (c : ℕ) (rest : Text) → IsTrue (is_among (regexp_marks ++ codes "/") c) → escape config (c ∷ rest) ≡ Some (character c false, rest)
  unfolding escape one_letter first
  escape_mark c rest mark =
      let h : IsMark c = mark_range c mark in
      let punctuation : (is_ascii c && not (is_ascii_alphanumeric c)) ≡ true = grind (arith, nat_tests) in
      rw (
        escape,
        one_letter,
        punctuation,
        ne_eqb c 120 (omega arith),
        ne_eqb c 117 (omega arith),
        ne_eqb c 85 (omega arith),
        ne_eqb c 112 (omega arith),
        ne_eqb c 80 (omega arith),
        ne_eqb c 98 (omega arith),
        ne_eqb c 100 (omega arith),
        ne_eqb c 68 (omega arith),
        ne_eqb c 115 (omega arith),
        ne_eqb c 83 (omega arith),
        ne_eqb c 119 (omega arith),
        ne_eqb c 87 (omega arith),
        ne_eqb c 65 (omega arith),
        ne_eqb c 122 (omega arith),
        ne_eqb c 66 (omega arith),
        ne_eqb c 60 (omega arith),
        ne_eqb c 62 (omega arith),
        ne_eqb c 97 (omega arith),
        ne_eqb c 102 (omega arith),
        ne_eqb c 116 (omega arith),
        ne_eqb c 110 (omega arith),
        ne_eqb c 114 (omega arith),
        ne_eqb c 118 (omega arith),
      )

  -- ---- a character outside brackets

  abbrev pub itself : ℕ → Nested Re
  itself c = flat (written ignore_case c)

  pub read_character : (ch : Character) (rest : Text) → IsCharacter ch → atom config (character_text ch ++ rest) ≡ Some (itself (character_of ch), rest)
  unfolding atom first piece_meaning char_meaning
  read_character (Escaped c) rest h = rw (atom, escape_mark c rest h, piece_meaning, verbatim_itself ignore_case c)
  read_character (Plain c) rest h =
      rw (
        atom,
        char_meaning,
        differs regexp_marks c 63 h refl,
        differs regexp_marks c 42 h refl,
        differs regexp_marks c 43 h refl,
        differs regexp_marks c 123 h refl,
        differs regexp_marks c 91 h refl,
        differs regexp_marks c 92 h refl,
        differs regexp_marks c 46 h refl,
        differs regexp_marks c 94 h refl,
        differs regexp_marks c 36 h refl,
        verbatim_itself ignore_case c,
      )

  -- ---- the dot

  abbrev pub any_character : Nested Re
  any_character = flat (one_of config (negate config (λ c. c == 10)))

  pub read_dot : (rest : Text) → atom config (46 ∷ rest) ≡ Some (any_character, rest)
  unfolding atom first char_meaning dot
  read_dot rest = refl

  -- ---- a class

  abbrev pub any_but : ℕ → Nested Re
  any_but c = record { value = one_of config (negate config (case_fold config (λ d. (d == c) || false))); depth = 1 }

  -- A class with this text after its caret is read with one member, the character.
  abbrev Inside : ℕ → Text → Text → Type 0
  Inside c t rest = (n : ℕ) → 2 < n →
      (leading after : Text) × (bracket_start config (0x5E ∷ t) ≡ (true, leading, after))
      × (unite (map (λ e. flat (λ d. d == e)) leading) (set_items config n after) ≡ Some (union (flat (λ d. d == c) ∷ []), 0x5D ∷ rest))

  hyphen_inside : (rest : Text) → Inside 45 (45 ∷ 93 ∷ rest) rest
  unfolding bracket_start take_run take_up_to first skip operator
  hyphen_inside rest n le =
      (45 ∷ [], 93 ∷ rest, refl, union_ends config n (n - 1) (flat (λ d. d == 45) ∷ []) (93 ∷ rest) (93 ∷ rest) (omega arith) refl refl)

  bracket_inside : (rest : Text) → Inside 93 (93 ∷ 93 ∷ rest) rest
  unfolding bracket_start take_run take_up_to first skip operator
  bracket_inside rest n le =
      (93 ∷ [], 93 ∷ rest, refl, union_ends config n (n - 1) (flat (λ d. d == 93) ∷ []) (93 ∷ rest) (93 ∷ rest) (omega arith) refl refl)

  -- A member that is neither a hyphen nor a bracket.
  item_inside : (c : ℕ) (t rest : Text) → is_at "-" t ≡ false → is_at "]" t ≡ false → operator t ≡ None → posix t ≡ None → is_at "[" t ≡ false
      → set_item config t ≡ Some ((λ d. d == c), 93 ∷ rest) → Inside c t rest
  unfolding bracket_start take_run skip first item_or operator
  item_inside c t rest no_hyphen no_end no_operator no_posix no_bracket reads n le = (
    [],
    t,
    rw (bracket_start, take_run, take_up_to_stops false (length t) (λ d. d == 45) t no_hyphen, no_end),
    union_goes config n (n - 1) [] t t (omega arith) refl (rw (no_end, no_operator))
        ∙ rw (no_posix, item_or, no_bracket, reads) (union_ends config (n - 1) (n - 2) (flat (λ d. d == c) ∷ []) (93 ∷ rest) (93 ∷ rest) (omega arith) refl refl),
  )

  escaped_item : (c : ℕ) (rest : Text) → IsTrue (is_among (regexp_marks ++ codes "/") c) → set_item config (92 ∷ c ∷ 93 ∷ rest) ≡ Some ((λ d. d == c), 93 ∷ rest)
  unfolding set_item member first skip single is_member
  escaped_item c rest h = rw (set_item, member, escape_mark c (93 ∷ rest) h, full 93 rest)

  plain_item : (c : ℕ) (rest : Text) → (c == 92) ≡ false → set_item config (c ∷ 93 ∷ rest) ≡ Some ((λ d. d == c), 93 ∷ rest)
  unfolding set_item member first skip single is_member
  plain_item c rest h = rw (set_item, member, h, full 93 rest)

  class_inside : (ch : Character) (rest : Text) → IsClassCharacter ch → Inside (character_of ch) (character_text ch ++ 93 ∷ rest) rest
  unfolding operator posix first
  class_inside (Escaped c) rest h = item_inside c (92 ∷ c ∷ 93 ∷ rest) rest refl refl refl refl refl (escaped_item c rest h)
  class_inside (Plain c) rest h =
      ⊎_elim
      (λ (hyphen : (c == 45) ≡ true). subst (λ e. Inside e (e ∷ 93 ∷ rest) rest) (sym (eqb-true c 45 hyphen)) (hyphen_inside rest))
      (λ (no_hyphen : (c == 45) ≡ false).
      ⊎_elim
      (λ (bracket : (c == 93) ≡ true). subst (λ e. Inside e (e ∷ 93 ∷ rest) rest) (sym (eqb-true c 93 bracket)) (bracket_inside rest))
      (λ (no_bracket : (c == 93) ≡ false).
      let both : (d : ℕ) → ((d == c) && false) ≡ false = λ d. and_right (d == c) false refl in
      let no_class : (c == 91) ≡ false = differs (codes "[\\") c 91 h refl in
      item_inside c (c ∷ 93 ∷ rest) rest no_hyphen no_bracket (rw (both 38, both 45, both 126)) (rw (both 91)) no_class (plain_item c rest (differs (codes "[\\") c 92 h refl)))
      (cases_Bool (c == 93)))
      (cases_Bool (c == 45))

  class_reads : (c : ℕ) (t rest : Text) → Inside c t rest → (n : ℕ) → 3 < n → bracket config n (91 ∷ 94 ∷ t) ≡ Some (record { value = negate config (case_fold config (λ d. (d == c) || false)); depth = 1 }, rest)
  unfolding skip negate_if first
  class_reads c t rest h n le =
      let inside = h (n - 1) (omega arith) in
      bracket_opens config n (n - 1) (91 ∷ 94 ∷ t) true inside.0 inside.1 (omega arith) inside.2
      ∙ rw (inside.3) (rw (operations_end config (n - 1) (n - 2) (union (flat (λ d. d == c) ∷ [])) (93 ∷ rest) (omega arith) refl) refl)

  pub read_class : (ch : Character) (rest : Text) → IsClassCharacter ch → atom config (91 ∷ 94 ∷ character_text ch ++ 93 ∷ rest) ≡ Some (any_but (character_of ch), rest)
  unfolding atom first
  read_class ch rest h =
      let t = character_text ch ++ 93 ∷ rest in
      rw (atom, class_reads (character_of ch) t rest (class_inside ch rest h) (2 * length (91 ∷ 94 ∷ t) + 1) (omega arith))
