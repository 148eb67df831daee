-- What the grammar of `regex` leaves of a text when it reads a word of it: the end of the text.
use Rattle.std.proofs.Common.{◌≡◌, ℕ, zero, suc, ◌+◌, Bool, true, false, not, ◌&&◌, ◌||◌, ◌==◌, nat_eq, List, [], ◌∷◌, ◌++◌, map, length, drop, take, Option, Some, None, if◌then◌else◌, is_some, codes, refl, sym, ap, ◌∙◌, append_assoc, eqb-true, ⊎_elim}
use Rattle.std.proofs.lemmas.Bool.{cases_Bool}
use Rattle.std.proofs.lemmas.List.{take-append-drop}
use Rattle.std.specs.Char.{is_whitespace, is_digit}
use Rattle.std.specs.List.{starts_with}
use Rattle.std.specs.Prelude.{IfSome, option_map}
use Rattle.regex_syntax.specs.Brackets.{Nested, flat, unite, operator, posix, member, single, range, after_hyphen, set_item, bracket_start, item_or, operation, set_items, operations, bracket}
use Rattle.regex_syntax.specs.declared.Config.{Config}
use Rattle.regex_syntax.specs.Escapes.{Piece, character, hex, unicode_class, named_class, is_boundary_char, boundary_name, boundary, one_letter, escape, is_verbose}
use Rattle.regex_hir.specs.Text.{is_some_and}
use Rattle.regex_syntax.specs.Reading.{Text, ◌>>=◌, ◌>>◌, ◌∈◌, first, is_at, begins, is_empty, skip_from, skip, next, take_up_to, take_run, char_of, decimal, value, split_once}
use Rattle.regex_syntax.specs.Sets.{Set, ascii_class, case_fold, negate_if, property}

-- ---- results

-- `Is` holds of what is read and of what is left, if something is read.
pub record Found {A B : Type 0} (Is : A → B → Type 0) (found : Option (A × B)) : Type 0 where
  pub holds : IfSome found (λ result. Is result.0 result.1)

module _ {A B : Type 0} (Is : A → B → Type 0) where
  pub found_none : Found Is None
  found_none = record { holds = tt }

  pub found_some : (a : A) (rest : B) → Is a rest → Found Is (Some (a, rest))
  found_some a rest is = record { holds = is }

  pub found_test : (b : Bool) (x : Option (A × B)) → Found Is x → Found Is (b >> x)
  found_test true x h = h
  found_test false x h = found_none

  pub found_when : (b : Bool) (x : Option (A × B)) → (b ≡ true → Found Is x) → Found Is (b >> x)
  found_when true x h = h refl
  found_when false x h = found_none

  pub found_if : (b : Bool) (x y : Option (A × B)) → Found Is x → Found Is y → Found Is (if b then x else y)
  found_if true x y h k = h
  found_if false x y h k = k

  pub found_either : (b : Bool) (x y : Option (A × B)) → (b ≡ true → Found Is x) → (b ≡ false → Found Is y) → Found Is (if b then x else y)
  found_either true x y h k = h refl
  found_either false x y h k = k refl

  pub found_value : {C : Type 0} (o : Option C) (f : C → Option (A × B)) → ((c : C) → o ≡ Some c → Found Is (f c)) → Found Is (o >>= f)
  found_value None f h = found_none
  found_value (Some c) f h = h c refl

pub found_then : {A B C D : Type 0} (Is : A → B → Type 0) (Next : C → D → Type 0) (o : Option (A × B)) (f : A × B → Option (C × D)) → Found Is o
    → ((a : A) (rest : B) → Is a rest → Found Next (f (a, rest))) → Found Next (o >>= f)
found_then Is Next None f h k = found_none Next
found_then Is Next (Some found) f h k = k found.0 found.1 h.holds

pub found_weaker : {A B : Type 0} (Is Next : A → B → Type 0) (o : Option (A × B)) → ((a : A) (rest : B) → Is a rest → Next a rest) → Found Is o → Found Next o
found_weaker Is Next None weaker h = found_none Next
found_weaker Is Next (Some found) weaker h = record { holds = weaker found.0 found.1 h.holds }

-- ---- ends of texts

-- `rest` is the end of the text.
abbrev pub Tail : (t rest : Text) → Type 0
Tail t rest = (front : Text) × (t ≡ front ++ rest)

-- What is left is the end of the text.
abbrev pub Leaves : {A : Type 0} (t : Text) → Option (A × Text) → Type 0
Leaves t found = Found (λ a rest. Tail t rest) found

pub tail_all : (t : Text) → Tail t t
tail_all t = ([], refl)

pub tail_more : (c : ℕ) (t rest : Text) → Tail t rest → Tail (c ∷ t) rest
tail_more c t rest (front, cut) = (c ∷ front, ap (λ (s : Text). c ∷ s) cut)

pub tail_then : (s t rest : Text) → Tail s t → Tail t rest → Tail s rest
tail_then s t rest (front, cut) (more, is) = (front ++ more, cut ∙ ap (λ (r : Text). front ++ r) is ∙ sym (append_assoc front more rest))

pub tail_drop : (n : ℕ) (t : Text) → Tail t (drop n t)
tail_drop n t = (take n t, sym (take-append-drop n t))

tail_if : (b : Bool) (t x y : Text) → Tail t x → Tail t y → Tail t (if b then x else y)
tail_if true t x y h k = h
tail_if false t x y h k = k

pub leaves_further : {A : Type 0} (s t : Text) (o : Option (A × Text)) → Tail s t → Leaves t o → Leaves s o
leaves_further s t o h k = found_weaker _ _ o (λ a rest is. tail_then s t rest h is) k

spaces_tail : (in_comment : Bool) (t : Text) → Tail t (skip_from in_comment t)
unfolding skip_from
spaces_tail in_comment [] = tail_all []
spaces_tail in_comment (c ∷ t) =
    tail_if in_comment (c ∷ t) _ _ (tail_more c t _ (spaces_tail (not (c ∈ "\n")) t))
    (tail_if (c ∈ "#") (c ∷ t) _ _ (tail_more c t _ (spaces_tail true t))
    (tail_if (is_whitespace c) (c ∷ t) _ _ (tail_more c t _ (spaces_tail false t)) (tail_all (c ∷ t))))

pub skip_tail : (v : Bool) (t : Text) → Tail t (skip v t)
unfolding skip
skip_tail true t = spaces_tail false t
skip_tail false t = tail_all t

pub next_tail : (v : Bool) (t : Text) → Tail t (next v t)
next_tail v t = tail_then t (drop 1 t) (next v t) (tail_drop 1 t) (skip_tail v (drop 1 t))

-- A run leaves the end of the text.
up_to_tail : (v : Bool) (n : ℕ) (test : ℕ → Bool) (t : Text) → Tail t (take_up_to v n test t).1
unfolding take_up_to first
up_to_tail v zero test t = tail_all t
up_to_tail v (suc n) test [] = tail_all []
up_to_tail v (suc n) test (c ∷ t) =
    ⊎_elim
    (λ (e : test c ≡ true). rw e (tail_more c t _ (tail_then t (skip v t) _ (skip_tail v t) (up_to_tail v n test (skip v t)))))
    (λ (e : test c ≡ false). rw e (tail_all (c ∷ t)))
    (cases_Bool (test c))

pub run_tail : (v : Bool) (test : ℕ → Bool) (t : Text) → Tail t (take_run v test t).1
unfolding take_run
run_tail v test t = up_to_tail v (length t) test t

pub decimal_tail : (v : Bool) (t : Text) → Leaves t (decimal v t)
unfolding decimal
decimal_tail v t =
    let blank = (take_run false is_whitespace t).1 in
    let digits = take_run v (λ c. is_digit c 10) blank in
    let all : Tail t (take_run v is_whitespace digits.1).1 =
    tail_then t blank _ (run_tail false is_whitespace t) (tail_then blank digits.1 _ (run_tail v (λ c. is_digit c 10) blank) (run_tail v is_whitespace digits.1)) in
    found_test _ _ _ (found_test _ _ _ (found_some _ _ _ all))

module _ (config : Config) where
  abbrev v : Bool
  v = is_verbose config

  -- ---- escapes

  hex_tail : (n : ℕ) (t : Text) → Leaves t (hex config n t)
  unfolding hex
  hex_tail n t =
      let run = take_run v (λ c. is_digit c 16) (next v t) in
      let after : Tail t run.1 = tail_then t (next v t) run.1 (next_tail v t) (run_tail v (λ c. is_digit c 16) (next v t)) in
      found_if _ (is_at "{" t) _ _
      (found_test _ (is_at "}" run.1) _ (found_test _ (not (is_empty run.0)) _ (found_value _ (char_of 16 run.0) _ (λ c e. found_some _ (character c false) _ (tail_then t run.1 _ after (next_tail v run.1))))))
      (found_test _ (length (take_up_to v n (λ c. is_digit c 16) t).0 == n) _
      (found_value _ (char_of 16 (take_up_to v n (λ c. is_digit c 16) t).0) _ (λ c e. found_some _ (character c (n == 2)) _ (up_to_tail v n (λ d. is_digit d 16) t))))

  -- A class that is named by one letter.
  letter_tail : (c : ℕ) (t : Text) (o : Option Piece) → Leaves t (not (c ∈ "\\") >> (o >>= λ piece. Some (piece, next v t)))
  letter_tail c t o = found_test _ (not (c ∈ "\\")) _ (found_value _ o _ (λ piece f. found_some _ piece _ (next_tail v t)))

  named_tail : (negated : Bool) (t : Text) → Leaves t (named_class config negated t)
  unfolding named_class
  named_tail negated t =
      let run = take_run v (λ c. not (c ∈ "}")) (next v t) in
      let after : Tail t run.1 = tail_then t (next v t) run.1 (next_tail v t) (run_tail v (λ c. not (c ∈ "}")) (next v t)) in
      found_if _ (is_at "{" t) _ _
      (found_test _ (is_at "}" run.1) _ (found_value _ (unicode_class config negated (property run.0)) _ (λ piece e. found_some _ piece _ (tail_then t run.1 _ after (tail_drop 1 run.1)))))
      (found_value _ (first t) _ (λ c e. letter_tail c t _))

  boundary_tail : (t : Text) → Leaves t (boundary config t)
  unfolding boundary
  boundary_tail t =
      let run = take_run v is_boundary_char (next v t) in
      let after : Tail t run.1 = tail_then t (next v t) run.1 (next_tail v t) (run_tail v is_boundary_char (next v t)) in
      found_if _ (not (is_at "{" t) || is_some_and (first (next v t)) (λ c. not (is_boundary_char c))) _ _ (found_some _ _ _ (tail_all t))
      (found_test _ (is_at "}" run.1) _ (found_value _ (boundary_name config run.0) _ (λ piece e. found_some _ piece _ (tail_then t run.1 _ after (tail_drop 1 run.1)))))

  pub escape_tail : (t : Text) → Leaves t (escape config t)
  unfolding escape
  escape_tail t =
      let behind = next v t in
      found_value _ (first t) _ (λ c e.
      found_if _ (config.octal && is_digit c 8) _ _ (found_value _ (char_of 8 (take_up_to false 3 (λ d. is_digit d 8) t).0) _ (λ d f. found_some _ (character d false) _ (up_to_tail false 3 (λ d. is_digit d 8) t)))
      (found_if _ (c ∈ "x") _ _ (leaves_further t behind _ (next_tail v t) (hex_tail 2 behind))
      (found_if _ (c ∈ "u") _ _ (leaves_further t behind _ (next_tail v t) (hex_tail 4 behind))
      (found_if _ (c ∈ "U") _ _ (leaves_further t behind _ (next_tail v t) (hex_tail 8 behind))
      (found_if _ (c ∈ "pP") _ _ (leaves_further t behind _ (next_tail v t) (named_tail (c ∈ "P") behind))
      (found_if _ (c ∈ "b") _ _ (leaves_further t (drop 1 t) _ (tail_drop 1 t) (boundary_tail (drop 1 t)))
      (found_value _ (one_letter config c) _ (λ piece f. found_some _ piece _ (tail_drop 1 t)))))))))

  -- ---- classes in brackets

  mapped_tail : (c : ℕ) (t : Text) (o : Option (Text × Text)) → Leaves t o → Leaves (c ∷ t) (option_map (λ (before, after). (c ∷ before, after)) o)
  mapped_tail c t None h = found_none _
  mapped_tail c t (Some found) h = record { holds = tail_more c t found.1 h.holds }

  split_tail : (separator t : Text) → Leaves t (split_once separator t)
  unfolding split_once
  split_tail separator [] = found_none _
  split_tail separator (c ∷ t) = found_if _ (starts_with nat_eq (c ∷ t) separator) _ _ (found_some _ _ _ (tail_drop (length separator) (c ∷ t))) (mapped_tail c t (split_once separator t) (split_tail separator t))

  -- What is left after a named class is the end of the text.
  record NamedTail (t : Text) (found : Option (Set × Bool × Text)) : Type 0 where
    holds : IfSome found (λ result. Tail t result.2)

  named_test : (t : Text) (b : Bool) (x : Option (Set × Bool × Text)) → NamedTail t x → NamedTail t (b >> x)
  named_test t true x h = h
  named_test t false x h = record { holds = tt }

  named_value : (t : Text) (o : Option Set) (f : Set → Option (Set × Bool × Text)) → ((set : Set) → NamedTail t (f set)) → NamedTail t (o >>= f)
  named_value t None f h = record { holds = tt }
  named_value t (Some set) f h = h set

  named_then : (t : Text) (o : Option (Text × Text)) (f : Text × Text → Option (Set × Bool × Text)) → Leaves t o → ((name after : Text) → Tail t after → NamedTail t (f (name, after))) → NamedTail t (o >>= f)
  named_then t None f h k = record { holds = tt }
  named_then t (Some found) f h k = k found.0 found.1 h.holds

  posix_tail : (t : Text) → NamedTail t (posix t)
  unfolding posix
  posix_tail t =
      let rest = drop (if begins "[:^" t then 3 else 2) t in
      named_test t (begins "[:" t) _
      (named_then t (split_once (codes ":") rest) _ (leaves_further t rest _ (tail_drop (if begins "[:^" t then 3 else 2) t) (split_tail (codes ":") rest)) (λ name after is.
      named_test t (is_at "]" after) _ (named_value t (ascii_class name) _ (λ set. record { holds = tail_then t after _ is (tail_drop 1 after) }))))

  member_tail : (t : Text) → Leaves t (member config t)
  unfolding member
  member_tail t =
      found_value _ (first t) _ (λ c e.
      found_if _ (c ∈ "\\") _ _ (leaves_further t (drop 1 t) _ (tail_drop 1 t) (escape_tail (drop 1 t))) (found_some _ (character c false) _ (tail_drop 1 t)))

  set_item_tail : (t : Text) → Leaves t (set_item config t)
  unfolding set_item
  set_item_tail t =
      found_then _ _ (member config t) _ (member_tail t) (λ low after is.
      let hyphen = skip v after in
      let here : Tail t hyphen = tail_then t after hyphen is (skip_tail v after) in
      let there : Tail t (next v hyphen) = tail_then t hyphen _ here (next_tail v hyphen) in
      found_test _ (not (is_empty hyphen)) _ (found_if _ (is_at "-" hyphen && not (is_at "]-" (after_hyphen config hyphen))) _ _
      (found_then _ _ (member config (next v hyphen)) _ (leaves_further t (next v hyphen) _ there (member_tail (next v hyphen))) (λ high rest more. found_value _ (range config low high) _ (λ set e. found_some _ set _ more)))
      (found_value _ (single config low) _ (λ set e. found_some _ set _ here))))

  abbrev start_from : Bool → Text → Bool × Text × Text
  start_from negated s = let run = take_run v (λ c. c ∈ "-") s in if is_empty run.0 && is_at "]" run.1 then (negated, 0x5D ∷ [], next v run.1) else (negated, run.0, run.1)

  start_tail : (t : Text) → Tail t (bracket_start config t).2
  unfolding bracket_start
  start_tail t = from (is_at "^" t) (if is_at "^" t then next v t else t) (tail_if (is_at "^" t) t (next v t) t (next_tail v t) (tail_all t))
    where
      pick : (b : Bool) (x y : Bool × Text × Text) → Tail t x.2 → Tail t y.2 → Tail t (if b then x else y).2
      pick true x y h k = h
      pick false x y h k = k

      from : (negated : Bool) (s : Text) → Tail t s → Tail t (start_from negated s).2
      from negated s h =
          let run = take_run v (λ c. c ∈ "-") s in
          let after : Tail t run.1 = tail_then t s run.1 h (run_tail v (λ c. c ∈ "-") s) in
          pick (is_empty run.0 && is_at "]" run.1) (negated, 0x5D ∷ [], next v run.1) (negated, run.0, run.1) (tail_then t run.1 _ after (next_tail v run.1)) after

  -- What is left begins after a closing bracket.
  abbrev pub After : (t rest : Text) → Type 0
  After t rest = Tail t (93 ∷ rest)

  abbrev pub Closes : {A : Type 0} (t : Text) → Option (A × Text) → Type 0
  Closes t found = Found (λ a rest. After t rest) found

  closed_tail : {A : Type 0} (t : Text) (o : Option (A × Text)) → Closes t o → Leaves t o
  closed_tail t o h = found_weaker _ _ o (λ a rest is. tail_then t (93 ∷ rest) rest is (tail_more 93 rest rest (tail_all rest))) h

  closes_further : {A : Type 0} (s t : Text) (o : Option (A × Text)) → Tail s t → Closes t o → Closes s o
  closes_further s t o h k = found_weaker _ _ o (λ a rest is. tail_then s t (93 ∷ rest) h is) k

  item_or_tail : (inner : Text → Option (Nested Set × Text)) (o : Option (Set × Bool × Text)) (t : Text) → NamedTail t o → Leaves t (inner t) → Leaves t (item_or config inner o t)
  unfolding item_or
  item_or_tail inner (Some found) t h k = found_value _ (negate_if config found.1 (case_fold config found.0)) _ (λ set e. found_some _ _ _ h.holds)
  item_or_tail inner None t h k = found_if _ (is_at "[" t) _ _ k (found_then _ _ (set_item config t) _ (set_item_tail t) (λ set rest is. found_some _ _ _ is))

  unite_tail : (leading : List (Nested Set)) (t : Text) (o : Option (List (Nested Set) × Text)) → Leaves t o → Leaves t (unite leading o)
  unfolding unite
  unite_tail leading t o h = found_then _ _ o _ h (λ parts rest is. found_some _ _ _ is)

  closing_after : (t : Text) → is_at "]" t ≡ true → After t (drop 1 t)
  unfolding first
  closing_after [] e = absurd cc
  closing_after (c ∷ t) e = ([], ap (λ (d : ℕ). d ∷ t) (eqb-true c 93 e))

  mutual
    unfolding set_items operations bracket

    items_tail : (n : ℕ) (t : Text) → Leaves t (set_items config n t)
    items_tail zero t = found_none _
    items_tail (suc n) t =
        let here = skip v t in
        let is_here : Tail t here = skip_tail v t in
        found_if _ (is_at "]" here || is_some (operator here)) _ _ (found_some _ _ _ is_here)
        (found_then _ _ _ _ (leaves_further t here _ is_here (item_or_tail (bracket config n) (posix here) here (posix_tail here) (closed_tail here _ (bracket_after n here)))) (λ part after is.
        found_then _ _ _ _ (leaves_further t after _ is (items_tail n after)) (λ parts rest more. found_some _ _ _ more)))

    operations_after : (n : ℕ) (left : Nested Set) (t : Text) → Closes t (operations config n left t)
    operations_after zero left t = found_none _
    operations_after (suc n) left t =
        found_either _ (is_at "]" t) _ _ (λ e. found_some _ _ _ (closing_after t e)) (λ e.
        found_value _ (operator t) _ (λ apply f.
        found_then _ _ _ _ (leaves_further t (drop 2 t) _ (tail_drop 2 t) (unite_tail [] (drop 2 t) _ (items_tail n (drop 2 t)))) (λ right rest is.
        closes_further t rest _ is (operations_after n (operation config apply left right) rest))))

    pub bracket_after : (n : ℕ) (t : Text) → Closes t (bracket config n t)
    bracket_after zero t = found_none _
    bracket_after (suc n) t =
        let inside = next v t in
        let after = (bracket_start config inside).2 in
        let is_after : Tail t after = tail_then t inside after (next_tail v t) (start_tail inside) in
        found_then _ _ _ _ (leaves_further t after _ is_after (unite_tail (map (λ c. flat (λ d. d == c)) (bracket_start config inside).1) after _ (items_tail n after))) (λ left more is.
        found_then _ _ _ _ (closes_further t more _ is (operations_after n left more)) (λ all rest ends.
        found_value _ (negate_if config (bracket_start config inside).0 (case_fold config all.value)) _ (λ set e. found_some _ _ _ ends)))
