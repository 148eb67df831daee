-- Escapes are read alike before a closing parenthesis and more text.
use Rattle.std.proofs.Common.{◌≡◌, ℕ, Bool, true, false, not, ◌&&◌, ◌==◌, [], ◌∷◌, length, drop, refl, sym, ap, ◌∙◌, true≢false, nat_lt, ◌^◌, ⊎_elim}
use Rattle.std.proofs.lemmas.Bool.{cases_Bool}
use Rattle.std.specs.Char.{is_digit, is_whitespace}
use Rattle.regex_syntax.specs.declared.Config.{Config}
use Rattle.regex_syntax.specs.Escapes.{character, escape, hex, named_class, boundary, boundary_name, one_letter, unicode_class, is_boundary_char, is_verbose}
use Rattle.regex_syntax.specs.Reading.{Text, ◌∈◌, first, is_at, is_empty, skip, next, take_up_to, take_run, decimal, char_of, value}
use Prim.Native.String.{String}
use Rattle.regex_syntax.specs.Sets.{property}
use Rattle.urlpattern_laws.proofs.Closing.{Calm, closed, calm_rest, skip_closed, Leaves, SameRun, run_closed, take_run_closed, ReadAlike, alike_none, alike_some, alike_value, alike_test, alike_when, alike_if}

module _ (tail : Text) where
  -- ---- the first character

  pub at_closed : (w : String) (t : Text) → (41 ∈ w) ≡ false → is_at w (closed tail t) ≡ is_at w t
  unfolding first
  at_closed w [] e = e
  at_closed w (c ∷ t) e = refl

  pub drop_closed : (w : String) (t : Text) → is_at w t ≡ true → Calm t → Leaves tail (drop 1 t) (drop 1 (closed tail t))
  unfolding first
  drop_closed w [] e h = absurd (true≢false (sym e))
  drop_closed w (c ∷ t) e h = (refl, calm_rest c t h)

  pub next_closed : (v : Bool) (w : String) (t : Text) → is_at w t ≡ true → Calm t → Leaves tail (next v t) (next v (closed tail t))
  unfolding first
  next_closed v w [] e h = absurd (true≢false (sym e))
  next_closed v w (c ∷ t) e h = (skip_closed tail v t (calm_rest c t h)).0

  -- A text with a mark at its start is not empty.
  left_at : (w : String) (t : Text) → is_at w t ≡ true → t ≡ [] → ⊥
  unfolding first
  left_at w t e none = true≢false (sym e ∙ ap (λ s. is_at w s) none)

  pub decimal_closed : (v : Bool) (t : Text) → Calm t → ReadAlike tail (decimal v t) (decimal v (closed tail t))
  unfolding decimal
  decimal_closed v t h =
      let spaces = take_run_closed tail false is_whitespace t h (λ e. refl) in
      let digits = take_run_closed tail v (λ c. is_digit c 10) (take_run false is_whitespace t).1 spaces.1.1 (λ e. refl) in
      let more = take_run_closed tail v is_whitespace (take_run v (λ c. is_digit c 10) (take_run false is_whitespace t).1).1 digits.1.1 (λ e. refl) in
      let written = (take_run v (λ c. is_digit c 10) (take_run false is_whitespace t).1).0 in
      rw (decimal, spaces.1.0, digits.0, digits.1.0)
      (alike_test tail (not (is_empty written)) _ _ (alike_test tail (nat_lt (value 10 written) (2 ^ 32)) _ _ (alike_some tail (value 10 written) _ _ more.1)))

  -- A run that must end at a mark.
  pub marked_run : (v : Bool) (test : ℕ → Bool) (w : String) (t : Text) → Calm t → is_at w (take_run v test t).1 ≡ true → SameRun tail (take_run v test t) (take_run v test (closed tail t))
  marked_run v test w t h e = take_run_closed tail v test t h (λ none. absurd (left_at w (take_run v test t).1 e none))

  module _ (config : Config) where
    abbrev v : Bool
    v = is_verbose config

    -- The digits of a character in braces, from the opening brace on.
    abbrev braced_digits : Text → Text × Text
    braced_digits t = take_run v (λ c. is_digit c 16) (next v t)

    hex_braced : (t : Text) → is_at "{" t ≡ true → Calm t → (n : ℕ) → ReadAlike tail (hex config n t) (hex config n (closed tail t))
    unfolding hex
    hex_braced t e h n =
        let start = next_closed v "{" t e h in
        let run = take_run_closed tail v (λ c. is_digit c 16) (next v t) start.1 (λ none. refl) in
        let digits = (braced_digits t).0 in
        let left = (braced_digits t).1 in
        rw (hex, at_closed "{" t refl, e, start.0, run.0, run.1.0, at_closed "}" left refl)
        (alike_when tail (is_at "}" left) _ _ (λ f.
        alike_test tail (not (is_empty digits)) _ _
        (alike_value tail (char_of 16 digits) _ _ (λ c. alike_some tail (character c false) _ _ (next_closed v "}" left f run.1.1)))))

    hex_digits : (t : Text) → is_at "{" t ≡ false → Calm t → (n : ℕ) → ReadAlike tail (hex config n t) (hex config n (closed tail t))
    unfolding hex
    hex_digits t e h n =
        let run = run_closed tail v n (λ c. is_digit c 16) t h refl in
        let digits = (take_up_to v n (λ c. is_digit c 16) t).0 in
        rw (hex, at_closed "{" t refl, e, run.0)
        (alike_test tail (length digits == n) _ _
        (alike_value tail (char_of 16 digits) _ _ (λ c. alike_some tail (character c (n == 2)) _ _ run.1)))

    hex_closed : (n : ℕ) (t : Text) → Calm t → ReadAlike tail (hex config n t) (hex config n (closed tail t))
    hex_closed n t h = ⊎_elim (λ (e : is_at "{" t ≡ true). hex_braced t e h n) (λ (e : is_at "{" t ≡ false). hex_digits t e h n) (cases_Bool (is_at "{" t))

    named_braced : (negated : Bool) (t : Text) → is_at "{" t ≡ true → Calm t → ReadAlike tail (named_class config negated t) (named_class config negated (closed tail t))
    unfolding named_class
    named_braced negated t e h =
        let start = next_closed v "{" t e h in
        let test : ℕ → Bool = λ c. not (c ∈ "}") in
        let name = take_run v test (next v t) in
        ⊎_elim
        (λ (f : is_at "}" name.1 ≡ true).
        let run = marked_run v test "}" (next v t) start.1 f in
        rw (named_class, at_closed "{" t refl, e, start.0, run.0, run.1.0, at_closed "}" name.1 refl)
        (alike_test tail (is_at "}" name.1) _ _
        (alike_value tail (unicode_class config negated (property name.0)) _ _ (λ piece. alike_some tail piece _ _ (drop_closed "}" name.1 f run.1.1)))))
        (λ (f : is_at "}" name.1 ≡ false). rw (named_class, e, f) (alike_none tail _))
        (cases_Bool (is_at "}" name.1))

    named_letter : (negated : Bool) (t : Text) → is_at "{" t ≡ false → Calm t → ReadAlike tail (named_class config negated t) (named_class config negated (closed tail t))
    unfolding named_class first
    named_letter negated [] e h = alike_none tail _
    named_letter negated (c ∷ t) e h =
        rw (named_class, e)
        (alike_test tail (not (c ∈ "\\")) _ _
        (alike_value tail (unicode_class config negated _) _ _
        (λ piece. alike_some tail piece _ _ (skip_closed tail v t (calm_rest c t h)).0)))

    named_closed : (negated : Bool) (t : Text) → Calm t → ReadAlike tail (named_class config negated t) (named_class config negated (closed tail t))
    named_closed negated t h =
        ⊎_elim (λ (e : is_at "{" t ≡ true). named_braced negated t e h) (λ (e : is_at "{" t ≡ false). named_letter negated t e h) (cases_Bool (is_at "{" t))

    -- A boundary in braces, after the opening brace.
    boundary_braced : (t left : Text) → Calm t → is_at "{" t ≡ true → next v t ≡ left → next v (closed tail t) ≡ closed tail left → Calm left → ReadAlike tail (boundary config t) (boundary config (closed tail t))
    unfolding boundary first take_run take_up_to
    boundary_braced t [] calm e f g h = rw (boundary, e, f) (alike_none tail _)
    boundary_braced t (c ∷ left) calm e f g h =
        let run = take_run v is_boundary_char (c ∷ left) in
        let same = take_run_closed tail v is_boundary_char (c ∷ left) h (λ none. refl) in
        rw (boundary, at_closed "{" t refl, e, f, g)
        (alike_if tail (not (is_boundary_char c)) _ _ _ _ (alike_some tail _ _ _ (refl, calm))
        (rw (same.0, same.1.0, at_closed "}" run.1 refl)
        (alike_when tail (is_at "}" run.1) _ _ (λ p. alike_value tail (boundary_name config run.0) _ _ (λ piece. alike_some tail piece _ _ (drop_closed "}" run.1 p same.1.1))))))

    boundary_closed : (t : Text) → Calm t → ReadAlike tail (boundary config t) (boundary config (closed tail t))
    unfolding boundary
    boundary_closed t h =
        ⊎_elim
        (λ (e : is_at "{" t ≡ true). let start = next_closed v "{" t e h in boundary_braced t (next v t) h e refl start.0 start.1)
        (λ (e : is_at "{" t ≡ false). rw (boundary, at_closed "{" t refl, e) (alike_some tail _ _ _ (refl, h)))
        (cases_Bool (is_at "{" t))

    pub escape_closed : (t : Text) → Calm t → ReadAlike tail (escape config t) (escape config (closed tail t))
    unfolding escape first
    escape_closed [] h = alike_none tail _
    escape_closed (c ∷ t) h =
        let digits = run_closed tail false 3 (λ d. is_digit d 8) (c ∷ t) h refl in
        let left = (skip_closed tail v t (calm_rest c t h)).0 in
        rw (escape, digits.0, left.0)
        (alike_if tail (config.octal && is_digit c 8) _ _ _ _
        (alike_value tail (char_of 8 (take_up_to false 3 (λ d. is_digit d 8) (c ∷ t)).0) _ _ (λ d. alike_some tail (character d false) _ _ digits.1))
        (alike_if tail (c ∈ "x") _ _ _ _ (hex_closed 2 (skip v t) left.1)
        (alike_if tail (c ∈ "u") _ _ _ _ (hex_closed 4 (skip v t) left.1)
        (alike_if tail (c ∈ "U") _ _ _ _ (hex_closed 8 (skip v t) left.1)
        (alike_if tail (c ∈ "pP") _ _ _ _ (named_closed (c ∈ "P") (skip v t) left.1)
        (alike_if tail (c ∈ "b") _ _ _ _ (boundary_closed t (calm_rest c t h))
        (alike_value tail (one_letter config c) _ _ (λ piece. alike_some tail piece _ _ (refl, calm_rest c t h)))))))))
