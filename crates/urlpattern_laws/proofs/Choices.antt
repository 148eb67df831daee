-- Choices in sequence, repeated and captured: how they split a text, and that attempts try their
-- ways in order.
use Rattle.std.proofs.Common.{◌≡◌, ℕ, ◌≤◌, ap₂, encode_utf8, suc, ◌+◌, ◌*◌, List, [], ◌∷◌, ◌++◌, length, drop, Option, Some, None, Bool, true, false, cond, ◌==◌, slice_get, refl, sym, ap, ◌∙◌, subst, append_assoc, append-nil, inl, inr, arith, eq-eqb, eqb-true, true≢false}
use Rattle.std.proofs.lemmas.Bool.{and_parts, cond-false}
use Rattle.std.proofs.lemmas.Option.{none-some, same_Some}
use Rattle.std.proofs.lemmas.Str.{length-encode}
use Rattle.std.specs.Char.{IsScalar, len_utf8}
use lib.Utf8.{scalars, encodes}
use Rattle.regex_class.specs.Ranges.{in_ranges}
use Rattle.regex_hir.proofs.AttemptLemmas.{attempt_cong}
use Rattle.regex_hir.proofs.TextLemmas.{char_at_from, char_at_parts, char_at_past, has_bytes_at_from, has_bytes_at_parts}
use Rattle.regex_hir.specs.Meaning.{cat_all}
use Rattle.regex_hir.specs.Re.{Re, empty, literal, byte_in, char_in, look, cat, alt, group, plus, Trace, Rest, write, attempt}
use Rattle.regex_hir.specs.Text.{char_at, has_bytes_at, is_some_and}
use Rattle.regex_syntax.specs.Brackets.{Nested}
use Rattle.urlpattern_laws.proofs.Bare.{bare}
use Rattle.urlpattern_laws.proofs.Takes.{at_push, char_here, character_of}
use Rattle.urlpattern_expressions.specs.Expressions.{is_groupless, matches_characters}
use Rattle.urlpattern_expressions.specs.PartWays.{captured_whole, followed_by, pattern_ways}
use Rattle.urlpattern_meaning.proofs.WayLists.{every-weaker}
use Rattle.urlpattern_meaning.proofs.WaysSound.{IsSound, nil_of_zero}
use Rattle.urlpattern_meaning.specs.Dialect.{AllowsGroups, Quantifier, Once, Optional, ZeroOrMore, OneOrMore, LazyOneOrMore}
use Rattle.urlpattern_meaning.specs.Ways.{Way, WaysByText, empty_way, looped, one_that, quantified_ways}
use Rattle.urlpattern_engine.proofs.GroupSlots.{Shown, shown-append, shown-capturing, shown-empty_way}
use Rattle.urlpattern_engine.proofs.ItemsRead.{repeated_as}
use Rattle.urlpattern_engine.proofs.LoopAttempts.{Suits, leaf, looped-suits}
use Rattle.urlpattern_engine.proofs.TreeAttempts.{re_taken}
pub use Rattle.urlpattern_engine.proofs.WaysCounted.{HasCaptures, Cuts, allows_none, cuts_captured, cuts_either, cuts_followed, cuts_idle, cuts_looped, cuts_one, cuts_quantified}
use Rattle.urlpattern_engine.proofs.WayResults.{at, Gave, gave-append, gave-capturing, gave-continued, gave-empty_way}

-- ---- splitting texts

pub pattern_cuts : (re : Re) → Cuts (pattern_ways re) 0
pattern_cuts empty text = cuts_idle 0 text
pattern_cuts (literal bytes) text = cuts_one (λ c. is_some_and (char_at bytes 0) (λ written. c == written)) text
pattern_cuts (byte_in ranges) text = tt
pattern_cuts (char_in ranges) text = cuts_one (in_ranges ranges) text
pattern_cuts (look assertion) text = tt
pattern_cuts (cat a b) text = cuts_followed (pattern_ways a) (pattern_ways b) 0 0 (pattern_cuts a) (pattern_cuts b) text
pattern_cuts (alt a b) text = cuts_either (pattern_ways a) (pattern_ways b) 0 (pattern_cuts a) (pattern_cuts b) text
pattern_cuts (group n a) text = pattern_cuts a text
pattern_cuts (plus greedy a) text = cuts_looped greedy (pattern_ways a) (pattern_cuts a) text

-- ---- the order in which attempts try ways

same_bool : (b c : Bool) → (b ≡ true → c ≡ true) → (c ≡ true → b ≡ true) → b ≡ c
same_bool true c there back = sym (there refl)
same_bool false true there back = back refl
same_bool false false there back = refl

no_byte_in : (o : Option ℕ) → is_some_and o (in_ranges []) ≡ false
unfolding in_ranges
no_byte_in None = refl
no_byte_in (Some b) = refl

module _ (whole : List ℕ) (good : scalars whole ≡ true) where
  abbrev hay : List ℕ
  hay = encodes whole

  abbrev Shows : ℕ → List ℕ → Rest → List Way → Option Trace → Type 0
  Shows = Gave (Shown hay) (shown-append hay) (shown-empty_way hay)

  -- At each place of the text, the attempt tries the ways of the choice in order. Its groups are
  -- numbered from g on.
  abbrev pub Fits : (g : ℕ) → WaysByText → (Rest → Rest) → Type 0
  Fits = Suits (Shown hay) (shown-append hay) (shown-empty_way hay) whole good

  fits_idle : (g groups : ℕ) → Fits g (λ text. empty_way groups text ∷ []) (attempt hay empty)
  unfolding attempt
  fits_idle g groups before text e k = gave-empty_way (Shown hay) (shown-append hay) (shown-empty_way hay) g groups before text k

  fits_followed : (g m : ℕ) (first next : WaysByText) (a b : Re) → Cuts first m → Fits g first (attempt hay a) → Fits (g + m) next (attempt hay b) → Fits g (followed_by first next) (attempt hay (cat a b))
  unfolding attempt
  fits_followed g m first next a b cuts fits also before text e k =
      gave-continued (Shown hay) (shown-append hay) (shown-empty_way hay) g before k (attempt hay b k) next (first text) (attempt hay a (attempt hay b k) (at before))
      (every-weaker (IsSound text (HasCaptures m)) _ (first text)
      (λ way p. subst (λ n. Shows (g + n) (before ++ way.taken) k (next way.rest) (attempt hay b k (at (before ++ way.taken)))) (sym p.1)
      (also (before ++ way.taken) way.rest (append_assoc before way.taken way.rest ∙ ap (λ t. before ++ t) (sym p.0) ∙ e) k))
      (cuts text))
      (fits before text e (attempt hay b k))

  fits_either : (g : ℕ) (first other : WaysByText) (a b : Re) → Fits g first (attempt hay a) → Fits g other (attempt hay b) → Fits g (λ text. first text ++ other text) (attempt hay (alt a b))
  unfolding attempt
  fits_either g first other a b fits also before text e k =
      gave-append (Shown hay) (shown-append hay) (shown-empty_way hay) g before k (first text) (other text) (attempt hay a k (at before)) (attempt hay b k (at before))
      (fits before text e k) (also before text e k)

  fits_captured : (g n : ℕ) (choice : WaysByText) (a : Re) → Cuts choice n → Fits (suc g) choice (attempt hay a) → Fits g (captured_whole choice) (attempt hay (group g a))
  unfolding attempt
  fits_captured g n choice a cuts fits before text e k =
      gave-capturing (Shown hay) (shown-append hay) (shown-empty_way hay) g before (λ way. (before ++ way.taken) ++ way.rest ≡ whole) (shown-capturing whole good g before) k (choice text)
      (attempt hay a (λ j. write (2 * g + 1) j (k j)) (at before))
      (every-weaker (IsSound text (HasCaptures n)) _ (choice text) (λ way p. append_assoc before way.taken way.rest ∙ ap (λ t. before ++ t) (sym p.0) ∙ e) (cuts text))
      (fits before text e (λ j. write (2 * g + 1) j (k j)))

  fits_looped : (g : ℕ) (greedy : Bool) (choice : WaysByText) (a : Re) → Cuts choice 0 → Fits g choice (attempt hay a) → Fits g (looped greedy choice) (attempt hay (plus greedy a))
  fits_looped g greedy choice a cuts fits before text e k =
      looped-suits (Shown hay) (shown-append hay) (shown-empty_way hay) whole good g greedy choice a fits
      (λ t. every-weaker (IsSound t (HasCaptures 0)) (λ (way : Way). (t ≡ way.taken ++ way.rest) × (way.captures ≡ [])) (choice t) (λ way p. (p.0, nil_of_zero way.captures p.1)) (cuts t)) k before text e

  fits_quantified : (g : ℕ) (quantifier : Quantifier) (groups : ℕ) (choice : WaysByText) (a : Re) → AllowsGroups quantifier groups → Cuts choice groups → Fits g choice (attempt hay a)
      → Fits g (quantified_ways quantifier groups choice) (attempt hay (re_taken quantifier a))
  unfolding attempt
  fits_quantified g Once groups choice a allowed cuts fits before text e k = fits before text e k
  fits_quantified g Optional groups choice a allowed cuts fits before text e k =
      gave-append (Shown hay) (shown-append hay) (shown-empty_way hay) g before k (choice text) (empty_way groups text ∷ []) (attempt hay a (attempt hay empty k) (at before)) (k (at before))
      (fits before text e k) (gave-empty_way (Shown hay) (shown-append hay) (shown-empty_way hay) g groups before text k)
  fits_quantified g ZeroOrMore groups choice a allowed cuts fits before text e k =
      gave-append (Shown hay) (shown-append hay) (shown-empty_way hay) g before k (looped true choice text) (empty_way groups text ∷ []) (attempt hay (plus true a) k (at before)) (k (at before))
      (fits_looped g true choice a (subst (λ n. Cuts choice n) allowed cuts) fits before text e k) (gave-empty_way (Shown hay) (shown-append hay) (shown-empty_way hay) g groups before text k)
  fits_quantified g OneOrMore groups choice a allowed cuts fits before text e k = fits_looped g true choice a (subst (λ n. Cuts choice n) allowed cuts) fits before text e k
  fits_quantified g LazyOneOrMore groups choice a allowed cuts fits before text e k = fits_looped g false choice a (subst (λ n. Cuts choice n) allowed cuts) fits before text e k

  -- ---- a pattern that never matches

  pub no_byte : (k : Rest) (i : ℕ) → attempt hay (byte_in []) k i ≡ None
  unfolding attempt
  no_byte k i = cond-false (is_some_and (slice_get hay i) (in_ranges [])) (k (i + 1)) None (no_byte_in (slice_get hay i))

  fits_nothing : (g : ℕ) → Fits g (λ text. []) (attempt hay (byte_in []))
  fits_nothing g before text e k = no_byte k (at before)

  -- ---- a single character

  -- The text after these bytes.
  abbrev after_bytes : ℕ → List ℕ → List ℕ
  after_bytes i bytes = drop (i + length bytes) hay

  -- Where the bytes of a character are found, the character is found.
  found_there : (i : ℕ) (bytes : List ℕ) (c : ℕ) → IsScalar c → bytes ≡ encode_utf8 c → has_bytes_at hay i bytes ≡ true → char_at hay i ≡ Some c
  found_there i bytes c scalar is h =
      char_at_from hay i c (after_bytes i bytes) scalar (has_bytes_at_parts hay i bytes h ∙ ap (λ bs. bs ++ after_bytes i bytes) is)

  bytes_there : (i : ℕ) (bytes : List ℕ) (c : ℕ) → bytes ≡ encode_utf8 c → char_at hay i ≡ Some c → has_bytes_at hay i bytes ≡ true
  bytes_there i bytes c is here =
      let rest : List ℕ = drop (i + len_utf8 c) hay in
      has_bytes_at_from hay i bytes rest ((char_at_parts hay i c here).1 ∙ ap (λ bs. bs ++ rest) (sym is))

  bytes_here : (i : ℕ) (bytes : List ℕ) (c d : ℕ) → IsScalar c → bytes ≡ encode_utf8 c → char_at hay i ≡ Some d → has_bytes_at hay i bytes ≡ (d == c)
  bytes_here i bytes c d scalar is here =
      same_bool (has_bytes_at hay i bytes) (d == c)
      (λ h. eq-eqb d c (same_Some d c (sym here ∙ found_there i bytes c scalar is h)))
      (λ h. bytes_there i bytes c is (here ∙ ap Some (eqb-true d c h)))

  bytes_past : (i : ℕ) (bytes : List ℕ) (c : ℕ) → IsScalar c → bytes ≡ encode_utf8 c → char_at hay i ≡ None → has_bytes_at hay i bytes ≡ false
  bytes_past i bytes c scalar is none = by (has_bytes_at hay i bytes) refl
    where
      by : (b : Bool) → has_bytes_at hay i bytes ≡ b → b ≡ false
      by false h = refl
      by true h = absurd (none-some c (sym none ∙ found_there i bytes c scalar is h))

  fits_literal : (g : ℕ) (bytes : List ℕ) (c : ℕ) → IsScalar c → bytes ≡ encode_utf8 c → Fits g (one_that (λ d. d == c)) (attempt hay (literal bytes))
  unfolding attempt
  fits_literal g bytes c scalar is before [] e k =
      let past : length hay ≤ at before = omega (arith, ap at (sym e ∙ append-nil before)) in
      cond-false (has_bytes_at hay (at before) bytes) (k (at before + length bytes)) None (bytes_past (at before) bytes c scalar is (char_at_past hay (at before) past))
  fits_literal g bytes c scalar is before (d ∷ rest) e k =
      by (d == c) (has_bytes_at hay (at before) bytes) (k (at before + length bytes)) (bytes_here (at before) bytes c d scalar is (char_here whole good before d rest e))
      (λ h. ap k (at_push before d ∙ ap (λ n. at before + n) (ap len_utf8 (eqb-true d c h) ∙ sym (length-encode c) ∙ ap length (sym is))))
    where
      by : (b r : Bool) (o : Option Trace) → r ≡ b → (b ≡ true → k (at (before ++ d ∷ [])) ≡ o)
          → Shows g before k (cond b (record { taken = d ∷ []; captures = []; rest = rest } ∷ []) []) (cond r o None)
      by true true None p q = inl (q refl, refl)
      by true true (Some t) p q = inr ([], t, q refl, refl, shown-empty_way hay g 0 [])
      by false false o p q = refl
      by true false o p q = absurd (true≢false (sym p))
      by false true o p q = absurd (true≢false p)

  -- ---- patterns without groups

  pub pattern_fits : (re : Re) → matches_characters re ≡ true → is_groupless re ≡ true → (g : ℕ) → Fits g (pattern_ways re) (attempt hay re)
  pattern_fits empty h none g = fits_idle g 0
  pattern_fits (literal bytes) h none g =
      let c = character_of bytes h in
      subst (λ (o : Option ℕ). Fits g (one_that (λ d. is_some_and o (λ written. d == written))) (attempt hay (literal bytes))) (sym c.1) (fits_literal g bytes c.0 c.2 c.3)
  pattern_fits (byte_in []) h none g = fits_nothing g
  pattern_fits (byte_in (range ∷ ranges)) h none g = absurd (true≢false (sym h))
  pattern_fits (char_in ranges) h none g = leaf (Shown hay) (shown-append hay) (shown-empty_way hay) whole good g (in_ranges ranges) ranges (λ c scalar. refl)
  pattern_fits (look assertion) h none g = absurd (true≢false (sym h))
  pattern_fits (cat a b) h none g =
      let plain = and_parts _ _ h in
      let groupless = and_parts _ _ none in
      fits_followed g 0 (pattern_ways a) (pattern_ways b) a b (pattern_cuts a) (pattern_fits a plain.0 groupless.0 g) (pattern_fits b plain.1 groupless.1 (g + 0))
  pattern_fits (alt a b) h none g =
      let plain = and_parts _ _ h in
      let groupless = and_parts _ _ none in
      fits_either g (pattern_ways a) (pattern_ways b) a b (pattern_fits a plain.0 groupless.0 g) (pattern_fits b plain.1 groupless.1 g)
  pattern_fits (group n a) h none g = absurd (true≢false (sym none))
  pattern_fits (plus greedy a) h none g = fits_looped g greedy (pattern_ways a) a (pattern_cuts a) (pattern_fits a h none g)

-- ---- any text

-- In any text of characters, the pattern tries the ways of the choice in order.
abbrev pub Tries : (g : ℕ) → WaysByText → Re → Type 0
Tries g choice re = (whole : List ℕ) (good : scalars whole ≡ true) → Fits whole good g choice (attempt (encodes whole) re)

pub tries_idle : (g groups : ℕ) → Tries g (λ text. empty_way groups text ∷ []) empty
tries_idle g groups whole good = fits_idle whole good g groups

pub tries_followed : (g m : ℕ) (first next : WaysByText) (a b : Re) → Cuts first m → Tries g first a → Tries (g + m) next b → Tries g (followed_by first next) (cat a b)
tries_followed g m first next a b cuts tries also whole good = fits_followed whole good g m first next a b cuts (tries whole good) (also whole good)

pub tries_captured : (g n : ℕ) (choice : WaysByText) (a : Re) → Cuts choice n → Tries (suc g) choice a → Tries g (captured_whole choice) (group g a)
tries_captured g n choice a cuts tries whole good = fits_captured whole good g n choice a cuts (tries whole good)

pub tries_literal : (g : ℕ) (bytes : List ℕ) (c : ℕ) → IsScalar c → bytes ≡ encode_utf8 c → Tries g (one_that (λ d. d == c)) (literal bytes)
tries_literal g bytes c scalar is whole good = fits_literal whole good g bytes c scalar is

pub tries_class : (g : ℕ) (passes : ℕ → Bool) (ranges : List (ℕ × ℕ)) → ((c : ℕ) → IsScalar c → in_ranges ranges c ≡ passes c) → Tries g (one_that passes) (char_in ranges)
tries_class g passes ranges same whole good = leaf (Shown (encodes whole)) (shown-append (encodes whole)) (shown-empty_way (encodes whole)) whole good g passes ranges same

pub tries_pattern : (re : Re) → matches_characters re ≡ true → is_groupless re ≡ true → (g : ℕ) → Tries g (pattern_ways re) re
tries_pattern re h none g whole good = pattern_fits whole good re h none g

repeated_value : (quantifier : Quantifier) (sub : Nested Re) → re_taken quantifier sub.value ≡ (repeated_as quantifier sub).value
repeated_value Once sub = refl
repeated_value Optional sub = refl
repeated_value ZeroOrMore sub = refl
repeated_value OneOrMore sub = refl
repeated_value LazyOneOrMore sub = refl

pub tries_quantified : (g : ℕ) (quantifier : Quantifier) (groups : ℕ) (choice : WaysByText) (sub : Nested Re) → AllowsGroups quantifier groups → Cuts choice groups → Tries g choice sub.value
    → Tries g (quantified_ways quantifier groups choice) (repeated_as quantifier sub).value
tries_quantified g quantifier groups choice sub allowed cuts tries =
    subst (Tries g (quantified_ways quantifier groups choice)) (repeated_value quantifier sub) (λ whole good. fits_quantified whole good g quantifier groups choice sub.value allowed cuts (tries whole good))

-- A pattern by itself, as the grammar builds it.
pub tries_alone : (g : ℕ) (choice : WaysByText) (a : Re) → Tries g choice a → Tries g choice (alt a (byte_in []))
tries_alone g choice a tries whole good before text e k =
    subst (λ ways. Gave (Shown (encodes whole)) (shown-append (encodes whole)) (shown-empty_way (encodes whole)) g before k ways (attempt (encodes whole) (alt a (byte_in [])) k (at before))) (append-nil (choice text))
    (fits_either whole good g choice (λ t. []) a (byte_in []) (tries whole good) (fits_nothing whole good g) before text e k)

-- A pattern with nothing after it.
pub tries_last : (g : ℕ) (choice : WaysByText) (a : Re) → Tries g choice a → Tries g choice (cat a empty)
unfolding attempt
tries_last g choice a tries whole good before text e k = tries whole good before text e k

-- ---- lists of patterns

pub attempt_append : (bytes : List ℕ) (trees others : List Re) (k : Rest) (i : ℕ) → attempt bytes (cat_all (trees ++ others)) k i ≡ attempt bytes (cat_all trees) (attempt bytes (cat_all others) k) i
unfolding attempt
attempt_append bytes [] others k i = refl
attempt_append bytes (tree ∷ trees) others k i =
    attempt_cong bytes tree (attempt bytes (cat_all (trees ++ others)) k) (attempt bytes (cat_all trees) (attempt bytes (cat_all others) k)) i (λ j m. attempt_append bytes trees others k j)

pub tries_append : (g m : ℕ) (first next : WaysByText) (trees others : List Re) → Cuts first m → Tries g first (cat_all trees) → Tries (g + m) next (cat_all others) → Tries g (followed_by first next) (cat_all (trees ++ others))
unfolding attempt
tries_append g m first next trees others cuts tries also whole good before text e k =
    subst (Gave (Shown (encodes whole)) (shown-append (encodes whole)) (shown-empty_way (encodes whole)) g before k (followed_by first next text)) (sym (attempt_append (encodes whole) trees others k (at before)))
    (tries_followed g m first next (cat_all trees) (cat_all others) cuts tries also whole good before text e k)

-- ---- without groups

-- The ways of a pattern do not depend on the numbers of its groups.
pub ways_bare : (a : Re) → pattern_ways (bare a) ≡ pattern_ways a
ways_bare (cat a b) = ap₂ (λ (first next : WaysByText). followed_by first next) (ways_bare a) (ways_bare b)
ways_bare (alt a b) =
    let either : WaysByText → WaysByText → WaysByText = λ first other text. first text ++ other text in
    ap₂ either (ways_bare a) (ways_bare b)
ways_bare (group n a) = ways_bare a
ways_bare (plus greedy a) = ap (λ (choice : WaysByText). looped greedy choice) (ways_bare a)
ways_bare a = refl
