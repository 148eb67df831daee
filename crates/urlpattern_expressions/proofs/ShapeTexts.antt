-- The texts of a pattern's shape are those that the pattern matches.
use Rattle.std.proofs.Common.{◌≡◌, ◌↔◌, ℕ, zero, suc, ◌+◌, ◌<◌, ◌≤◌, List, [], ◌∷◌, ◌++◌, length, drop, Some, Bool, true, false, ◌||◌, ◌⊎◌, inl, inr, ⊎_elim, refl, sym, ap, ap₂, ◌∙◌, subst, append_assoc, append-nil, length-append, arith, true≢false}
use Rattle.std.proofs.lemmas.Bool.{and_parts, ltb-true}
use Rattle.std.proofs.lemmas.List.{drop_at, nil_from_length}
use Rattle.std.proofs.lemmas.Option.{none-some, same_Some}
use Rattle.std.proofs.lemmas.Str.{encodes-append, encode_ascii, length-encode, length-le-encodes}
use Rattle.std.specs.Char.{IsScalar, is_ascii, len_utf8}
use Rattle.std.specs.List.{list_all}
use lib.Utf8.{scalars, encodes}
use Rattle.regex_class.specs.Ranges.{in_range, in_ranges}
use Rattle.regex_class.proofs.RangesLemmas.{in_range_tells, in_ranges-cons, in_ranges-nil, or-false}
use Rattle.regex_hir.proofs.Utf8Lemmas.{IsScalar-of_InScalarRange}
use Rattle.regex_hir.proofs.TextLemmas.{char_at_from, char_at_past, has_bytes_at_parts, has_bytes_at_from}
use Rattle.regex_hir.specs.Matches.{Matches, Rounds, one_round, next_round}
use Rattle.regex_hir.specs.Re.{Re, empty, literal, byte_in, char_in, look, cat, alt, group, plus}
use Rattle.regex_hir.specs.Text.{char_at}
use Rattle.urlpattern_expressions.specs.Expressions.{MatchesWhole}
use Rattle.urlpattern_expressions.specs.Shapes.{Takes, pattern_shape, reads_characters, spelled}
use Rattle.urlpattern_syntax.specs.Text.{IsRepeated}

-- ---- rounds and repetitions

repeated_push : (Is : List ℕ → Type 0) (n : ℕ) (text last : List ℕ) → IsRepeated Is n text → Is last → IsRepeated Is (suc n) (text ++ last)
repeated_push Is zero text last ended is = (last, [], ap (λ t. t ++ last) ended ∙ sym (append-nil last), is, refl)
repeated_push Is (suc n) text last (first, rest, cut, one, more) is =
    (first, rest ++ last, ap (λ t. t ++ last) cut ∙ append_assoc first rest last, one, repeated_push Is n rest last more is)

rounds_before : (R : ℕ → ℕ → Type 0) (i l j : ℕ) → R i l → Rounds R l j → Rounds R i j
rounds_before R i l j first (one_round _ r) = next_round l j (one_round l first) r
rounds_before R i l j first (next_round k _ rounds r) = next_round k j (rounds_before R i l k first rounds) r

-- ---- characters

-- The number of bytes of a text.
abbrev at : List ℕ → ℕ
at before = length (encodes before)

at_push : (before : List ℕ) (c : ℕ) → at (before ++ c ∷ []) ≡ at before + len_utf8 c
at_push before c =
    ap length (encodes-append before (c ∷ [])) ∙ length-append (encodes before) (encodes (c ∷ []))
    ∙ ap (λ n. at before + n) (ap length (append-nil _) ∙ length-encode c)

scalars_after : (before text : List ℕ) → scalars (before ++ text) ≡ true → scalars text ≡ true
scalars_after [] text h = h
scalars_after (c ∷ before) text h = scalars_after before text (and_parts _ _ h).1

nothing_in : (c : ℕ) → in_ranges [] c ≡ true → ⊥
nothing_in c h = true≢false (sym h ∙ in_ranges-nil c)

ascii_below : (c : ℕ) → is_ascii c ≡ true → c < 128
ascii_below c h = ltb-true c 128 h

-- The character is in the range of itself alone.
in_single : (c d : ℕ) → in_ranges ((c, c) ∷ []) d ≡ true → d ≡ c
in_single c d h =
    let here : in_range (c, c) d ≡ true = sym (in_ranges-cons (c, c) [] d ∙ ap (λ b. in_range (c, c) d || b) (in_ranges-nil d) ∙ or-false (in_range (c, c) d)) ∙ h in
    elim (in_range_tells (c, c) d) [
      | inl (holds, low, high) ↦ omega arith
      | inr (fails, out) ↦ absurd (true≢false (sym here ∙ fails))
    ]

single_has : (c : ℕ) → in_ranges ((c, c) ∷ []) c ≡ true
single_has c =
    let here : in_range (c, c) c ≡ true = own_range (in_range_tells (c, c) c) in
    in_ranges-cons (c, c) [] c ∙ ap (λ b. b || in_ranges [] c) here
  where
    own_range : ((in_range (c, c) c ≡ true) × (c ≤ c) × (c ≤ c)) ⊎ ((in_range (c, c) c ≡ false) × ((c < c) ⊎ (c < c))) → in_range (c, c) c ≡ true
    own_range (inl (holds, low, high)) = holds
    own_range (inr (fails, inl low)) = absurd (omega arith)
    own_range (inr (fails, inr high)) = absurd (omega arith)

-- ---- spelled texts

pub takes_spelled : (bytes text : List ℕ) → Takes (spelled bytes) text → text ≡ bytes
takes_spelled [] text takes = takes
takes_spelled (b ∷ bytes) text (first, rest, cut, (c, one, here), more) =
    cut ∙ ap (λ t. t ++ rest) one ∙ ap₂ (λ (x : ℕ) (l : List ℕ). x ∷ l) (in_single b c here) (takes_spelled bytes rest more)

pub spelled_takes : (bytes : List ℕ) → Takes (spelled bytes) bytes
spelled_takes [] = refl
spelled_takes (b ∷ bytes) = (b ∷ [], bytes, refl, (b, refl, single_has b), spelled_takes bytes)

-- The bytes of ASCII characters are their codes.
encodes_ascii : (text : List ℕ) → list_all is_ascii text ≡ true → encodes text ≡ text
encodes_ascii [] h = refl
encodes_ascii (c ∷ text) h =
    let both = and_parts _ _ h in
    ap₂ ◌++◌ (encode_ascii c (ascii_below c both.0)) (encodes_ascii text both.1)

module _ (whole : List ℕ) (good : scalars whole ≡ true) where
  abbrev hay : List ℕ
  hay = encodes whole

  bytes_here : (before rest : List ℕ) → before ++ rest ≡ whole → drop (at before) hay ≡ encodes rest
  bytes_here before rest e =
      ap (λ t. drop (at before) (encodes t)) (sym e) ∙ ap (drop (at before)) (encodes-append before rest) ∙ drop_at (encodes before) (encodes rest) (at before) refl

  -- The character after the text before a place.
  char_here : (before : List ℕ) (c : ℕ) (rest : List ℕ) → before ++ c ∷ rest ≡ whole → char_at hay (at before) ≡ Some c
  char_here before c rest e =
      let scalar : IsScalar c = (and_parts _ _ (scalars_after before (c ∷ rest) (ap scalars e ∙ good))).0 in
      char_at_from hay (at before) c (encodes rest) scalar (bytes_here before (c ∷ rest) e)

  -- A text whose first character is found.
  first_is : (before text : List ℕ) (c : ℕ) → before ++ text ≡ whole → char_at hay (at before) ≡ Some c → (rest : List ℕ) × (text ≡ c ∷ rest)
  first_is before [] c e found =
      let past : length hay ≤ at before = omega (arith, ap at (sym e ∙ append-nil before)) in
      absurd (none-some c (sym (char_at_past hay (at before) past) ∙ found))
  first_is before (d ∷ rest) c e found = (rest, ap (λ x. x ∷ rest) (same_Some d c (sym (char_here before d rest e) ∙ found)))

  -- The pattern's shape has a text at the start of `text` that ends at `j`.
  abbrev IsTakenFrom : Re → (before text : List ℕ) (j : ℕ) → Type 0
  IsTakenFrom re before text j = (taken rest : List ℕ) × (text ≡ taken ++ rest) × (j ≡ at (before ++ taken)) × Takes (pattern_shape re) taken

  one_character : (before text : List ℕ) (c : ℕ) → before ++ text ≡ whole → char_at hay (at before) ≡ Some c → (j : ℕ) → j ≡ at before + len_utf8 c
      → (rest : List ℕ) × (text ≡ (c ∷ []) ++ rest) × (j ≡ at (before ++ c ∷ []))
  one_character before text c e found j end = let is = first_is before text c e found in (is.0, is.1, end ∙ sym (at_push before c))

  -- ASCII bytes that stand at a place are the characters there.
  ascii_here : (bytes : List ℕ) → list_all is_ascii bytes ≡ true → (before text after : List ℕ) → before ++ text ≡ whole → drop (at before) hay ≡ bytes ++ after
      → (rest : List ℕ) × (text ≡ bytes ++ rest)
  ascii_here [] h before text after e stands = (text, refl)
  ascii_here (b ∷ bytes) h before text after e stands =
      let both = and_parts _ _ h in
      let low = ascii_below b both.0 in
      let spelling = encode_ascii b low in
      let found : char_at hay (at before) ≡ Some b = char_at_from hay (at before) b (bytes ++ after) (IsScalar-of_InScalarRange b (inl (omega arith))) (stands ∙ ap (λ t. t ++ (bytes ++ after)) (sym spelling)) in
      let is = first_is before text b e found in
      let next : (before ++ b ∷ []) ++ is.0 ≡ whole = append_assoc before (b ∷ []) is.0 ∙ ap (λ t. before ++ t) (sym is.1) ∙ e in
      let here : encodes (b ∷ is.0) ≡ b ∷ (bytes ++ after) = ap encodes (sym is.1) ∙ sym (bytes_here before text e) ∙ stands in
      let rest : encodes is.0 ≡ bytes ++ after = let whole_bytes : b ∷ encodes is.0 ≡ b ∷ (bytes ++ after) = ap (λ t. t ++ encodes is.0) (sym spelling) ∙ here in cc in
      let more = ascii_here bytes both.1 (before ++ b ∷ []) is.0 after next (bytes_here (before ++ b ∷ []) is.0 next ∙ rest) in
      (more.0, is.1 ∙ ap (λ t. b ∷ t) more.1)

  at_ascii : (bytes : List ℕ) → list_all is_ascii bytes ≡ true → (before : List ℕ) → at (before ++ bytes) ≡ at before + length bytes
  at_ascii bytes h before = ap length (encodes-append before bytes) ∙ length-append (encodes before) (encodes bytes) ∙ ap (λ n. at before + length n) (encodes_ascii bytes h)

  -- A substring, and then the one after it.
  stretches : (re : Re) (before text first rest : List ℕ) (l j : ℕ) → before ++ text ≡ whole → text ≡ first ++ rest → l ≡ at (before ++ first) → Matches hay re l j
      → ((before text : List ℕ) → before ++ text ≡ whole → (j : ℕ) → Matches hay re (at before) j → IsTakenFrom re before text j) → IsTakenFrom re (before ++ first) rest j
  stretches re before text first rest l j e cut is m takes =
      takes (before ++ first) rest (append_assoc before first rest ∙ ap (λ t. before ++ t) (sym cut) ∙ e) j (subst (λ k. Matches hay re k j) is m)

  both_cut : (text first rest second left : List ℕ) → text ≡ first ++ rest → rest ≡ second ++ left → text ≡ (first ++ second) ++ left
  both_cut text first rest second left e f = e ∙ ap (λ t. first ++ t) f ∙ sym (append_assoc first second left)

  rounds_take : (a : Re) → ((before text : List ℕ) → before ++ text ≡ whole → (j : ℕ) → Matches hay a (at before) j → IsTakenFrom a before text j)
      → (greedy : Bool) (before text : List ℕ) → before ++ text ≡ whole → (j : ℕ) → Rounds (Matches hay a) (at before) j → IsTakenFrom (plus greedy a) before text j
  rounds_take a takes greedy before text e j (one_round _ m) =
      let one = takes before text e j m in
      (one.0, one.1, one.2, one.3, (0, (one.0, [], sym (append-nil one.0), one.4, refl)))
  rounds_take a takes greedy before text e j (next_round l _ rounds m) =
      let front = rounds_take a takes greedy before text e l rounds in
      let last = stretches a before text front.0 front.1 l j e front.2 front.3 m takes in (
        front.0 ++ last.0,
        last.1,
        both_cut text front.0 front.1 last.0 last.1 front.2 last.2,
        last.3 ∙ ap at (append_assoc before front.0 last.0),
        (suc front.4.0, repeated_push (Takes (pattern_shape a)) (suc front.4.0) front.0 last.0 front.4.1 last.4),
      )

  matches_takes : (re : Re) → reads_characters re ≡ true → (before text : List ℕ) → before ++ text ≡ whole → (j : ℕ) → Matches hay re (at before) j → IsTakenFrom re before text j
  matches_takes empty h before text e j m = ([], text, refl, m ∙ ap at (sym (append-nil before)), refl)
  matches_takes (literal bytes) h before text e j m =
      let is = ascii_here bytes h before text (drop (at before + length bytes) hay) e (has_bytes_at_parts hay (at before) bytes m.0) in
      (bytes, is.0, is.1, m.1 ∙ sym (at_ascii bytes h before), spelled_takes bytes)
  matches_takes (byte_in []) h before text e j m = absurd (nothing_in m.0 m.2)
  matches_takes (byte_in (range ∷ ranges)) h before text e j m = absurd (true≢false (sym h))
  matches_takes (char_in ranges) h before text e j m = let is = one_character before text m.0 e m.1 j m.3 in (m.0 ∷ [], is.0, is.1, is.2, (m.0, refl, m.2))
  matches_takes (look assertion) h before text e j m = absurd (true≢false (sym h))
  matches_takes (cat a b) h before text e j m =
      let both = and_parts _ _ h in
      let front = matches_takes a both.0 before text e m.0 m.1 in
      let back = stretches b before text front.0 front.1 m.0 j e front.2 front.3 m.2 (matches_takes b both.1) in (
        front.0 ++ back.0,
        back.1,
        both_cut text front.0 front.1 back.0 back.1 front.2 back.2,
        back.3 ∙ ap at (append_assoc before front.0 back.0),
        (front.0, back.0, refl, front.4, back.4),
      )
  matches_takes (alt a b) h before text e j m =
      let both = and_parts _ _ h in
      ⊎_elim
      (λ (left : Matches hay a (at before) j). let found = matches_takes a both.0 before text e j left in (found.0, found.1, found.2, found.3, inl found.4))
      (λ (right : Matches hay b (at before) j). let found = matches_takes b both.1 before text e j right in (found.0, found.1, found.2, found.3, inr found.4))
      m
  matches_takes (group n a) h before text e j m = matches_takes a h before text e j m
  matches_takes (plus greedy a) h before text e j m = rounds_take a (matches_takes a h) greedy before text e j m

  -- ---- the converse

  abbrev StandsIn : (before taken rest : List ℕ) → Type 0
  StandsIn before taken rest = before ++ (taken ++ rest) ≡ whole

  front_stands : (before taken rest first second : List ℕ) → taken ≡ first ++ second → StandsIn before taken rest → StandsIn before first (second ++ rest)
  front_stands before taken rest first second cut e = ap (λ t. before ++ t) (sym (ap (λ t. t ++ rest) cut ∙ append_assoc first second rest)) ∙ e

  back_stands : (before taken rest first second : List ℕ) → taken ≡ first ++ second → StandsIn before taken rest → StandsIn (before ++ first) second rest
  back_stands before taken rest first second cut e = append_assoc before first (second ++ rest) ∙ front_stands before taken rest first second cut e

  ends_at : (before taken first second : List ℕ) → taken ≡ first ++ second → at ((before ++ first) ++ second) ≡ at (before ++ taken)
  ends_at before taken first second cut = ap at (append_assoc before first second ∙ ap (λ t. before ++ t) (sym cut))

  repeated_match : (a : Re) → ((before taken rest : List ℕ) → StandsIn before taken rest → Takes (pattern_shape a) taken → Matches hay a (at before) (at (before ++ taken)))
      → (n : ℕ) (before taken rest : List ℕ) → StandsIn before taken rest → IsRepeated (Takes (pattern_shape a)) (suc n) taken → Rounds (Matches hay a) (at before) (at (before ++ taken))
  repeated_match a matches zero before taken rest e (first, second, cut, one, ended) =
      let same : taken ≡ first = cut ∙ ap (λ t. first ++ t) ended ∙ append-nil first in
      one_round (at (before ++ taken)) (matches before taken rest e (subst (Takes (pattern_shape a)) (sym same) one))
  repeated_match a matches (suc n) before taken rest e (first, second, cut, one, more) =
      rounds_before (Matches hay a) (at before) (at (before ++ first)) (at (before ++ taken)) (matches before first (second ++ rest) (front_stands before taken rest first second cut e) one)
      (subst (Rounds (Matches hay a) (at (before ++ first))) (ends_at before taken first second cut) (repeated_match a matches n (before ++ first) second rest (back_stands before taken rest first second cut e) more))

  one_ends : (before taken : List ℕ) (c : ℕ) → taken ≡ c ∷ [] → at (before ++ taken) ≡ at before + len_utf8 c
  one_ends before taken c is = ap (λ t. at (before ++ t)) is ∙ at_push before c

  one_stands : (before taken rest : List ℕ) (c : ℕ) → StandsIn before taken rest → taken ≡ c ∷ [] → char_at hay (at before) ≡ Some c
  one_stands before taken rest c e is = char_here before c rest (ap (λ t. before ++ (t ++ rest)) (sym is) ∙ e)

  takes_matches : (re : Re) → reads_characters re ≡ true → (before taken rest : List ℕ) → StandsIn before taken rest → Takes (pattern_shape re) taken → Matches hay re (at before) (at (before ++ taken))
  takes_matches empty h before taken rest e is = ap (λ t. at (before ++ t)) is ∙ ap at (append-nil before)
  takes_matches (literal bytes) h before taken rest e is =
      let same = takes_spelled bytes taken is in
      let stands : drop (at before) hay ≡ bytes ++ encodes rest = bytes_here before (taken ++ rest) e ∙ encodes-append taken rest ∙ ap (λ t. t ++ encodes rest) (ap encodes same ∙ encodes_ascii bytes h) in (
        has_bytes_at_from hay (at before) bytes (encodes rest) stands,
        ap (λ t. at (before ++ t)) same ∙ at_ascii bytes h before,
      )
  takes_matches (byte_in []) h before taken rest e (c, is, inside) = absurd (nothing_in c inside)
  takes_matches (byte_in (range ∷ ranges)) h before taken rest e is = absurd (true≢false (sym h))
  takes_matches (char_in ranges) h before taken rest e (c, is, inside) = (c, one_stands before taken rest c e is, inside, one_ends before taken c is)
  takes_matches (look assertion) h before taken rest e is = absurd (true≢false (sym h))
  takes_matches (cat a b) h before taken rest e (first, second, cut, one, other) =
      let both = and_parts _ _ h in (
        at (before ++ first),
        takes_matches a both.0 before first (second ++ rest) (front_stands before taken rest first second cut e) one,
        subst (Matches hay b (at (before ++ first))) (ends_at before taken first second cut) (takes_matches b both.1 (before ++ first) second rest (back_stands before taken rest first second cut e) other),
      )
  takes_matches (alt a b) h before taken rest e is =
      let both = and_parts _ _ h in
      ⊎_elim (λ (left : Takes (pattern_shape a) taken). inl (takes_matches a both.0 before taken rest e left)) (λ (right : Takes (pattern_shape b) taken). inr (takes_matches b both.1 before taken rest e right)) is
  takes_matches (group n a) h before taken rest e is = takes_matches a h before taken rest e is
  takes_matches (plus greedy a) h before taken rest e (n, are) = repeated_match a (takes_matches a h) n before taken rest e are

-- ---- whole texts

nothing_left : (text taken rest : List ℕ) → text ≡ taken ++ rest → length (encodes text) ≡ length (encodes taken) → rest ≡ []
nothing_left text taken rest cut e =
    nil_from_length rest
    (omega (arith, ap (λ t. length (encodes t)) cut, ap length (encodes-append taken rest), length-append (encodes taken) (encodes rest), length-le-encodes rest))

-- A pattern whose steps read characters matches exactly the whole texts of its shape.
pub shape_matches : (re : Re) → reads_characters re ≡ true → (text : List ℕ) → scalars text ≡ true → Takes (pattern_shape re) text ↔ MatchesWhole re text
shape_matches re h text good = (
  λ takes. takes_matches text good re h [] text [] (append-nil text) takes,
  λ matches.
      let found = matches_takes text good re h [] text refl (length (encodes text)) matches in
      subst (Takes (pattern_shape re)) (sym (found.2 ∙ ap (λ t. found.0 ++ t) (nothing_left text found.0 found.1 found.2 found.3) ∙ append-nil found.0)) found.4,
)
