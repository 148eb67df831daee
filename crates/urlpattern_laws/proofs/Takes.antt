-- The texts that a pattern matches, character by character, at any place.
use Rattle.std.proofs.Common.{◌≡◌, ℕ, zero, suc, ◌+◌, ◌≤◌, List, [], ◌∷◌, ◌++◌, length, drop, Option, Some, None, Bool, true, ◌==◌, ◌⊎◌, inl, inr, ⊎_elim, refl, sym, ap, ◌∙◌, subst, append_assoc, append-nil, length-append, arith, encode_utf8, eqb-true, true≢false}
use Rattle.std.proofs.lemmas.Bool.{and_parts}
use Rattle.std.proofs.lemmas.List.{drop_at}
use Rattle.std.proofs.lemmas.Option.{none-some, same_Some}
use Rattle.std.proofs.lemmas.Str.{encodes-append, length-encode}
use Rattle.std.specs.Char.{IsScalar, len_utf8}
use lib.Utf8.{scalars, encodes}
use Rattle.regex_class.specs.Ranges.{in_ranges}
use Rattle.regex_hir.proofs.TextLemmas.{char_at_from, char_at_parts, char_at_past, has_bytes_at_parts, has_bytes_at_from}
use Rattle.regex_hir.specs.Matches.{Matches, Rounds, one_round, next_round}
use Rattle.regex_hir.specs.Re.{Re, empty, literal, byte_in, char_in, look, cat, alt, group, plus}
use Rattle.regex_hir.specs.Text.{char_at, is_some_and}
use Rattle.urlpattern_expressions.specs.Expressions.{is_one_character, matches_characters}
use Rattle.urlpattern_engine.proofs.WayResults.{at}
use Rattle.urlpattern_syntax.specs.Text.{IsRepeated}
use Rattle.urlpattern_engine.proofs.LoopAttempts.{scalars_after}

abbrev pub Takes : Re → List ℕ → Type 0
Takes empty text = text ≡ []
Takes (literal bytes) text = (c : ℕ) × (text ≡ c ∷ []) × (char_at bytes 0 ≡ Some c)
Takes (byte_in ranges) text = ⊥
Takes (char_in ranges) text = (c : ℕ) × (text ≡ c ∷ []) × (in_ranges ranges c ≡ true)
Takes (look assertion) text = ⊥
Takes (cat a b) text = (first rest : List ℕ) × (text ≡ first ++ rest) × Takes a first × Takes b rest
Takes (alt a b) text = Takes a text ⊎ Takes b text
Takes (group n a) text = Takes a text
Takes (plus greedy a) text = (n : ℕ) × IsRepeated (Takes a) (suc n) text

-- ---- rounds and repetitions

pub repeated_push : (Is : List ℕ → Type 0) (n : ℕ) (text last : List ℕ) → IsRepeated Is n text → Is last → IsRepeated Is (suc n) (text ++ last)
repeated_push Is zero text last ended is = (last, [], ap (λ t. t ++ last) ended ∙ sym (append-nil last), is, refl)
repeated_push Is (suc n) text last (first, rest, cut, one, more) is =
    (first, rest ++ last, ap (λ t. t ++ last) cut ∙ append_assoc first rest last, one, repeated_push Is n rest last more is)

rounds_before : (R : ℕ → ℕ → Type 0) (i l j : ℕ) → R i l → Rounds R l j → Rounds R i j
rounds_before R i l j first (one_round _ r) = next_round l j (one_round l first) r
rounds_before R i l j first (next_round k _ rounds r) = next_round k j (rounds_before R i l k first rounds) r

-- ---- characters

pub at_push : (before : List ℕ) (c : ℕ) → at (before ++ c ∷ []) ≡ at before + len_utf8 c
at_push before c =
    ap length (encodes-append before (c ∷ [])) ∙ length-append (encodes before) (encodes (c ∷ []))
    ∙ ap (λ n. at before + n) (ap length (append-nil _) ∙ length-encode c)

drop_all : (bytes : List ℕ) → drop (length bytes) bytes ≡ []
drop_all bytes = ap (λ bs. drop (length bytes) bs) (sym (append-nil bytes)) ∙ drop_at bytes [] (length bytes) refl

pub nothing_in : (c : ℕ) → in_ranges [] c ≡ true → ⊥
unfolding in_ranges
nothing_in c h = true≢false (sym h)

-- The bytes of a single character.
pub character_of : (bytes : List ℕ) → is_one_character bytes ≡ true → (c : ℕ) × (char_at bytes 0 ≡ Some c) × IsScalar c × (bytes ≡ encode_utf8 c)
character_of bytes h = of_found (char_at bytes 0) refl h
  where
    of_found : (found : Option ℕ) → char_at bytes 0 ≡ found → is_some_and found (λ c. len_utf8 c == length bytes) ≡ true → (c : ℕ) × (char_at bytes 0 ≡ Some c) × IsScalar c × (bytes ≡ encode_utf8 c)
    of_found None e h = absurd (true≢false (sym h))
    of_found (Some c) e h =
        let parts = char_at_parts bytes 0 c e in
        let all : 0 + len_utf8 c ≡ length bytes = omega (arith, eqb-true (len_utf8 c) (length bytes) h) in
        (c, e, parts.0, parts.1 ∙ ap (λ n. encode_utf8 c ++ drop n bytes) all ∙ ap (λ t. encode_utf8 c ++ t) (drop_all bytes) ∙ append-nil (encode_utf8 c))

module _ (whole : List ℕ) (good : scalars whole ≡ true) where
  abbrev hay : List ℕ
  hay = encodes whole

  -- The character after the text before a place.
  pub char_here : (before : List ℕ) (c : ℕ) (rest : List ℕ) → before ++ c ∷ rest ≡ whole → char_at hay (at before) ≡ Some c
  char_here before c rest e =
      let scalar : IsScalar c = (and_parts _ _ (scalars_after before (c ∷ rest) (ap scalars e ∙ good))).0 in
      let stands : drop (at before) hay ≡ encode_utf8 c ++ encodes rest =
      ap (λ t. drop (at before) (encodes t)) (sym e) ∙ ap (drop (at before)) (encodes-append before (c ∷ rest)) ∙ drop_at (encodes before) (encodes (c ∷ rest)) (at before) refl in
      char_at_from hay (at before) c (encodes rest) scalar stands

  -- A text whose first character is found.
  first_is : (before text : List ℕ) (c : ℕ) → before ++ text ≡ whole → char_at hay (at before) ≡ Some c → (rest : List ℕ) × (text ≡ c ∷ rest)
  first_is before [] c e found =
      let past : length hay ≤ at before = omega (arith, ap at (sym e ∙ append-nil before)) in
      absurd (none-some c (sym (char_at_past hay (at before) past) ∙ found))
  first_is before (d ∷ rest) c e found = (rest, ap (λ x. x ∷ rest) (same_Some d c (sym (char_here before d rest e) ∙ found)))

  abbrev pub IsTakenFrom : Re → (before text : List ℕ) (j : ℕ) → Type 0
  IsTakenFrom re before text j = (taken rest : List ℕ) × (text ≡ taken ++ rest) × (j ≡ at (before ++ taken)) × Takes re taken

  one_character : (before text : List ℕ) (c : ℕ) → before ++ text ≡ whole → char_at hay (at before) ≡ Some c → (j : ℕ) → j ≡ at before + len_utf8 c
      → (rest : List ℕ) × (text ≡ (c ∷ []) ++ rest) × (j ≡ at (before ++ c ∷ []))
  one_character before text c e found j end = let is = first_is before text c e found in (is.0, is.1, end ∙ sym (at_push before c))

  -- A substring, and then the one after it.
  stretches : (re : Re) (before text first rest : List ℕ) (l j : ℕ) → before ++ text ≡ whole → text ≡ first ++ rest → l ≡ at (before ++ first) → Matches hay re l j
      → ((before text : List ℕ) → before ++ text ≡ whole → (j : ℕ) → Matches hay re (at before) j → IsTakenFrom re before text j) → IsTakenFrom re (before ++ first) rest j
  stretches re before text first rest l j e cut is m takes =
      takes (before ++ first) rest (append_assoc before first rest ∙ ap (λ t. before ++ t) (sym cut) ∙ e) j (subst (λ k. Matches hay re k j) is m)

  both_cut : (text first rest second left : List ℕ) → text ≡ first ++ rest → rest ≡ second ++ left → text ≡ (first ++ second) ++ left
  both_cut text first rest second left e f = e ∙ ap (λ t. first ++ t) f ∙ sym (append_assoc first second left)

  rounds_take : (a : Re) → ((before text : List ℕ) → before ++ text ≡ whole → (j : ℕ) → Matches hay a (at before) j → IsTakenFrom a before text j)
      → (greedy : Bool) (before text : List ℕ) → before ++ text ≡ whole → (j : ℕ) → Rounds (Matches hay a) (at before) j → IsTakenFrom (plus greedy a) before text j
  rounds_take a takes greedy before text e j (one_round _ m) =
      let one = takes before text e j m in
      (one.0, one.1, one.2, one.3, (0, (one.0, [], sym (append-nil one.0), one.4, refl)))
  rounds_take a takes greedy before text e j (next_round l _ rounds m) =
      let front = rounds_take a takes greedy before text e l rounds in
      let last = stretches a before text front.0 front.1 l j e front.2 front.3 m takes in (
        front.0 ++ last.0,
        last.1,
        both_cut text front.0 front.1 last.0 last.1 front.2 last.2,
        last.3 ∙ ap at (append_assoc before front.0 last.0),
        (suc front.4.0, repeated_push (Takes a) (suc front.4.0) front.0 last.0 front.4.1 last.4),
      )

  pub matches_takes : (re : Re) → matches_characters re ≡ true → (before text : List ℕ) → before ++ text ≡ whole → (j : ℕ) → Matches hay re (at before) j → IsTakenFrom re before text j
  matches_takes empty h before text e j m = ([], text, refl, m ∙ ap at (sym (append-nil before)), refl)
  matches_takes (literal bytes) h before text e j m =
      let c = character_of bytes h in
      let stands : drop (at before) hay ≡ encode_utf8 c.0 ++ drop (at before + length bytes) hay =
      has_bytes_at_parts hay (at before) bytes m.0 ∙ ap (λ bs. bs ++ drop (at before + length bytes) hay) c.3 in
      let size : length bytes ≡ len_utf8 c.0 = ap length c.3 ∙ length-encode c.0 in
      let is = one_character before text c.0 e (char_at_from hay (at before) c.0 _ c.2 stands) j (m.1 ∙ ap (λ n. at before + n) size) in
      (c.0 ∷ [], is.0, is.1, is.2, (c.0, refl, c.1))
  matches_takes (byte_in []) h before text e j m = absurd (nothing_in m.0 m.2)
  matches_takes (byte_in (range ∷ ranges)) h before text e j m = absurd (true≢false (sym h))
  matches_takes (char_in ranges) h before text e j m = let is = one_character before text m.0 e m.1 j m.3 in (m.0 ∷ [], is.0, is.1, is.2, (m.0, refl, m.2))
  matches_takes (look assertion) h before text e j m = absurd (true≢false (sym h))
  matches_takes (cat a b) h before text e j m =
      let both = and_parts _ _ h in
      let front = matches_takes a both.0 before text e m.0 m.1 in
      let back = stretches b before text front.0 front.1 m.0 j e front.2 front.3 m.2 (matches_takes b both.1) in (
        front.0 ++ back.0,
        back.1,
        both_cut text front.0 front.1 back.0 back.1 front.2 back.2,
        back.3 ∙ ap at (append_assoc before front.0 back.0),
        (front.0, back.0, refl, front.4, back.4),
      )
  matches_takes (alt a b) h before text e j m =
      let both = and_parts _ _ h in
      ⊎_elim
      (λ (left : Matches hay a (at before) j). let found = matches_takes a both.0 before text e j left in (found.0, found.1, found.2, found.3, inl found.4))
      (λ (right : Matches hay b (at before) j). let found = matches_takes b both.1 before text e j right in (found.0, found.1, found.2, found.3, inr found.4))
      m
  matches_takes (group n a) h before text e j m = matches_takes a h before text e j m
  matches_takes (plus greedy a) h before text e j m = rounds_take a (matches_takes a h) greedy before text e j m

  -- ---- the converse

  abbrev pub StandsIn : (before taken rest : List ℕ) → Type 0
  StandsIn before taken rest = before ++ (taken ++ rest) ≡ whole

  front_stands : (before taken rest first second : List ℕ) → taken ≡ first ++ second → StandsIn before taken rest → StandsIn before first (second ++ rest)
  front_stands before taken rest first second cut e = ap (λ t. before ++ t) (sym (ap (λ t. t ++ rest) cut ∙ append_assoc first second rest)) ∙ e

  back_stands : (before taken rest first second : List ℕ) → taken ≡ first ++ second → StandsIn before taken rest → StandsIn (before ++ first) second rest
  back_stands before taken rest first second cut e = append_assoc before first (second ++ rest) ∙ front_stands before taken rest first second cut e

  ends_at : (before taken first second : List ℕ) → taken ≡ first ++ second → at ((before ++ first) ++ second) ≡ at (before ++ taken)
  ends_at before taken first second cut = ap at (append_assoc before first second ∙ ap (λ t. before ++ t) (sym cut))

  repeated_match : (a : Re) → ((before taken rest : List ℕ) → StandsIn before taken rest → Takes a taken → Matches hay a (at before) (at (before ++ taken)))
      → (n : ℕ) (before taken rest : List ℕ) → StandsIn before taken rest → IsRepeated (Takes a) (suc n) taken → Rounds (Matches hay a) (at before) (at (before ++ taken))
  repeated_match a matches zero before taken rest e (first, second, cut, one, ended) =
      let same : taken ≡ first = cut ∙ ap (λ t. first ++ t) ended ∙ append-nil first in
      one_round (at (before ++ taken)) (matches before taken rest e (subst (Takes a) (sym same) one))
  repeated_match a matches (suc n) before taken rest e (first, second, cut, one, more) =
      rounds_before (Matches hay a) (at before) (at (before ++ first)) (at (before ++ taken)) (matches before first (second ++ rest) (front_stands before taken rest first second cut e) one)
      (subst (Rounds (Matches hay a) (at (before ++ first))) (ends_at before taken first second cut) (repeated_match a matches n (before ++ first) second rest (back_stands before taken rest first second cut e) more))

  one_ends : (before taken : List ℕ) (c : ℕ) → taken ≡ c ∷ [] → at (before ++ taken) ≡ at before + len_utf8 c
  one_ends before taken c is = ap (λ t. at (before ++ t)) is ∙ at_push before c

  one_stands : (before taken rest : List ℕ) (c : ℕ) → StandsIn before taken rest → taken ≡ c ∷ [] → char_at hay (at before) ≡ Some c
  one_stands before taken rest c e is = char_here before c rest (ap (λ t. before ++ (t ++ rest)) (sym is) ∙ e)

  pub takes_matches : (re : Re) → matches_characters re ≡ true → (before taken rest : List ℕ) → StandsIn before taken rest → Takes re taken → Matches hay re (at before) (at (before ++ taken))
  takes_matches empty h before taken rest e is = ap (λ t. at (before ++ t)) is ∙ ap at (append-nil before)
  takes_matches (literal bytes) h before taken rest e (c, is, here) =
      let other = character_of bytes h in
      let same : other.0 ≡ c = same_Some other.0 c (sym other.1 ∙ here) in
      let stands = char_at_parts hay (at before) c (one_stands before taken rest c e is) in
      let spelled : bytes ≡ encode_utf8 c = other.3 ∙ ap encode_utf8 same in (
        has_bytes_at_from hay (at before) bytes (drop (at before + len_utf8 c) hay) (stands.1 ∙ ap (λ bs. bs ++ drop (at before + len_utf8 c) hay) (sym spelled)),
        one_ends before taken c is ∙ ap (λ n. at before + n) (sym (ap length spelled ∙ length-encode c)),
      )
  takes_matches (byte_in ranges) h before taken rest e is = absurd is
  takes_matches (char_in ranges) h before taken rest e (c, is, inside) = (c, one_stands before taken rest c e is, inside, one_ends before taken c is)
  takes_matches (look assertion) h before taken rest e is = absurd is
  takes_matches (cat a b) h before taken rest e (first, second, cut, one, other) =
      let both = and_parts _ _ h in (
        at (before ++ first),
        takes_matches a both.0 before first (second ++ rest) (front_stands before taken rest first second cut e) one,
        subst (Matches hay b (at (before ++ first))) (ends_at before taken first second cut) (takes_matches b both.1 (before ++ first) second rest (back_stands before taken rest first second cut e) other),
      )
  takes_matches (alt a b) h before taken rest e is =
      let both = and_parts _ _ h in
      ⊎_elim (λ (left : Takes a taken). inl (takes_matches a both.0 before taken rest e left)) (λ (right : Takes b taken). inr (takes_matches b both.1 before taken rest e right)) is
  takes_matches (group n a) h before taken rest e is = takes_matches a h before taken rest e is
  takes_matches (plus greedy a) h before taken rest e (n, are) = repeated_match a (takes_matches a h) n before taken rest e are
