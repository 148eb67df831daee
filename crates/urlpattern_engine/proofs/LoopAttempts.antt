-- Attempts at a character and at a loop try their matches in order.
use Rattle.std.proofs.Common.{◌≡◌, ℕ, zero, suc, ◌+◌, ◌-◌, ◌≤◌, ◌<◌, List, [], ◌∷◌, ◌++◌, length, drop, Option, Some, None, Bool, true, false, cond, if◌then◌else◌, nat_lt, option_and_then, refl, sym, ap, ◌∙◌, subst, append_assoc, append-nil, length-append, inl, inr, arith, lt-ltb, le-ltb, encode_utf8}
use Rattle.std.proofs.lemmas.Bool.{and_parts}
use Rattle.std.proofs.lemmas.List.{drop_at, nil_from_length}
use Rattle.std.proofs.lemmas.Str.{encodes-append, length-encode, length-le-encodes}
use Rattle.std.specs.Char.{IsScalar, len_utf8}
use lib.Utf8.{scalars, encodes}
use Rattle.regex_class.specs.Ranges.{in_ranges}
use Rattle.regex_hir.specs.Text.{char_at}
use Rattle.regex_hir.specs.Re.{Re, char_in, plus, Trace, Rest, rounds as trace_rounds, more_rounds as trace_more_rounds, attempt}
use Rattle.regex_hir.proofs.AttemptLemmas.{more_rounds_unfold}
use Rattle.regex_hir.proofs.TextLemmas.{char_at_from, char_at_past}
use Rattle.urlpattern_meaning.specs.PartMeaning.{Captures}
use Rattle.urlpattern_meaning.specs.Ways.{Way, WaysByText, empty_way, continued, one_that, is_shorter, more_rounds, looped}
use Rattle.urlpattern_meaning.proofs.WayLists.{Every, every-weaker}
use Rattle.urlpattern_engine.proofs.WayResults.{Writes, at, Gave, gave-continued, gave-empty_way, gave-ordered}

no_round : (greedy : Bool) (body : Rest → Rest) (k : Rest) (j : ℕ) → trace_rounds greedy body k zero j ≡ k j
unfolding trace_rounds
no_round greedy body k j = refl

pub scalars_after : (before text : List ℕ) → scalars (before ++ text) ≡ true → scalars text ≡ true
scalars_after [] text h = h
scalars_after (c ∷ before) text h = scalars_after before text (and_parts _ _ h).1

module _ (Shown : ℕ → Captures → Writes → Type 0)
    (shown-append : (g : ℕ) (c d : Captures) (own more : Writes) → Shown g c own → Shown (g + length c) d more → Shown g (c ++ d) (own ++ more))
    (shown-empty_way : (g n : ℕ) (text : List ℕ) → Shown g (empty_way n text).captures [])
    (whole : List ℕ) (good : scalars whole ≡ true) where
  abbrev hay : List ℕ
  hay = encodes whole

  abbrev Shows : ℕ → List ℕ → Rest → List Way → Option Trace → Type 0
  Shows = Gave Shown shown-append shown-empty_way

  -- An attempt tries the matches of this choice at each place of the text.
  abbrev pub Suits : ℕ → WaysByText → (Rest → Rest) → Type 0
  Suits g choice body = (before text : List ℕ) → before ++ text ≡ whole → (k : Rest) → Shows g before k (choice text) (body k (at before))

  at-push : (before : List ℕ) (c : ℕ) → at (before ++ c ∷ []) ≡ at before + len_utf8 c
  at-push before c =
      ap length (encodes-append before (c ∷ [])) ∙ length-append (encodes before) (encodes (c ∷ []))
      ∙ ap (λ n. at before + n) (ap length (append-nil _) ∙ length-encode c)

  -- ---- a character
  pub leaf : (g : ℕ) (passes : ℕ → Bool) (rs : List (ℕ × ℕ)) → ((c : ℕ) → IsScalar c → in_ranges rs c ≡ passes c) → Suits g (one_that passes) (attempt hay (char_in rs))
  unfolding attempt
  leaf g passes rs same before [] e k =
      let past : length hay ≤ at before = omega (arith, ap at (sym e ∙ append-nil before)) in
      ap (option_and_then (λ c. if in_ranges rs c then k (at before + len_utf8 c) else None)) (char_at_past hay (at before) past)
  leaf g passes rs same before (c ∷ rest) e k =
      let scalar : IsScalar c = (and_parts _ _ (scalars_after before (c ∷ rest) (ap scalars e ∙ good))).0 in
      let stands : drop (at before) hay ≡ encode_utf8 c ++ encodes rest =
      ap (λ t. drop (at before) (encodes t)) (sym e) ∙ ap (drop (at before)) (encodes-append before (c ∷ rest)) ∙ drop_at (encodes before) (encodes (c ∷ rest)) (at before) refl in
      let here : char_at hay (at before) ≡ Some c = char_at_from hay (at before) c (encodes rest) scalar stands in
      let way : Way = record { taken = c ∷ []; captures = []; rest = rest } in
      subst (λ o. Shows g before k (one_that passes (c ∷ rest)) (option_and_then (λ c. if in_ranges rs c then k (at before + len_utf8 c) else None) o)) (sym here)
      (by way (passes c) (in_ranges rs c) (k (at before + len_utf8 c)) (same c scalar) (ap k (at-push before c)))
    where
      by : (way : Way) (b r : Bool) (o : Option Trace) → r ≡ b → k (at (before ++ c ∷ [])) ≡ o
          → Shows g before k (cond b (record { taken = c ∷ []; captures = []; rest = rest } ∷ []) []) (cond r o None)
      by way true true None p q = inl (q, refl)
      by way true true (Some t) p q = inr ([], t, q, refl, shown-empty_way g 0 [])
      by way false false o p q = refl
      by way true false o p q = absurd cc
      by way false true o p q = absurd cc

  -- ---- loops
  module _ (g : ℕ) (greedy : Bool) (choice : WaysByText) (a : Re) (suits : Suits g choice (attempt hay a))
      (placed : (text : List ℕ) → Every (λ way. (text ≡ way.taken ++ way.rest) × (way.captures ≡ [])) (choice text)) (k : Rest) where
    abbrev more : Rest
    more = trace_more_rounds hay greedy (attempt hay a) k

    -- A nonempty round is followed by another.
    further : (before text taken rest : List ℕ) (ways : List Way) (o : Rest) → text ≡ taken ++ rest → (none : List Way) (leave : Rest)
        → (taken ≡ [] → Shows g (before ++ taken) k none (leave (at (before ++ taken))))
        → (length rest < length text → Shows g (before ++ taken) k ways (o (at (before ++ taken))))
        → Shows g (before ++ taken) k (if is_shorter rest text then ways else none) (if nat_lt (at before) (at (before ++ taken)) then o (at (before ++ taken)) else leave (at (before ++ taken)))
    further before text [] rest ways o e none leave stays goes =
        let short : is_shorter rest text ≡ false = le-ltb _ _ (omega (arith, ap length e)) in
        let still : nat_lt (at before) (at (before ++ [])) ≡ false = le-ltb _ _ (omega (arith, ap at (append-nil before))) in
        rw (short, still) (stays refl)
    further before text (c ∷ taken) rest ways o e none leave stays goes =
        let less : length rest < length text = omega (arith, ap length e, length-append taken rest) in
        let ahead : at before < at (before ++ c ∷ taken) =
        omega (arith, ap length (encodes-append before (c ∷ taken)), length-append (encodes before) (encodes (c ∷ taken)), length-le-encodes (c ∷ taken)) in
        rw (lt-ltb _ _ less, lt-ltb _ _ ahead) (goes less)

    more_rounds-suit : (m : ℕ) (before text : List ℕ) → before ++ text ≡ whole → length text ≤ m → Shows g before k (more_rounds greedy choice m text) (more (at before))
    more_rounds-suit zero before text e le =
        let end : text ≡ [] = nil_from_length text (omega arith) in
        let last : length hay - at before ≡ 0 = omega (arith, ap at (sym e ∙ ap (λ t. before ++ t) end ∙ append-nil before)) in
        subst (Shows g before k (empty_way 0 text ∷ [])) (sym (ap (λ n. trace_rounds greedy (attempt hay a) k n (at before)) last ∙ no_round greedy (attempt hay a) k (at before)))
        (gave-empty_way Shown shown-append shown-empty_way g 0 before text k)
    more_rounds-suit (suc m) before text e le =
        let next : WaysByText = λ rest. if is_shorter rest text then more_rounds greedy choice m rest else [] in
        let b : Rest = λ l. if nat_lt (at before) l then more l else None in
        subst (Shows g before k (more_rounds greedy choice (suc m) text)) (sym (more_rounds_unfold hay greedy a k (at before)))
        (gave-ordered Shown shown-append shown-empty_way g before k greedy (continued next (choice text)) (empty_way 0 text ∷ []) (attempt hay a b (at before)) (k (at before))
        (gave-continued Shown shown-append shown-empty_way g before k b next (choice text) (attempt hay a b (at before))
        (every-weaker (λ (way : Way). (text ≡ way.taken ++ way.rest) × (way.captures ≡ [])) _ (choice text)
        (λ way p. subst (λ n. Shows n (before ++ way.taken) k (next way.rest) (b (at (before ++ way.taken)))) (omega (arith, ap length p.1))
        (further before text way.taken way.rest (more_rounds greedy choice m way.rest) more p.0 [] (λ l. None) (λ nothing. refl)
        (λ less. more_rounds-suit m (before ++ way.taken) way.rest (append_assoc before way.taken way.rest ∙ ap (λ t. before ++ t) (sym p.0) ∙ e) (omega arith))))
        (placed text))
        (suits before text e b))
        (gave-empty_way Shown shown-append shown-empty_way g 0 before text k))

    pub looped-suits : (before text : List ℕ) → before ++ text ≡ whole → Shows g before k (looped greedy choice text) (attempt hay (plus greedy a) k (at before))
    unfolding attempt
    looped-suits before text e =
        let next : WaysByText = λ rest. if is_shorter rest text then more_rounds greedy choice (length rest) rest else empty_way 0 rest ∷ [] in
        let b : Rest = λ l. if nat_lt (at before) l then more l else k l in
        gave-continued Shown shown-append shown-empty_way g before k b next (choice text) (attempt hay a b (at before))
        (every-weaker (λ (way : Way). (text ≡ way.taken ++ way.rest) × (way.captures ≡ [])) _ (choice text)
        (λ way p. subst (λ n. Shows n (before ++ way.taken) k (next way.rest) (b (at (before ++ way.taken)))) (omega (arith, ap length p.1))
        (further before text way.taken way.rest (more_rounds greedy choice (length way.rest) way.rest) more p.0 (empty_way 0 way.rest ∷ []) k
        (λ nothing. gave-empty_way Shown shown-append shown-empty_way g 0 (before ++ way.taken) way.rest k)
        (λ less. more_rounds-suit (length way.rest) (before ++ way.taken) way.rest (append_assoc before way.taken way.rest ∙ ap (λ t. before ++ t) (sym p.0) ∙ e) (omega arith))))
        (placed text))
        (suits before text e b)
