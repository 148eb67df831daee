-- The result of an attempt of the crate `regex` that tries the matches of a tree in order.
use Rattle.std.proofs.Common.{◌≡◌, ℕ, suc, ◌+◌, ◌*◌, List, [], ◌∷◌, ◌++◌, map, length, Option, Some, None, Bool, true, false, refl, sym, ap, ap₂, ◌∙◌, subst, append_assoc, append-nil, inl, inr, ◌⊎◌}
use Rattle.std.proofs.lemmas.Option.{none-some, same_Some}
use Rattle.std.specs.Option.{option_or}
use lib.Utf8.{encodes}
use Rattle.regex_hir.specs.Re.{Trace, Rest, write, prefer as prefer_trace}
use Rattle.regex_hir.proofs.OptionLemmas.{write_cases}
use Rattle.urlpattern_meaning.specs.PartMeaning.{Captures}
use Rattle.urlpattern_meaning.specs.Ways.{Way, WaysByText, empty_way, joined_way, continued, ordered, capturing}
use Rattle.urlpattern_meaning.proofs.WayLists.{Every}

abbrev pub Writes : Type 0
Writes = List (ℕ × ℕ)

-- The number of bytes of a text.
abbrev pub at : List ℕ → ℕ
at before = length (encodes before)

-- A trace with further writes before its own.
abbrev pub after_writes : Writes → Trace → Trace
after_writes own rest = record { end = rest.end; writes = own ++ rest.writes }

module _ (Shown : ℕ → Captures → Writes → Type 0)
    (shown-append : (g : ℕ) (c d : Captures) (own more : Writes) → Shown g c own → Shown (g + length c) d more → Shown g (c ++ d) (own ++ more))
    (shown-empty_way : (g n : ℕ) (text : List ℕ) → Shown g (empty_way n text).captures []) where
  -- The continuation is called at the end of each match in turn, and its first result is returned,
  -- after writes that show the captures of the match. Without any result there is none.
  abbrev pub Gave : (g : ℕ) → (before : List ℕ) → Rest → List Way → Option Trace → Type 0
  Gave g before k [] o = o ≡ None
  Gave g before k (way ∷ ways) o =
      ((k (at (before ++ way.taken)) ≡ None) × Gave g before k ways o)
      ⊎ ((own : Writes) × (rest : Trace) × (k (at (before ++ way.taken)) ≡ Some rest) × (o ≡ Some (after_writes own rest)) × Shown g way.captures own)

  pub gave-append : (g : ℕ) (before : List ℕ) (k : Rest) (xs ys : List Way) (o p : Option Trace) → Gave g before k xs o → Gave g before k ys p → Gave g before k (xs ++ ys) (option_or o p)
  gave-append g before k [] ys o p h q = rw h q
  gave-append g before k (way ∷ xs) ys o p (inl h) q = inl (h.0, gave-append g before k xs ys o p h.1 q)
  gave-append g before k (way ∷ xs) ys o p (inr (own, rest, e, f, s)) q = inr (own, rest, e, ap (λ x. option_or x p) f, s)

  -- A match that nothing continues is skipped.
  skipped : (g h : ℕ) (before : List ℕ) (k : Rest) (way : Way) (ms ys : List Way) (o : Option Trace) → Gave h (before ++ way.taken) k ms None → Gave g before k ys o
      → Gave g before k (map (joined_way way) ms ++ ys) o
  skipped g h before k way [] ys o p q = q
  skipped g h before k way (m ∷ ms) ys o (inl p) q =
      inl (ap (λ t. k (at t)) (sym (append_assoc before way.taken m.taken)) ∙ p.0, skipped g h before k way ms ys o p.1 q)
  skipped g h before k way (m ∷ ms) ys o (inr (own, rest, e, f, s)) q = absurd (none-some _ f)

  -- A match that something continues is returned.
  hit : (g : ℕ) (before : List ℕ) (k : Rest) (way : Way) (ms ys : List Way) (o : Option Trace) (own : Writes) (rest : Trace)
      → Gave (g + length way.captures) (before ++ way.taken) k ms (Some rest) → Shown g way.captures own → o ≡ Some (after_writes own rest)
      → Gave g before k (map (joined_way way) ms ++ ys) o
  hit g before k way [] ys o own rest p s e = absurd (none-some _ (sym p))
  hit g before k way (m ∷ ms) ys o own rest (inl p) s e =
      inl (ap (λ t. k (at t)) (sym (append_assoc before way.taken m.taken)) ∙ p.0, hit g before k way ms ys o own rest p.1 s e)
  hit g before k way (m ∷ ms) ys o own rest (inr (more, last, there, f, shown)) s e =
      let same : rest ≡ after_writes more last = same_Some _ _ f in
      inr (
        own ++ more,
        last,
        ap (λ t. k (at t)) (sym (append_assoc before way.taken m.taken)) ∙ there,
        e ∙ ap (λ (t : Trace). Some (after_writes own t)) same ∙ ap (λ ws. Some (record { end = last.end; writes = ws })) (sym (append_assoc own more last.writes)),
        shown-append g way.captures m.captures own more s shown,
      )

  pub gave-continued : (g : ℕ) (before : List ℕ) (k b : Rest) (next : WaysByText) (xs : List Way) (o : Option Trace)
      → Every (λ way. Gave (g + length way.captures) (before ++ way.taken) k (next way.rest) (b (at (before ++ way.taken)))) xs
      → Gave g before b xs o → Gave g before k (continued next xs) o
  gave-continued g before k b next [] o every h = h
  gave-continued g before k b next (way ∷ xs) o every (inl h) =
      skipped g (g + length way.captures) before k way (next way.rest) (continued next xs) o
      (subst (Gave (g + length way.captures) (before ++ way.taken) k (next way.rest)) h.0 every.0) (gave-continued g before k b next xs o every.1 h.1)
  gave-continued g before k b next (way ∷ xs) o every (inr (own, rest, e, f, s)) =
      hit g before k way (next way.rest) (continued next xs) o own rest
      (subst (Gave (g + length way.captures) (before ++ way.taken) k (next way.rest)) e every.0) s f

  pub gave-empty_way : (g n : ℕ) (before text : List ℕ) (k : Rest) → Gave g before k (empty_way n text ∷ []) (k (at before))
  gave-empty_way g n before text k = by (k (at before)) (ap (λ t. k (at t)) (append-nil before))
    where
      by : (o : Option Trace) → k (at (before ++ [])) ≡ o → Gave g before k (empty_way n text ∷ []) o
      by None e = inl (e, refl)
      by (Some rest) e = inr ([], rest, e, refl, shown-empty_way g n text)

  pub gave-ordered : (g : ℕ) (before : List ℕ) (k : Rest) (greedy : Bool) (xs ys : List Way) (o p : Option Trace) → Gave g before k xs o → Gave g before k ys p
      → Gave g before k (ordered greedy xs ys) (prefer_trace greedy o p)
  gave-ordered g before k true xs ys o p h q = gave-append g before k xs ys o p h q
  gave-ordered g before k false xs ys o p h q = gave-append g before k ys xs p o q h

  -- ---- captures
  none_of_write : (slot i : ℕ) (o : Option Trace) → write slot i o ≡ None → o ≡ None
  none_of_write slot i None e = refl
  none_of_write slot i (Some t) e = absurd (none-some _ (sym e))

  module _ (g : ℕ) (before : List ℕ)
      (IsPlaced : Way → Type 0)
      (shown-capturing : (way : Way) (own : Writes) → IsPlaced way → Shown (suc g) way.captures own
      → Shown g (Some way.taken ∷ way.captures) ((2 * g, at before) ∷ (own ++ (2 * g + 1, at (before ++ way.taken)) ∷ []))) where
    pub gave-capturing : (k : Rest) (xs : List Way) (o : Option Trace) → Every IsPlaced xs → Gave (suc g) before (λ j. write (2 * g + 1) j (k j)) xs o
        → Gave g before k (map capturing xs) (write (2 * g) (at before) o)
    gave-capturing k [] o every h = rw h refl
    gave-capturing k (way ∷ xs) o every (inl h) = inl (none_of_write (2 * g + 1) _ _ h.0, gave-capturing k xs o every.1 h.1)
    gave-capturing k (way ∷ xs) o every (inr (own, rest, e, f, s)) =
        let closed = write_cases (2 * g + 1) (at (before ++ way.taken)) (k (at (before ++ way.taken))) rest e in
        inr (
          (2 * g, at before) ∷ (own ++ (2 * g + 1, at (before ++ way.taken)) ∷ []),
          closed.0,
          closed.1,
          ap (write (2 * g) (at before)) f
              ∙ ap₂ (λ end ws. Some (record { end = end; writes = (2 * g, at before) ∷ ws })) closed.2
              (ap (λ (ws : Writes). own ++ ws) closed.3 ∙ sym (append_assoc own ((2 * g + 1, at (before ++ way.taken)) ∷ []) closed.0.writes)),
          shown-capturing way own every.0 s,
        )
