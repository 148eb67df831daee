-- The captures, by the slots that an attempt wrote.
use Rattle.std.proofs.Common.{◌≡◌, ℕ, zero, suc, ◌+◌, ◌-◌, ◌*◌, ◌≤◌, ◌<◌, List, [], ◌∷◌, ◌++◌, replicate, length, take, Option, Some, None, option_map, true, false, cond, ◌==◌, refl, sym, ap, ap₂, ◌∙◌, subst, append_assoc, append-nil, length-append, inl, inr, ◌⊎◌, ⊎_elim, arith, eq-eqb, ne_eqb, chars, slice_range, take_at}
use Rattle.std.proofs.lemmas.Bool.{cond-true, cond-false, and_parts, and_from}
use Rattle.std.proofs.lemmas.List.{drop_at}
use Rattle.std.proofs.lemmas.Str.{encodes-append, chars-encodes}
use Rattle.std.specs.Option.{option_or}
use lib.Utf8.{scalars, encodes}
use Rattle.regex_hir.specs.Find.{last_write}
use Rattle.regex_hir.proofs.OptionLemmas.{option_or-None, option_or_assoc}
use Rattle.regex.specs.Writes.{both}
use Rattle.urlpattern_meaning.specs.PartMeaning.{Captures}
use Rattle.urlpattern_meaning.specs.Ways.{Way, empty_way}
use Rattle.urlpattern_meaning.proofs.WayLists.{Every, every-append, every-weaker}
use Rattle.urlpattern_engine.proofs.WayResults.{Writes, at}

last-append : (xs ys : Writes) (slot : ℕ) → last_write (xs ++ ys) slot ≡ option_or (last_write ys slot) (last_write xs slot)
last-append [] ys slot = sym (option_or-None (last_write ys slot))
last-append (w ∷ xs) ys slot =
    ap (λ (o : Option ℕ). option_or o (cond (w.0 == slot) (Some w.1) None)) (last-append xs ys slot)
    ∙ option_or_assoc (last_write ys slot) (last_write xs slot) _

absent : (slot : ℕ) (ws : Writes) → Every (λ w. (w.0 < slot) ⊎ (slot < w.0)) ws → last_write ws slot ≡ None
absent slot [] every = refl
absent slot (w ∷ ws) every =
    let differs : (w.0 == slot) ≡ false = ne_eqb w.0 slot (λ e. ⊎_elim (λ (l : w.0 < slot). omega arith) (λ (m : slot < w.0). omega arith) every.0) in
    ap₂ option_or (absent slot ws every.1) (cond-false (w.0 == slot) (Some w.1) None differs)

-- A write to none of the slots of n groups, the first of which is g.
abbrev Outside : ℕ → ℕ → ℕ × ℕ → Type 0
Outside g n w = (w.0 < 2 * g) ⊎ (2 * (g + n) ≤ w.0)

apart : (g n slot : ℕ) (ws : Writes) → 2 * g ≤ slot → slot < 2 * (g + n) → Every (Outside g n) ws → last_write ws slot ≡ None
apart g n slot ws low high every =
    absent slot ws (every-weaker (Outside g n) _ ws
    (λ w p. ⊎_elim (λ (l : w.0 < 2 * g). inl (omega arith)) (λ (m : 2 * (g + n) ≤ w.0). inr (omega arith)) p) every)

module _ (hay : List ℕ) where
  abbrev pub text_at : ℕ × ℕ → List ℕ
  text_at span = chars (slice_range hay span.0 span.1)

  abbrev pub group_text : Writes → ℕ → Option (List ℕ)
  group_text ws n = option_map text_at (both (last_write ws (2 * n)) (last_write ws (2 * n + 1)))

  -- The groups have these captures, the first of which is that of group g.
  abbrev pub Spans : ℕ → Captures → Writes → Type 0
  Spans g [] ws = Unit {0}
  Spans g (c ∷ captures) ws = (group_text ws g ≡ c) × Spans (suc g) captures ws

  abbrev pub Shown : ℕ → Captures → Writes → Type 0
  Shown g captures own = Every (λ w. (2 * g ≤ w.0) × (w.0 < 2 * (g + length captures))) own × Spans g captures own

  -- Writes to other slots, before and after, change no capture.
  spans-around : (g : ℕ) (captures : Captures) (front own back : Writes) → Every (Outside g (length captures)) front → Every (Outside g (length captures)) back
      → Spans g captures own → Spans g captures (front ++ (own ++ back))
  spans-around g [] front own back p q s = tt
  spans-around g (c ∷ captures) front own back p q s =
      let narrow : (w : ℕ × ℕ) → Outside g (suc (length captures)) w → Outside (suc g) (length captures) w =
      λ w o. ⊎_elim (λ (l : w.0 < 2 * g). inl (omega arith)) (λ (m : 2 * (g + suc (length captures)) ≤ w.0). inr (omega arith)) o in
      let same : (slot : ℕ) → 2 * g ≤ slot → slot < 2 * (g + suc (length captures)) → last_write (front ++ (own ++ back)) slot ≡ last_write own slot =
      λ slot low high. last-append front (own ++ back) slot
      ∙ ap₂ option_or (last-append own back slot ∙ ap (λ o. option_or o (last_write own slot)) (apart g (suc (length captures)) slot back low high q))
      (apart g (suc (length captures)) slot front low high p)
      ∙ option_or-None _ in (
        ap₂ (λ a b. option_map text_at (both a b)) (same (2 * g) (omega arith) (omega arith)) (same (2 * g + 1) (omega arith) (omega arith)) ∙ s.0,
        spans-around (suc g) captures front own back (every-weaker _ _ front narrow p) (every-weaker _ _ back narrow q) s.1,
      )

  spans-append : (g : ℕ) (c d : Captures) (ws : Writes) → Spans g c ws → Spans (g + length c) d ws → Spans g (c ++ d) ws
  spans-append g [] d ws s t = subst (λ n. Spans n d ws) (omega arith) t
  spans-append g (x ∷ c) d ws s t = (s.0, spans-append (suc g) c d ws s.1 (subst (λ n. Spans n d ws) (omega arith) t))

  pub shown-append : (g : ℕ) (c d : Captures) (own more : Writes) → Shown g c own → Shown (g + length c) d more → Shown g (c ++ d) (own ++ more)
  shown-append g c d own more p q = (
    every-append _ own more
        (every-weaker _ _ own (λ w h. (h.0, omega (arith, h.1, length-append c d))) p.0)
        (every-weaker _ _ more (λ w h. (omega (arith, h.0), omega (arith, h.1, length-append c d))) q.0),
    spans-append g c d (own ++ more)
        (spans-around g c [] own more tt (every-weaker _ _ more (λ w h. inr h.0) q.0) p.1)
        (subst (Spans (g + length c) d) (ap (λ ws. own ++ ws) (append-nil more))
        (spans-around (g + length c) d own more [] (every-weaker _ _ own (λ w h. inl h.1) p.0) tt q.1)),
  )

  pub shown-empty_way : (g n : ℕ) (text : List ℕ) → Shown g (empty_way n text).captures []
  shown-empty_way g n text = (tt, none g n)
    where
      none : (g n : ℕ) → Spans g (replicate n None) []
      none g zero = tt
      none g (suc n) = (refl, none (suc g) n)

-- ---- a group's own slots
scalars_front : (front rest : List ℕ) → scalars (front ++ rest) ≡ true → scalars front ≡ true
scalars_front [] rest h = refl
scalars_front (c ∷ front) rest h = and_from _ _ (and_parts _ _ h).0 (scalars_front front rest (and_parts _ _ h).1)

scalars_back : (front rest : List ℕ) → scalars (front ++ rest) ≡ true → scalars rest ≡ true
scalars_back [] rest h = h
scalars_back (c ∷ front) rest h = scalars_back front rest (and_parts _ _ h).1

module _ (whole : List ℕ) (good : scalars whole ≡ true) where
  taken_text : (before taken rest : List ℕ) → (before ++ taken) ++ rest ≡ whole → text_at (encodes whole) (at before, at (before ++ taken)) ≡ taken
  taken_text before taken rest e =
      let split : encodes whole ≡ encodes before ++ (encodes taken ++ encodes rest) =
      ap encodes (sym e ∙ append_assoc before taken rest) ∙ encodes-append before (taken ++ rest) ∙ ap (λ t. encodes before ++ t) (encodes-append taken rest) in
      let long : at (before ++ taken) - at before ≡ length (encodes taken) = omega (arith, ap length (encodes-append before taken), length-append (encodes before) (encodes taken)) in
      let fine : scalars taken ≡ true = scalars_back before taken (scalars_front (before ++ taken) rest (ap scalars e ∙ good)) in
      ap chars (ap (λ h. slice_range h (at before) (at (before ++ taken))) split
      ∙ ap₂ take long (drop_at (encodes before) (encodes taken ++ encodes rest) (at before) refl)
      ∙ take_at (encodes taken) (encodes rest) _ refl) ∙ chars-encodes taken fine

  pub shown-capturing : (g : ℕ) (before : List ℕ) (way : Way) (own : Writes) → (before ++ way.taken) ++ way.rest ≡ whole → Shown (encodes whole) (suc g) way.captures own
      → Shown (encodes whole) g (Some way.taken ∷ way.captures) ((2 * g, at before) ∷ (own ++ (2 * g + 1, at (before ++ way.taken)) ∷ []))
  shown-capturing g before way own e s =
      let i = at before in
      let j = at (before ++ way.taken) in
      let n = length way.captures in
      let closing : Writes = (2 * g + 1, j) ∷ [] in
      let all = (2 * g, i) ∷ (own ++ closing) in
      let opens : last_write all (2 * g) ≡ Some i =
      ap₂ option_or
      (last-append own closing (2 * g)
      ∙ ap₂ option_or (cond-false (2 * g + 1 == 2 * g) (Some j) None (ne_eqb _ _ (omega arith)))
      (absent (2 * g) own (every-weaker _ _ own (λ w h. inr (omega (arith, h.0))) s.0)))
      (cond-true (2 * g == 2 * g) (Some i) None (eq-eqb _ _ refl)) in
      let closes : last_write all (2 * g + 1) ≡ Some j =
      ap (λ (o : Option ℕ). option_or o (cond (2 * g == 2 * g + 1) (Some i) None))
      (last-append own closing (2 * g + 1) ∙ ap (λ (o : Option ℕ). option_or o (last_write own (2 * g + 1))) (cond-true (2 * g + 1 == 2 * g + 1) (Some j) None (eq-eqb _ _ refl))) in (
        (
          (omega arith, omega arith),
          every-append _ own closing (every-weaker _ _ own (λ w h. (omega (arith, h.0), omega (arith, h.1))) s.0) ((omega arith, omega arith), tt),
        ),
        (
          ap₂ (λ a b. option_map (text_at (encodes whole)) (both a b)) opens closes ∙ ap Some (taken_text before way.taken way.rest e),
          spans-around (encodes whole) (suc g) way.captures ((2 * g, i) ∷ []) own closing (inl (omega arith), tt) (inl (omega arith), tt) s.1,
        ),
      )
