-- The runs of an attempt at a pattern: where a run ends, and what its groups write.
use Rattle.std.proofs.Common.{◌≡◌, ℕ, zero, suc, ◌+◌, ◌-◌, ◌*◌, List, [], ◌∷◌, ◌++◌, length, Some, Bool, true, false, cond, nat_lt, slice_get, ◌⊎◌, inl, inr, ⊎_elim, refl, sym, ap, ap₂, ◌∙◌, append_assoc}
use Rattle.regex_class.specs.Ranges.{in_ranges}
use Rattle.regex_hir.proofs.AttemptLemmas.{cond_some, is_some_and_parts, option_and_then_some}
use Rattle.regex_hir.proofs.OptionLemmas.{option_or_cases, prefer_cases, write_cases}
use Rattle.regex_hir.specs.Looks.{holds}
use Rattle.regex_hir.specs.Matches.{Matches, Rounds, one_round, next_round}
use Rattle.regex_hir.specs.Re.{Re, empty, literal, byte_in, char_in, look, cat, alt, group, plus, Trace, Rest, rounds, more_rounds, attempt}
use Rattle.regex_hir.specs.Text.{char_at, has_bytes_at, is_some_and}
use Rattle.urlpattern_engine.proofs.WayResults.{Writes, after_writes}

-- At least one round leads from `i` to the last number, with these writes.
pub data RunRounds (R : ℕ → ℕ → Writes → Type 0) (i : ℕ) : ℕ → Writes → Type 0 where
  one_run : (j : ℕ) (own : Writes) → R i j own → RunRounds R i j own
  next_run : (l j : ℕ) (own more : Writes) → RunRounds R i l own → R l j more → RunRounds R i j (own ++ more)

abbrev pub Runs : List ℕ → Re → ℕ → ℕ → Writes → Type 0
Runs hay empty i j writes = (j ≡ i) × (writes ≡ [])
Runs hay (literal bytes) i j writes = Matches hay (literal bytes) i j × (writes ≡ [])
Runs hay (byte_in ranges) i j writes = Matches hay (byte_in ranges) i j × (writes ≡ [])
Runs hay (char_in ranges) i j writes = Matches hay (char_in ranges) i j × (writes ≡ [])
Runs hay (look l) i j writes = Matches hay (look l) i j × (writes ≡ [])
Runs hay (cat a b) i j writes = (l : ℕ) × (own more : Writes) × Runs hay a i l own × Runs hay b l j more × (writes ≡ own ++ more)
Runs hay (alt a b) i j writes = Runs hay a i j writes ⊎ Runs hay b i j writes
Runs hay (group n a) i j writes = (own : Writes) × Runs hay a i j own × (writes ≡ (2 * n, i) ∷ (own ++ (2 * n + 1, j) ∷ []))
Runs hay (plus greedy a) i j writes = RunRounds (Runs hay a) i j writes

-- ---- a run is a match

rounds_match : (R : ℕ → ℕ → Writes → Type 0) (S : ℕ → ℕ → Type 0) → ((i j : ℕ) (writes : Writes) → R i j writes → S i j) → (i j : ℕ) (writes : Writes) → RunRounds R i j writes → Rounds S i j
rounds_match R S each i j writes (one_run _ own r) = one_round j (each i j own r)
rounds_match R S each i j writes (next_run l _ own more rs r) = next_round l j (rounds_match R S each i l own rs) (each l j more r)

pub run_matches : (hay : List ℕ) (re : Re) (i j : ℕ) (writes : Writes) → Runs hay re i j writes → Matches hay re i j
run_matches hay (cat a b) i j writes (l, own, more, first, second, all) = (l, run_matches hay a i l own first, run_matches hay b l j more second)
run_matches hay (alt a b) i j writes run = ⊎_elim (λ (left : Runs hay a i j writes). inl (run_matches hay a i j writes left)) (λ (right : Runs hay b i j writes). inr (run_matches hay b i j writes right)) run
run_matches hay (group n a) i j writes (own, run, all) = run_matches hay a i j own run
run_matches hay (plus greedy a) i j writes run = rounds_match (Runs hay a) (Matches hay a) (run_matches hay a) i j writes run
run_matches hay re i j writes run = run.0

-- ---- an attempt runs

-- R leads from `i` to a place at which `k` returned the rest of the trace.
pub record RunsOn (R : ℕ → ℕ → Writes → Type 0) (k : Rest) (i : ℕ) (t : Trace) : Type 0 where
  pub at : ℕ
  pub own : Writes
  pub leads : R i at own
  pub rest : Trace
  pub gave : k at ≡ Some rest
  pub all : t ≡ after_writes own rest

stays : (R : ℕ → ℕ → Writes → Type 0) (k : Rest) (i j : ℕ) (t : Trace) → R i j [] → k j ≡ Some t → RunsOn R k i t
stays R k i j t r e = record { at = j; own = []; leads = r; rest = t; gave = e; all = refl }

more_writes : (own more : Writes) (t u v : Trace) → t ≡ after_writes own u → u ≡ after_writes more v → t ≡ after_writes (own ++ more) v
more_writes own more t u v e f = e ∙ ap (after_writes own) f ∙ ap (λ ws. record { end = v.end; writes = ws }) (sym (append_assoc own more v.writes))

abbrev RunsAlong : (Rest → Rest) → (ℕ → ℕ → Writes → Type 0) → Type 0
RunsAlong body R = (k : Rest) (i : ℕ) (t : Trace) → body k i ≡ Some t → RunsOn R k i t

-- The rest of a loop from `j` on, after rounds that led to `j`.
rounds_run : (greedy : Bool) (body : Rest → Rest) (R : ℕ → ℕ → Writes → Type 0) → RunsAlong body R → (k : Rest) (i n j : ℕ) (own : Writes) (t : Trace) → RunRounds R i j own → rounds greedy body k n j ≡ Some t
    → (at : ℕ) × (all : Writes) × (rest : Trace) × RunRounds R i at all × (k at ≡ Some rest) × (after_writes own t ≡ after_writes all rest)
unfolding rounds
rounds_run greedy body R along k i zero j own t p e = (j, own, t, p, e, refl)
rounds_run greedy body R along k i (suc n) j own t p e =
    ⊎_elim
    (λ round.
    let c = along _ j t round in
    let later = rounds_run greedy body R along k i n c.at (own ++ c.own) c.rest (next_run j c.at own c.own p c.leads) (cond_some (nat_lt j c.at) _ c.rest c.gave).1 in
    (later.0, later.1, later.2, later.3, later.4, more_writes own c.own (after_writes own t) t c.rest refl c.all ∙ later.5))
    (λ leave. (j, own, t, p, leave, refl))
    (prefer_cases greedy _ (k j) t e)

first_run : (hay : List ℕ) (greedy : Bool) (body : Rest → Rest) (R : ℕ → ℕ → Writes → Type 0) → RunsAlong body R → (k : Rest) (i j : ℕ) (own : Writes) (t u : Trace) (moved : Bool) → R i j own
    → cond moved (more_rounds hay greedy body k j) (k j) ≡ Some u → t ≡ after_writes own u → RunsOn (RunRounds R) k i t
first_run hay greedy body R along k i j own t u true r e all =
    let later = rounds_run greedy body R along k i (length hay - j) j own u (one_run j own r) e in
    record { at = later.0; own = later.1; leads = later.3; rest = later.2; gave = later.4; all = all ∙ later.5 }
first_run hay greedy body R along k i j own t u false r e all = record { at = j; own = own; leads = one_run j own r; rest = u; gave = e; all = all }

group_writes : (slot close i j : ℕ) (own : Writes) (t u v w : Trace) → t.end ≡ u.end → t.writes ≡ (slot, i) ∷ u.writes → u ≡ after_writes own v → v.end ≡ w.end → v.writes ≡ (close, j) ∷ w.writes
    → t ≡ after_writes ((slot, i) ∷ (own ++ (close, j) ∷ [])) w
group_writes slot close i j own t u v w e f g h l =
    let ends : t.end ≡ w.end = e ∙ ap (λ (x : Trace). x.end) g ∙ h in
    let writes : t.writes ≡ (slot, i) ∷ ((own ++ (close, j) ∷ []) ++ w.writes) =
    f ∙ ap (λ (x : Trace). (slot, i) ∷ x.writes) g ∙ ap (λ ws. (slot, i) ∷ (own ++ ws)) l ∙ ap (λ ws. (slot, i) ∷ ws) (sym (append_assoc own ((close, j) ∷ []) w.writes)) in
    ap₂ (λ end ws. record { end = end; writes = ws }) ends writes

pub attempt_runs : (hay : List ℕ) (re : Re) (k : Rest) (i : ℕ) (t : Trace) → attempt hay re k i ≡ Some t → RunsOn (Runs hay re) k i t
unfolding attempt
attempt_runs hay empty k i t e = stays (Runs hay empty) k i i t (refl, refl) e
attempt_runs hay (literal bs) k i t e =
    let p = cond_some (has_bytes_at hay i bs) _ t e in
    stays (Runs hay (literal bs)) k i (i + length bs) t ((p.0, refl), refl) p.1
attempt_runs hay (byte_in rs) k i t e =
    let p = cond_some (is_some_and (slice_get hay i) (in_ranges rs)) _ t e in
    let b = is_some_and_parts (slice_get hay i) (in_ranges rs) p.0 in
    stays (Runs hay (byte_in rs)) k i (i + 1) t ((b.0, b.1, b.2, refl), refl) p.1
attempt_runs hay (char_in rs) k i t e =
    let c = option_and_then_some _ (char_at hay i) t e in
    let p = cond_some (in_ranges rs c.0) _ t c.2 in
    stays (Runs hay (char_in rs)) k i _ t ((c.0, c.1, p.0, refl), refl) p.1
attempt_runs hay (look l) k i t e = let p = cond_some (holds l hay i) _ t e in stays (Runs hay (look l)) k i i t ((p.0, refl), refl) p.1
attempt_runs hay (cat a b) k i t e =
    let front = attempt_runs hay a _ i t e in
    let back = attempt_runs hay b k front.at front.rest front.gave in
    record {
      at = back.at;
      own = front.own ++ back.own;
      leads = (front.at, front.own, back.own, front.leads, back.leads, refl);
      rest = back.rest;
      gave = back.gave;
      all = more_writes front.own back.own t front.rest back.rest front.all back.all;
    }
attempt_runs hay (alt a b) k i t e =
    ⊎_elim
    (λ left. let c = attempt_runs hay a k i t left in record { at = c.at; own = c.own; leads = inl c.leads; rest = c.rest; gave = c.gave; all = c.all })
    (λ right. let c = attempt_runs hay b k i t right.1 in record { at = c.at; own = c.own; leads = inr c.leads; rest = c.rest; gave = c.gave; all = c.all })
    (option_or_cases _ _ t e)
attempt_runs hay (group n a) k i t e =
    let opened = write_cases (2 * n) i _ t e in
    let c = attempt_runs hay a _ i opened.0 opened.1 in
    let closed = write_cases (2 * n + 1) c.at (k c.at) c.rest c.gave in
    record {
      at = c.at;
      own = (2 * n, i) ∷ (c.own ++ (2 * n + 1, c.at) ∷ []);
      leads = (c.own, c.leads, refl);
      rest = closed.0;
      gave = closed.1;
      all = group_writes (2 * n) (2 * n + 1) i c.at c.own t opened.0 c.rest closed.0 opened.2 opened.3 c.all closed.2 closed.3;
    }
attempt_runs hay (plus greedy a) k i t e =
    let c = attempt_runs hay a _ i t e in
    first_run hay greedy (attempt hay a) (Runs hay a) (attempt_runs hay a) k i c.at c.own t c.rest (nat_lt i c.at) c.leads c.gave c.all
