-- The captures of the groups of a pattern, in the texts that the pattern matches.
use Rattle.std.proofs.Common.{◌≡◌, ℕ, suc, ◌+◌, ◌*◌, List, [], ◌∷◌, ◌++◌, replicate, length, true, ◌&&◌, Option, Some, None, ◌⊎◌, inl, inr, ⊎_elim, refl, sym, ap, ap₂, ◌∙◌, subst, append_assoc, append-nil, arith, true≢false, length-append}
use Rattle.std.proofs.lemmas.Bool.{and_parts}
use Rattle.std.proofs.lemmas.List.{length-replicate}
use lib.Utf8.{scalars, encodes}
use Rattle.regex_hir.specs.Meaning.{cat_all}
use Rattle.regex_hir.specs.Re.{Re, empty, byte_in, cat, alt, group, plus}
use Rattle.urlpattern_laws.proofs.Bare.{bare}
use Rattle.urlpattern_laws.proofs.Denoting.{Texts, Denotes, good_cut}
use Rattle.urlpattern_laws.proofs.Runs.{RunRounds, one_run, next_run, Runs, run_matches}
use Rattle.urlpattern_laws.proofs.Takes.{matches_takes, nothing_in}
use Rattle.urlpattern_expressions.specs.Expressions.{is_groupless}
use Rattle.urlpattern_meaning.specs.PartMeaning.{Captures}
use Rattle.urlpattern_meaning.specs.Ways.{Way}
use Rattle.urlpattern_engine.proofs.GroupSlots.{Shown, shown-append, shown-capturing, shown-empty_way}
use Rattle.urlpattern_engine.proofs.WayResults.{Writes, at}

-- ---- patterns without groups

rounds_silent : (R : ℕ → ℕ → Writes → Type 0) → ((i j : ℕ) (writes : Writes) → R i j writes → writes ≡ []) → (i j : ℕ) (writes : Writes) → RunRounds R i j writes → writes ≡ []
rounds_silent R none i j writes (one_run _ own r) = none i j own r
rounds_silent R none i j writes (next_run l _ own more rs r) = ap₂ (λ (a b : Writes). a ++ b) (rounds_silent R none i l own rs) (none l j more r)

pub runs_silent : (hay : List ℕ) (re : Re) → is_groupless re ≡ true → (i j : ℕ) (writes : Writes) → Runs hay re i j writes → writes ≡ []
runs_silent hay (cat a b) h i j writes (l, own, more, first, second, all) =
    let both = and_parts _ _ h in
    all ∙ ap₂ (λ (x y : Writes). x ++ y) (runs_silent hay a both.0 i l own first) (runs_silent hay b both.1 l j more second)
runs_silent hay (alt a b) h i j writes run =
    let both = and_parts _ _ h in
    ⊎_elim (λ (left : Runs hay a i j writes). runs_silent hay a both.0 i j writes left) (λ (right : Runs hay b i j writes). runs_silent hay b both.1 i j writes right) run
runs_silent hay (group n a) h i j writes run = absurd (true≢false (sym h))
runs_silent hay (plus greedy a) h i j writes run = rounds_silent (Runs hay a) (runs_silent hay a h) i j writes run
runs_silent hay re h i j writes run = run.1

pub groupless_bare : (a : Re) → is_groupless (bare a) ≡ is_groupless a
groupless_bare (cat a b) = ap₂ ◌&&◌ (groupless_bare a) (groupless_bare b)
groupless_bare (alt a b) = ap₂ ◌&&◌ (groupless_bare a) (groupless_bare b)
groupless_bare (plus greedy a) = groupless_bare a
groupless_bare a = refl

-- ---- captures

-- Sets of texts with captures.
abbrev pub Caps : Type 1
Caps = List ℕ → Captures → Type 0

-- The texts of a set, without captures.
abbrev pub Only : Texts → Caps
Only Is text captures = Is text × (captures ≡ [])

abbrev pub Then : Caps → Caps → Caps
Then A B text captures = (first rest : List ℕ) × (own others : Captures) × (text ≡ first ++ rest) × (captures ≡ own ++ others) × A first own × B rest others

-- The whole text is the first capture.
abbrev pub Whole : Caps → Caps
Whole A text captures = (inner : Captures) × (captures ≡ Some text ∷ inner) × A text inner

-- A text of the set, or the empty text with empty captures.
abbrev pub Perhaps : ℕ → Caps → Caps
Perhaps count A text captures = A text captures ⊎ ((text ≡ []) × (captures ≡ replicate count None))

-- A prefix of the text is in the set, and the writes are its captures, from group g on.
pub record CatchesFrom (g count : ℕ) (Cap : List ℕ → Captures → Type 0) (whole before text : List ℕ) (j : ℕ) (writes : Writes) : Type 0 where
  pub taken : List ℕ
  pub rest : List ℕ
  pub captures : Captures
  pub cut : text ≡ taken ++ rest
  pub ends : j ≡ at (before ++ taken)
  pub is : Cap taken captures
  pub counted : length captures ≡ count
  pub shown : Shown (encodes whole) g captures writes

-- Each run of the pattern, at any place of a text of characters, catches a text of the set.
pub record Catches (g count : ℕ) (re : Re) (Cap : List ℕ → Captures → Type 0) : Type 0 where
  pub sound : (whole : List ℕ) → scalars whole ≡ true → (before text : List ℕ) → before ++ text ≡ whole → (j : ℕ) (writes : Writes) → Runs (encodes whole) re (at before) j writes
      → CatchesFrom g count Cap whole before text j writes

scalars_later : (before text whole : List ℕ) → before ++ text ≡ whole → scalars whole ≡ true → scalars text ≡ true
scalars_later before text whole e good = (good_cut whole before text (sym e) good).1

pub catches_silent : (g : ℕ) (re : Re) (Is : Texts) → Denotes re Is → is_groupless re ≡ true → Catches g 0 re (Only Is)
catches_silent g re Is d h = record {
  sound = λ whole good before text e j writes run.
      let found = matches_takes whole good re d.plain before text e j (run_matches (encodes whole) re (at before) j writes run) in
      let fine = (good_cut text found.0 found.1 found.2 (scalars_later before text whole e good)).0 in
      record {
        taken = found.0;
        rest = found.1;
        captures = [];
        cut = found.2;
        ends = found.3;
        is = ((d.same found.0 fine).0 found.4, refl);
        counted = refl;
        shown = subst (λ ws. Shown (encodes whole) g [] ws) (sym (runs_silent (encodes whole) re h (at before) j writes run)) (tt, tt);
      };
}

pub catches_same : (g count other : ℕ) (re : Re) (A B : Caps) → other ≡ count → ((text : List ℕ) (captures : Captures) → scalars text ≡ true → A text captures → B text captures) → Catches g count re A → Catches g other re B
catches_same g count other re A B same weaker c = record {
  sound = λ whole good before text e j writes run.
      let f = c.sound whole good before text e j writes run in
      let fine = (good_cut text f.taken f.rest f.cut (scalars_later before text whole e good)).0 in
      record { taken = f.taken; rest = f.rest; captures = f.captures; cut = f.cut; ends = f.ends; is = weaker f.taken f.captures fine f.is; counted = f.counted ∙ sym same; shown = f.shown };
}

-- A prefix of the text, and then a prefix of the rest.
then_from : (g m n : ℕ) (A B : Caps) (whole before text : List ℕ) (l j : ℕ) (own more writes : Writes) → before ++ text ≡ whole → (a : CatchesFrom g m A whole before text l own)
    → CatchesFrom (g + m) n B whole (before ++ a.taken) a.rest j more → writes ≡ own ++ more → CatchesFrom g (m + n) (Then A B) whole before text j writes
then_from g m n A B whole before text l j own more writes e a b all = record {
  taken = a.taken ++ b.taken;
  rest = b.rest;
  captures = a.captures ++ b.captures;
  cut = a.cut ∙ ap (λ t. a.taken ++ t) b.cut ∙ sym (append_assoc a.taken b.taken b.rest);
  ends = b.ends ∙ ap at (append_assoc before a.taken b.taken);
  is = (a.taken, b.taken, a.captures, b.captures, refl, refl, a.is, b.is);
  counted = omega (arith, length-append a.captures b.captures, a.counted, b.counted);
  shown = subst (λ ws. Shown (encodes whole) g (a.captures ++ b.captures) ws) (sym all)
      (shown-append (encodes whole) g a.captures b.captures own more a.shown (subst (λ k. Shown (encodes whole) (g + k) b.captures more) (sym a.counted) b.shown));
}

pub catches_cat : (g m n : ℕ) (a b : Re) (A B : Caps) → Catches g m a A → Catches (g + m) n b B → Catches g (m + n) (cat a b) (Then A B)
catches_cat g m n a b A B c d = record {
  sound = λ whole good before text e j writes (l, own, more, first, second, all).
      let front = c.sound whole good before text e l own first in
      let stands : (before ++ front.taken) ++ front.rest ≡ whole = append_assoc before front.taken front.rest ∙ ap (λ t. before ++ t) (sym front.cut) ∙ e in
      let back = d.sound whole good (before ++ front.taken) front.rest stands j more (subst (λ k. Runs (encodes whole) b k j more) front.ends second) in
      then_from g m n A B whole before text l j own more writes e front back all;
}

pub catches_alone : (g count : ℕ) (a : Re) (A : Caps) → Catches g count a A → Catches g count (alt a (byte_in [])) A
catches_alone g count a A c = record {
  sound = λ whole good before text e j writes run. elim run [
    | inl left ↦ c.sound whole good before text e j writes left
    | inr none ↦ absurd (nothing_in none.0.0 none.0.2)
  ];
}

pub catches_perhaps : (g count : ℕ) (a : Re) (A : Caps) → Catches g count a A → Catches g count (alt (cat a empty) empty) (Perhaps count A)
catches_perhaps g count a A c = record { sound = λ whole good before text e j writes run. by whole good before text e j writes run }
  where
    by : (whole : List ℕ) → scalars whole ≡ true → (before text : List ℕ) → before ++ text ≡ whole → (j : ℕ) (writes : Writes) → Runs (encodes whole) (alt (cat a empty) empty) (at before) j writes
        → CatchesFrom g count (Perhaps count A) whole before text j writes
    by whole good before text e j writes (inl (l, own, more, run, (ends, none), all)) =
        let same : writes ≡ own = all ∙ ap (λ ws. own ++ ws) none ∙ append-nil own in
        let f = c.sound whole good before text e l own run in
        record { taken = f.taken; rest = f.rest; captures = f.captures; cut = f.cut; ends = ends ∙ f.ends; is = inl f.is; counted = f.counted; shown = subst (λ ws. Shown (encodes whole) g f.captures ws) (sym same) f.shown }
    by whole good before text e j writes (inr (ends, none)) =
        let nothing : Option (List ℕ) = None in
        record {
          taken = [];
          rest = text;
          captures = replicate count None;
          cut = refl;
          ends = ends ∙ ap at (sym (append-nil before));
          is = inr (refl, refl);
          counted = length-replicate count nothing;
          shown = subst (λ ws. Shown (encodes whole) g (replicate count None) ws) (sym none) (shown-empty_way (encodes whole) g count text);
        }

pub catches_group : (g count : ℕ) (a : Re) (A : Caps) → Catches (suc g) count a A → Catches g (suc count) (group g a) (Whole A)
catches_group g count a A c = record {
  sound = λ whole good before text e j writes (own, run, all).
      let f = c.sound whole good before text e j own run in
      let way : Way = record { taken = f.taken; captures = f.captures; rest = f.rest } in
      let stands : (before ++ f.taken) ++ f.rest ≡ whole = append_assoc before f.taken f.rest ∙ ap (λ t. before ++ t) (sym f.cut) ∙ e in
      let same : (2 * g, at before) ∷ (own ++ (2 * g + 1, at (before ++ f.taken)) ∷ []) ≡ writes = ap (λ (k : ℕ). (2 * g, at before) ∷ (own ++ (2 * g + 1, k) ∷ [])) (sym f.ends) ∙ sym all in
      record {
        taken = f.taken;
        rest = f.rest;
        captures = Some f.taken ∷ f.captures;
        cut = f.cut;
        ends = f.ends;
        is = (f.captures, refl, f.is);
        counted = ap (λ n. suc n) f.counted;
        shown = subst (λ ws. Shown (encodes whole) g (Some f.taken ∷ f.captures) ws) same (shown-capturing whole good g before way own stands f.shown);
      };
}

-- ---- lists of patterns

pub append_runs : (hay : List ℕ) (trees others : List Re) (i j : ℕ) (writes : Writes) → Runs hay (cat_all (trees ++ others)) i j writes → Runs hay (cat (cat_all trees) (cat_all others)) i j writes
append_runs hay [] others i j writes run = (i, [], writes, (refl, refl), run, refl)
append_runs hay (tree ∷ trees) others i j writes (l, own, more, first, second, all) =
    let (k, front, back, f, b, both) = append_runs hay trees others l j more second in
    (k, own ++ front, back, (l, own, front, first, f, refl), b, all ∙ ap (λ ws. own ++ ws) both ∙ sym (append_assoc own front back))

pub catches_append : (g m n : ℕ) (trees others : List Re) (A B : Caps) → Catches g m (cat_all trees) A → Catches (g + m) n (cat_all others) B → Catches g (m + n) (cat_all (trees ++ others)) (Then A B)
catches_append g m n trees others A B c d =
    let both = catches_cat g m n (cat_all trees) (cat_all others) A B c d in
    record { sound = λ whole good before text e j writes run. both.sound whole good before text e j writes (append_runs (encodes whole) trees others (at before) j writes run) }

-- A pattern with nothing after it.
pub catches_last : (g count : ℕ) (a : Re) (A : Caps) → Catches g count a A → Catches g count (cat a empty) A
catches_last g count a A c = record {
  sound = λ whole good before text e j writes (l, own, more, run, (ends, none), all).
      let same : writes ≡ own = all ∙ ap (λ ws. own ++ ws) none ∙ append-nil own in
      let f = c.sound whole good before text e l own run in
      record { taken = f.taken; rest = f.rest; captures = f.captures; cut = f.cut; ends = ends ∙ f.ends; is = f.is; counted = f.counted; shown = subst (λ ws. Shown (encodes whole) g f.captures ws) (sym same) f.shown };
}
