-- Lemmas on the hashes of segments.
use Rattle.std.proofs.Common.{◌≡◌, ℕ, zero, suc, ◌+◌, ◌<◌, ◌≤◌, ◌≢◌, List, [], ◌∷◌, ◌++◌, length, get_or, drop, take, refl, sym, ap, subst, ◌∙◌, cond, arith, Bool, eqb, not, true, false, true≢false}
use Rattle.std.proofs.Math.Bool.{beq}
use Rattle.std.proofs.lemmas.Bool.Decides.{nat_tests}
use Rattle.std.proofs.lemmas.List.{append_assoc, at_drop_all, at_drop_more, length_push, length-take, length-append}
use Rattle.std.specs.Borrow.{Bor}
use Rattle.std.specs.Prelude.{Option, Some, None, chars, fold, is_some, option_map, unwrap_or, IsTrue}
use Rattle.urlpattern_index.specs.FixedTexts.{IsText}
use Rattle.urlpattern_index.specs.Keys.{HasSegmentCount, mixed, mixed_segments, option_hash, segment_hashes, text_hash}
use Rattle.urlpattern_index.specs.Paths.{FitsParts, FitsPath, PathView}
use Rattle.urlpattern_index.specs.Segments.{AddsSegment, AreNone, AreOpen, AreSegmentsOf, HaveEqualKeys, IsCurrent, IsReadTo, ReadsTo}
use Rattle.urlpattern_index.specs.declared.path_segments.PathSegments.{PathSegments}
use Rattle.urlpattern_syntax.specs.Parts.{PartView}
use Rattle.urlpattern_syntax.specs.Text.{lacks}

-- ---- hashes of segments

pub next_segment : (hash c : ℕ) (path : List ℕ) → c ≡ 47 → segment_hashes hash (c ∷ path) ≡ hash ∷ segment_hashes 0 path
next_segment hash c path is_slash = let e : eqb c 47 ≡ true = grind (arith, nat_tests) in rw e

pub same_segment : (hash c : ℕ) (path : List ℕ) → c ≢ 47 → segment_hashes hash (c ∷ path) ≡ segment_hashes (mixed hash c) path
same_segment hash c path other = let e : eqb c 47 ≡ false = grind (arith, nat_tests) in rw e

within_cases : (hash c : ℕ) (run rest : List ℕ) (b : Bool) → eqb c 47 ≡ b → IsTrue (lacks 47 (c ∷ run))
    → (IsTrue (lacks 47 run) → segment_hashes (mixed hash c) (run ++ rest) ≡ segment_hashes (fold mixed (mixed hash c) run) rest)
    → segment_hashes hash (c ∷ (run ++ rest)) ≡ segment_hashes (fold mixed (mixed hash c) run) rest
within_cases hash c run rest true is without more = absurd (let never : IsTrue false = rw is at without in cc)
within_cases hash c run rest false is without more = rw is (more (rw is at without))

-- A text without slashes is within a segment.
within_segment : (hash : ℕ) (run rest : List ℕ) → IsTrue (lacks 47 run) → segment_hashes hash (run ++ rest) ≡ segment_hashes (fold mixed hash run) rest
within_segment hash [] rest without = refl
within_segment hash (c ∷ run) rest without = within_cases hash c run rest (eqb c 47) refl without (within_segment (mixed hash c) run rest)

-- A path has at least one segment.
pub some_segment : (hash : ℕ) (path : List ℕ) → 0 < length (segment_hashes hash path)
some_segment hash [] = omega arith
some_segment hash (c ∷ path) =
    let later = some_segment (mixed hash c) path in
    elim (eqb c 47) as (λ b. 0 < length (cond b (hash ∷ segment_hashes 0 path) (segment_hashes (mixed hash c) path))) [ true ↦ omega arith | false ↦ later ]

-- The next character of a path that is read.
module _ (path : List ℕ) (read : ℕ) (c : ℕ) (is_next : (read < length path) × (c ≡ get_or path read c)) (hashes : List ℕ) (hash : ℕ) (whole : hashes ++ segment_hashes hash (drop read path) ≡ segment_hashes 0 path) where
  next : drop read path ≡ c ∷ drop (read + 1) path
  next = at_drop_more (λ text. text) path read c is_next.0 ∙ ap (λ x. x ∷ drop (read + 1) path) (sym is_next.1)

  pub hashes-same : c ≢ 47 → hashes ++ segment_hashes (mixed hash c) (drop (read + 1) path) ≡ segment_hashes 0 path
  hashes-same other = ap (λ h. hashes ++ h) (sym (ap (segment_hashes hash) next ∙ same_segment hash c (drop (read + 1) path) other)) ∙ whole

  pub hashes-more : c ≡ 47 → (hashes ++ hash ∷ []) ++ segment_hashes 0 (drop (read + 1) path) ≡ segment_hashes 0 path
  hashes-more is_slash =
      append_assoc hashes (hash ∷ []) (segment_hashes 0 (drop (read + 1) path))
      ∙ ap (λ h. hashes ++ h) (sym (ap (segment_hashes hash) next ∙ next_segment hash c (drop (read + 1) path) is_slash)) ∙ whole

-- The whole path was read.
pub hashes-end : (path : List ℕ) (read : ℕ) (hashes : List ℕ) (hash : ℕ) → read ≡ length path → hashes ++ segment_hashes hash (drop read path) ≡ segment_hashes 0 path → hashes ++ hash ∷ [] ≡ segment_hashes 0 path
hashes-end path read hashes hash all whole = ap (λ h. hashes ++ h) (sym (at_drop_all (segment_hashes hash) path read (omega arith))) ∙ whole

-- ---- mixing in segments

-- Mixing in the next segment.
pub mixed_segments-next : (hash : ℕ) (are_fixed : List Bool) (actual : List ℕ) (i : ℕ) (b : Bool) (o : ℕ) → i < length are_fixed → i < length actual → b ≡ get_or are_fixed i b → o ≡ get_or actual i o
    → mixed_segments hash (drop i are_fixed) (drop i actual) ≡ mixed_segments (mixed hash (cond b o 1)) (drop (i + 1) are_fixed) (drop (i + 1) actual)
mixed_segments-next hash are_fixed actual i b o within within_own is_b is_o =
    ap (λ t. mixed_segments hash t (drop i actual)) (at_drop_more (λ t. t) are_fixed i b within ∙ ap (λ x. x ∷ drop (i + 1) are_fixed) (sym is_b))
    ∙ ap (mixed_segments hash (b ∷ drop (i + 1) are_fixed)) (at_drop_more (λ t. t) actual i o within_own ∙ ap (λ x. x ∷ drop (i + 1) actual) (sym is_o))

-- Only as many hashes are mixed in as there are segments.
pub mixed_segments-take : (hash : ℕ) (are_fixed : List Bool) (actual : List ℕ) (n : ℕ) → length are_fixed ≤ n → mixed_segments hash are_fixed (take n actual) ≡ mixed_segments hash are_fixed actual
mixed_segments-take hash [] actual n few = refl
mixed_segments-take hash (b ∷ are_fixed) actual zero few = absurd (omega arith)
mixed_segments-take hash (b ∷ are_fixed) [] (suc n) few = refl
mixed_segments-take hash (b ∷ are_fixed) (o ∷ actual) (suc n) few = mixed_segments-take (mixed hash (cond b o 1)) are_fixed actual n (omega arith)

pub enough-take : (is_exact : Bool) (segments n : ℕ) (actual : List ℕ) → segments < n → HasSegmentCount is_exact segments (length actual) → HasSegmentCount is_exact segments (length (take n actual))
enough-take true segments n actual few is = let count = length-take n actual in omega (arith, count, is)
enough-take false segments n actual few is = let count = length-take n actual in omega (arith, count, is)

-- Flags that a test finds equal are equal.
pub same_flag : (a b : Bool) → not (beq a b) ≡ false → a ≡ b
same_flag true true is = refl
same_flag false false is = refl
same_flag true false is = absurd (let never : true ≡ false = is in cc)
same_flag false true is = absurd (let never : true ≡ false = is in cc)

-- A fixed protocol or hostname has the same part as the given text.
pub hosts_alike : (fixed : Option (Bor (List ℕ))) (given : List ℕ) → IsText (option_map (λ text. chars text.now) fixed) given
    → (has : Bool) (hash : ℕ) → has ≡ is_some fixed → hash ≡ option_hash (option_map (λ text. chars text.now) fixed) → cond has (text_hash given) 0 ≡ cond has hash 0
hosts_alike (Some text) given is has hash is_has is_hash = rw (is_has, is_hash) (ap text_hash is)
hosts_alike None given is has hash is_has is_hash = rw is_has refl

pub keys_alike : (are_fixed : List Bool) (hashes actual : List ℕ) → length are_fixed < 13 → HaveEqualKeys are_fixed hashes actual
    → (p q r s : ℕ) → p ≡ q → r ≡ s → (is_exact : Bool)
    → mixed (mixed_segments (mixed p r) are_fixed (take 13 actual)) (cond is_exact 1 0) ≡ mixed (mixed_segments (mixed q s) are_fixed hashes) (cond is_exact 1 0)
keys_alike are_fixed hashes actual few alike p q r s same_p same_r is_exact =
    ap (λ h. mixed h (cond is_exact 1 0)) (
    ap (λ h. mixed_segments h are_fixed (take 13 actual)) (ap (λ x. mixed x r) same_p ∙ ap (mixed q) same_r)
    ∙ mixed_segments-take (mixed q s) are_fixed actual 13 (omega arith) ∙ alike (mixed q s))

-- ---- mixing in appended segments

mixed_segments-append : (hash : ℕ) (are_fixed : List Bool) (actual more : List ℕ) → length actual ≡ length are_fixed → mixed_segments hash are_fixed (actual ++ more) ≡ mixed_segments hash are_fixed actual
mixed_segments-append hash [] actual more same = refl
mixed_segments-append hash (b ∷ are_fixed) [] more same = absurd (omega arith)
mixed_segments-append hash (b ∷ are_fixed) (o ∷ actual) more same = mixed_segments-append (mixed hash (cond b o 1)) are_fixed actual more (omega arith)

mixed_segments-push : (hash : ℕ) (are_fixed : List Bool) (actual : List ℕ) (b : Bool) (o : ℕ) → length actual ≡ length are_fixed
    → mixed_segments hash (are_fixed ++ b ∷ []) (actual ++ o ∷ []) ≡ mixed (mixed_segments hash are_fixed actual) (cond b o 1)
mixed_segments-push hash [] [] b o same = refl
mixed_segments-push hash [] (x ∷ actual) b o same = absurd (omega arith)
mixed_segments-push hash (t ∷ are_fixed) [] b o same = absurd (omega arith)
mixed_segments-push hash (t ∷ are_fixed) (x ∷ actual) b o same = mixed_segments-push (mixed hash (cond t x 1)) are_fixed actual b o (omega arith)

-- ---- what was read of a path

pub read_none : (segments : PathSegments) (path : List ℕ) → AreNone segments → IsReadTo segments path path
read_none segments path none = record {
  done = [];
  actual = 0;
  cut = refl;
  as_many = sym (ap length none.texts);
  alike = λ hash. rw none.texts refl;
  is_current = rw none.current refl;
}

same_current : (current : Option ℕ) (actual hash : ℕ) → IsCurrent current actual
    → mixed hash (cond (is_some current) actual 1) ≡ mixed hash (cond (is_some current) (unwrap_or current 0) 1)
same_current (Some h) actual hash is = ap (mixed hash) is
same_current None actual hash is = refl

module _ (segments : PathSegments) (path : List ℕ) (as_many : length segments.hashes.items ≡ length segments.are_fixed.items) where
  -- Appending the segment that was read.
  alike-push : (rest : List ℕ) (is : IsReadTo segments path rest)
      → HaveEqualKeys (segments.are_fixed.items ++ is_some segments.current ∷ []) (segments.hashes.items ++ unwrap_or segments.current 0 ∷ []) (is.done ++ is.actual ∷ [])
  alike-push rest is = λ hash.
      mixed_segments-push hash segments.are_fixed.items is.done (is_some segments.current) is.actual is.as_many
      ∙ ap (λ h. mixed h (cond (is_some segments.current) is.actual 1)) (is.alike hash)
      ∙ same_current segments.current is.actual (mixed_segments hash segments.are_fixed.items segments.hashes.items) is.is_current
      ∙ sym (mixed_segments-push hash segments.are_fixed.items segments.hashes.items (is_some segments.current) (unwrap_or segments.current 0) as_many)

  pub read_slash : (more : PathSegments) (c : ℕ) (rest : List ℕ) → AddsSegment segments more → c ≡ 47
      → IsReadTo segments path (c ∷ rest) → IsReadTo more path rest
  read_slash more c rest adds is_slash is = record {
    done = is.done ++ is.actual ∷ [];
    actual = 0;
    cut = is.cut ∙ ap (λ h. is.done ++ h) (next_segment is.actual c rest is_slash) ∙ sym (append_assoc is.done (is.actual ∷ []) (segment_hashes 0 rest));
    as_many = length_push is.done is.actual ∙ ap (λ n. n + 1) is.as_many ∙ sym (length_push segments.are_fixed.items (is_some segments.current)) ∙ sym (ap length adds.texts);
    alike = rw (adds.texts, adds.hashes) (alike-push (c ∷ rest) is);
    is_current = rw adds.current refl;
  }

  -- Where reading stops, the path has more segments than were read.
  pub enough_at_stop : (rest : List ℕ) → IsReadTo segments path rest
      → HasSegmentCount false (length segments.are_fixed.items) (length (segment_hashes 0 path))
  enough_at_stop rest is =
      let some = some_segment is.actual rest in
      let count : length (segment_hashes 0 path) ≡ length is.done + length (segment_hashes is.actual rest) =
      ap length is.cut ∙ length-append is.done (segment_hashes is.actual rest) in
      omega (arith, is.as_many)

  pub alike_at_stop : (rest : List ℕ) → IsReadTo segments path rest
      → HaveEqualKeys segments.are_fixed.items segments.hashes.items (segment_hashes 0 path)
  alike_at_stop rest is = λ hash.
      ap (mixed_segments hash segments.are_fixed.items) is.cut
      ∙ mixed_segments-append hash segments.are_fixed.items is.done (segment_hashes is.actual rest) is.as_many ∙ is.alike hash

  -- Where the path ends, it has exactly the segments that were read.
  pub enough_at_end : (more : PathSegments) → AddsSegment segments more → IsReadTo segments path []
      → HasSegmentCount true (length more.are_fixed.items) (length (segment_hashes 0 path))
  enough_at_end more adds is =
      ap length is.cut ∙ length_push is.done is.actual ∙ ap (λ n. n + 1) is.as_many
      ∙ sym (length_push segments.are_fixed.items (is_some segments.current)) ∙ sym (ap length adds.texts)

  pub alike_at_end : (more : PathSegments) → AddsSegment segments more → IsReadTo segments path []
      → HaveEqualKeys more.are_fixed.items more.hashes.items (segment_hashes 0 path)
  alike_at_end more adds is = λ hash.
      ap (mixed_segments hash more.are_fixed.items) is.cut ∙ rw (adds.texts, adds.hashes) (alike-push [] is hash)

goes_on : (current : Option ℕ) (actual c : ℕ) → IsCurrent current actual → IsCurrent (option_map (λ hash. mixed hash c) current) (mixed actual c)
goes_on (Some hash) actual c is = ap (λ h. mixed h c) is
goes_on None actual c is = tt

-- Reading a run without a slash.
pub read_run : (segments : PathSegments) (path run rest : List ℕ) → IsTrue (lacks 47 run) → IsReadTo segments path (run ++ rest)
    → IsReadTo (record segments { current = None }) path rest
read_run segments path run rest without is = record {
  done = is.done;
  actual = fold mixed is.actual run;
  cut = is.cut ∙ ap (λ h. is.done ++ h) (within_segment is.actual run rest without);
  as_many = is.as_many;
  alike = is.alike;
  is_current = tt;
}

-- Reading a character other than a slash.
pub read_other : (segments : PathSegments) (path : List ℕ) (c : ℕ) (rest : List ℕ) → c ≢ 47 → IsReadTo segments path (c ∷ rest)
    → IsReadTo (record segments { current = option_map (λ hash. mixed hash c) segments.current }) path rest
read_other segments path c rest other is = record {
  done = is.done;
  actual = mixed is.actual c;
  cut = is.cut ∙ ap (λ h. is.done ++ h) (same_segment is.actual c rest other);
  as_many = is.as_many;
  alike = is.alike;
  is_current = goes_on segments.current is.actual c is.is_current;
}

-- What is read to the end is read up to some rest.
pub reads_some : (to_end : Bool) (segments : PathSegments) (path rest : List ℕ) → ReadsTo to_end segments path rest → ReadsTo false segments path rest
reads_some true segments path rest is = (rest, is)
reads_some false segments path rest is = is

-- The rest of a text begins with its next character.
pub next_text : (text : List ℕ) (read : ℕ) (c : ℕ) → (read < length text) × (c ≡ get_or text read c) → drop read text ≡ c ∷ drop (read + 1) text
next_text text read c is_next = at_drop_more (λ text. text) text read c is_next.0 ∙ ap (λ x. x ∷ drop (read + 1) text) (sym is_next.1)

-- ---- segments of parts

-- Each text that fits the path is read up to a rest that fits the parts left.
abbrev pub AreReadTo : PathView → PathSegments → (parts : List PartView) → Type 0
AreReadTo path segments parts =
    (text : List ℕ) → FitsPath path text → (rest : List ℕ) × IsReadTo segments text rest × FitsParts path.is_exact path.delimiter parts rest

-- Reading stops before the parts that are left.
pub left_segments : (path : PathView) (segments : PathSegments) → AreOpen segments
    → ((text : List ℕ) → FitsPath path text → ReadsTo false segments text []) → AreSegmentsOf path segments
left_segments path segments are are_read = record {
  few = are.few;
  as_many = are.as_many;
  enough = λ text fits. subst (λ whole. HasSegmentCount whole (length segments.are_fixed.items) (length (segment_hashes 0 text))) (sym are.goes_on)
      (let (rest, read) = are_read text fits in enough_at_stop segments text are.as_many rest read);
  alike = λ text fits. let (rest, read) = are_read text fits in alike_at_stop segments text are.as_many rest read;
}

-- The path ends, and its last segment is added unless there is no room for it.
pub all_segments : (path : PathView) (segments more : PathSegments) (added : Bool) → AreOpen segments → IsTrue path.is_exact
    → AreReadTo path segments [] → (IsTrue added → AddsSegment segments more) → (¬ IsTrue added → more ≡ segments)
    → AreSegmentsOf path (record more { is_exact = added })
all_segments path segments more true are whole are_read adds full =
    let is = adds refl in
    let ends : (text : List ℕ) → FitsPath path text → IsReadTo segments text [] =
    λ text fits. (let (rest, read, none) = are_read text fits in subst (IsReadTo segments text) (none whole) read) in
    record {
      few = is.are_open.few;
      as_many = is.are_open.as_many;
      enough = λ text fits. enough_at_end segments text are.as_many more is (ends text fits);
      alike = λ text fits. alike_at_end segments text are.as_many more is (ends text fits);
    }
all_segments path segments more false are whole are_read adds full =
    subst (λ (s : PathSegments). AreSegmentsOf path (record s { is_exact = false })) (sym (full (λ is. true≢false (sym is))))
    (subst (λ (b : Bool). AreSegmentsOf path (record segments { is_exact = b })) are.goes_on
    (left_segments path segments are (λ text fits. let (rest, read, none) = are_read text fits in (rest, read))))
