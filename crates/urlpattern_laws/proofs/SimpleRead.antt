-- The grammar of `regex` reads a simple expression as a pattern of characters, without a group that
-- captures.
use Rattle.std.proofs.Common.{◌≡◌, ℕ, zero, suc, ◌-◌, ◌*◌, ◌+◌, ◌^◌, Bool, true, false, not, ◌&&◌, ◌||◌, ◌==◌, nat_le, List, [], ◌∷◌, length, drop, Option, Some, None, if◌then◌else◌, codes, refl, sym, ap, ap₂, ◌∙◌, subst, eqb-true, true≢false, ⊎_elim}
use Rattle.std.proofs.lemmas.Bool.{and_from, and_parts, cases_Bool}
use Rattle.std.proofs.lemmas.List.Elements.{All-weaker}
use Rattle.std.proofs.lemmas.Option.{same_Some}
use Rattle.std.specs.Char.{is_ascii}
use Rattle.std.specs.Prelude.{IfSome, IsTrue}
use Rattle.regex_class.specs.Ranges.{bool_xor}
use Rattle.regex_hir.proofs.AttemptLemmas.{cond_some, is_some_and_parts, option_and_then_some}
use Rattle.regex_hir.specs.Meaning.{cat_all, alt_all, repeat}
use Rattle.regex_hir.specs.Re.{Re, byte_in, group}
use Rattle.regex_hir.specs.Text.{is_none_or}
use Rattle.regex_syntax.specs.Brackets.{Nested, join}
use Rattle.regex_syntax.specs.Grammar.{Names, Place, opens, atom, bounds, branches, counted_bounds, item, items, join_parts, opening, read, repetitions, rest_of_group, set_flags, upper_bound, with_repetitions}
use Rattle.regex_syntax.specs.Reading.{Text, ◌>>=◌, ◌>>◌, ◌∈◌, decimal, first, is_at, is_empty, skip}
use Rattle.urlpattern_engine.proofs.ItemsRead.{at_text}
use Rattle.urlpattern_expressions.specs.Expressions.{captures_nothing_by, config_for, is_self_contained_by}
use Rattle.urlpattern_expressions.specs.MatchedPartTexts.{AllCaptureNothingBy, AllStandAloneBy, CapturesNothingBy, IsSelfContainedBy}
use Rattle.urlpattern_expressions.specs.SimpleExpressions.{AreSimpleBy, HasSimpleExpressionBy, begins_uncaptured, has_simple_signs, is_escapable, is_simple_by, may_follow}
use Rattle.urlpattern_laws.proofs.LeftTexts.{Found, Leaves, Tail, decimal_tail, found_either, found_if, found_none, found_some, found_then, found_when, leaves_further, tail_all, tail_drop}
use Rattle.urlpattern_laws.proofs.SimpleAtoms.{Good, Reads, Ready, atom_reads, begins, good_alt, good_cat, good_empty, good_repeat, ready_behind, signs_behind}
use Rattle.urlpattern_syntax.specs.Parts.{PartView}
use Rattle.urlpattern_syntax.specs.Text.{is_among, lacks, line_feed}
use Rattle.urlpattern_syntax.specs.declared.parser.PartType.{PartType}
use Rattle.urlpattern_syntax.specs.declared.parser.PartType.TheVariants.{FixedText, Regexp, SegmentWildcard, FullWildcard}

-- ---- repetitions

true_of : (b : Bool) → not b ≡ false → b ≡ true
true_of true h = refl
true_of false h = absurd (true≢false h)

-- The expression goes on after the counts.
record Counted (found : Option (ℕ × Option ℕ × Text)) : Type 0 where
  holds : IfSome found (λ result. Ready result.2)

counted_test : (b : Bool) (x : Option (ℕ × Option ℕ × Text)) → (b ≡ true → Counted x) → Counted (b >> x)
counted_test true x h = h refl
counted_test false x h = record { holds = tt }

counted_either : (b : Bool) (x y : Option (ℕ × Option ℕ × Text)) → (b ≡ true → Counted x) → (b ≡ false → Counted y) → Counted (if b then x else y)
counted_either true x y h k = h refl
counted_either false x y h k = k refl

counted_then : {A : Type 0} (t : Text) (o : Option (A × Text)) (f : A × Text → Option (ℕ × Option ℕ × Text)) → Leaves t o → ((a : A) (rest : Text) → Tail t rest → Counted (f (a, rest))) → Counted (o >>= f)
counted_then t None f h k = record { holds = tt }
counted_then t (Some found) f h k = k found.0 found.1 h.holds

-- What is left after a closing brace.
behind_brace : (whole t : Text) → Ready whole → Tail whole t → is_at "}" t ≡ true → Ready (drop 1 t)
unfolding first
behind_brace whole [] ready is e = absurd (true≢false (sym e))
behind_brace whole (c ∷ t) ready is e = ready_behind 125 whole t refl ready (subst (λ (d : ℕ). Tail whole (d ∷ t)) (eqb-true c 125 e) is)

-- A question mark makes the operator lazy.
lazy_ready : (t : Text) → Ready t → Ready (if is_at "?" t then drop 1 t else t)
unfolding first
lazy_ready [] ready = ready
lazy_ready (c ∷ t) ready =
    ⊎_elim
    (λ (e : (c ∈ "?") ≡ true). rw e (ready_behind 63 (c ∷ t) t refl ready ([], ap (λ (d : ℕ). d ∷ t) (eqb-true c 63 e))))
    (λ (e : (c ∈ "?") ≡ false). rw e ready)
    (cases_Bool (c ∈ "?"))

reads_counted : (o : Option (ℕ × Option ℕ × Text)) (f : ℕ × Option ℕ × Text → Option (Nested Re × Text)) → Counted o → ((least : ℕ) (most : Option ℕ) (rest : Text) → Ready rest → Reads (f (least, most, rest))) → Reads (o >>= f)
reads_counted None f h k = found_none _
reads_counted (Some found) f h k = k found.0 found.1 found.2 h.holds

-- ---- groups and branches

-- A group opens with `(?:`.
group_begins : (t : Text) → begins_uncaptured t ≡ true → (rest : Text) × (t ≡ 63 ∷ 58 ∷ rest)
group_begins [] h = absurd (true≢false (sym h))
group_begins (c ∷ []) h = absurd (true≢false (sym h))
group_begins (c ∷ d ∷ rest) h =
    let both = and_parts (is_among (codes "?") c) (is_among (codes ":") d) h in
    (rest, ap₂ (λ (x y : ℕ). x ∷ y ∷ rest) (sym (mark_of 63 c both.0)) (sym (mark_of 58 d both.1)))
  where
    mark_of : (mark x : ℕ) → (mark == x || false) ≡ true → mark ≡ x
    mark_of mark x h = by (mark == x) refl h
      where
        by : (b : Bool) → (mark == x) ≡ b → (b || false) ≡ true → mark ≡ x
        by true e h = eqb-true mark x e
        by false e h = absurd (true≢false (sym h))

-- A branch goes on after a bar.
after_bar : (t : Text) → not (is_at "|" t) ≡ false → Ready t → Ready (drop 1 t)
unfolding first
after_bar [] e ready = ready
after_bar (c ∷ t) e ready = ready_behind 124 (c ∷ t) t refl ready ([], ap (λ (d : ℕ). d ∷ t) (eqb-true c 124 (true_of (c ∈ "|") e)))

-- A simple expression has no comment.
signs_lack : (before : ℕ) (t : Text) → has_simple_signs before t ≡ true → lacks 35 t ≡ true
signs_lack before [] h = refl
signs_lack before (c ∷ t) h =
    let both = and_parts (may_follow before c t) (has_simple_signs c t) h in
    and_from (not (c == 35)) (lacks 35 t) (by (c == 35) refl both.0) (signs_lack c t both.1)
  where
    by : (b : Bool) → (c == 35) ≡ b → may_follow before c t ≡ true → not b ≡ true
    by false e may = refl
    by true e may =
        let never : may_follow before 35 t ≡ false = no_sign (is_among (codes "\\") before) in
        absurd (true≢false (sym (subst (λ d. may_follow before d t ≡ true) (eqb-true c 35 e) may) ∙ never))
      where
        no_sign : (b : Bool) → (if b then is_escapable 35 else if is_among (codes "^") 35 then is_among (codes "[") before else if is_among (codes "(") 35 then begins_uncaptured t else is_ascii 35 && not (is_among (codes "$#") 35)) ≡ false
        no_sign true = refl
        no_sign false = refl

abbrev value_of : Nested Re → Re
value_of part = part.value

module _ (ignore_case : Bool) where
  -- ---- repetitions

  upper_tail : (least : ℕ) (t : Text) → Leaves t (upper_bound (config_for ignore_case) least t)
  unfolding upper_bound skip
  upper_tail least t =
      let after = drop 1 t in
      found_if _ (not (is_at "," t)) _ _ (found_some _ (Some least) _ (tail_all t))
      (found_if _ (is_at "}" after) _ _ (found_some _ None _ (tail_drop 1 t))
      (found_then _ _ (decimal false after) _ (leaves_further t after _ (tail_drop 1 t) (decimal_tail false after)) (λ most rest is. found_some _ (Some most) _ is)))

  counted_reads : (whole t : Text) → Ready whole → Tail whole t → Counted (counted_bounds (config_for ignore_case) t)
  unfolding counted_bounds skip
  counted_reads whole t ready is =
      counted_then whole _ _ (leaves_further whole t _ is (decimal_tail false t)) (λ least after inside.
      counted_then whole _ _ (leaves_further whole after _ inside (upper_tail least after)) (λ most close more.
      counted_test (is_at "}" close) _ (λ e. counted_test (is_none_or most (nat_le least)) _ (λ f. record { holds = behind_brace whole close ready more e }))))

  bounds_reads : (c : ℕ) (t : Text) → Ready (c ∷ t) → (c ∈ "?*+{") ≡ true → Counted (bounds (config_for ignore_case) (c ∷ t))
  unfolding bounds first skip
  bounds_reads c t ready mark =
      counted_either (c ∈ "?") _ _ (λ e. record { holds = ready_behind 63 (c ∷ t) t refl ready ([], ap (λ (d : ℕ). d ∷ t) (eqb-true c 63 e)) }) (λ e.
      counted_either (c ∈ "*") _ _ (λ f. record { holds = ready_behind 42 (c ∷ t) t refl ready ([], ap (λ (d : ℕ). d ∷ t) (eqb-true c 42 f)) }) (λ f.
      counted_either (c ∈ "+") _ _ (λ g. record { holds = ready_behind 43 (c ∷ t) t refl ready ([], ap (λ (d : ℕ). d ∷ t) (eqb-true c 43 g)) }) (λ g.
      counted_reads (c ∷ t) t ready (c ∷ [], refl))))

  repetitions_read : (n : ℕ) (sub : Nested Re) (t : Text) → Good sub.value → Ready t → Reads (repetitions (config_for ignore_case) n sub t)
  unfolding repetitions skip first
  repetitions_read zero sub t good ready = found_none _
  repetitions_read (suc n) sub [] good ready = found_some _ sub [] (good, ready)
  repetitions_read (suc n) sub (c ∷ t) good ready =
      found_either _ (not (c ∈ "?*+{")) _ _ (λ e. found_some _ sub (c ∷ t) (good, ready)) (λ e.
      reads_counted (bounds (config_for ignore_case) (c ∷ t)) _ (bounds_reads c t ready (true_of (c ∈ "?*+{") e)) (λ least most rest more.
      let greedy = not (bool_xor (is_at "?" rest) false) in
      repetitions_read n (record { value = repeat least most greedy sub.value; depth = sub.depth + 1 }) (if is_at "?" rest then drop 1 rest else rest) (good_repeat least most greedy sub.value good) (lazy_ready rest more)))

  -- ---- groups

  -- The place of the text, where no group is open that captures.
  abbrev place : Text → Place
  place t = at_text ignore_case (None ∷ []) t

  -- Good patterns are read, no group is opened that captures, and the expression goes on.
  abbrev ReadsAt : {A : Type 0} (re_of : A → Re) → Option (A × Place) → Type 0
  ReadsAt re_of found = Found (λ part end. Good (re_of part) × (end ≡ place end.text) × Ready end.text) found

  placed : (o : Option (Nested Re × Text)) → Reads o → ReadsAt value_of (o >>= λ (whole, rest). Some (whole, place rest))
  placed o h = found_then _ _ o _ h (λ part rest is. found_some _ part (place rest) (is.0, refl, is.1))

  with_reads : (sub : Nested Re) (t : Text) → Good sub.value → Ready t → ReadsAt value_of (with_repetitions sub (place t))
  unfolding with_repetitions
  with_reads sub t good ready = placed (repetitions (config_for ignore_case) (length t + 1) sub t) (repetitions_read (length t + 1) sub t good ready)

  group_opens : (rest : Text) → opening (place (40 ∷ 63 ∷ 58 ∷ rest)) ≡ Some (opens (λ re. re), place rest)
  unfolding opening first skip set_flags
  group_opens rest = refl

  module _ (inner : Place → Option (Nested Re × Place)) (inside : (t : Text) → Ready t → ReadsAt value_of (inner (place t))) where
    group_ends : (part : Nested Re) (t : Text) → Good part.value → Ready t → ReadsAt value_of (is_at ")" t >> with_repetitions (record { value = part.value; depth = part.depth + 1 }) (place (drop 1 t)))
    unfolding first
    group_ends part [] good ready = found_none _
    group_ends part (c ∷ t) good ready =
        found_when _ (c ∈ ")") _ (λ e. with_reads (record { value = part.value; depth = part.depth + 1 }) t good (ready_behind 41 (c ∷ t) t refl ready ([], ap (λ (d : ℕ). d ∷ t) (eqb-true c 41 e))))

    group_reads : (t : Text) → Ready t → ReadsAt value_of (rest_of_group inner (config_for ignore_case) (opens (λ re. re)) (place t))
    group_reads t ready =
        found_then _ _ (inner (place t)) _ (inside t ready) (λ part end is.
        subst (λ (p : Place). ReadsAt value_of (is_at ")" p.text >> with_repetitions (record { value = part.value; depth = part.depth + 1 }) (record p { config = (config_for ignore_case); text = drop 1 p.text }))) (sym is.1)
        (group_ends part end.text is.0 is.2))

    item_reads : (t : Text) → Ready t → ReadsAt value_of (item inner (place t))
    unfolding item first atom
    item_reads [] ready = found_none _
    item_reads (c ∷ t) ready =
        found_either _ (c ∈ "(") _ _
        (λ e.
        let ready_group : Ready (40 ∷ t) = subst (λ (d : ℕ). Ready (d ∷ t)) (eqb-true c 40 e) ready in
        let group = group_begins t (begins 40 t ready_group).0 in
        let signs : has_simple_signs 40 (63 ∷ 58 ∷ group.0) ≡ true = subst (λ (s : Text). has_simple_signs 40 s ≡ true) group.1 (begins 40 t ready_group).1 in
        let after : Ready group.0 = record { before = 58; signs = signs_behind 40 58 (63 ∷ []) group.0 signs; quiet = refl } in
        subst (λ (s : Text). ReadsAt value_of (opening (place s) >>= λ (how, p). rest_of_group inner (config_for ignore_case) how p)) (sym (ap₂ (λ (d : ℕ) (s : Text). d ∷ s) (eqb-true c 40 e) group.1))
        (rw (group_opens group.0) (group_reads group.0 after)))
        (λ e. found_then _ _ (atom (config_for ignore_case) (c ∷ t)) _ (atom_reads ignore_case c t e ready) (λ part rest is. with_reads part rest is.0 is.1))

  -- ---- branches

  joined : (f : List Re → Re) (o : Option (List (Nested Re) × Place)) → ReadsAt (λ parts. (join f parts).value) o → ReadsAt value_of (join_parts f o)
  unfolding join_parts
  joined f o h = found_then _ _ o _ h (λ parts end is. found_some _ (join f parts) end is)

  mutual
    unfolding items branches skip

    items_read : (n : ℕ) (t : Text) → Ready t → ReadsAt (λ parts. (join cat_all parts).value) (items n (place t))
    items_read zero t ready = found_none _
    items_read (suc n) t ready =
        found_if _ (is_empty t || is_at "|)" t) _ _ (found_some _ [] (place t) (good_empty, refl, ready))
        (found_then _ _ _ _ (item_reads (λ inside. join_parts alt_all (branches n inside)) (λ s more. joined alt_all (branches n (place s)) (branches_read n s more)) t ready) (λ part end is.
        subst (λ (p : Place). ReadsAt (λ parts. (join cat_all parts).value) (items n p >>= λ (parts, rest). Some (part ∷ parts, rest))) (sym is.1)
        (found_then _ _ (items n (place end.text)) _ (items_read n end.text is.2) (λ parts last more.
        found_some _ (part ∷ parts) last (good_cat part.value (join cat_all parts).value is.0 more.0, more.1, more.2)))))

    branches_read : (n : ℕ) (t : Text) → Ready t → ReadsAt (λ parts. (join alt_all parts).value) (branches n (place t))
    branches_read zero t ready = found_none _
    branches_read (suc n) t ready =
        found_then _ _ _ _ (joined cat_all (items n (place t)) (items_read n t ready)) (λ branch end is.
        subst (λ (p : Place). ReadsAt (λ parts. (join alt_all parts).value) (if not (is_at "|" p.text) then Some (branch ∷ [], p) else (branches n (record p { text = drop 1 p.text }) >>= λ (others, rest). Some (branch ∷ others, rest)))) (sym is.1)
        (found_either _ (not (is_at "|" end.text)) _ _
        (λ e. found_some _ (branch ∷ []) (place end.text) (good_alt branch.value (byte_in []) is.0 (record { plain = refl; silent = refl }), refl, is.2))
        (λ e. found_then _ _ (branches n (place (drop 1 end.text))) _ (branches_read n (drop 1 end.text) (after_bar end.text e is.2)) (λ others last more.
        found_some _ (branch ∷ others) last (good_alt branch.value (join alt_all others).value is.0 more.0, more.1, more.2)))))

  -- ---- expressions

  -- What is read of the expression by itself.
  record IsReadPlain (expression : List ℕ) : Type 0 where
    patterns : List (Nested Re)
    end : Place
    names : Names
    are_read : branches (2 * length expression + 2) (place expression) ≡ Some (patterns, end)
    is_read : read (config_for ignore_case) expression ≡ Some (join alt_all patterns, names)
    good : Good (join alt_all patterns).value
    is_place : end ≡ place end.text

  read_plain : (expression : List ℕ) → is_simple_by ignore_case expression ≡ true → IsReadPlain expression
  unfolding is_simple_by read join_parts
  read_plain expression h =
      let both = and_parts _ _ h in
      let found = is_some_and_parts (read (config_for ignore_case) expression) _ both.1 in
      let whole = option_and_then_some _ (join_parts alt_all (branches (2 * length expression + 2) (place expression))) found.0 found.1 in
      let parts = option_and_then_some _ (branches (2 * length expression + 2) (place expression)) whole.0 whole.1 in
      let ended = cond_some (is_empty whole.0.1.text) _ found.0 whole.2 in
      let joined_is : join alt_all parts.0.0 ≡ whole.0.0 = ap (λ (pair : Nested Re × Place). pair.0) (same_Some _ _ parts.2) in
      let same : whole.0.0 ≡ found.0.0 = ap (λ (result : Nested Re × Names). result.0) (same_Some _ _ ended.1) in
      let ready : Ready expression = record { before = line_feed; signs = both.0; quiet = refl } in
      let reads = subst (λ o. ReadsAt (λ parts. (join alt_all parts).value) o) parts.1 (branches_read (2 * length expression + 2) expression ready) in
      record {
        patterns = parts.0.0;
        end = parts.0.1;
        names = found.0.1;
        are_read = parts.1;
        is_read = found.1 ∙ ap (λ (tree : Nested Re). Some (tree, found.0.1)) (sym (joined_is ∙ same));
        good = reads.holds.0;
        is_place = reads.holds.1;
      }

  -- A simple expression stands alone, and captures nothing.
  pub simple_alone : (expression : List ℕ) → IsTrue (is_simple_by ignore_case expression) → IsTrue (is_self_contained_by ignore_case expression) × IsTrue (captures_nothing_by ignore_case expression)
  unfolding is_simple_by is_self_contained_by captures_nothing_by
  simple_alone expression h =
      let plain = read_plain expression h in
      let both = and_parts _ _ h in (
        and_from (lacks 35 expression) _ (signs_lack line_feed expression both.0) (rw plain.is_read plain.good.plain),
        rw (plain.are_read, plain.is_place) (and_from _ _ refl plain.good.silent),
      )

  -- ---- parts

  alone_by : (kind : PartType) (value : List ℕ) → HasSimpleExpressionBy ignore_case kind value → IsSelfContainedBy ignore_case kind value
  alone_by Regexp value simple = (simple_alone value simple).0
  alone_by FixedText value simple = tt
  alone_by SegmentWildcard value simple = tt
  alone_by FullWildcard value simple = tt

  silent_by : (kind : PartType) (value : List ℕ) → HasSimpleExpressionBy ignore_case kind value → CapturesNothingBy ignore_case kind value
  silent_by Regexp value simple = (simple_alone value simple).1
  silent_by FixedText value simple = tt
  silent_by SegmentWildcard value simple = tt
  silent_by FullWildcard value simple = tt

  -- Simple expressions stand alone, and capture nothing.
  pub simple_alone_by : (parts : List PartView) → AreSimpleBy ignore_case parts → AllStandAloneBy ignore_case parts
  simple_alone_by parts simple =
      All-weaker (λ part. HasSimpleExpressionBy ignore_case part.kind part.value) (λ part. IsSelfContainedBy ignore_case part.kind part.value) (λ part is. alone_by part.kind part.value is) parts simple

  pub simple_silent_by : (parts : List PartView) → AreSimpleBy ignore_case parts → AllCaptureNothingBy ignore_case parts
  simple_silent_by parts simple =
      All-weaker (λ part. HasSimpleExpressionBy ignore_case part.kind part.value) (λ part. CapturesNothingBy ignore_case part.kind part.value) (λ part is. silent_by part.kind part.value is) parts simple
