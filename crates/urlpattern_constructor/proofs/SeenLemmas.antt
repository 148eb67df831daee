-- Lemmas on the tokens that are seen: the depth from one token to the next, counts, and reading up
-- to the end of a section.
use Rattle.std.proofs.Common.{◌≡◌, ℕ, zero, suc, ◌+◌, ◌-◌, ◌<◌, ◌≤◌, ◌⊎◌, Bool, true, false, cond, not, ◌&&◌, ◌||◌, ◌==◌, Some, List, [], ◌∷◌, ◌++◌, get_or, refl, sym, ap, ◌∙◌, inl, inr, arith, zero-add}
use Rattle.std.proofs.lemmas.Bool.{and_from, both_ways, cases_eq, or_left, or_right}
use Rattle.std.proofs.lemmas.List.Edits.{between_more}
use Rattle.std.proofs.lemmas.List.Sums.{fold-append, sum_by-append}
use Rattle.std.proofs.lemmas.Option.{get_or_from_slice_get, slice_get_within}
use Rattle.std.specs.List.{count_by, fold, range_with_len, sum_by}
use Rattle.std.specs.Prelude.{codes, IsTrue, slice_get, slice_range}
use Rattle.urlpattern_constructor.specs.Split.{EndsAt, passes_at, count_seen, depth_before, depth_after, is_balanced, is_end, is_ending, is_open, is_seen, is_non_special_pattern_char, may_end}
use Rattle.urlpattern_constructor.specs.Splitting.{is_hostname}
use Rattle.urlpattern_constructor.specs.declared.sections.Section.{Section}
use Rattle.urlpattern_constructor.specs.declared.sections.Section.TheVariants.{Protocol, Authority, Username, Password, Hostname, Port, Pathname, Search, Hash}
use Rattle.urlpattern_constructor.proofs.TokenPlaces.{at_view}
use Rattle.urlpattern_syntax.specs.Tokens.{TokenView}
use Rattle.urlpattern_syntax.specs.declared.tokenizer.TokenType.{TokenType}
use Rattle.urlpattern_syntax.specs.declared.tokenizer.TokenType.TheVariants.{Open, Close}

-- ---- depth

-- The depth at `from` itself.
pub depth_here : (tokens : List TokenView) (from depth : ℕ) → depth_before tokens from depth from ≡ depth
depth_here tokens from depth =
    let none : from - from ≡ 0 = omega arith in
    rw none refl

-- The depth after the next token.
pub depth_more : (tokens : List TokenView) (from depth i : ℕ) (token : TokenView) → from ≤ i → slice_get tokens i ≡ Some token → depth_before tokens from depth (i + 1) ≡ depth_after token.kind (depth_before tokens from depth i)
depth_more tokens from depth i token after is =
    ap (fold (λ (reached : ℕ) (t : TokenView). depth_after t.kind reached) depth) (between_more tokens from i token after (slice_get_within tokens i token is))
    ∙ fold-append (λ (reached : ℕ) (t : TokenView). depth_after t.kind reached) depth (slice_range tokens from i) (get_or tokens i token ∷ [])
    ∙ ap (λ (t : TokenView). depth_after t.kind (depth_before tokens from depth i)) (get_or_from_slice_get tokens i token token is)

-- ---- seen

pub seen_of : (tokens : List TokenView) (from depth i : ℕ) (token : TokenView) → slice_get tokens i ≡ Some token → is_seen tokens from depth i ≡ (is_end token.kind || (not (is_open token.kind) && depth_before tokens from depth i == 0))
seen_of tokens from depth i token is = rw is refl

-- ---- counts

range_more : (a n : ℕ) → range_with_len a (suc n) ≡ range_with_len a n ++ (a + n) ∷ []
range_more a zero = let e : a ≡ a + 0 = omega arith in ap (λ x. x ∷ []) e
range_more a (suc n) =
    let e : a + 1 + n ≡ a + suc n = omega arith in
    ap (λ xs. a ∷ xs) (range_more (a + 1) n ∙ ap (λ x. range_with_len (a + 1) n ++ x ∷ []) e)

count_by_one : (p : ℕ → Bool) (xs : List ℕ) (x : ℕ) → count_by p (xs ++ x ∷ []) ≡ count_by p xs + cond (p x) 1 0
count_by_one p xs x = sum_by-append (λ (y : ℕ). cond (p y) 1 0) xs (x ∷ []) ∙ ap (λ n. count_by p xs + n) (one (cond (p x) 1 0))
  where
    one : (n : ℕ) → sum_by (λ (y : ℕ). n) (x ∷ []) ≡ n
    one n = zero-add n

-- The count after the next token.
pub count_more : (mark : List ℕ) (tokens : List TokenView) (from depth i : ℕ) → from ≤ i → count_seen mark tokens from depth (i + 1) ≡ count_seen mark tokens from depth i + cond (is_seen tokens from depth i && passes_at (is_non_special_pattern_char mark) tokens i) 1 0
count_more mark tokens from depth i after =
    let e : (i + 1) - from ≡ suc (i - from) = omega arith in
    let f : from + (i - from) ≡ i = omega arith in
    let p : ℕ → Bool = λ other. is_seen tokens from depth other && passes_at (is_non_special_pattern_char mark) tokens other in
    ap (λ n. count_by p (range_with_len from n)) e
    ∙ ap (count_by p) (range_more from (i - from))
    ∙ count_by_one p (range_with_len from (i - from)) (from + (i - from))
    ∙ ap (λ x. count_by p (range_with_len from (i - from)) + cond (p x) 1 0) f

-- ---- reading a section

-- The reading has reached `index`, and the section has not ended before it.
pub record HasNotEnded (section : Section) (tokens : List TokenView) (from depth index reached opened closed : ℕ) : Type 0 where
  pub after : from ≤ index
  pub depth_is : reached ≡ depth_before tokens from depth index
  pub none : (other : ℕ) → from ≤ other → other < index → ¬ IsTrue (may_end section tokens from depth other)
  pub opened_is : IsTrue (is_hostname section) → opened ≡ count_seen (codes "[") tokens from depth index
  pub closed_is : IsTrue (is_hostname section) → closed ≡ count_seen (codes "]") tokens from depth index

-- Outside of a hostname brackets do not matter.
ending_same : (section : Section) (b d : Bool) (tokens : List TokenView) (i : ℕ) → (IsTrue (is_hostname section) → b ≡ d) → is_ending section b tokens i ≡ is_ending section d tokens i
ending_same Protocol b d tokens i h = refl
ending_same Authority b d tokens i h = refl
ending_same Username b d tokens i h = refl
ending_same Password b d tokens i h = refl
ending_same Hostname b d tokens i h = ap (λ x. is_ending Hostname x tokens i) (h refl)
ending_same Port b d tokens i h = refl
ending_same Pathname b d tokens i h = refl
ending_same Search b d tokens i h = refl
ending_same Hash b d tokens i h = refl

-- The counts of the reading say whether brackets are balanced.
pub ending_of : (section : Section) (tokens : List TokenView) (from depth index reached opened closed : ℕ) → HasNotEnded section tokens from depth index reached opened closed → is_ending section (opened == closed) tokens index ≡ is_ending section (is_balanced tokens from depth index) tokens index
ending_of section tokens from depth index reached opened closed way =
    ending_same section (opened == closed) (is_balanced tokens from depth index) tokens index
    (λ h. ap (λ n. n == closed) (way.opened_is h) ∙ ap (λ n. count_seen (codes "[") tokens from depth index == n) (way.closed_is h))

-- The token at the index, if not End, is seen where it opens no group and the depth is zero.
pub walk_sees : (tokens : List TokenView) (from depth index reached : ℕ) (token : TokenView) → slice_get tokens index ≡ Some token → is_end token.kind ≡ false → reached ≡ depth_before tokens from depth index → is_seen tokens from depth index ≡ (not (is_open token.kind) && reached == 0)
walk_sees tokens from depth index reached token is goes depth_is =
    seen_of tokens from depth index token is
    ∙ ap (λ b. b || (not (is_open token.kind) && depth_before tokens from depth index == 0)) goes
    ∙ ap (λ n. not (is_open token.kind) && n == 0) (sym depth_is)

-- The section ends at End.
pub way_ends : (section : Section) (tokens : List TokenView) (from depth index reached opened closed : ℕ) (token : TokenView) → HasNotEnded section tokens from depth index reached opened closed → slice_get tokens index ≡ Some token → is_end token.kind ≡ true → EndsAt section tokens from depth index
way_ends section tokens from depth index reached opened closed token way is end = record {
  after = way.after;
  within = slice_get_within tokens index token is;
  stops = or_right _ _ (at_view (λ t. is_end t.kind) tokens index token is ∙ end);
  least = way.none;
}

-- The section ends at a sign that is seen.
pub way_stops : (section : Section) (tokens : List TokenView) (from depth index reached opened closed : ℕ) (token : TokenView) → HasNotEnded section tokens from depth index reached opened closed → slice_get tokens index ≡ Some token → is_end token.kind ≡ false → (not (is_open token.kind) && reached == 0) ≡ true → is_ending section (opened == closed) tokens index ≡ true → EndsAt section tokens from depth index
way_stops section tokens from depth index reached opened closed token way is goes seen ending = record {
  after = way.after;
  within = slice_get_within tokens index token is;
  stops = or_left _ _ (and_from _ _ (walk_sees tokens from depth index reached token is goes way.depth_is ∙ seen) (sym (ending_of section tokens from depth index reached opened closed way) ∙ ending));
  least = way.none;
}

-- The reading continues after a token.
pub way_goes : (section : Section) (tokens : List TokenView) (from depth index reached opened closed reached' opened' closed' : ℕ) (token : TokenView) → HasNotEnded section tokens from depth index reached opened closed → slice_get tokens index ≡ Some token → is_end token.kind ≡ false → ((not (is_open token.kind) && reached == 0) && is_ending section (opened == closed) tokens index) ≡ false → reached' ≡ depth_after token.kind reached → opened' ≡ opened + cond (is_hostname section && (not (is_open token.kind) && reached == 0) && passes_at (is_non_special_pattern_char (codes "[")) tokens index) 1 0 → closed' ≡ closed + cond (is_hostname section && (not (is_open token.kind) && reached == 0) && passes_at (is_non_special_pattern_char (codes "]")) tokens index) 1 0 → HasNotEnded section tokens from depth (index + 1) reached' opened' closed'
way_goes section tokens from depth index reached opened closed reached' opened' closed' token way is goes passes depth_more_is opened_more closed_more = record {
  after = let h = way.after in omega arith;
  depth_is = depth_more_is ∙ ap (depth_after token.kind) way.depth_is ∙ sym (depth_more tokens from depth index token way.after is);
  none = λ other after before. none_yet other after (cases_eq other index) before;
  opened_is = λ h. opened_more ∙ counted (codes "[") opened h (way.opened_is h);
  closed_is = λ h. closed_more ∙ counted (codes "]") closed h (way.closed_is h);
}
  where
    sees : is_seen tokens from depth index ≡ (not (is_open token.kind) && reached == 0)
    sees = walk_sees tokens from depth index reached token is goes way.depth_is

    not_here : may_end section tokens from depth index ≡ false
    not_here =
        ap (λ b. b && is_ending section (is_balanced tokens from depth index) tokens index) sees
        ∙ ap (λ b. (not (is_open token.kind) && reached == 0) && b) (sym (ending_of section tokens from depth index reached opened closed way))
        ∙ passes

    none_yet : (other : ℕ) → from ≤ other → (other ≡ index) ⊎ (other ≡ index → ⊥) → other < index + 1 → ¬ IsTrue (may_end section tokens from depth other)
    none_yet other after (inl e) before h = both_ways _ (ap (may_end section tokens from depth) e ∙ not_here) h
    none_yet other after (inr ne) before h = way.none other after (omega arith) h

    counted : (mark : List ℕ) (n : ℕ) → IsTrue (is_hostname section) → n ≡ count_seen mark tokens from depth index → n + cond (is_hostname section && (not (is_open token.kind) && reached == 0) && passes_at (is_non_special_pattern_char mark) tokens index) 1 0 ≡ count_seen mark tokens from depth (index + 1)
    counted mark n hostname so_far =
        ap (λ b. n + cond (b && (not (is_open token.kind) && reached == 0) && passes_at (is_non_special_pattern_char mark) tokens index) 1 0) hostname
        ∙ ap (λ b. n + cond (b && passes_at (is_non_special_pattern_char mark) tokens index) 1 0) (sym sees)
        ∙ ap (λ m. m + cond (is_seen tokens from depth index && passes_at (is_non_special_pattern_char mark) tokens index) 1 0) so_far
        ∙ sym (count_more mark tokens from depth index way.after)

-- A token adds at most one to the depth.
pub depth_after-bound : (kind : TokenType) (depth : ℕ) → depth_after kind depth ≤ depth + 1
depth_after-bound Open depth = omega arith
depth_after-bound Close depth = omega arith
depth_after-bound kind depth = omega arith

pub cond-bound : (b : Bool) → cond b 1 0 ≤ 1
cond-bound true = omega arith
cond-bound false = omega arith
