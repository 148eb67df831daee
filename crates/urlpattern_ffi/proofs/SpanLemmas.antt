-- Lemmas on spans.
use Rattle.std.proofs.Common.{◌≡◌, ℕ, suc, ◌+◌, ◌<◌, ◌≤◌, ◌^◌, List, [], ◌∷◌, ◌++◌, Option, length, take, drop, get_or, ap, refl, sym, subst, inl, inr, ◌∙◌, arith, add-zero, add-one, add_assoc, append_assoc, length-append}
use Rattle.std.proofs.Math.Seq.{drop-cons}
use Rattle.std.proofs.lemmas.List.{append-nil, drop-drop, drop_at, take-append-drop, take_at, take_more, length-take-le, set_split}
use Rattle.std.proofs.lemmas.List.Concat.{flat_map-append}
use Rattle.std.specs.List.{flat_map}
use Rattle.std.specs.Prelude.{set, slice_get, Some}
use Rattle.urlpattern.specs.Patterns.{PatternView, pattern_view}
use Rattle.urlpattern_components.specs.declared.eight.ComponentName.{ComponentName}
use Rattle.urlpattern_ffi.specs.GroupSpans.{NumberedGroup, capture_bytes, numbered, numbered_groups, span_at, spans_from, texts_of_groups, AreCapturesReported, AreFirstCaptures, AreFirstGroupsOf, AreGroupsOf, AreWrittenAt, AreUrlCaptures, AreSpansWritten, ExceedSizes, IsWrittenAt}
use Rattle.urlpattern_ffi.specs.declared.spans.Sizes.{Sizes}
use Rattle.urlpattern_ffi.specs.declared.spans.GroupSpan.{GroupSpan}
use Rattle.urlpattern_ffi.specs.KeptPatterns.{PatternList}
use Rattle.urlpattern_ffi.specs.declared.status.Status.{Status}
use Rattle.urlpattern_ffi.specs.declared.status.Status.TheVariants as statuses
use Rattle.urlpattern_engine.specs.declared.pattern_regexp.PatternRegexp.{PatternRegexp}
use Rattle.urlpattern_pattern.specs.UrlPatterns.{UrlPattern}

-- ---- lists written one after the other

pub put_none : {A : Type 0} (at : ℕ) (old : List A) → IsWrittenAt at [] old old
put_none at old _ =
    sym (take-append-drop at old) ∙ ap (λ front. front ++ drop at old) (sym (append-nil (take at old)))
    ∙ ap (λ n. take at old ++ [] ++ drop n old) (sym (add-zero at))

pub put_empty : {A : Type 0} (at : ℕ) (added old : List A) → length added ≡ 0 → IsWrittenAt at added old old
put_empty at [] old none = put_none at old
put_empty at (x ∷ xs) old none = absurd (omega (arith, none))

pub put_one : {A : Type 0} (at : ℕ) (one : A) (old : List A) → at + 1 ≤ length old → set old at one ≡ take at old ++ one ∷ [] ++ drop (at + 1) old
put_one at one old fits =
    set_split old at one (omega (arith, fits)) ∙ ap (λ n. take at old ++ one ∷ drop n old) (sym (add-one at)) ∙ sym (append_assoc (take at old) (one ∷ []) (drop (at + 1) old))

pub put_more : {A : Type 0} (at next : ℕ) (xs ys old mid new : List A) → length mid ≡ length old → next ≡ at + length xs → IsWrittenAt at xs old mid → IsWrittenAt next ys mid new → IsWrittenAt at (xs ++ ys) old new
put_more at next xs ys old mid new same is_next first second fits =
    let both : at + length (xs ++ ys) ≡ next + length ys = ap (λ n. at + n) (length-append xs ys) ∙ sym (add_assoc at (length xs) (length ys)) ∙ ap (λ n. n + length ys) (sym is_next) in
    let room : next + length ys ≤ length old = subst (λ n. n ≤ length old) both fits in
    let front : length (take at old ++ xs) ≡ next = length-append (take at old) xs ∙ ap (λ n. n + length xs) (length-take-le at old (omega (arith, room, is_next))) ∙ sym is_next in
    let was : mid ≡ take at old ++ xs ++ drop next old = subst (λ n. mid ≡ take at old ++ xs ++ drop n old) (sym is_next) (first (omega (arith, room, is_next))) in
    let is : new ≡ take next mid ++ ys ++ drop (next + length ys) mid = second (subst (λ n. next + length ys ≤ n) (sym same) room) in
    let begins : take next mid ≡ take at old ++ xs = ap (take next) was ∙ take_at (take at old ++ xs) (drop next old) next front in
    let ends : drop (next + length ys) mid ≡ drop (next + length ys) old = sym (drop-drop (length ys) next mid) ∙ ap (λ rest. drop (length ys) (drop next rest)) was ∙ ap (drop (length ys)) (drop_at (take at old ++ xs) (drop next old) next front) ∙ drop-drop (length ys) next old in
    is ∙ ap (λ front. front ++ ys ++ drop (next + length ys) mid) begins ∙ ap (λ rest. take at old ++ xs ++ ys ++ rest) ends
    ∙ ap (λ front. front ++ drop (next + length ys) old) (append_assoc (take at old) xs ys) ∙ ap (λ n. take at old ++ (xs ++ ys) ++ drop n old) (sym both)

-- ---- groups written one after the other

pub spans-append : (start : ℕ) (xs ys : List NumberedGroup) → spans_from start (xs ++ ys) ≡ spans_from start xs ++ spans_from (start + length (texts_of_groups xs)) ys
spans-append start [] ys = ap (λ n. spans_from n ys) (sym (add-zero start))
spans-append start (group ∷ xs) ys =
    let bytes = capture_bytes group.2 in
    let next = start + length bytes in
    let begins : next + length (texts_of_groups xs) ≡ start + length (bytes ++ texts_of_groups xs) =
    add_assoc start (length bytes) (length (texts_of_groups xs)) ∙ ap (λ n. start + n) (sym (length-append bytes (texts_of_groups xs))) in
    ap (λ spans. span_at start group ∷ spans) (spans-append next xs ys ∙ ap (λ n. spans_from next xs ++ spans_from n ys) begins)

pub groups_none : (sizes : Sizes) (buffer : List ℕ) (spans : List GroupSpan) → AreWrittenAt [] sizes sizes buffer buffer spans spans
groups_none sizes buffer spans = record {
  bytes = sym (add-zero sizes.bytes);
  spans = sym (add-zero sizes.spans);
  texts_put = put_none sizes.bytes buffer;
  spans_put = put_none sizes.spans spans;
}

pub groups_more : (xs ys : List NumberedGroup) (a b c : Sizes) (old mid new : List ℕ) (old_spans mid_spans new_spans : List GroupSpan) → length mid ≡ length old → length mid_spans ≡ length old_spans
    → AreWrittenAt xs a b old mid old_spans mid_spans → AreWrittenAt ys b c mid new mid_spans new_spans → AreWrittenAt (xs ++ ys) a c old new old_spans new_spans
groups_more xs ys a b c old mid new old_spans mid_spans new_spans same same_spans first second =
    let text = texts_of_groups xs in
    let texts : texts_of_groups (xs ++ ys) ≡ text ++ texts_of_groups ys = flat_map-append (λ (group : NumberedGroup). capture_bytes group.2) xs ys in
    let moved : spans_from b.bytes ys ≡ spans_from (a.bytes + length text) ys = ap (λ n. spans_from n ys) first.bytes in
    let all : spans_from a.bytes (xs ++ ys) ≡ spans_from a.bytes xs ++ spans_from b.bytes ys = spans-append a.bytes xs ys ∙ ap (λ more. spans_from a.bytes xs ++ more) (sym moved) in
    record {
      bytes = second.bytes ∙ ap (λ n. n + length (texts_of_groups ys)) first.bytes ∙ add_assoc a.bytes (length text) (length (texts_of_groups ys)) ∙ ap (λ n. a.bytes + n) (sym (length-append text (texts_of_groups ys)) ∙ ap length (sym texts));
      spans = second.spans ∙ ap (λ n. n + length (spans_from b.bytes ys)) first.spans ∙ add_assoc a.spans (length (spans_from a.bytes xs)) (length (spans_from b.bytes ys))
          ∙ ap (λ n. a.spans + n) (sym (length-append (spans_from a.bytes xs) (spans_from b.bytes ys)) ∙ ap length (sym all));
      texts_put = subst (λ added. IsWrittenAt a.bytes added old new) (sym texts) (put_more a.bytes b.bytes text (texts_of_groups ys) old mid new same first.bytes first.texts_put second.texts_put);
      spans_put = subst (λ added. IsWrittenAt a.spans added old_spans new_spans) (sym all) (put_more a.spans b.spans (spans_from a.bytes xs) (spans_from b.bytes ys) old_spans mid_spans new_spans same_spans first.spans first.spans_put second.spans_put);
    }

-- ---- sizes that no size can say

spans-length : (start : ℕ) (groups : List NumberedGroup) → length (spans_from start groups) ≡ length groups
spans-length start [] = refl
spans-length start (group ∷ groups) = ap suc (spans-length (start + length (capture_bytes group.2)) groups)

pub bytes_exceed : (component : ComponentName) (group : ℕ) (capture : Option (List ℕ)) (from : Sizes) → 2 ^ 64 ≤ from.bytes + length (capture_bytes capture) → ExceedSizes from ((component, group, capture) ∷ [])
bytes_exceed component group capture from many = inl (subst (λ text. 2 ^ 64 ≤ from.bytes + length text) (sym (append-nil (capture_bytes capture))) many)

pub spans_exceed : (component : ComponentName) (group : ℕ) (capture : Option (List ℕ)) (from : Sizes) → 2 ^ 64 ≤ from.spans + 1 → ExceedSizes from ((component, group, capture) ∷ [])
spans_exceed component group capture from many = inr many

-- Groups that exceed sizes do so among others.
pub groups_exceed : (xs ys zs : List NumberedGroup) (a b : Sizes) (old new : List ℕ) (old_spans new_spans : List GroupSpan) → AreWrittenAt xs a b old new old_spans new_spans → ExceedSizes b ys → ExceedSizes a (xs ++ (ys ++ zs))
groups_exceed xs ys zs a b old new old_spans new_spans put exceed = elim exceed [
  | inl many ↦
      let text = λ (group : NumberedGroup). capture_bytes group.2 in
      let all : length (texts_of_groups (xs ++ (ys ++ zs))) ≡ length (texts_of_groups xs) + (length (texts_of_groups ys) + length (texts_of_groups zs)) =
      ap length (flat_map-append text xs (ys ++ zs)) ∙ length-append (texts_of_groups xs) (texts_of_groups (ys ++ zs))
      ∙ ap (λ n. length (texts_of_groups xs) + n) (ap length (flat_map-append text ys zs) ∙ length-append (texts_of_groups ys) (texts_of_groups zs)) in
      inl (omega (arith, many, put.bytes, all))
  | inr many ↦
      let all : length (xs ++ (ys ++ zs)) ≡ length xs + (length ys + length zs) = length-append xs (ys ++ zs) ∙ ap (λ n. length xs + n) (length-append ys zs) in
      let before : b.spans ≡ a.spans + length xs = put.spans ∙ ap (λ n. a.spans + n) (spans-length a.bytes xs) in
      inr (omega (arith, many, before, all))
]

-- The groups of the components are those of one, between those before it and those after it.
pub component_among : (groups : ComponentName → List (List ℕ × Option (List ℕ))) (names : List ComponentName) (i : ℕ) (d : ComponentName) → i < length names
    → numbered_groups groups names ≡ numbered_groups groups (take i names) ++ (numbered (get_or names i d) 0 (groups (get_or names i d)) ++ numbered_groups groups (drop (i + 1) names))
component_among groups names i d within =
    let one = λ (name : ComponentName). numbered name 0 (groups name) in
    ap (flat_map one) (sym (take-append-drop i names)) ∙ flat_map-append one (take i names) (drop i names)
    ∙ ap (λ more. numbered_groups groups (take i names) ++ flat_map one more) (drop-cons names i d within ∙ ap (λ n. get_or names i d ∷ drop n names) (sym (add-one i)))

-- A component is appended.
pub component_more : (groups : ComponentName → List (List ℕ × Option (List ℕ))) (names : List ComponentName) (i : ℕ) (d : ComponentName) → i < length names
    → numbered_groups groups (take (i + 1) names) ≡ numbered_groups groups (take i names) ++ numbered (get_or names i d) 0 (groups (get_or names i d))
component_more groups names i d within =
    let one = λ (name : ComponentName). numbered name 0 (groups name) in
    ap (flat_map one) (take_more names i d within) ∙ flat_map-append one (take i names) (get_or names i d ∷ [])
    ∙ ap (λ more. numbered_groups groups (take i names) ++ more) (append-nil (one (get_or names i d)))

-- ---- outcomes

pub url_captured : (pattern : PatternView PatternRegexp) (url base : List ℕ) (groups : List NumberedGroup) (old new : List ℕ) (old_spans new_spans : List GroupSpan) (needed : Sizes) (status : Status)
    → AreGroupsOf pattern url base groups → AreSpansWritten groups old new old_spans new_spans needed status → AreUrlCaptures pattern url base old new old_spans new_spans needed status
url_captured pattern url base groups old new old_spans new_spans needed statuses.Done are written = (groups, are, written)
url_captured pattern url base groups old new old_spans new_spans needed statuses.OutOfMemory are written = inr (groups, are, written)
url_captured pattern url base groups old new old_spans new_spans needed statuses.TooSmall are written = (groups, are, written)
url_captured pattern url base groups old new old_spans new_spans needed status are written = absurd written

pub captured : (patterns : PatternList) (index : ℕ) (pattern : UrlPattern PatternRegexp) (url base old new : List ℕ) (old_spans new_spans : List GroupSpan) (needed : Sizes) (status : Status)
    → slice_get patterns index ≡ Some pattern → AreUrlCaptures (pattern_view pattern) url base old new old_spans new_spans needed status
    → AreCapturesReported patterns index url base old new old_spans new_spans needed status
captured patterns index pattern url base old new old_spans new_spans needed statuses.NoPattern is answer = absurd answer.0
captured patterns index pattern url base old new old_spans new_spans needed status is answer = (pattern, is, answer)

pub first_captured : (patterns : PatternList) (url base : List ℕ) (old_index index : ℕ) (groups : List NumberedGroup) (old new : List ℕ) (old_spans new_spans : List GroupSpan) (needed : Sizes) (status : Status)
    → AreFirstGroupsOf patterns url base index groups → AreSpansWritten groups old new old_spans new_spans needed status
    → AreFirstCaptures patterns url base old_index index old new old_spans new_spans needed status
first_captured patterns url base old_index index groups old new old_spans new_spans needed statuses.Done are written = (groups, are, written)
first_captured patterns url base old_index index groups old new old_spans new_spans needed statuses.OutOfMemory are written = inr (groups, are, written)
first_captured patterns url base old_index index groups old new old_spans new_spans needed statuses.TooSmall are written = (groups, are, written)
first_captured patterns url base old_index index groups old new old_spans new_spans needed status are written = absurd written
