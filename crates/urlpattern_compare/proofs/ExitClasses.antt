-- Classes of characters that lead by exits to the same sets of states.
use Rattle.std.proofs.Common.{◌≡◌, ◌≢◌, ◌∙◌, ℕ, ◌+◌, ◌<◌, ◌≤◌, ◌⊎◌, Bool, true, false, List, [], ◌∷◌, ◌++◌, ap, ap₂, arith, eqb, get_or, if◌then◌else◌, inl, inr, le-leb, lt-ltb, refl, replicate, subst, sym, true≢false, Result, Ok, Err, OnOk}
use Rattle.std.proofs.lemmas.Bool.{cases_lt, cond-true, lt-leb}
use Rattle.std.proofs.lemmas.List.Elements.{All-contains, All-head, All-tail, All-weaker, Contains-append_left, Contains-push}
use Rattle.std.proofs.lemmas.List.Kept.{Contains-dedup_nat}
use Rattle.std.proofs.lemmas.List.Sorted.{Contains-permutation}
use Rattle.std.specs.Char.{IsScalar}
use Rattle.std.specs.List.{All, Contains, dedup}
use Rattle.std.specs.List.Sorted.{IsPermutation}
use Rattle.std.specs.Prelude.{◌&&◌, nat_le, nat_lt, not, slice_set}
use Rattle.regex_hir.proofs.Utf8Lemmas.{InScalarRange-of_IsScalar}
use Rattle.urlpattern_compare.proofs.CharacterClasses.{among_contains, unlike, unlike_same}
use Rattle.urlpattern_compare.proofs.NamedCharacters.{names_within, not_named, same_case}
use Rattle.urlpattern_compare.proofs.StateSets.{contains_cons, contains_head, contains_tail}
use Rattle.urlpattern_compare.specs.Automata.{passes}
use Rattle.urlpattern_compare.specs.Exits.{AreClasses, AreKeptIn, HasAlike, HasBreaks, HasBreaksOf, HasFree, HasNames, HasNamesOf, code_after, joint_moved_by, with_ends}
use Rattle.urlpattern_compare.specs.declared.exits.Exits.{Exits}
use Rattle.urlpattern_compare.specs.declared.parts_automaton.Edge.{Edge}
use Rattle.urlpattern_compare.specs.declared.parts_automaton.Test.{Test}
use Rattle.urlpattern_compare.specs.declared.parts_automaton.Test.TheVariants.{Only, AnyBut, Within}
use Rattle.urlpattern_meaning.specs.Matching.{folded_character}
use Rattle.urlpattern_syntax.specs.Text.{is_among, line_feed}

-- ---- ranges

-- The two characters pass the test alike, if it is one of ranges.
abbrev AgreeBy : Test → (c other : ℕ) → Type 0
AgreeBy (Within first last) c other = passes (Within first last) c ≡ passes (Within first last) other
AgreeBy test c other = Unit {0}

-- The two characters pass the test alike, in lower case if case is ignored.
alike_by : (ignore_case : Bool) (marks : List ℕ) (test : Test) (c other : ℕ) → is_among marks c ≡ false → is_among marks other ≡ false → HasNames ignore_case marks test → AgreeBy test c other →
    passes test (folded_character ignore_case c) ≡ passes test (folded_character ignore_case other)
alike_by ignore_case marks (Only d) c other free other_free has agree =
    unlike_same d (folded_character ignore_case c) (folded_character ignore_case other) (not_named ignore_case marks c d free has) (not_named ignore_case marks other d other_free has)
alike_by ignore_case marks (AnyBut d) c other free other_free has agree =
    ap not (unlike_same d (folded_character ignore_case c) (folded_character ignore_case other) (not_named ignore_case marks c d free has) (not_named ignore_case marks other d other_free has))
alike_by ignore_case marks (Within first last) c other free other_free has agree =
    ap (passes (Within first last)) (same_case ignore_case marks c first last free has) ∙ agree ∙ sym (ap (passes (Within first last)) (same_case ignore_case marks other first last other_free has))

-- More breaks have those of a test too.
pub breaks_within : (breaks more : List ℕ) (test : Test) → AreKeptIn breaks more → HasBreaks breaks test → HasBreaks more test
breaks_within breaks more (Only c) within has = tt
breaks_within breaks more (AnyBut c) within has = tt
breaks_within breaks more (Within first last) within (zero, start, next) = (within 0 zero, within first start, within (code_after last) next)

-- `found` is the greatest of `classes` that is not among the marks and at most the character.
record IsLastFree (marks classes : List ℕ) (c found : ℕ) : Type 0 where
  has : Contains classes found
  free : is_among marks found ≡ false
  below : found ≤ c
  last : (other : ℕ) → Contains classes other → is_among marks other ≡ false → other ≤ c → other ≤ found

-- None of `classes` that is not among the marks is at most the character.
abbrev HasNoFree : (marks classes : List ℕ) → (c : ℕ) → Type 0
HasNoFree marks classes c = (other : ℕ) → Contains classes other → is_among marks other ≡ false → other ≤ c → ⊥

last_free : (marks classes : List ℕ) (c : ℕ) → ((found : ℕ) × IsLastFree marks classes c found) ⊎ HasNoFree marks classes c
last_free marks [] c = inr (λ other (k, lt, e) free le. omega arith)
last_free marks (d ∷ classes) c = cases (is_among marks d) refl (cases_lt c d) (last_free marks classes c)
  where
    skip : ((is_among marks d ≡ false) → d ≤ c → ⊥) → ((found : ℕ) × IsLastFree marks classes c found) ⊎ HasNoFree marks classes c → ((found : ℕ) × IsLastFree marks (d ∷ classes) c found) ⊎ HasNoFree marks (d ∷ classes) c
    skip unfit (inl (found, is)) = inl (
      found,
      record {
        has = contains_tail d found classes is.has;
        free = is.free;
        below = is.below;
        last = λ other has free le. elim (contains_cons d other classes has) [
          | inl e ↦ absurd (unfit (subst (λ x. is_among marks x ≡ false) (sym e) free) (omega arith))
          | inr later ↦ is.last other later free le
        ];
      },
    )
    skip unfit (inr none) = inr (λ other has free le. elim (contains_cons d other classes has) [
      | inl e ↦ unfit (subst (λ x. is_among marks x ≡ false) (sym e) free) (omega arith)
      | inr later ↦ none other later free le
    ])

    better : is_among marks d ≡ false → d ≤ c → ((found : ℕ) × IsLastFree marks classes c found) ⊎ HasNoFree marks classes c → ((found : ℕ) × IsLastFree marks (d ∷ classes) c found) ⊎ HasNoFree marks (d ∷ classes) c
    better free le (inr none) = inl (
      d,
      record {
        has = contains_head d classes;
        free = free;
        below = le;
        last = λ other has other_free other_le. elim (contains_cons d other classes has) [
          | inl e ↦ omega arith
          | inr later ↦ absurd (none other later other_free other_le)
        ];
      },
    )
    better free le (inl (found, is)) = elim (cases_lt found d) [
      | inl less ↦ inl (
        d,
        record {
          has = contains_head d classes;
          free = free;
          below = le;
          last = λ other has other_free other_le. elim (contains_cons d other classes has) [
            | inl e ↦ omega arith
            | inr later ↦ let under = is.last other later other_free other_le in omega arith
          ];
        },
      )
      | inr more ↦ inl (
        found,
        record {
          has = contains_tail d found classes is.has;
          free = is.free;
          below = is.below;
          last = λ other has other_free other_le. elim (contains_cons d other classes has) [
            | inl e ↦ omega arith
            | inr later ↦ is.last other later other_free other_le
          ];
        },
      )
    ]

    cases : (b : Bool) → is_among marks d ≡ b → (c < d) ⊎ (d ≤ c) → ((found : ℕ) × IsLastFree marks classes c found) ⊎ HasNoFree marks classes c → ((found : ℕ) × IsLastFree marks (d ∷ classes) c found) ⊎ HasNoFree marks (d ∷ classes) c
    cases true e order rest = skip (λ free le. let never = sym e ∙ free in cc) rest
    cases false e (inl less) rest = skip (λ free le. omega arith) rest
    cases false e (inr le) rest = better e le rest

same_order : (a b c d : ℕ) → (a ≤ b → c ≤ d) → (c ≤ d → a ≤ b) → nat_le a b ≡ nat_le c d
same_order a b c d to from = by (cases_lt b a) (cases_lt d c)
  where
    by : (b < a) ⊎ (a ≤ b) → (d < c) ⊎ (c ≤ d) → nat_le a b ≡ nat_le c d
    by (inl more) (inl other) = lt-leb a b more ∙ sym (lt-leb c d other)
    by (inl more) (inr under) = let le = from under in absurd (omega arith)
    by (inr under) (inl more) = let le = to under in absurd (omega arith)
    by (inr under) (inr other) = le-leb a b under ∙ sym (le-leb c d other)

-- The last free character passes a test of ranges as the character does.
range_agrees : (first last c found : ℕ) → (first ≤ c → first ≤ found) → found ≤ c → (last < c → last < found) → passes (Within first last) found ≡ passes (Within first last) c
range_agrees first last c found from le to =
    ap₂ ◌&&◌ (same_order first found first c (λ h. omega (arith, h, le)) from) (same_order found last c last (λ h. up h (cases_lt last c)) (λ h. omega (arith, h, le)))
  where
    up : found ≤ last → (last < c) ⊎ (c ≤ last) → c ≤ last
    up h (inl lt) = let more = to lt in absurd (omega arith)
    up h (inr under) = under

code_next : (last c : ℕ) → c ≤ 0x10_FFFF → last < c → code_after last ≡ last + 1
code_next last c high lt = cond-true (nat_lt last 0x10_FFFF) (last + 1) 0 (lt-ltb last 0x10_FFFF (omega arith))

agree_by : (marks classes breaks : List ℕ) (c found : ℕ) (test : Test) → IsScalar c → is_among marks c ≡ false → IsLastFree marks classes c found → All (HasFree marks classes) breaks → HasBreaks breaks test → AgreeBy test found c
agree_by marks classes breaks c found (Only d) scalar free is frees has = tt
agree_by marks classes breaks c found (AnyBut d) scalar free is frees has = tt
agree_by marks classes breaks c found (Within first last) scalar free is frees (zero, start, next) =
    let high : c ≤ 0x10_FFFF = omega (arith, InScalarRange-of_IsScalar c scalar) in
    let from_code : (code : ℕ) → Contains breaks code → code ≤ c → code ≤ found = λ code there le.
    let (other, other_has, other_free, other_from, other_le) = All-contains (HasFree marks classes) breaks code frees there c scalar free le in
    let under = is.last other other_has other_free other_le in omega arith in
    range_agrees first last c found (from_code first start) is.below
    (λ lt.
    let after = code_next last c high lt in
    let least = from_code (code_after last) next (omega arith) in
    omega arith)

-- Without a free character up to the character, no test of ranges has codes.
none_agree : (marks classes breaks : List ℕ) (c other : ℕ) (test : Test) → IsScalar c → is_among marks c ≡ false → HasNoFree marks classes c → All (HasFree marks classes) breaks → HasBreaks breaks test → AgreeBy test other c
none_agree marks classes breaks c other (Only d) scalar free none frees has = tt
none_agree marks classes breaks c other (AnyBut d) scalar free none frees has = tt
none_agree marks classes breaks c other (Within first last) scalar free none frees (zero, start, next) =
    let (it, it_has, it_free, it_from, it_le) = All-contains (HasFree marks classes) breaks 0 frees zero c scalar free (omega arith) in
    absurd (none it it_has it_free it_le)

-- A free character from a code on, among more characters.
pub free_more : (marks classes more : List ℕ) → ((c : ℕ) → Contains classes c → Contains more c) → (code : ℕ) → HasFree marks classes code → HasFree marks more code
free_more marks classes more within code frees c scalar free le = let (it, has, it_free, from, under) = frees c scalar free le in (it, within it has, it_free, from, under)

-- The first free character from a code on.
free_found : (marks classes : List ℕ) (code it : ℕ) → Contains classes it → is_among marks it ≡ false → code ≤ it → ((d : ℕ) → IsScalar d → code ≤ d → d < it → is_among marks d ≡ true) → HasFree marks classes code
free_found marks classes code it has it_free from least c scalar free le = elim (cases_lt c it) [
  | inl less ↦ absurd (true≢false (sym (least c scalar le less) ∙ free))
  | inr under ↦ (it, has, it_free, from, under)
]

-- The first free character from a code on, if memory did not run out.
pub free_found_if : {T E : Type 0} (result : Result T E) (named classes : List ℕ) (code it : ℕ) → OnOk result (Contains classes it) → is_among named it ≡ false → code ≤ it →
    ((d : ℕ) → IsScalar d → code ≤ d → d < it → is_among named d ≡ true) → OnOk result (HasFree named classes code)
free_found_if (Ok done) named classes code it has free from least = free_found named classes code it has free from least
free_found_if (Err lack) named classes code it has free from least = tt

-- From a code on, no character is free.
pub free_none : (marks classes : List ℕ) (code end : ℕ) → ((c : ℕ) → IsScalar c → code ≤ c → c < end → is_among marks c ≡ true) → 0x11_0000 ≤ end → HasFree marks classes code
free_none marks classes code end all whole c scalar free le =
    absurd (true≢false (sym (all c scalar le (omega (arith, InScalarRange-of_IsScalar c scalar))) ∙ free))

-- ---- exits

-- Characters that pass the tests of edges alike lead by them to the same states.
alike_ends : (ignore_case : Bool) (flags : List Bool) (c other : ℕ) (edges : List Edge) →
    All (λ edge. passes edge.test (folded_character ignore_case c) ≡ passes edge.test (folded_character ignore_case other)) edges →
    with_ends flags (folded_character ignore_case c) edges ≡ with_ends flags (folded_character ignore_case other) edges
alike_ends ignore_case flags c other [] alike = refl
alike_ends ignore_case flags c other (edge ∷ edges) alike =
    let P : Edge → Type 0 = λ it. passes it.test (folded_character ignore_case c) ≡ passes it.test (folded_character ignore_case other) in
    ap (λ b. with_ends (if b then slice_set flags edge.to true else flags) (folded_character ignore_case c) edges) (All-head P edge edges alike)
    ∙ alike_ends ignore_case (if passes edge.test (folded_character ignore_case other) then slice_set flags edge.to true else flags) c other edges (All-tail P edge edges alike)

-- Characters that are none of the marks, and pass tests of ranges alike, lead to the same sets.
joint_alike : (marks breaks : List ℕ) (c other : ℕ) → is_among marks c ≡ false → is_among marks other ≡ false → ((test : Test) → HasBreaks breaks test → AgreeBy test c other) →
    (exits : List Exits) → All (HasNamesOf marks) exits → All (HasBreaksOf breaks) exits → joint_moved_by exits c ≡ joint_moved_by exits other
joint_alike marks breaks c other free other_free agree [] names codes = refl
joint_alike marks breaks c other free other_free agree (own ∷ exits) names codes =
    let named = All-head (HasNamesOf marks) own exits names in
    let coded = All-head (HasBreaksOf breaks) own exits codes in
    ap₂ (λ (one rest : List Bool). one ++ rest)
    (alike_ends own.ignore_case (replicate own.states false) c other own.edges.items
    (λ k d lt. alike_by own.ignore_case marks (get_or own.edges.items k d).test c other free other_free (named k d lt) (agree (get_or own.edges.items k d).test (coded k d lt))))
    (joint_alike marks breaks c other free other_free agree exits (All-tail (HasNamesOf marks) own exits names) (All-tail (HasBreaksOf breaks) own exits codes))

-- ---- classes

-- The classes are the marks, another character that is none of them, and the free ones from each of
-- the codes on.
with_others : (marks classes breaks : List ℕ) (exits : List Exits) (other : ℕ) → is_among marks other ≡ false → Contains marks line_feed → All (HasNamesOf marks) exits →
    All (HasBreaksOf breaks) exits → AreKeptIn marks classes → Contains classes other → All (HasFree marks classes) breaks → AreClasses exits classes
with_others marks classes breaks exits other free feed names codes within has frees c scalar plain = by (is_among marks c) refl
  where
    by : (b : Bool) → is_among marks c ≡ b → HasAlike exits classes c
    by true e = (c, within c (among_contains marks c e), plain, refl)
    by false e = elim (last_free marks classes c) [
      | inl (found, is) ↦ (
        found,
        is.has,
        unlike marks found line_feed is.free feed,
        joint_alike marks breaks found c is.free e (λ test coded. agree_by marks classes breaks c found test scalar e is frees coded) exits names codes,
      )
      | inr none ↦ (
        other,
        has,
        unlike marks other line_feed free feed,
        joint_alike marks breaks other c free e (λ test coded. none_agree marks classes breaks c other test scalar e none frees coded) exits names codes,
      )
    ]

pub without_another : (marks : List ℕ) (exits : List Exits) → ((c : ℕ) → IsScalar c → is_among marks c ≡ true) → AreClasses exits marks
without_another marks exits all c scalar plain = (c, among_contains marks c (all c scalar), plain, refl)

-- Characters that are like those of classes.
pub classes_kept : (exits : List Exits) (classes kept : List ℕ) → AreClasses exits classes → ((c : ℕ) → Contains classes c → c ≢ line_feed → HasAlike exits kept c) → AreClasses exits kept
classes_kept exits classes kept are alike c scalar plain =
    let (one, has, other, same) = are c scalar plain in
    let (found, there, unlike_feed, e) = alike one has other in
    (found, there, unlike_feed, e ∙ same)

-- The classes that were made: the marks, another character, and the free ones from each of the
-- codes on.
pub classes_made : (exits : List Exits) (named breaks before classes : List ℕ) (other : ℕ) → Contains named line_feed → All (HasNamesOf named) exits → All (HasBreaksOf breaks) exits → is_among named other ≡ false →
    before ≡ named ++ other ∷ [] → AreKeptIn before classes → All (HasFree named classes) breaks → AreClasses exits classes
classes_made exits named breaks before classes other feed names codes free before_is within frees =
    with_others named classes breaks exits other free feed names codes
    (λ c has. within c (subst (λ l. Contains l c) (sym before_is) (Contains-append_left named (other ∷ []) c has)))
    (within other (subst (λ l. Contains l other) (sym before_is) (Contains-push named other))) frees

-- ---- loops

-- What is kept is kept after a further step.
pub kept_after : {T E : Type 0} (result : Result T E) (old mid new : List ℕ) → AreKeptIn old mid → OnOk result (AreKeptIn mid new) → OnOk result (AreKeptIn old new)
kept_after (Ok done) old mid new before after = λ x has. after x (before x has)
kept_after (Err lack) old mid new before after = tt

-- The codes of a range were added.
pub range_added : {T E : Type 0} (result : Result T E) (test : Test) (mid new : List ℕ) (first last : ℕ) → test ≡ Within first last → Contains mid 0 → Contains mid first → OnOk result (AreKeptIn mid new) →
    OnOk result (Contains new (code_after last)) → OnOk result (HasBreaks new test)
range_added (Ok done) test mid new first last e zero start kept next = subst (HasBreaks new) (sym e) (kept 0 zero, kept first start, next)
range_added (Err lack) test mid new first last e zero start kept next = tt

-- What is named stays named.
pub names_kept : (marks more : List ℕ) (exits : List Exits) → AreKeptIn marks more → All (HasNamesOf marks) exits → All (HasNamesOf more) exits
names_kept marks more exits kept all =
    All-weaker (HasNamesOf marks) (HasNamesOf more) (λ own has k d lt. names_within own.ignore_case marks more (get_or own.edges.items k d).test kept (has k d lt)) exits all

-- Breaks stay breaks.
pub breaks_kept : (breaks more : List ℕ) (exits : List Exits) → AreKeptIn breaks more → All (HasBreaksOf breaks) exits → All (HasBreaksOf more) exits
breaks_kept breaks more exits kept all =
    All-weaker (HasBreaksOf breaks) (HasBreaksOf more) (λ own has k d lt. breaks_within breaks more (get_or own.edges.items k d).test kept (has k d lt)) exits all

-- Breaks in another order, each once.
pub breaks_once : (breaks sorted once : List ℕ) (exits : List Exits) → IsPermutation breaks sorted → once ≡ dedup eqb sorted → All (HasBreaksOf breaks) exits → All (HasBreaksOf once) exits
breaks_once breaks sorted once exits same e all =
    breaks_kept breaks once exits (λ code has. subst (λ l. Contains l code) (sym e) (Contains-dedup_nat sorted code (Contains-permutation breaks sorted code same has))) all
