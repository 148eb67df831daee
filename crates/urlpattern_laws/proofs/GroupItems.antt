-- The regular expressions of fixed texts and of groups, with their modifiers, are read as items
-- that match exactly their copies.
use Rattle.std.proofs.Common.{Some, ◌≡◌, ◌↔◌, ◌⊎◌, inl, inr, ℕ, zero, suc, ◌≤◌, List, [], ◌∷◌, ◌++◌, Bool, true, false, refl, sym, ap, ◌∙◌, subst, append_assoc, append-nil, codes, arith}
use lib.Utf8.{scalars}
use Rattle.urlpattern_laws.proofs.Catching.{Only, Then, Whole}
use Rattle.urlpattern_laws.proofs.Denoting.{Texts, Joined, Quantified, AreSameTexts, quantified_same, repeated_same}
use Rattle.urlpattern_laws.proofs.GroupsOf.{IsInside, items_inside, captured_item, grouped_item}
use Rattle.urlpattern_laws.proofs.ItemsOf.{AreItemsOf, IsItemOf, append_items, same_items, quantified_items, once_items, perhaps_items, same_then, same_texts}
use Rattle.urlpattern_laws.proofs.PieceItems.{fixed_items}
use Rattle.urlpattern_laws.proofs.Senses.{Sense, SameSense, joined, joined_quiet, perhaps, quiet, quiet_same, whole}
use Rattle.urlpattern_expressions.specs.PartWays.{between_ways_as, copies_ways_as, exactly_as, fixed_ways_as, followed_by, several_ways_as}
use Rattle.urlpattern_engine.proofs.AtomsRead.{grammar_same}
use Rattle.urlpattern_meaning.specs.Ways.{WaysByText, quantified_ways}
use Rattle.urlpattern_meaning.specs.Dialect.{Optional, ZeroOrMore, OneOrMore}
use Rattle.urlpattern_meaning.specs.PartMeaning.{Allows, Captures}
use Rattle.urlpattern_meaning.proofs.Copies.{GroupMeans, IsBetween, IsCore, IsFurther, copies_core, core_copies, core_one, repeated_map}
use Rattle.urlpattern_meaning.proofs.PartTrees.{quantifier_of}
use Rattle.urlpattern_syntax.specs.Options.{OptionsView}
use Rattle.urlpattern_syntax.specs.declared.parser.PartModifier.{PartModifier}
use Rattle.urlpattern_syntax.specs.declared.parser.PartModifier.TheVariants as modifiers
use Rattle.urlpattern_syntax.specs.RegexpText.{affixed_regexp, bare_regexp, captured, escaped_regexp, fixed_regexp, grouped, repeated_regexp}
use Rattle.urlpattern_syntax.specs.Text.{IsRepeated}

-- ---- modifiers

-- As many copies as the modifier allows.
abbrev pub Counted : PartModifier → Texts → Texts
Counted modifier Is text = (count : ℕ) × Allows modifier count × IsRepeated Is count text

pub one_copy : (Is : Texts) (text : List ℕ) → IsRepeated Is 1 text ↔ Is text
one_copy Is text = (
  λ (first, rest, cut, is, none). subst Is (sym (cut ∙ ap (λ t. first ++ t) none ∙ append-nil first)) is,
  λ is. (text, [], sym (append-nil text), is, refl),
)

at_most_one : (Is : Texts) (n : ℕ) (text : List ℕ) → n ≤ 1 → IsRepeated Is n text → Is text ⊎ (text ≡ [])
at_most_one Is zero text few are = inr are
at_most_one Is (suc zero) text few are = inl ((one_copy Is text).0 are)
at_most_one Is (suc (suc n)) text few are = absurd (omega (arith, few))

some_copies : (Is : Texts) (n : ℕ) (text : List ℕ) → 1 ≤ n → IsRepeated Is n text → Quantified OneOrMore Is text
some_copies Is zero text some are = absurd (omega (arith, some))
some_copies Is (suc n) text some are = (n, are)

counted_same : (modifier : PartModifier) (Is : Texts) → AreSameTexts (Quantified (quantifier_of modifier) Is) (Counted modifier Is)
counted_same modifiers.None Is text good = (
  λ is. (1, refl, (one_copy Is text).1 is),
  λ (n, allowed, are). (one_copy Is text).0 (subst (λ k. IsRepeated Is k text) allowed are),
)
counted_same modifiers.Optional Is text good = (
  λ either. elim either [ inl is ↦ (1, omega arith, (one_copy Is text).1 is) | inr none ↦ (0, omega arith, none) ],
  λ (n, few, are). at_most_one Is n text few are,
)
counted_same modifiers.ZeroOrMore Is text good = (λ (n, are). (n, tt, are), λ (n, any, are). (n, are))
counted_same modifiers.OneOrMore Is text good = (λ (n, are). (suc n, omega arith, are), λ (n, some, are). some_copies Is n text some are)

-- ---- fixed texts

counted_quiet : (modifier : PartModifier) (K : Type 0) (Is : Texts) (ways : WaysByText) → SameSense (quiet K (Quantified (quantifier_of modifier) Is) ways) (quiet K (Counted modifier Is) ways)
counted_quiet modifier K Is ways = quiet_same K K _ _ ways (counted_same modifier Is) (λ k. k)

-- ---- groups

-- Without prefix and suffix a copy is a piece.
bare_same : (Is : Texts) → AreSameTexts Is (IsBetween Is [] [])
bare_same Is text good = (
  λ is. (text, sym (append-nil text), is),
  λ (piece, cut, is). subst Is (sym (cut ∙ append-nil piece)) is,
)

counted_copies : (modifier : PartModifier) (A B : Texts) → AreSameTexts A B → AreSameTexts (Counted modifier A) (Counted modifier B)
counted_copies modifier A B p text good = (
  λ (n, allowed, are). (n, allowed, (repeated_same A B p n text good).0 are),
  λ (n, allowed, are). (n, allowed, (repeated_same A B p n text good).1 are),
)

bare_counted : (modifier : PartModifier) (Is : Texts) → AreSameTexts (Quantified (quantifier_of modifier) Is) (Counted modifier (IsBetween Is [] []))
bare_counted modifier Is = same_then _ _ _ (counted_same modifier Is) (counted_copies modifier Is (IsBetween Is [] []) (bare_same Is))

-- Pieces, one after the other, are the core of a capture.
pieces_core : (Is : Texts) (n : ℕ) (text : List ℕ) → IsRepeated Is (suc n) text → IsCore Is [] [] n text
pieces_core Is n text (first, rest, e, is, more) = (first, rest, e, is, repeated_map Is (IsFurther Is [] []) (λ t is. (t, refl, is)) n rest more)

-- A single piece is captured whole.
one_whole : (Is : Texts) (modifier : PartModifier) → Allows modifier 1 → (text : List ℕ) (captures : Captures) → Whole (Only Is) text captures → GroupMeans Is true modifier [] [] text captures
one_whole Is modifier allowed text captures (inner, all, (is, none)) =
    inr (0, text, allowed, sym (append-nil text), core_one Is [] [] text is, all ∙ ap (λ c. Some text ∷ c) none)

-- The pieces of all copies are captured whole.
all_whole : (Is : Texts) (modifier : PartModifier) (n : ℕ) → Allows modifier (suc n) → (text : List ℕ) (captures : Captures) → IsRepeated Is (suc n) text → captures ≡ Some text ∷ [] → GroupMeans Is true modifier [] [] text captures
all_whole Is modifier n allowed text captures are all = inr (n, text, allowed, sym (append-nil text), pieces_core Is n text are, all)

-- ---- groups with prefix or suffix

-- A text that equals `given`.
abbrev pub Exactly : List ℕ → Texts
Exactly given text = text ≡ given

between_same : (Is : Texts) (prefix suffix : List ℕ) → AreSameTexts (Joined (Joined (Exactly prefix) Is) (Exactly suffix)) (IsBetween Is prefix suffix)
between_same Is prefix suffix text good = (
  λ (front, rest, cut, (given, piece, other, p, is), s). (piece, cut ∙ ap (λ t. front ++ t) s ∙ ap (λ t. t ++ suffix) (other ∙ ap (λ t. t ++ piece) p), is),
  λ (piece, cut, is). (prefix ++ piece, suffix, cut, (prefix, piece, refl, refl, is), refl),
)

further_same : (Is : Texts) (prefix suffix : List ℕ) → AreSameTexts (Joined (Joined (Exactly suffix) (Exactly prefix)) Is) (IsFurther Is prefix suffix)
further_same Is prefix suffix text good = (
  λ (front, piece, cut, (given, again, other, s, p), is). (piece, cut ∙ ap (λ t. t ++ piece) (other ∙ ap (λ t. t ++ again) s ∙ ap (λ t. suffix ++ t) p), is),
  λ (piece, cut, is). (suffix ++ prefix, piece, cut, (suffix, prefix, refl, refl, refl), is),
)

-- At least one piece, with suffix and prefix between pieces.
abbrev Several : Texts → (prefix suffix : List ℕ) → Texts
Several Is prefix suffix text = (n : ℕ) × IsCore Is prefix suffix n text

several_same : (Is : Texts) (prefix suffix : List ℕ) → AreSameTexts (Joined Is (Quantified ZeroOrMore (IsFurther Is prefix suffix))) (Several Is prefix suffix)
several_same Is prefix suffix text good = (
  λ (first, rest, cut, is, (n, more)). (n, (first, rest, cut, is, more)),
  λ (n, (first, rest, cut, is, more)). (first, rest, cut, is, (n, more)),
)

-- Copies are at least one piece between the first prefix and the last suffix.
copies_same : (Is : Texts) (prefix suffix : List ℕ) → AreSameTexts (IsBetween (Several Is prefix suffix) prefix suffix) (Quantified OneOrMore (IsBetween Is prefix suffix))
copies_same Is prefix suffix text good = (
  λ (core, cut, (n, is)). (n, core_copies Is prefix suffix n core text cut is),
  λ (n, are). let found = copies_core Is prefix suffix n text are in (found.0, found.1, (n, found.2)),
)

some_or_none : (Is : Texts) → AreSameTexts (Quantified Optional (Quantified OneOrMore Is)) (Quantified ZeroOrMore Is)
some_or_none Is text good = (
  λ either. elim either [ inl some ↦ (suc some.0, some.1) | inr none ↦ (zero, none) ],
  λ (n, are). by n are,
)
  where
    by : (n : ℕ) → IsRepeated Is n text → Quantified Optional (Quantified OneOrMore Is) text
    by zero ended = inr ended
    by (suc n) are = inl (n, are)

-- A capture between prefix and suffix.
abbrev Between : Texts → (prefix suffix : List ℕ) → Captures → Texts
Between Is prefix suffix captures text = (core : List ℕ) × (text ≡ prefix ++ core ++ suffix) × Is core × (captures ≡ Some core ∷ [])

between_caps : (Is : Texts) (prefix suffix text : List ℕ) (captures : Captures) → Then (Then (Only (Exactly prefix)) (Whole (Only Is))) (Only (Exactly suffix)) text captures → Between Is prefix suffix captures text
between_caps Is prefix suffix text captures (front, rest, most, last, cut, all, (given, piece, none, own, other, both, (p, no_prefix), (inner, mine, (is, no_inner))), (s, no_suffix)) = (
  piece,
  cut ∙ ap (λ t. front ++ t) s ∙ ap (λ t. t ++ suffix) (other ∙ ap (λ t. t ++ piece) p),
  is,
  all ∙ ap (λ (c : Captures). most ++ c) no_suffix ∙ append-nil most ∙ both ∙ ap (λ (c : Captures). c ++ own) no_prefix ∙ mine ∙ ap (λ (c : Captures). Some piece ∷ c) no_inner,
)

-- ---- with case ignored or kept

module _ (ignore_case : Bool) where
  pub fixed_part : (modifier : PartModifier) (text value : List ℕ) (K : Type 0) (Is : Texts) → AreItemsOf ignore_case text (quiet K Is (exactly_as (grammar_same ignore_case) value)) → AreItemsOf ignore_case (fixed_regexp modifier text) (quiet K (Counted modifier Is) (fixed_ways_as (grammar_same ignore_case) modifier value))
  fixed_part modifiers.None text value K Is a = same_items ignore_case _ _ _ (counted_quiet modifiers.None K Is (exactly_as (grammar_same ignore_case) value)) a
  fixed_part modifiers.Optional text value K Is a =
      same_items ignore_case _ _ _ (counted_quiet modifiers.Optional K Is (quantified_ways Optional 0 (exactly_as (grammar_same ignore_case) value))) (quantified_items ignore_case _ K Is (exactly_as (grammar_same ignore_case) value) Optional (grouped_item ignore_case text _ (items_inside ignore_case text _ a)))
  fixed_part modifiers.ZeroOrMore text value K Is a =
      same_items ignore_case _ _ _ (counted_quiet modifiers.ZeroOrMore K Is (quantified_ways ZeroOrMore 0 (exactly_as (grammar_same ignore_case) value))) (quantified_items ignore_case _ K Is (exactly_as (grammar_same ignore_case) value) ZeroOrMore (grouped_item ignore_case text _ (items_inside ignore_case text _ a)))
  fixed_part modifiers.OneOrMore text value K Is a =
      same_items ignore_case _ _ _ (counted_quiet modifiers.OneOrMore K Is (quantified_ways OneOrMore 0 (exactly_as (grammar_same ignore_case) value))) (quantified_items ignore_case _ K Is (exactly_as (grammar_same ignore_case) value) OneOrMore (grouped_item ignore_case text _ (items_inside ignore_case text _ a)))

  -- The sense of copies of a piece between prefix and suffix, with their capture.
  abbrev pub group_sense : (is_bare : Bool) → PartModifier → (prefix suffix : List ℕ) → (K : Type 0) → Texts → WaysByText → Sense
  group_sense is_bare modifier prefix suffix K Is piece = record {
    Is = Counted modifier (IsBetween Is prefix suffix);
    count = 1;
    Cap = GroupMeans Is is_bare modifier prefix suffix;
    Known = K;
    ways = copies_ways_as (grammar_same ignore_case) is_bare modifier prefix suffix piece;
  }

  one_more : (K : Type 0) (modifier : PartModifier) (is_bare : Bool) (prefix suffix : List ℕ) (s : Sense) (Is : Texts) (piece : WaysByText) → AreSameTexts s.Is (Counted modifier (IsBetween Is prefix suffix)) → 1 ≡ s.count
      → ((text : List ℕ) (captures : Captures) → scalars text ≡ true → s.Cap text captures → GroupMeans Is is_bare modifier prefix suffix text captures) → (K → s.Known)
      → s.ways ≡ copies_ways_as (grammar_same ignore_case) is_bare modifier prefix suffix piece → SameSense s (group_sense is_bare modifier prefix suffix K Is piece)
  one_more K modifier is_bare prefix suffix s Is piece texts count caps known ways = record { texts = texts; count = count; caps = caps; known = known; ways = ways }

  pub bare_group : (modifier : PartModifier) (text : List ℕ) (K : Type 0) (Is : Texts) (piece : WaysByText) → IsInside ignore_case text (quiet K Is piece) → AreItemsOf ignore_case (bare_regexp modifier text) (group_sense true modifier [] [] K Is piece)
  bare_group modifiers.None text K Is piece a =
      same_items ignore_case _ (whole (quiet K Is piece)) _ (one_more K modifiers.None true [] [] (whole (quiet K Is piece)) Is piece (bare_counted modifiers.None Is) refl (λ t c good is. one_whole Is modifiers.None refl t c is) (λ k. k) refl)
      (once_items ignore_case _ _ (captured_item ignore_case text _ a))
  bare_group modifiers.Optional text K Is piece a =
      same_items ignore_case _ (perhaps (whole (quiet K Is piece))) _
      (one_more K modifiers.Optional true [] [] (perhaps (whole (quiet K Is piece))) Is piece (bare_counted modifiers.Optional Is) refl (λ t c good is. elim is [
        | inl one ↦ one_whole Is modifiers.Optional (omega arith) t c one
        | inr none ↦ inl (omega arith, none.0, none.1)
      ]) (λ k. k) refl)
      (perhaps_items ignore_case _ _ (captured_item ignore_case text _ a))
  bare_group modifiers.ZeroOrMore text K Is piece a =
      same_items ignore_case _ (whole (quiet K (Quantified ZeroOrMore Is) (quantified_ways ZeroOrMore 0 piece))) _
      (one_more K modifiers.ZeroOrMore true [] [] (whole (quiet K (Quantified ZeroOrMore Is) (quantified_ways ZeroOrMore 0 piece))) Is piece (bare_counted modifiers.ZeroOrMore Is) refl (λ t c good is. any t c is) (λ k. k) refl)
      (once_items ignore_case _ _ (captured_item ignore_case _ _ (items_inside ignore_case _ _ (quantified_items ignore_case _ K Is piece ZeroOrMore (grouped_item ignore_case text _ a)))))
    where
      any : (t : List ℕ) (c : Captures) → Whole (Only (Quantified ZeroOrMore Is)) t c → GroupMeans Is true modifiers.ZeroOrMore [] [] t c
      any t c (inner, all, ((zero, ended), none)) = inl (tt, ended, all ∙ ap (λ (d : Captures). Some t ∷ d) none ∙ ap (λ w. Some w ∷ []) ended)
      any t c (inner, all, ((suc n, are), none)) = all_whole Is modifiers.ZeroOrMore n tt t c are (all ∙ ap (λ (d : Captures). Some t ∷ d) none)
  bare_group modifiers.OneOrMore text K Is piece a =
      same_items ignore_case _ (whole (quiet K (Quantified OneOrMore Is) (quantified_ways OneOrMore 0 piece))) _
      (one_more K modifiers.OneOrMore true [] [] (whole (quiet K (Quantified OneOrMore Is) (quantified_ways OneOrMore 0 piece))) Is piece (bare_counted modifiers.OneOrMore Is) refl
      (λ t c good (inner, all, ((n, are), none)). all_whole Is modifiers.OneOrMore n (omega arith) t c are (all ∙ ap (λ (d : Captures). Some t ∷ d) none)) (λ k. k) refl)
      (once_items ignore_case _ _ (captured_item ignore_case _ _ (items_inside ignore_case _ _ (quantified_items ignore_case _ K Is piece OneOrMore (grouped_item ignore_case text _ a)))))

  abbrev between_sense : (K : Type 0) → Texts → WaysByText → (prefix suffix : List ℕ) → Sense
  between_sense K Is core prefix suffix = record {
    Is = IsBetween Is prefix suffix;
    count = 1;
    Cap = λ text captures. Between Is prefix suffix captures text;
    Known = K;
    ways = between_ways_as (grammar_same ignore_case) prefix suffix core;
  }

  module _ (options : OptionsView) (prefix suffix : List ℕ) (good_prefix : scalars prefix ≡ true) (good_suffix : scalars suffix ≡ true) where
    abbrev before : List ℕ
    before = escaped_regexp options prefix

    abbrev after : List ℕ
    after = escaped_regexp options suffix

    -- A group between prefix and suffix.
    between_item : (text : List ℕ) (K : Type 0) (Is : Texts) (core : WaysByText) → IsInside ignore_case text (quiet K Is core) → IsItemOf ignore_case (grouped (before ++ captured text ++ after)) (between_sense K Is core prefix suffix)
    between_item text K Is core a =
        grouped_item ignore_case _ _ (items_inside ignore_case _ _ (same_items ignore_case _ _ (between_sense K Is core prefix suffix)
        (record { texts = between_same Is prefix suffix; count = omega arith; caps = λ t c good is. between_caps Is prefix suffix t c is; known = λ k. ((tt, k), tt); ways = refl })
        (append_items ignore_case (before ++ captured text) after _ _
        (append_items ignore_case before (captured text) _ _ (fixed_items ignore_case options prefix good_prefix) (once_items ignore_case _ _ (captured_item ignore_case text _ a)))
        (fixed_items ignore_case options suffix good_suffix))))

    -- Suffix and prefix, and then a piece.
    abbrev further_ways : WaysByText → WaysByText
    further_ways piece = followed_by (followed_by (exactly_as (grammar_same ignore_case) suffix) (exactly_as (grammar_same ignore_case) prefix)) piece

    further_item : (text : List ℕ) (K : Type 0) (Is : Texts) (piece : WaysByText) → IsInside ignore_case text (quiet K Is piece) → IsItemOf ignore_case (grouped (after ++ before ++ grouped text)) (quiet K (IsFurther Is prefix suffix) (further_ways piece))
    further_item text K Is piece a =
        grouped_item ignore_case _ _ (items_inside ignore_case _ _
        (same_items ignore_case _ _ _ (joined_quiet (Unit {0}) K K (Joined (Exactly suffix) (Exactly prefix)) Is (IsFurther Is prefix suffix) (followed_by (exactly_as (grammar_same ignore_case) suffix) (exactly_as (grammar_same ignore_case) prefix)) piece (further_same Is prefix suffix) (λ k. (tt, k)))
        (append_items ignore_case (after ++ before) (grouped text) _ _
        (same_items ignore_case _ _ _ (joined_quiet (Unit {0}) (Unit {0}) (Unit {0}) (Exactly suffix) (Exactly prefix) _ (exactly_as (grammar_same ignore_case) suffix) (exactly_as (grammar_same ignore_case) prefix) (same_texts (Joined (Exactly suffix) (Exactly prefix))) (λ k. (tt, tt)))
        (append_items ignore_case after before _ _ (fixed_items ignore_case options suffix good_suffix) (fixed_items ignore_case options prefix good_prefix)))
        (once_items ignore_case _ _ (grouped_item ignore_case text _ a)))))

    several_inside : (text : List ℕ) (K : Type 0) (Is : Texts) (piece : WaysByText) → IsInside ignore_case text (quiet K Is piece)
        → IsInside ignore_case (grouped text ++ grouped (after ++ before ++ grouped text) ++ codes "*") (quiet K (Several Is prefix suffix) (several_ways_as (grammar_same ignore_case) prefix suffix piece))
    several_inside text K Is piece a =
        let more : WaysByText = quantified_ways ZeroOrMore 0 (further_ways piece) in
        items_inside ignore_case _ _ (same_items ignore_case _ _ _ (joined_quiet K K K Is (Quantified ZeroOrMore (IsFurther Is prefix suffix)) (Several Is prefix suffix) piece more (several_same Is prefix suffix) (λ k. (k, k)))
        (subst (λ t. AreItemsOf ignore_case t (joined (quiet K Is piece) (quiet K (Quantified ZeroOrMore (IsFurther Is prefix suffix)) more))) (sym (append_assoc (grouped text) (grouped (after ++ before ++ grouped text)) (codes "*")))
        (append_items ignore_case (grouped text) (grouped (after ++ before ++ grouped text) ++ codes "*") _ _ (once_items ignore_case _ _ (grouped_item ignore_case text _ a))
        (quantified_items ignore_case _ K (IsFurther Is prefix suffix) (further_ways piece) ZeroOrMore (further_item text K Is piece a)))))

    repeated_item : (text : List ℕ) (K : Type 0) (Is : Texts) (piece : WaysByText) → IsInside ignore_case text (quiet K Is piece) → IsItemOf ignore_case (repeated_regexp before text after) (between_sense K (Several Is prefix suffix) (several_ways_as (grammar_same ignore_case) prefix suffix piece) prefix suffix)
    repeated_item text K Is piece a = between_item _ K (Several Is prefix suffix) (several_ways_as (grammar_same ignore_case) prefix suffix piece) (several_inside text K Is piece a)

    -- A single piece between prefix and suffix.
    one_between : (Is : Texts) (modifier : PartModifier) → Allows modifier 1 → (text : List ℕ) (captures : Captures) → Between Is prefix suffix captures text → GroupMeans Is false modifier prefix suffix text captures
    one_between Is modifier allowed text captures (core, cut, is, all) = inr (0, core, allowed, cut, core_one Is prefix suffix core is, all)

    -- At least one piece between prefix and suffix.
    several_between : (Is : Texts) (modifier : PartModifier) → ((n : ℕ) → Allows modifier (suc n)) → (text : List ℕ) (captures : Captures) → Between (Several Is prefix suffix) prefix suffix captures text → GroupMeans Is false modifier prefix suffix text captures
    several_between Is modifier allowed text captures (core, cut, (n, is), all) = inr (n, core, allowed n, cut, is, all)

    pub affixed_group : (modifier : PartModifier) (text : List ℕ) (K : Type 0) (Is : Texts) (piece : WaysByText) → IsInside ignore_case text (quiet K Is piece) → AreItemsOf ignore_case (affixed_regexp modifier before text after) (group_sense false modifier prefix suffix K Is piece)
    affixed_group modifiers.None text K Is piece a =
        same_items ignore_case _ (between_sense K Is piece prefix suffix) _ (one_more K modifiers.None false prefix suffix (between_sense K Is piece prefix suffix) Is piece (counted_same modifiers.None _) refl (λ t c good is. one_between Is modifiers.None refl t c is) (λ k. k) refl)
        (once_items ignore_case _ _ (between_item text K Is piece a))
    affixed_group modifiers.Optional text K Is piece a =
        same_items ignore_case _ (perhaps (between_sense K Is piece prefix suffix)) _
        (one_more K modifiers.Optional false prefix suffix (perhaps (between_sense K Is piece prefix suffix)) Is piece (counted_same modifiers.Optional _) refl (λ t c good is. elim is [
          | inl one ↦ one_between Is modifiers.Optional (omega arith) t c one
          | inr none ↦ inl (omega arith, none.0, none.1)
        ]) (λ k. k) refl)
        (perhaps_items ignore_case _ _ (between_item text K Is piece a))
    affixed_group modifiers.OneOrMore text K Is piece a =
        same_items ignore_case _ (between_sense K (Several Is prefix suffix) (several_ways_as (grammar_same ignore_case) prefix suffix piece) prefix suffix) _
        (one_more K modifiers.OneOrMore false prefix suffix (between_sense K (Several Is prefix suffix) (several_ways_as (grammar_same ignore_case) prefix suffix piece) prefix suffix) Is piece (same_then _ _ _ (copies_same Is prefix suffix) (counted_same modifiers.OneOrMore _)) refl
        (λ t c good is. several_between Is modifiers.OneOrMore (λ n. omega arith) t c is) (λ k. k) refl)
        (once_items ignore_case _ _ (repeated_item text K Is piece a))
    affixed_group modifiers.ZeroOrMore text K Is piece a =
        same_items ignore_case _ (perhaps (between_sense K (Several Is prefix suffix) (several_ways_as (grammar_same ignore_case) prefix suffix piece) prefix suffix)) _
        (one_more K modifiers.ZeroOrMore false prefix suffix (perhaps (between_sense K (Several Is prefix suffix) (several_ways_as (grammar_same ignore_case) prefix suffix piece) prefix suffix)) Is piece
        (same_then _ _ _ (quantified_same Optional _ _ (copies_same Is prefix suffix)) (same_then _ _ _ (some_or_none (IsBetween Is prefix suffix)) (counted_same modifiers.ZeroOrMore _))) refl
        (λ t c good is. elim is [
          | inl some ↦ several_between Is modifiers.ZeroOrMore (λ n. tt) t c some
          | inr none ↦ inl (tt, none.0, none.1)
        ]) (λ k. k) refl)
        (perhaps_items ignore_case _ _ (repeated_item text K Is piece a))
