-- Fixed texts and the pieces of groups, as the grammar of `regex` reads them in the regular
-- expression of parts.
use Rattle.std.proofs.Common.{◌≡◌, ◌≢◌, ℕ, List, [], ◌∷◌, ◌++◌, Bool, true, false, not, ◌&&◌, ◌||◌, ◌==◌, Option, Some, None, nat_le, if◌then◌else◌, refl, sym, ap, ◌∙◌, subst, append_assoc, append-nil, codes, encode_utf8, lt-ltb, le-leb, eq-eqb, arith, length, true≢false}
use Rattle.std.proofs.lemmas.Bool.{and_parts, and_from}
use Rattle.std.proofs.lemmas.Option.{same_Some}
use Rattle.std.proofs.lemmas.Str.{length-encode}
use Rattle.std.proofs.Math.Path.{fun_ext}
use Rattle.std.specs.Char.{IsScalar, len_utf8}
use Rattle.std.specs.Prelude.{IsTrue}
use lib.Utf8.{scalars}
use Rattle.regex_class.proofs.RangesLemmas.{or-false}
use Rattle.regex_hir.proofs.TextLemmas.{char_at_from}
use Rattle.regex_hir.proofs.Utf8Lemmas.{InScalarRange-of_IsScalar}
use Rattle.regex_hir.specs.Re.{literal, char_in}
use Rattle.regex_hir.specs.Text.{char_at, is_some_and}
use Rattle.regex_syntax.proofs.SetLemmas.{in_ranges-members}
use Rattle.regex_syntax.specs.Grammar.{atom}
use Rattle.regex_syntax.specs.Reading.{first, is_at}
use Rattle.regex_syntax.specs.Sets.{Set, case_fold, members, negate, one_of}
use Rattle.urlpattern_expressions.specs.Expressions.{config_for, is_groupless, matches_characters}
use Rattle.urlpattern_laws.proofs.Choices.{Tries, cuts_one, tries_class, tries_literal}
use Rattle.urlpattern_laws.proofs.CustomGroups.{custom_inside}
use Rattle.urlpattern_laws.proofs.Denoting.{Denotes, Joined, Quantified, AreSameTexts, denotes_same}
use Rattle.urlpattern_laws.proofs.GroupsOf.{IsInside, items_inside}
use Rattle.urlpattern_laws.proofs.ItemsOf.{AreItemsOf, IsItemOf, no_items, append_items, same_items, quantified_items, once_items, atom_item}
use Rattle.urlpattern_laws.proofs.Senses.{Sense, joined_quiet, quiet, quiet_same}
use Rattle.urlpattern_expressions.specs.MatchedPartTexts.{CapturesNothingBy, IsMatchedPiece, IsSelfContainedBy}
use Rattle.urlpattern_expressions.specs.PartWays.{exactly_as, is_in_segment_as, piece_ways_as}
use Rattle.urlpattern_meaning.specs.Ways.{WaysByText, one_that, quantified_ways}
use Rattle.urlpattern_meaning.specs.Dialect.{Character, Plain, Escaped, character_of, character_text, ZeroOrMore, LazyOneOrMore, Dot, AnyBut, Literal, AtomMeans, IsCharacter, IsClassCharacter, IsOneBut, atom_text}
use Rattle.urlpattern_meaning.specs.PartMeaning.{IsWildcardText}
use Rattle.urlpattern_meaning.proofs.PartTreeAllowed.{text_allowed, wildcard_allowed}
use Rattle.urlpattern_meaning.proofs.PartTrees.{character, segment_atom}
use Rattle.urlpattern_meaning.proofs.TreeMeaning.{alone_means}
use Rattle.urlpattern_meaning.proofs.WildcardItems.{wildcard_stands}
use Rattle.urlpattern_engine.proofs.AtomsRead.{itself, any_character, any_but, grammar_same, read_character, read_dot, read_class, differs, written}
use Rattle.urlpattern_engine.proofs.ItemsRead.{opens_item}
use Rattle.urlpattern_syntax.specs.Options.{OptionsView}
use Rattle.urlpattern_syntax.specs.declared.parser.PartType.{PartType}
use Rattle.urlpattern_syntax.specs.declared.parser.PartType.TheVariants.{FixedText, Regexp, SegmentWildcard, FullWildcard}
use Rattle.urlpattern_syntax.specs.declared.parser.RegexSyntax.{RegexSyntax}
use Rattle.urlpattern_syntax.specs.RegexpText.{escaped, escaped_marks, escaped_regexp, matched_by, segment_wildcard_of, regexp_marks}
use Rattle.urlpattern_syntax.specs.Text.{is_among, line_feed}

-- ---- characters

denotes_character : (c : ℕ) → IsScalar c → Denotes (literal (encode_utf8 c)) (λ text. text ≡ c ∷ [])
denotes_character c scalar =
    let here : char_at (encode_utf8 c) 0 ≡ Some c = char_at_from (encode_utf8 c) 0 c [] scalar (sym (append-nil (encode_utf8 c))) in
    record {
      plain = ap (λ o. is_some_and o (λ d. len_utf8 d == length (encode_utf8 c))) here ∙ eq-eqb _ _ (sym (length-encode c));
      same = λ text good. (
        λ (d, is, found). is ∙ ap (λ (e : ℕ). e ∷ []) (same_Some d c (sym found ∙ here)),
        λ is. (c, is, here),
      );
    }

not_open : (ch : Character) → IsCharacter ch → (rest : List ℕ) → is_at "(" (character_text ch ++ rest) ≡ false
unfolding first
not_open (Plain c) h rest = differs regexp_marks c 40 h refl
not_open (Escaped c) h rest = refl

spelled : (b : Bool) (c : ℕ) → character_text (if b then Escaped c else Plain c) ≡ (if b then codes "\\" ++ c ∷ [] else c ∷ [])
spelled true c = refl
spelled false c = refl

same_character : (b : Bool) (c : ℕ) → character_of (if b then Escaped c else Plain c) ≡ c
same_character true c = refl
same_character false c = refl

one_then : (c : ℕ) (text : List ℕ) → AreSameTexts (Joined (λ t. t ≡ c ∷ []) (λ t. t ≡ text)) (λ t. t ≡ c ∷ text)
one_then c text w good = (
  λ (first, rest, cut, one, others). cut ∙ ap (λ t. t ++ rest) one ∙ ap (λ (t : List ℕ). c ∷ t) others,
  λ is. (c ∷ [], text, is, refl, refl),
)

-- ---- classes

denotes_set : (set : Set) (passes : ℕ → Bool) → ((c : ℕ) → IsScalar c → set c ≡ passes c) → Denotes (char_in (members set)) (λ text. (c : ℕ) × (text ≡ c ∷ []) × IsTrue (passes c))
denotes_set set passes same = record {
  plain = refl;
  same = λ text good. (
    λ (c, is, inside). let scalar = scalar_of c text is good in (c, is, sym (same c scalar) ∙ (and_parts _ _ (sym (in_ranges-members set c) ∙ inside)).1),
    λ (c, is, h). let scalar = scalar_of c text is good in (c, is, in_ranges-members set c ∙ and_from _ _ (lt-ltb c 0x11_0000 (omega (arith, InScalarRange-of_IsScalar c scalar))) (same c scalar ∙ h)),
  );
}
  where
    scalar_of : (c : ℕ) (text : List ℕ) → text ≡ c ∷ [] → scalars text ≡ true → IsScalar c
    scalar_of c text is good = (and_parts _ _ (ap scalars (sym is) ∙ good)).0

below : (c : ℕ) → IsScalar c → (b : Bool) → (nat_le c 0x10_FFFF && b) ≡ b
below c scalar b =
    let fits : nat_le c 0x10_FFFF ≡ true = le-leb c 0x10_FFFF (omega (arith, InScalarRange-of_IsScalar c scalar)) in
    rw fits refl

-- A class matches the characters of its set.
tries_set : (set : Set) (passes : ℕ → Bool) → ((c : ℕ) → IsScalar c → set c ≡ passes c) → (g : ℕ) → Tries g (one_that passes) (char_in (members set))
tries_set set passes same g =
    tries_class g passes (members set)
    (λ c scalar. in_ranges-members set c ∙ ap (λ b. b && set c) (lt-ltb c 0x11_0000 (omega (arith, InScalarRange-of_IsScalar c scalar))) ∙ same c scalar)

dot_same : (ignore_case : Bool) (c : ℕ) → IsScalar c → negate (config_for ignore_case) (λ c. c == 10) c ≡ not (c == line_feed)
unfolding one_of negate
dot_same ignore_case c scalar = below c scalar (not (c == 10))

but_same : (ignore_case : Bool) (c d : ℕ) → IsScalar d → negate (config_for ignore_case) (case_fold (config_for ignore_case) (λ e. (e == c) || false)) d ≡ not (grammar_same ignore_case d c)
unfolding one_of negate
but_same ignore_case c d scalar =
    below d scalar (not (case_fold (config_for ignore_case) (λ e. (e == c) || false) d))
    ∙ ap (λ (set : Set). not (case_fold (config_for ignore_case) set d)) (fun_ext (λ e. or-false (e == c)))

-- Any character except line feeds.
abbrev no_feed : WaysByText
no_feed = one_that (λ other. not (other == line_feed))

-- ---- wildcards

segment_text : (syntax : RegexSyntax) (delimiter : Option ℕ) → atom_text (segment_atom (escaped_marks syntax) delimiter) ++ codes "+?" ≡ segment_wildcard_of syntax delimiter
unfolding escaped
segment_text syntax None = refl
segment_text syntax (Some c) =
    let ch = character (escaped_marks syntax) c in
    let one : character_text ch ≡ escaped (escaped_marks syntax) (c ∷ []) = spelled (is_among (escaped_marks syntax) c) c ∙ sym (append-nil _) in
    ap (λ (t : List ℕ). 91 ∷ 94 ∷ t) (append_assoc (character_text ch) (93 ∷ []) (43 ∷ 63 ∷ []) ∙ ap (λ t. t ++ codes "]+?") one)

segments_same : (options : OptionsView) → AreSameTexts (Quantified LazyOneOrMore (λ text. AtomMeans (segment_atom (escaped_marks options.syntax) options.delimiter) text [])) (IsWildcardText options SegmentWildcard)
segments_same options text good =
    let a = segment_atom (escaped_marks options.syntax) options.delimiter in
    let means = (wildcard_stands options SegmentWildcard tt).means text [] in
    let taken = alone_means a LazyOneOrMore text [] in (
      λ (n, are). (means.0 (taken.1 (n, are, refl))).0,
      λ is. let found = taken.0 (means.1 (is, refl)) in (found.0, found.1),
    )

full_same : (options : OptionsView) → AreSameTexts (Quantified ZeroOrMore (λ text. AtomMeans Dot text [])) (IsWildcardText options FullWildcard)
full_same options text good =
    let means = (wildcard_stands options FullWildcard tt).means text [] in
    let taken = alone_means Dot ZeroOrMore text [] in (
      λ (n, are). (means.0 (taken.1 (n, are, refl))).0,
      λ is. let found = taken.0 (means.1 (is, refl)) in (found.0, found.1),
    )

-- ---- characters, with case ignored or kept

equal_if_kept : (ignore_case : Bool) (c given : ℕ) → ignore_case ≡ false → grammar_same ignore_case c given ≡ (c == given)
unfolding case_fold
equal_if_kept false c given kept = refl
equal_if_kept true c given kept = absurd (true≢false kept)

pub plain_written : (ignore_case : Bool) (c : ℕ) → IsScalar c → matches_characters (written ignore_case c) ≡ true
unfolding one_of
plain_written false c scalar = (denotes_character c scalar).plain
plain_written true c scalar = refl

pub silent_written : (ignore_case : Bool) (c : ℕ) → is_groupless (written ignore_case c) ≡ true
unfolding one_of
silent_written false c = refl
silent_written true c = refl

denotes_written : (ignore_case : Bool) (c : ℕ) → IsScalar c → ignore_case ≡ false → Denotes (written ignore_case c) (λ text. text ≡ c ∷ [])
denotes_written false c scalar kept = denotes_character c scalar
denotes_written true c scalar kept = absurd (true≢false kept)

tries_written : (ignore_case : Bool) (c : ℕ) → IsScalar c → (g : ℕ) → Tries g (one_that (λ other. grammar_same ignore_case other c)) (written ignore_case c)
unfolding case_fold one_of
tries_written false c scalar g = tries_literal g (encode_utf8 c) c scalar refl
tries_written true c scalar g = tries_set (case_fold (config_for true) (λ d. d == c)) (λ other. grammar_same true other c) (λ d fits. refl) g

module _ (ignore_case : Bool) where
  -- The character `c`.
  abbrev one_of_text : ℕ → WaysByText
  one_of_text c = one_that (λ other. grammar_same ignore_case other c)

  -- Any character except `c`.
  abbrev one_but : ℕ → WaysByText
  one_but c = one_that (λ other. not (grammar_same ignore_case other c))

  tries_dot : (g : ℕ) → Tries g no_feed (any_character ignore_case).value
  unfolding one_of negate
  tries_dot g = tries_set (negate (config_for ignore_case) (λ c. c == 10)) (λ c. not (c == line_feed)) (dot_same ignore_case) g

  tries_but : (c g : ℕ) → Tries g (one_but c) (any_but ignore_case c).value
  unfolding one_of negate
  tries_but c g =
      tries_set (negate (config_for ignore_case) (case_fold (config_for ignore_case) (λ d. (d == c) || false))) (λ d. not (grammar_same ignore_case d c)) (but_same ignore_case c) g

  denotes_dot : Denotes (any_character ignore_case).value (IsOneBut line_feed)
  unfolding one_of negate
  denotes_dot = denotes_set (negate (config_for ignore_case) (λ c. c == 10)) (λ c. not (c == line_feed)) (dot_same ignore_case)

  denotes_but : (c : ℕ) → ignore_case ≡ false → Denotes (any_but ignore_case c).value (IsOneBut c)
  unfolding one_of negate
  denotes_but c kept =
      denotes_set (negate (config_for ignore_case) (case_fold (config_for ignore_case) (λ d. (d == c) || false))) (λ d. not (d == c))
      (λ d scalar. but_same ignore_case c d scalar ∙ ap not (equal_if_kept ignore_case d c kept))

  character_item : (ch : Character) → IsCharacter ch → IsScalar (character_of ch) → IsItemOf ignore_case (character_text ch) (quiet (Unit {0}) (λ text. text ≡ character_of ch ∷ []) (one_of_text (character_of ch)))
  character_item ch h scalar =
      let c = character_of ch in
      atom_item ignore_case (character_text ch) (itself ignore_case c) _ (one_of_text c) (opens_item (Literal ch) h) (not_open ch h) (λ rest. read_character ignore_case ch rest h) (plain_written ignore_case c scalar)
      (denotes_written ignore_case c scalar) (silent_written ignore_case c) (cuts_one (λ other. grammar_same ignore_case other c)) (tries_written ignore_case c scalar)

  -- ---- fixed texts

  pub fixed_items : (options : OptionsView) (text : List ℕ) → scalars text ≡ true → AreItemsOf ignore_case (escaped_regexp options text) (quiet (Unit {0}) (λ t. t ≡ text) (exactly_as (grammar_same ignore_case) text))
  unfolding escaped
  fixed_items options [] good = no_items ignore_case
  fixed_items options (c ∷ text) good =
      let marks = escaped_marks options.syntax in
      let both = and_parts _ _ good in
      let is_character : IsCharacter (character marks c) = (text_allowed options (c ∷ [])).0 in
      let is : character_of (character marks c) ≡ c = same_character (is_among marks c) c in
      let scalar : IsScalar (character_of (character marks c)) = subst IsScalar (sym is) both.0 in
      let one = once_items ignore_case _ _ (character_item (character marks c) is_character scalar) in
      let written_one : AreItemsOf ignore_case (if is_among marks c then codes "\\" ++ c ∷ [] else c ∷ []) (quiet (Unit {0}) (λ t. t ≡ c ∷ []) (one_of_text c)) =
      subst (λ s. AreItemsOf ignore_case s (quiet (Unit {0}) (λ t. t ≡ c ∷ []) (one_of_text c))) (spelled (is_among marks c) c)
      (subst (λ (d : ℕ). AreItemsOf ignore_case (character_text (character marks c)) (quiet (Unit {0}) (λ t. t ≡ d ∷ []) (one_of_text d))) is one) in
      same_items ignore_case _ _ _ (joined_quiet (Unit {0}) (Unit {0}) (Unit {0}) (λ t. t ≡ c ∷ []) (λ t. t ≡ text) (λ t. t ≡ c ∷ text) (one_of_text c) (exactly_as (grammar_same ignore_case) text) (one_then c text) (λ k. (tt, tt)))
      (append_items ignore_case _ (escaped_regexp options text) _ _ written_one (fixed_items options text both.1))

  -- ---- classes

  dot_item : IsItemOf ignore_case (atom_text Dot) (quiet (Unit {0}) (λ text. AtomMeans Dot text []) no_feed)
  unfolding first one_of
  dot_item = atom_item ignore_case (codes ".") (any_character ignore_case) _ no_feed (opens_item Dot tt) (λ rest. refl) (read_dot ignore_case) refl
      (λ kept. denotes_same (any_character ignore_case).value (IsOneBut line_feed) _ (λ text good. (λ is. (is, refl), λ is. is.0)) denotes_dot) refl
      (cuts_one (λ other. not (other == line_feed))) tries_dot

  class_item : (ch : Character) → IsClassCharacter ch → IsItemOf ignore_case (atom_text (AnyBut ch)) (quiet (Unit {0}) (λ text. AtomMeans (AnyBut ch) text []) (one_but (character_of ch)))
  unfolding first one_of
  class_item ch h =
      let c = character_of ch in
      atom_item ignore_case (atom_text (AnyBut ch)) (any_but ignore_case c) _ (one_but c) (opens_item (AnyBut ch) h) (λ rest. refl)
      (λ rest. ap (λ t. atom (config_for ignore_case) (91 ∷ 94 ∷ t)) (append_assoc (character_text ch) (93 ∷ []) rest) ∙ read_class ignore_case ch rest h) refl
      (λ kept. denotes_same (any_but ignore_case c).value (IsOneBut c) _ (λ text good. (λ is. (is, refl), λ is. is.0)) (denotes_but c kept)) refl
      (cuts_one (λ other. not (grammar_same ignore_case other c))) (tries_but c)

  -- ---- wildcards

  segment_item : (options : OptionsView) (delimiter : Option ℕ) → options.delimiter ≡ delimiter
      → IsItemOf ignore_case (atom_text (segment_atom (escaped_marks options.syntax) delimiter)) (quiet (Unit {0}) (λ text. AtomMeans (segment_atom (escaped_marks options.syntax) delimiter) text []) (one_that (is_in_segment_as (grammar_same ignore_case) delimiter)))
  segment_item options None e = dot_item
  segment_item options (Some c) e =
      let allowed = (wildcard_allowed options SegmentWildcard tt).allowed in
      let marks = escaped_marks options.syntax in
      let is : character_of (character marks c) ≡ c = same_character (is_among marks c) c in
      subst (λ (d : ℕ). IsItemOf ignore_case (atom_text (AnyBut (character marks c))) (quiet (Unit {0}) (λ text. AtomMeans (AnyBut (character marks c)) text []) (one_but d))) is
      (class_item (character marks c) (rw e at allowed.0))

  -- ---- the content of groups

  abbrev pub piece_sense : OptionsView → PartType → (value : List ℕ) → Sense
  piece_sense options kind value = quiet (CapturesNothingBy ignore_case kind value) (IsMatchedPiece options kind value) (piece_ways_as (config_for ignore_case) (grammar_same ignore_case) options kind value)

  pub piece_inside : (options : OptionsView) (kind : PartType) (value : List ℕ) → kind ≢ FixedText → IsSelfContainedBy ignore_case kind value → IsInside ignore_case (matched_by options kind value) (piece_sense options kind value)
  piece_inside options FixedText value h stands = absurd (h refl)
  piece_inside options Regexp value h stands = custom_inside ignore_case value stands
  piece_inside options SegmentWildcard value h stands =
      let Atoms : List ℕ → Type 0 = λ text. AtomMeans (segment_atom (escaped_marks options.syntax) options.delimiter) text [] in
      let one : WaysByText = one_that (is_in_segment_as (grammar_same ignore_case) options.delimiter) in
      let segment : WaysByText = quantified_ways LazyOneOrMore 0 one in
      items_inside ignore_case _ _ (same_items ignore_case _ (quiet (Unit {0}) (Quantified LazyOneOrMore Atoms) segment) _ (quiet_same (Unit {0}) (Unit {0}) _ _ segment (segments_same options) (λ k. k))
      (subst (λ t. AreItemsOf ignore_case t (quiet (Unit {0}) (Quantified LazyOneOrMore Atoms) segment)) (segment_text options.syntax options.delimiter)
      (quantified_items ignore_case _ (Unit {0}) Atoms one LazyOneOrMore (segment_item options options.delimiter refl))))
  piece_inside options FullWildcard value h stands =
      let full : WaysByText = quantified_ways ZeroOrMore 0 no_feed in
      items_inside ignore_case _ _ (same_items ignore_case _ _ _ (quiet_same (Unit {0}) (Unit {0}) _ _ full (full_same options) (λ k. k)) (quantified_items ignore_case _ (Unit {0}) (λ text. AtomMeans Dot text []) no_feed ZeroOrMore dot_item))
