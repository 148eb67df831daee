-- Parts that can be read in one way only mean what `captured` says.
use Rattle.std.proofs.Common.{◌≡◌, ℕ, ◌+◌, Bool, true, false, not, eqb, cond, List, [], ◌∷◌, ◌++◌, refl, sym, ap, subst, ◌∙◌, append_assoc, arith, length, take, drop, ◌↔◌, IsTrue, Some, None, Option}
use Rattle.std.proofs.lemmas.Bool.Decides.{nat_tests}
use Rattle.std.proofs.lemmas.Bool.{and_parts}
use Rattle.std.proofs.lemmas.List.{append-nil, take-append-drop}
use Rattle.std.proofs.lemmas.List.Folds.{list_all-append}
use Rattle.std.proofs.lemmas.Str.{IsUtf8-encode, IsUtf8-take, chars-append, chars-nil}
use Rattle.std.specs.Borrow.{Bor}
use Rattle.std.specs.Char.{encode_utf8}
use Rattle.std.specs.Str.{IsUtf8, chars}
use Rattle.std.specs.Str.Pattern.{FindsChar, FindsTextPrefix, MatchBeginsAt, StripsPrefix}
use Rattle.std.specs.Prelude.{MatchOption, unwrap_or, ◌&&◌, ◌≢◌, option_map, if◌then◌else◌}
use Rattle.url.specs.Ascii.{slash}
use Rattle.urlpattern_meaning.proofs.MatchingLaws.{IsOnePiece, middle_cancel, wildcard_copies}
use Rattle.urlpattern_meaning.proofs.MeaningLaws.{one_copy, plain_means}
use Rattle.urlpattern_matcher.proofs.MatcherTexts.{lacks-searched, not_stripped}
use Rattle.urlpattern_meaning.specs.Matching.{Agrees}
use Rattle.urlpattern_meaning.specs.PartMeaning.{Captures, IsCapture, IsWildcardText, PartMeans, PartsMean}
use Rattle.urlpattern_paths.specs.PathCaptures.{Read, after_front, after_segment, are_read_once, captured, captured_after, end_segment, is_last, is_read_once, read_all, read_first_segment, read_part, read_segment, read_text, segment}
use Rattle.urlpattern_syntax.proofs.StringTexts.{chars-encode, is_empty-str}
use Rattle.urlpattern_syntax.specs.Options.{OptionsView}
use Rattle.urlpattern_syntax.specs.Parts.{PartView, parts_view}
use Rattle.urlpattern_syntax.specs.RegexpText.{IsWildcard, is_empty, is_fixed_text, is_unmodified}
use Rattle.urlpattern_syntax.specs.Text.{begins_with, lacks, line_feed, option_text}
use Rattle.urlpattern_syntax.specs.declared.parser.Part.{Part}
use Rattle.urlpattern_syntax.specs.declared.parser.PartModifier.{PartModifier}
use Rattle.urlpattern_syntax.specs.declared.parser.PartModifier.TheVariants as modifiers
use Rattle.urlpattern_syntax.specs.declared.parser.PartType.{PartType}
use Rattle.urlpattern_syntax.specs.declared.parser.PartType.TheVariants.{FixedText, SegmentWildcard, FullWildcard, Regexp}

-- ---- texts

pub front-of : (front rest : List ℕ) → after_front front (front ++ rest) ≡ Some rest
front-of [] rest = refl
front-of (c ∷ front) rest = let e : eqb c c ≡ true = grind (arith, nat_tests) in rw e (front-of front rest)

front-cut-by : (c other : ℕ) (front text rest : List ℕ) (b : Bool) → eqb other c ≡ b → (after_front front text ≡ Some rest → text ≡ front ++ rest)
    → cond b (after_front front text) None ≡ Some rest → other ∷ text ≡ c ∷ (front ++ rest)
front-cut-by c other front text rest true same cut e = let s : other ≡ c = grind (arith, nat_tests) in rw s (ap (λ t. c ∷ t) (cut e))
front-cut-by c other front text rest false same cut e = absurd cc

pub front-cut : (front text rest : List ℕ) → after_front front text ≡ Some rest → text ≡ front ++ rest
front-cut [] text rest e = cc
front-cut (c ∷ front) [] rest e = absurd cc
front-cut (c ∷ front) (other ∷ text) rest e = front-cut-by c other front text rest (eqb other c) refl (front-cut front text rest) e

pub segment-cut : (text : List ℕ) → text ≡ segment text ++ after_segment text
segment-cut [] = refl
segment-cut (c ∷ text) =
    let later = segment-cut text in
    elim (eqb c slash) as (λ b. c ∷ text ≡ cond b [] (c ∷ segment text) ++ cond b (c ∷ text) (after_segment text)) [ true ↦ refl | false ↦ ap (λ t. c ∷ t) later ]

segment-lacks-by : (c : ℕ) (text : List ℕ) (b : Bool) → eqb c slash ≡ b → IsTrue (lacks slash (segment text)) → IsTrue (lacks slash (cond b [] (c ∷ segment text)))
segment-lacks-by c text true is later = refl
segment-lacks-by c text false is later = rw is later

pub segment-lacks : (text : List ℕ) → IsTrue (lacks slash (segment text))
segment-lacks [] = refl
segment-lacks (c ∷ text) = segment-lacks-by c text (eqb c slash) refl (segment-lacks text)

-- The text is empty or begins with a slash.
abbrev pub Ends : List ℕ → Type 0
Ends [] = IsTrue true
Ends (c ∷ text) = IsTrue (eqb c slash)

pub segment-ends : (text : List ℕ) → Ends (after_segment text)
segment-ends [] = refl
segment-ends (c ∷ text) = segment-ends-by c text (eqb c slash) refl (segment-ends text)
  where
    segment-ends-by : (c : ℕ) (text : List ℕ) (b : Bool) → eqb c slash ≡ b → Ends (after_segment text) → Ends (cond b (c ∷ text) (after_segment text))
    segment-ends-by c text true is later = is
    segment-ends-by c text false is later = later

segment-of-by : (c : ℕ) (piece rest : List ℕ) (b : Bool) → eqb c slash ≡ b → IsTrue (not (eqb c slash) && lacks slash piece)
    → (IsTrue (lacks slash piece) → (segment (piece ++ rest) ≡ piece) × (after_segment (piece ++ rest) ≡ rest))
    → (cond b [] (c ∷ segment (piece ++ rest)) ≡ c ∷ piece) × (cond b (c ∷ (piece ++ rest)) (after_segment (piece ++ rest)) ≡ rest)
segment-of-by c piece rest true is without more = absurd (let never : IsTrue false = rw is at without in cc)
segment-of-by c piece rest false is without more =
    let so = more (rw is at without) in (ap (λ t. c ∷ t) so.0, so.1)

-- A piece without a slash before the end or a slash is a segment.
pub segment-of : (piece rest : List ℕ) → IsTrue (lacks slash piece) → Ends rest → (segment (piece ++ rest) ≡ piece) × (after_segment (piece ++ rest) ≡ rest)
segment-of [] [] without ends = (refl, refl)
segment-of [] (c ∷ rest) without ends = rw ends (refl, refl)
segment-of (c ∷ piece) rest without ends = segment-of-by c piece rest (eqb c slash) refl without (λ more. segment-of piece rest more ends)

-- A text without a slash is a segment.
pub segment-whole : (text : List ℕ) → IsTrue (lacks slash text) → (text ≡ segment text) × ([] ≡ after_segment text)
segment-whole text without =
    let so = segment-of text [] without refl in
    (sym so.0 ∙ ap segment (append-nil text), sym so.1 ∙ ap after_segment (append-nil text))

-- ---- one part

abbrev pub part_of : PartType → PartModifier → (value name prefix suffix : List ℕ) → PartView
part_of kind modifier value name prefix suffix =
    record { kind = kind; value = value; modifier = modifier; name = name; prefix = prefix; suffix = suffix }

-- A wildcard of either kind without a modifier means one piece between prefix and suffix.
piece_means : (options : OptionsView) (kind : PartType) (value name prefix suffix text : List ℕ) (captures : Captures) → IsWildcard kind →
    PartMeans options (part_of kind modifiers.None value name prefix suffix) text captures ↔ IsOnePiece options (part_of kind modifiers.None value name prefix suffix) text captures
piece_means options kind value name prefix suffix text captures h =
    let part = part_of kind modifiers.None value name prefix suffix in
    let same = wildcard_copies options kind modifiers.None value name prefix suffix text captures h in (
      λ means.
          let found = same.0 means in
          one (one_copy _ _ _ found.2 found.1)
          (subst (λ n. (capture : Option (List ℕ)) × IsCapture part n text capture × (captures ≡ capture ∷ [])) found.1 found.3),
      λ is. same.1 (1, refl, (text, [], sym (append-nil text), (is.0, is.1, is.2), refl), (Some is.0, (is.0, is.1, refl), is.3)),
    )
  where
    one : (piece : List ℕ) × (text ≡ prefix ++ piece ++ suffix) × IsWildcardText options kind piece →
        (capture : Option (List ℕ)) × IsCapture (part_of kind modifiers.None value name prefix suffix) 1 text capture × (captures ≡ capture ∷ []) →
        IsOnePiece options (part_of kind modifiers.None value name prefix suffix) text captures
    one (piece, e, is) (capture, (inner, f, g), h) =
        let same : inner ≡ piece = middle_cancel prefix inner piece suffix (sym f ∙ e) in
        (piece, e, is, h ∙ ap (λ c. c ∷ []) (g ∙ ap Some same))

empty-text : (text : List ℕ) → IsTrue (is_empty text) → text ≡ []
empty-text [] is = refl
empty-text (c ∷ text) is = absurd (let never : IsTrue false = is in cc)

last-parts : (parts : List PartView) → IsTrue (is_last parts) → parts ≡ []
last-parts [] is = refl
last-parts (part ∷ parts) is = absurd (let never : IsTrue false = is in cc)

-- The text has no line feed, nor has what follows a front.
line-rest : (front rest text : List ℕ) → text ≡ front ++ rest → IsTrue (lacks line_feed text) → IsTrue (lacks line_feed rest)
line-rest front rest text cut line = (and_parts _ _ (sym (list_all-append (λ other. not (eqb other line_feed)) front rest) ∙ sym (ap (lacks line_feed) cut) ∙ line)).1

-- ---- what a part reads is what it means

fixed-cut : (found : Option (List ℕ)) (read : Read) → option_map read_text found ≡ Some read → (found ≡ Some read.1) × (read.0 ≡ [])
fixed-cut (Some left) read e =
    let same : read_text left ≡ read = cc in
    (ap (λ (p : Read). Some p.1) same, sym (ap (λ (p : Read). p.0) same))
fixed-cut None read e = absurd cc

whole-cut : (found : Option (List ℕ)) (read : Read) → option_map read_all found ≡ Some read
    → (piece : List ℕ) × (found ≡ Some piece) × (read.0 ≡ Some piece ∷ []) × (read.1 ≡ [])
whole-cut (Some piece) read e =
    let same : read_all piece ≡ read = cc in
    (piece, refl, sym (ap (λ (p : Read). p.0) same), sym (ap (λ (p : Read). p.1) same))
whole-cut None read e = absurd cc

abbrev pub of_segment : (piece after : List ℕ) → Read
of_segment piece after = (Some piece ∷ [], after)

segment-case : (piece after : List ℕ) (read : Read) → read_segment piece after ≡ Some read → (piece ≢ []) × (read.0 ≡ Some piece ∷ []) × (read.1 ≡ after)
segment-case [] after read e = absurd cc
segment-case (c ∷ piece) after read e =
    let same : of_segment (c ∷ piece) after ≡ read = cc in
    (λ never. cc never, sym (ap (λ (p : Read). p.0) same), sym (ap (λ (p : Read). p.1) same))

segment-cut-of : (found : Option (List ℕ)) (read : Read) → read_first_segment found ≡ Some read
    → (text : List ℕ) × (found ≡ Some text) × (segment text ≢ []) × (read.0 ≡ Some (segment text) ∷ []) × (read.1 ≡ after_segment text)
segment-cut-of (Some text) read e =
    let (some, is_own, is_rest) = segment-case (segment text) (after_segment text) read e in
    (text, refl, some, is_own, is_rest)
segment-cut-of None read e = absurd cc

some-segment : (piece after : List ℕ) (own : Captures) → piece ≢ [] → own ≡ Some piece ∷ [] → read_segment piece after ≡ Some (own, after)
some-segment [] after own some is = absurd (some refl)
some-segment (c ∷ piece) after own some is = rw is refl

all-read : (piece rest : List ℕ) (own : Captures) → own ≡ Some piece ∷ [] → rest ≡ [] → option_map read_all (Some piece) ≡ Some (own, rest)
all-read piece rest own is_own is_rest = rw (is_own, is_rest) refl

-- A text that a part matches, and what is left of the text.
abbrev pub Reads : OptionsView → PartView → (text : List ℕ) → Captures → (rest : List ℕ) → Type 0
Reads options part text own rest = (first : List ℕ) × (text ≡ first ++ rest) × PartMeans options part first own

after-cut : (next : List ℕ → Option Captures) (found : Option Read) (captures : Captures) → captured_after next found ≡ Some captures
    → (read : Read) × (others : Captures) × (found ≡ Some read) × (next read.1 ≡ Some others) × (captures ≡ read.0 ++ others)
after-cut next (Some read) captures e = of_next (next read.1) refl e
  where
    of_next : (left : Option Captures) → next read.1 ≡ left → option_map (λ others. read.0 ++ others) left ≡ Some captures
        → (mine : Read) × (others : Captures) × (Some read ≡ Some mine) × (next mine.1 ≡ Some others) × (captures ≡ mine.0 ++ others)
    of_next (Some others) is e = (read, others, refl, is, cc)
    of_next None is e = absurd cc
after-cut next None captures e = absurd cc

module _ (options : OptionsView) (slashed : options.delimiter ≡ Some slash) where
  read-means : (kind : PartType) (modifier : PartModifier) (value name prefix suffix : List ℕ) (parts : List PartView) (text : List ℕ) (read : Read)
      → IsTrue (is_unmodified modifier) → IsTrue (is_read_once kind (part_of kind modifier value name prefix suffix) parts) → IsTrue (lacks line_feed text)
      → read_part kind (part_of kind modifier value name prefix suffix) text ≡ Some read
      → Reads options (part_of kind modifier value name prefix suffix) text read.0 read.1
  read-means FixedText modifiers.None value name prefix suffix parts text read plain once line e =
      let (found, is_own) = fixed-cut (after_front value text) read e in
      (value, front-cut value text read.1 found, (plain_means (part_of FixedText modifiers.None value name prefix suffix) refl).1 (refl, is_own))
  read-means SegmentWildcard modifiers.None value name prefix suffix parts text read plain once line e =
      let (left, found, some, is_own, is_rest) = segment-cut-of (after_front prefix text) read e in
      let bare : suffix ≡ [] = empty-text suffix (and_parts _ _ once).0 in
      let whole : text ≡ prefix ++ segment left ++ suffix ++ after_segment left =
      front-cut prefix text left found ∙ ap (λ t. prefix ++ t) (segment-cut left) ∙ sym (append_assoc prefix (segment left) (after_segment left))
      ∙ ap (λ t. t ++ after_segment left) (sym (ap (λ t. prefix ++ segment left ++ t) bare ∙ append-nil (prefix ++ segment left))) in (
        prefix ++ segment left ++ suffix,
        whole ∙ ap (λ t. prefix ++ segment left ++ suffix ++ t) (sym is_rest),
        (piece_means options SegmentWildcard value name prefix suffix _ _ tt).1
            (segment left, refl, (some, subst (λ (d : Option ℕ). IsTrue (lacks (unwrap_or d line_feed) (segment left))) (sym slashed) (segment-lacks left)), is_own),
      )
  read-means FullWildcard modifiers.None value name prefix suffix parts text read plain once line e =
      let (piece, found, is_own, is_rest) = whole-cut (after_front prefix text) read e in
      let cut = front-cut prefix text piece found in
      let bare : suffix ≡ [] = empty-text suffix (and_parts _ _ once).0 in (
        prefix ++ piece ++ suffix,
        cut ∙ sym (ap (λ t. prefix ++ piece ++ suffix ++ t) is_rest ∙ append-nil _ ∙ ap (λ t. prefix ++ piece ++ t) bare ∙ append-nil (prefix ++ piece)),
        (piece_means options FullWildcard value name prefix suffix _ _ tt).1 (piece, refl, line-rest prefix piece text cut line, is_own),
      )
  read-means Regexp modifiers.None value name prefix suffix parts text read plain once line e = absurd cc
  read-means kind modifier value name prefix suffix parts text read plain once line e = absurd (let never : IsTrue false = plain in cc)

  pub sound : (parts : List PartView) (text : List ℕ) (captures : Captures) → IsTrue (are_read_once parts) → IsTrue (lacks line_feed text)
      → captured parts text ≡ Some captures → PartsMean options parts text captures
  sound [] [] captures once line e = (refl, cc)
  sound [] (c ∷ text) captures once line e = absurd cc
  sound (part ∷ parts) text captures once line e =
      let (plain, others_once) = and_parts _ _ once in
      let (first_once, later) = and_parts _ _ others_once in
      let (read, others, found, following, made) = after-cut (captured parts) (read_part part.kind part text) captures e in
      let (first, cut, means) = read-means part.kind part.modifier part.value part.name part.prefix part.suffix parts text read plain first_once line found in
      (first, read.1, read.0, others, cut, made, means, sound parts read.1 others later (line-rest first read.1 text cut line) following)

  -- ---- what the parts mean is what they capture

  ends-front : (front rest : List ℕ) → IsTrue (begins_with (λ c. eqb c slash) front) → Ends (front ++ rest)
  ends-front [] rest is = absurd (let never : IsTrue false = is in cc)
  ends-front (c ∷ front) rest is = is

  ends-part : (kind : PartType) (modifier : PartModifier) (value name prefix suffix first : List ℕ) (parts : List PartView) (own : Captures)
      → IsTrue (is_unmodified modifier) → IsTrue (is_read_once kind (part_of kind modifier value name prefix suffix) parts)
      → IsTrue (begins_with (λ c. eqb c slash) (if is_fixed_text kind then value else prefix))
      → PartMeans options (part_of kind modifier value name prefix suffix) first own → (rest : List ℕ) → Ends (first ++ rest)
  ends-part FixedText modifiers.None value name prefix suffix first parts own plain once is mean rest =
      rw ((plain_means (part_of FixedText modifiers.None value name prefix suffix) refl).0 mean).0 (ends-front value rest is)
  ends-part SegmentWildcard modifiers.None value name prefix suffix first parts own plain once is mean rest =
      let (piece, cut, is_piece, is_own) = (piece_means options SegmentWildcard value name prefix suffix first own tt).0 mean in
      rw (cut, append_assoc prefix piece suffix, append_assoc prefix (piece ++ suffix) rest) (ends-front prefix (piece ++ suffix ++ rest) is)
  ends-part FullWildcard modifiers.None value name prefix suffix first parts own plain once is mean rest =
      let (piece, cut, is_piece, is_own) = (piece_means options FullWildcard value name prefix suffix first own tt).0 mean in
      rw (cut, append_assoc prefix piece suffix, append_assoc prefix (piece ++ suffix) rest) (ends-front prefix (piece ++ suffix ++ rest) is)
  ends-part Regexp modifiers.None value name prefix suffix first parts own plain once is mean rest = absurd (let never : IsTrue false = once in cc)
  ends-part kind modifier value name prefix suffix first parts own plain once is mean rest = absurd (let never : IsTrue false = plain in cc)

  ends-parts : (parts : List PartView) (text : List ℕ) (captures : Captures) → IsTrue (are_read_once parts) → IsTrue (end_segment parts) → PartsMean options parts text captures → Ends text
  ends-parts [] text captures once is (e, f) = rw e refl
  ends-parts (part ∷ parts) text captures once is (first, rest, own, others, e, f, mean, means) =
      let (plain, later) = and_parts _ _ once in
      rw e (ends-part part.kind part.modifier part.value part.name part.prefix part.suffix first parts own plain (and_parts _ _ later).0 is mean rest)

  means-read : (kind : PartType) (modifier : PartModifier) (value name prefix suffix : List ℕ) (parts : List PartView) (first rest : List ℕ) (own others : Captures)
      → IsTrue (is_unmodified modifier) → IsTrue (is_read_once kind (part_of kind modifier value name prefix suffix) parts) → IsTrue (are_read_once parts)
      → PartMeans options (part_of kind modifier value name prefix suffix) first own → PartsMean options parts rest others
      → read_part kind (part_of kind modifier value name prefix suffix) (first ++ rest) ≡ Some (own, rest)
  means-read FixedText modifiers.None value name prefix suffix parts first rest own others plain once later mean means =
      let (is_value, is_none) = (plain_means (part_of FixedText modifiers.None value name prefix suffix) refl).0 mean in
      rw (is_value, is_none, front-of value rest) refl
  means-read SegmentWildcard modifiers.None value name prefix suffix parts first rest own others plain once later mean means =
      let (piece, is_first, (some, without), is_own) = (piece_means options SegmentWildcard value name prefix suffix first own tt).0 mean in
      let bare : suffix ≡ [] = empty-text suffix (and_parts _ _ once).0 in
      let cut : first ++ rest ≡ prefix ++ (piece ++ rest) =
      ap (λ t. t ++ rest) (is_first ∙ ap (λ t. prefix ++ piece ++ t) bare ∙ append-nil (prefix ++ piece)) ∙ append_assoc prefix piece rest in
      let (own_segment, after) = segment-of piece rest (subst (λ (d : Option ℕ). IsTrue (lacks (unwrap_or d line_feed) piece)) slashed without) (ends-parts parts rest others later (and_parts _ _ once).1 means) in
      rw (cut, front-of prefix (piece ++ rest), own_segment, after) (some-segment piece rest own some is_own)
  means-read FullWildcard modifiers.None value name prefix suffix parts first rest own others plain once later mean means =
      let (piece, is_first, without, is_own) = (piece_means options FullWildcard value name prefix suffix first own tt).0 mean in
      let bare : suffix ≡ [] = empty-text suffix (and_parts _ _ once).0 in
      let ended : parts ≡ [] = last-parts parts (and_parts _ _ once).1 in
      let is_rest : rest ≡ [] = (subst (λ parts. PartsMean options parts rest others) ended means).0 in
      let cut : first ++ rest ≡ prefix ++ piece = ap (λ t. first ++ t) is_rest ∙ append-nil first ∙ is_first ∙ ap (λ t. prefix ++ piece ++ t) bare ∙ append-nil (prefix ++ piece) in
      rw (cut, front-of prefix piece) (all-read piece rest own is_own is_rest)
  means-read Regexp modifiers.None value name prefix suffix parts first rest own others plain once later mean means = absurd (let never : IsTrue false = once in cc)
  means-read kind modifier value name prefix suffix parts first rest own others plain once later mean means = absurd (let never : IsTrue false = plain in cc)

  pub complete : (parts : List PartView) (text : List ℕ) (captures : Captures) → IsTrue (are_read_once parts)
      → PartsMean options parts text captures → captured parts text ≡ Some captures
  complete [] text captures once (e, f) = rw (e, f) refl
  complete (part ∷ parts) text captures once (first, rest, own, others, e, f, mean, means) =
      let (plain, others_once) = and_parts _ _ once in
      let (first_once, later) = and_parts _ _ others_once in
      let found = means-read part.kind part.modifier part.value part.name part.prefix part.suffix parts first rest own others plain first_once later mean means in
      rw (e, found, complete parts rest others later means, f) refl

  agrees-by : (parts : List PartView) (text : List ℕ) (found : Option Captures) → captured parts text ≡ found → IsTrue (are_read_once parts) → IsTrue (lacks line_feed text) → Agrees options parts text found
  agrees-by parts text (Some captures) is once line = sound parts text captures once line is
  agrees-by parts text None is once line = λ captures means. let never : None ≡ Some captures = sym is ∙ complete parts text captures once means in absurd cc

  -- What is captured of a line is what the parts mean.
  pub captured-agrees : (parts : List PartView) (text : List ℕ) → IsTrue (are_read_once parts) → IsTrue (lacks line_feed text) → Agrees options parts text (captured parts text)
  captured-agrees parts text once line = agrees-by parts text (captured parts text) refl once line

-- ---- texts in memory

-- A search for a front finds what follows it.
pub front-found : (text front : List ℕ) (found : Option (Bor (List ℕ))) → IsUtf8 text → IsUtf8 front
    → MatchOption found (FindsTextPrefix front text None) (λ rest. StripsPrefix (FindsTextPrefix front) text rest.now)
    → option_text found ≡ after_front (chars front) (chars text)
front-found text front (Some rest) is_text is_front cases =
    let (n, at_front, is_rest, len) = cases in
    let cut : text ≡ front ++ rest.now = at_front.1 ∙ ap (λ t. front ++ t) (sym is_rest) in
    rw (ap chars cut, chars-append front rest.now is_front, front-of (chars front) (chars rest.now)) refl
front-found text front None is_text is_front cases = none (after_front (chars front) (chars text)) refl
  where
    none : (left : Option (List ℕ)) → after_front (chars front) (chars text) ≡ left → None ≡ left
    none None is = refl
    none (Some rest) is =
        absurd (not_stripped text front [] is_text is_front ([], (refl, refl)) cases rest (front-cut (chars front) (chars text) rest is ∙ sym (ap (λ t. chars front ++ rest ++ t) chars-nil ∙ append-nil (chars front ++ rest))))

-- A search for a slash finds the end of the segment.
pub segment-found : (text : List ℕ) (at : ℕ) → IsUtf8 text → MatchBeginsAt (FindsChar slash) text at → (chars (take at text) ≡ segment (chars text)) × (chars (drop at text) ≡ after_segment (chars text))
segment-found text at is_text (end, (none, found), order, boundary, after) =
    let front = take at text in
    let is_front : IsUtf8 front = IsUtf8-take text at is_text boundary in
    let whole : chars front ++ chars (drop at text) ≡ chars text = sym (chars-append front (drop at text) is_front) ∙ ap chars (take-append-drop at text) in
    let slashed : chars (drop at text) ≡ slash ∷ chars (drop end text) =
    ap chars found.split ∙ chars-append (encode_utf8 slash) (drop end text) (IsUtf8-encode slash refl) ∙ ap (λ t. t ++ chars (drop end text)) (chars-encode slash refl) in
    let cut = segment-of (chars front) (chars (drop at text)) ((lacks-searched slash front false is_front none).0 refl) (subst Ends (sym slashed) refl) in
    (sym cut.0 ∙ ap segment whole, sym cut.1 ∙ ap after_segment whole)

-- No captures before others.
pub nothing-more : (next : Option Captures) → option_map (λ others. [] ++ others) next ≡ next
nothing-more (Some others) = refl
nothing-more None = refl

-- What was captured before a part is read, and what is captured after it.
pub captured-more : (groups own : Captures) (next : Option Captures)
    → option_map (λ others. groups ++ others) (option_map (λ others. own ++ others) next) ≡ option_map (λ others. (groups ++ own) ++ others) next
captured-more groups own (Some others) = ap (λ (cs : Captures). Some cs) (sym (append_assoc groups own others))
captured-more groups own None = refl

pub last-view : (parts : List Part) → eqb (length parts) 0 ≡ is_last (parts_view parts)
last-view [] = refl
last-view (part ∷ parts) = let some : eqb (length (part ∷ parts)) 0 ≡ false = grind (arith, nat_tests) in some

-- A segment that is empty in memory is empty.
pub segment-none : (piece : List ℕ) (segment rest : List ℕ) (none : Bool) → chars piece ≡ segment → IsUtf8 piece → none ≡ eqb (length piece) 0 → none ≡ true → read_segment segment rest ≡ None
segment-none piece segment rest none same is_text is_none is =
    let empty : is_empty segment ≡ true = ap is_empty (sym same) ∙ is_empty-str piece is_text ∙ sym is_none ∙ is in rw empty refl

pub segment-read : (piece : List ℕ) (segment rest : List ℕ) (none : Bool) → chars piece ≡ segment → IsUtf8 piece → none ≡ eqb (length piece) 0 → none ≡ false → read_segment segment rest ≡ Some (of_segment segment rest)
segment-read piece segment rest none same is_text is_none is =
    let some : is_empty segment ≡ false = ap is_empty (sym same) ∙ is_empty-str piece is_text ∙ sym is_none ∙ is in rw some refl
