-- Templates capture what the parts that they are made of capture.
use Rattle.std.proofs.Common.{◌≡◌, ◌∙◌, ℕ, ◌+◌, ◌<◌, Bool, true, false, not, cond, eqb, List, [], ◌∷◌, ◌++◌, IsTrue, None, Option, Some, ap, append_assoc, arith, drop, length, refl, subst, sym, take}
use Rattle.std.proofs.lemmas.Bool.Decides.{nat_tests}
use Rattle.std.proofs.lemmas.Bool.{and_parts}
use Rattle.std.proofs.lemmas.List.{append-nil, take-append-drop}
use Rattle.std.proofs.lemmas.Str.{IsUtf8-encode, chars-append}
use Rattle.std.specs.Char.{encode_utf8}
use Rattle.std.specs.Prelude.{if◌then◌else◌, option_map}
use Rattle.std.specs.Str.{IsUtf8, chars}
use Rattle.std.specs.Str.Pattern.{FindsChar, SplitsAroundMatch}
use Rattle.urlpattern_matcher.proofs.MatcherTexts.{lacks-searched}
use Rattle.urlpattern_meaning.specs.PartMeaning.{Captures}
use Rattle.urlpattern_paths.proofs.PathLaws.{nothing-more}
use Rattle.urlpattern_paths.specs.PathCaptures.{Read, after_front, captured, captured_after, front_text, read_all, read_first_segment, read_part, read_text}
use Rattle.urlpattern_paths.specs.Templates.{captured_by, captured_last, read_character}
use Rattle.urlpattern_syntax.proofs.StringTexts.{chars-encode}
use Rattle.urlpattern_syntax.specs.Parts.{PartView, parts_view}
use Rattle.urlpattern_syntax.specs.RegexpText.{is_empty, is_fixed_text}
use Rattle.urlpattern_syntax.specs.Text.{lacks, line_feed}
use Rattle.urlpattern_syntax.specs.declared.parser.Part.{Part}
use Rattle.urlpattern_syntax.specs.declared.parser.PartType.{PartType}
use Rattle.urlpattern_syntax.specs.declared.parser.PartType.TheVariants.{FixedText, FullWildcard, SegmentWildcard}

-- ---- what comes last

after-same : (one other : List ℕ → Option Captures) → ((rest : List ℕ) → one rest ≡ other rest) → (found : Option Read) → captured_after one found ≡ captured_after other found
after-same one other same (Some (own, rest)) = ap (option_map (λ others. own ++ others)) (same rest)
after-same one other same None = refl

captured_by-same : (one other : List ℕ → Option Captures) → ((rest : List ℕ) → one rest ≡ other rest) → (text path : List ℕ) → captured_by one text path ≡ captured_by other text path
captured_by-same one other same [] path = same path
captured_by-same one other same (c ∷ text) path = after-same (captured_by one text) (captured_by other text) (captured_by-same one other same text) (read_character c path)

captured_by-append : (last : List ℕ → Option Captures) (front text path : List ℕ) → captured_by last (front ++ text) path ≡ captured_by (captured_by last text) front path
captured_by-append last [] text path = refl
captured_by-append last (c ∷ front) text path =
    after-same (captured_by last (front ++ text)) (captured_by (captured_by last text) front) (captured_by-append last front text) (read_character c path)

-- A text whose end is captured by more text.
pub captured-longer : (last next : List ℕ → Option Captures) (text more : List ℕ) → ((rest : List ℕ) → last rest ≡ captured_by next more rest) → (path : List ℕ)
    → captured_by last text path ≡ captured_by next (text ++ more) path
captured-longer last next text more same path = captured_by-same last (captured_by next more) same text path ∙ sym (captured_by-append next text more path)

-- ---- what is read first

read-other : (last : List ℕ → Option Captures) (c : ℕ) (front path : List ℕ) → eqb c line_feed ≡ false
    → ((rest : List ℕ) → captured_by last front rest ≡ captured_after last (option_map read_text (after_front front rest)))
    → captured_by last (c ∷ front) path ≡ captured_after last (option_map read_text (after_front (c ∷ front) path))
read-other last c front [] other later = rw other refl
read-other last c front (d ∷ path) other later =
    rw other (elim (eqb d c) as (λ b. captured_after (captured_by last front) (option_map read_text (cond b (Some path) None)) ≡ captured_after last (option_map read_text (cond b (after_front front path) None))) [
      | true ↦ nothing-more (captured_by last front path) ∙ later path
      | false ↦ refl
    ])

is-false : (b : Bool) → IsTrue (not b) → b ≡ false
is-false true is = absurd cc
is-false false is = refl

-- A text without line feeds is a fixed text.
pub captured-front : (last : List ℕ → Option Captures) (front path : List ℕ) → IsTrue (lacks line_feed front)
    → captured_by last front path ≡ captured_after last (option_map read_text (after_front front path))
captured-front last [] path without = sym (nothing-more (last path))
captured-front last (c ∷ front) path without =
    let (other, more) = and_parts _ _ without in
    read-other last c front path (is-false (eqb c line_feed) other) (λ rest. captured-front last front rest more)

-- A line feed after it is a segment.
pub captured-segment : (last : List ℕ → Option Captures) (front text path : List ℕ) → IsTrue (lacks line_feed front)
    → captured_by last (front ++ line_feed ∷ text) path ≡ captured_after (captured_by last text) (read_first_segment (after_front front path))
captured-segment last front text path without =
    captured_by-append last front (line_feed ∷ text) path ∙ captured-front (captured_by last (line_feed ∷ text)) front path without ∙ by (after_front front path)
  where
    by : (found : Option (List ℕ)) → captured_after (captured_by last (line_feed ∷ text)) (option_map read_text found) ≡ captured_after (captured_by last text) (read_first_segment found)
    by (Some rest) = nothing-more (captured_by last (line_feed ∷ text) rest)
    by None = refl

-- ---- parts

module _ (part : PartView) (after : List PartView) (front : List ℕ) (is_front : front ≡ front_text part) (without : IsTrue (lacks line_feed front)) (rest : List ℕ) where
  front-is : (text : List ℕ) (kind : PartType) → part.kind ≡ kind → (if is_fixed_text kind then part.value else part.prefix) ≡ text → front ≡ text
  front-is text kind is same = is_front ∙ ap (λ k. if is_fixed_text k then part.value else part.prefix) is ∙ same

  read-by : (kind : PartType) → part.kind ≡ kind → captured (part ∷ after) rest ≡ captured_after (captured after) (read_part kind part rest)
  read-by kind is = ap (λ k. captured_after (captured after) (read_part k part rest)) is

  pub captured-fixed : part.kind ≡ FixedText → captured (part ∷ after) rest ≡ captured_by (captured after) front rest
  captured-fixed is =
      read-by FixedText is ∙ ap (λ t. captured_after (captured after) (option_map read_text (after_front t rest))) (sym (front-is part.value FixedText is refl))
      ∙ sym (captured-front (captured after) front rest without)

  pub captured-one_segment : part.kind ≡ SegmentWildcard → captured (part ∷ after) rest ≡ captured_by (captured after) (front ++ line_feed ∷ []) rest
  captured-one_segment is =
      read-by SegmentWildcard is ∙ ap (λ t. captured_after (captured after) (read_first_segment (after_front t rest))) (sym (front-is part.prefix SegmentWildcard is refl))
      ∙ sym (captured-segment (captured after) front [] rest without ∙ after-same (captured_by (captured after) []) (captured after) (λ rest. refl) (read_first_segment (after_front front rest)))

  pub captured-rest : part.kind ≡ FullWildcard → after ≡ [] → captured (part ∷ after) rest ≡ captured_by (captured_last true) front rest
  captured-rest is none =
      read-by FullWildcard is ∙ ap (λ t. captured_after (captured after) (option_map read_all (after_front t rest))) (sym (front-is part.prefix FullWildcard is refl))
      ∙ ap (λ parts. captured_after (captured parts) (option_map read_all (after_front front rest))) none
      ∙ sym (captured-front (captured_last true) front rest without ∙ by (after_front front rest))
    where
      by : (found : Option (List ℕ)) → captured_after (captured_last true) (option_map read_text found) ≡ captured_after (captured []) (option_map read_all found)
      by (Some piece) = refl
      by None = refl

-- ---- the end of a path

pub ended-by-rest : (takes : Bool) (groups : Captures) (rest : List ℕ) → takes ≡ true
    → Some (groups ++ Some rest ∷ []) ≡ option_map (λ others. groups ++ others) (captured_after (captured_last takes) (Some (read_text rest)))
ended-by-rest true groups rest is = refl
ended-by-rest false groups rest is = absurd cc

pub ended : (takes : Bool) (groups : Captures) (rest : List ℕ) → takes ≡ false
    → (if is_empty rest then Some groups else None) ≡ option_map (λ others. groups ++ others) (captured_after (captured_last takes) (Some (read_text rest)))
ended true groups rest is = absurd cc
ended false groups [] is = ap (λ (gs : Captures). Some gs) (sym (append-nil groups))
ended false groups (c ∷ rest) is = refl

-- ---- texts in memory

-- A text is cut at its first line feed.
pub cut-at-line_feed : (text front back : List ℕ) → IsUtf8 front → SplitsAroundMatch (FindsChar line_feed) text front back
    → (chars text ≡ chars front ++ line_feed ∷ chars back) × IsTrue (lacks line_feed (chars front)) × (length back < length text)
cut-at-line_feed text front back is_front (from, to, (none, found), is_taken, is_dropped, order, at, left) = (
  ap chars (sym (take-append-drop from text)) ∙ ap (λ t. chars (take from text ++ t)) found.split ∙ ap (λ t. chars (t ++ (encode_utf8 line_feed ++ drop to text))) (sym is_taken)
      ∙ chars-append front (encode_utf8 line_feed ++ drop to text) is_front
      ∙ ap (λ t. chars front ++ t) (chars-append (encode_utf8 line_feed) (drop to text) (IsUtf8-encode line_feed refl) ∙ ap (λ t. t ++ chars (drop to text)) (chars-encode line_feed refl) ∙ ap (λ t. line_feed ∷ chars t) (sym is_dropped)),
  (lacks-searched line_feed front false is_front (subst (λ t. FindsChar line_feed t None) (sym is_taken) none)).0 refl,
  let end : to ≡ from + 1 = found.ends in omega (arith, left, end),
)

pub captured-cut : (last : List ℕ → Option Captures) (text front back path : List ℕ) → IsUtf8 front → SplitsAroundMatch (FindsChar line_feed) text front back
    → captured_by last (chars text) path ≡ captured_after (captured_by last (chars back)) (read_first_segment (after_front (chars front) path))
captured-cut last text front back path is_front cut =
    let (whole, without, shorter) = cut-at-line_feed text front back is_front cut in
    ap (λ t. captured_by last t path) whole ∙ captured-segment last (chars front) (chars back) path without

-- A text without a line feed is a fixed text.
pub captured-uncut : (last : List ℕ → Option Captures) (text path : List ℕ) → IsUtf8 text → FindsChar line_feed text None
    → captured_by last (chars text) path ≡ captured_after last (option_map read_text (after_front (chars text) path))
captured-uncut last text path is_text none = captured-front last (chars text) path ((lacks-searched line_feed text false is_text none).0 refl)

pub is-mark : IsUtf8 (line_feed ∷ [])
unfolding encode_utf8
is-mark = IsUtf8-encode line_feed refl

-- A text after which another and a line feed were appended.
pub with-mark : (text front : List ℕ) → IsUtf8 text → IsUtf8 front → chars ((text ++ front) ++ line_feed ∷ []) ≡ chars text ++ (chars front ++ line_feed ∷ [])
unfolding encode_utf8
with-mark text front is_text is_front =
    ap chars (append_assoc text front (line_feed ∷ [])) ∙ chars-append text (front ++ line_feed ∷ []) is_text
    ∙ ap (λ t. chars text ++ t) (chars-append front (line_feed ∷ []) is_front ∙ ap (λ t. chars front ++ t) (chars-encode line_feed refl))

pub none-left : (parts : List Part) (none : Bool) → none ≡ eqb (length parts) 0 → none ≡ true → parts_view parts ≡ []
none-left [] none is_none is = refl
none-left (part ∷ parts) none is_none is = absurd (let some : eqb (length (part ∷ parts)) 0 ≡ false = grind (arith, nat_tests) in let never : false ≡ true = sym some ∙ sym is_none ∙ is in cc)
