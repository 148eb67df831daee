-- A matcher returns the first way of its parts, with case ignored or kept.
use Rattle.std.proofs.Common.{◌≡◌, ◌↔◌, ℕ, List, [], ◌∷◌, ◌++◌, Bool, true, false, ◌&&◌, Option, Result, Some, None, refl, sym, ap, ap₂, ◌∙◌, subst, append-nil, eq-eqb, eqb-true}
use Rattle.std.proofs.Math.Path.{fun_ext}
use Rattle.std.specs.Char.{to_ascii_lowercase}
use Rattle.std.specs.Prelude.{IsTrue, Ok}
use Rattle.std.specs.Str.{all_scalars}
use Rattle.regex_syntax.specs.declared.Config.{Config}
use Rattle.urlpattern_matcher.specs.Components.{IsEngineOf}
use Rattle.urlpattern_matcher.specs.FirstWays.{Keeping, Acceptance}
use Rattle.urlpattern_matcher.specs.declared.regexp.RegExp.{Ghosts as Engine}
use Rattle.urlpattern_laws.proofs.MatchersTaken.{TookAsKept, matcher_asks, middle_all}
use Rattle.urlpattern_laws.proofs.PartItems.{parts_count}
use Rattle.urlpattern_laws.proofs.SingleCaptures.{IsAccepted, full_first, segment_first}
use Rattle.urlpattern_laws.proofs.SteadyWays.{Steady, steady_captured, steady_exactly, steady_parts, steady_piece}
use Rattle.urlpattern_laws.proofs.StrippedWays.{AreAlike, Given, between, continued_idle, exactly-append, exactly_here, first_between, first_is, followed_assoc, idle_continued, peeled_ways, sound_exactly, split_between}
use Rattle.urlpattern_laws.specs.LawsOfWays.{MatchersReturnFirstOfParts, ValuesReturnFirstOfParts}
use Rattle.urlpattern_expressions.specs.Expressions.{config_for}
use Rattle.urlpattern_expressions.specs.MatchedPartTexts.{CapturesNothing}
use Rattle.urlpattern_expressions.specs.PartWays.{captured_whole, copies_ways_as, exactly_as, followed_by, part_ways_as, parts_first_way_by, parts_ways_as, piece_ways_as}
use Rattle.urlpattern_meaning.proofs.MatcherMeaning.{HasEnds, scalars_middle}
use Rattle.urlpattern_meaning.proofs.MatchingLaws.{IsFast, lacks_middle, part_of}
use Rattle.urlpattern_meaning.proofs.WaysJoined.{first_of}
use Rattle.urlpattern_meaning.specs.Matching.{Accepts, AreStripped, InnerView, IsMadeBetween, IsMadeOf, IsMadeOfOne, IsSame, Literal, MatcherView, RegExp, Returns, end_text, folded, is_same_character, single_capture_matcher}
use Rattle.urlpattern_meaning.specs.PartMeaning.{Captures}
use Rattle.urlpattern_meaning.specs.Ways.{WaysByText, empty_way}
use Rattle.urlpattern_syntax.specs.Errors.{ErrorView}
use Rattle.urlpattern_syntax.specs.Options.{OptionsView}
use Rattle.urlpattern_syntax.specs.Parts.{PartView}
use Rattle.urlpattern_syntax.specs.RegexpText.{is_empty}
use Rattle.urlpattern_syntax.specs.Text.{lacks, line_feed}
use Rattle.urlpattern_syntax.specs.declared.parser.PartModifier.{PartModifier}
use Rattle.urlpattern_syntax.specs.declared.parser.PartModifier.TheVariants as modifiers
use Rattle.urlpattern_syntax.specs.declared.parser.PartType.{PartType}
use Rattle.urlpattern_syntax.specs.declared.parser.PartType.TheVariants.{FullWildcard, SegmentWildcard}

-- ---- texts that are equal except for case

alike_of : (ignore_case : Bool) (text given : List ℕ) → IsSame ignore_case text given → AreAlike (is_same_character ignore_case) text given
alike_of true [] [] same = tt
alike_of false [] [] same = tt
alike_of true (d ∷ text) (c ∷ given) same =
    let whole : to_ascii_lowercase d ∷ folded true text ≡ to_ascii_lowercase c ∷ folded true given = same in
    let first : to_ascii_lowercase d ≡ to_ascii_lowercase c = cc whole in
    let rest : folded true text ≡ folded true given = cc whole in
    (eq-eqb (to_ascii_lowercase d) (to_ascii_lowercase c) first, alike_of true text given rest)
alike_of false (d ∷ text) (c ∷ given) same =
    let whole : d ∷ text ≡ c ∷ given = same in
    let first : d ≡ c = cc whole in
    let rest : text ≡ given = cc whole in
    (eq-eqb d c first, alike_of false text given rest)
alike_of true [] (c ∷ given) same = absurd cc
alike_of false [] (c ∷ given) same = absurd cc
alike_of true (d ∷ text) [] same = absurd cc
alike_of false (d ∷ text) [] same = absurd cc

same_of : (ignore_case : Bool) (text given : List ℕ) → AreAlike (is_same_character ignore_case) text given → IsSame ignore_case text given
same_of true [] [] alike = refl
same_of false [] [] alike = refl
same_of true (d ∷ text) (c ∷ given) alike = ap₂ (λ (x : ℕ) (t : List ℕ). x ∷ t) (eqb-true (to_ascii_lowercase d) (to_ascii_lowercase c) alike.0) (same_of true text given alike.1)
same_of false (d ∷ text) (c ∷ given) alike = ap₂ (λ (x : ℕ) (t : List ℕ). x ∷ t) (eqb-true d c alike.0) (same_of false text given alike.1)
same_of ignore_case [] (c ∷ given) alike = absurd alike
same_of ignore_case (d ∷ text) [] alike = absurd alike

-- ---- the inner matcher

-- If the inner matcher accepts a text as the choice does whole, the matcher returns the first way
-- of the choice between prefix and suffix.
module _ {E : Type 0} (answer : E → List ℕ → Option Captures) (matcher : MatcherView E) (middle : WaysByText) (count : ℕ) (steady : Steady middle count) (text : List ℕ) where
  abbrev whole_ways : WaysByText
  whole_ways = between (is_same_character matcher.ignore_case) matcher.prefix matcher.suffix middle

  -- Each text within the text is accepted as the choice does whole.
  abbrev pub AcceptsFirst : Type 0
  AcceptsFirst =
      (head inner tail : List ℕ) (captures : Captures) → text ≡ head ++ inner ++ tail → Accepts answer matcher.ignore_case matcher.inner inner captures ↔ (first_of (middle inner) ≡ Some captures)

  returned_first : AcceptsFirst → (result : Option Captures) → Returns answer matcher text result → result ≡ first_of (whole_ways text)
  returned_first accepts (Some captures) (inner, (head, tail, cut, begins, ends), is) =
      sym (ap (λ (t : List ℕ). first_of (whole_ways t)) cut
      ∙ first_between (is_same_character matcher.ignore_case) matcher.prefix matcher.suffix middle count steady head inner tail (alike_of matcher.ignore_case head matcher.prefix begins) (alike_of matcher.ignore_case tail matcher.suffix ends)
      ∙ (accepts head inner tail captures cut).0 is)
  returned_first accepts None never = by (first_of (whole_ways text)) refl
    where
      by : (first : Option Captures) → first_of (whole_ways text) ≡ first → None ≡ first
      by None e = refl
      by (Some captures) e =
          let (head, inner, tail, cut, begins, ends) = split_between (is_same_character matcher.ignore_case) matcher.prefix matcher.suffix middle count steady text captures e in
          let found : first_of (middle inner) ≡ Some captures =
          sym (first_between (is_same_character matcher.ignore_case) matcher.prefix matcher.suffix middle count steady head inner tail begins ends) ∙ ap (λ (t : List ℕ). first_of (whole_ways t)) (sym cut) ∙ e in
          absurd (never captures (
            inner,
            (head, tail, cut, same_of matcher.ignore_case head matcher.prefix begins, same_of matcher.ignore_case tail matcher.suffix ends),
            (accepts head inner tail captures cut).1 found,
          ))

literal_first : (ignore_case : Bool) (literal text : List ℕ) (captures : Captures) → (IsSame ignore_case text literal × (captures ≡ [])) ↔ (first_of (exactly_as (is_same_character ignore_case) literal text) ≡ Some captures)
literal_first ignore_case literal text captures = (
  λ (same, none).
      ap (λ (t : List ℕ). first_of (exactly_as (is_same_character ignore_case) literal t)) (sym (append-nil text))
      ∙ ap first_of (exactly_here (is_same_character ignore_case) text literal [] (alike_of ignore_case text literal same)) ∙ ap Some (sym none),
  λ e.
      let is =
      first_is text (Given (is_same_character ignore_case) literal) (exactly_as (is_same_character ignore_case) literal text) captures (sound_exactly (is_same_character ignore_case) literal text) e in
      (same_of ignore_case text literal is.0, is.1),
)

-- ---- choices between texts

module _ (same : (c given : ℕ) → Bool) where
  bare_between : (choice : WaysByText) → choice ≡ between same [] [] choice
  bare_between choice = fun_ext (λ text. sym (continued_idle (choice text)) ∙ idle_continued (followed_by choice (exactly_as same [])) text)

  -- Nothing between two texts is one text.
  literal_between : (front back : List ℕ) → between same front back (λ text. empty_way 0 text ∷ []) ≡ between same [] [] (exactly_as same (front ++ back))
  literal_between front back =
      ap (followed_by (exactly_as same front)) (fun_ext (λ text. sym (idle_continued (exactly_as same back) text)))
      ∙ sym (exactly-append same front back) ∙ bare_between (exactly_as same (front ++ back))

  copies_between : (prefix suffix : List ℕ) (piece : WaysByText) → copies_ways_as same (is_empty prefix && is_empty suffix) modifiers.None prefix suffix piece ≡ between same prefix suffix (captured_whole piece)
  copies_between [] [] piece = bare_between (captured_whole piece)
  copies_between (c ∷ prefix) suffix piece = sym (followed_assoc (exactly_as same (c ∷ prefix)) (captured_whole piece) (exactly_as same suffix))
  copies_between [] (c ∷ suffix) piece = sym (followed_assoc (exactly_as same []) (captured_whole piece) (exactly_as same (c ∷ suffix)))

  merged : (front prefix suffix back : List ℕ) (choice : WaysByText) → between same front back (between same prefix suffix choice) ≡ between same (front ++ prefix) (suffix ++ back) choice
  merged front prefix suffix back choice =
      let F : WaysByText = exactly_as same front in
      let P : WaysByText = exactly_as same prefix in
      let S : WaysByText = exactly_as same suffix in
      let B : WaysByText = exactly_as same back in
      ap (followed_by F) (sym (followed_assoc P (followed_by choice S) B) ∙ ap (followed_by P) (sym (followed_assoc choice S B)))
      ∙ followed_assoc F P (followed_by choice (followed_by S B))
      ∙ ap₂ (λ (first last : WaysByText). followed_by first (followed_by choice last)) (sym (exactly-append same front prefix)) (sym (exactly-append same suffix back))

-- ---- matchers

module _ {E : Type 0} (answer : E → List ℕ → Option Captures) (IsEngine : List ℕ → Result E ErrorView → Type 0) (options : OptionsView) (text : List ℕ) (result : Option Captures) where
  abbrev same : ℕ → ℕ → Bool
  same = is_same_character options.ignore_case

  abbrev config : Config
  config = config_for options.ignore_case

  -- The result is the first way of the choice between the texts `front` and `back`.
  abbrev IsFirstBetween : (front back : List ℕ) → WaysByText → Type 0
  IsFirstBetween front back choice = result ≡ first_of (between same front back choice text)

  wildcard_first : (filter : Option ℕ) (allow_empty : Bool) (front : List ℕ) (part : PartView) (back : List ℕ) (piece : WaysByText) → Steady piece 0 → IsTrue (lacks line_feed text) →
      ((inner : List ℕ) (captures : Captures) → IsTrue (lacks line_feed inner) → IsAccepted options.ignore_case filter allow_empty inner captures ↔ (first_of (captured_whole piece inner) ≡ Some captures)) →
      Returns answer (single_capture_matcher options front part back filter allow_empty) text result →
      IsFirstBetween front back (copies_ways_as same (is_empty part.prefix && is_empty part.suffix) modifiers.None part.prefix part.suffix piece)
  wildcard_first filter allow_empty front part back piece steady no_feed accepts answers =
      returned_first answer (single_capture_matcher options front part back filter allow_empty) (captured_whole piece) 1 (steady_captured piece 0 steady) text
      (λ head inner tail captures cut. accepts inner captures (lacks_middle line_feed head inner tail (subst (λ (t : List ℕ). IsTrue (lacks line_feed t)) cut no_feed))) result answers
      ∙ ap (λ (choice : WaysByText). first_of (choice text))
      (sym (ap (between same front back) (copies_between same part.prefix part.suffix piece) ∙ merged same front part.prefix part.suffix back (captured_whole piece)))

  one_first : (kind : PartType) (modifier : PartModifier) (value name prefix suffix front back : List ℕ) (matcher : MatcherView E) → IsTrue (lacks line_feed text) → IsFast matcher.inner →
      IsMadeOfOne IsEngine kind modifier options front (part_of kind modifier value name prefix suffix) back matcher → Returns answer matcher text result →
      IsFirstBetween front back (part_ways_as config same kind options (part_of kind modifier value name prefix suffix))
  one_first FullWildcard modifiers.None value name prefix suffix front back matcher no_feed fast made answers =
      wildcard_first None true front (part_of FullWildcard modifiers.None value name prefix suffix) back (piece_ways_as config same options FullWildcard value) (steady_piece config same options FullWildcard value) no_feed
      (full_first options.ignore_case) (subst (λ (m : MatcherView E). Returns answer m text result) made answers)
  one_first SegmentWildcard modifiers.None value name prefix suffix front back matcher no_feed fast made answers =
      wildcard_first options.delimiter false front (part_of SegmentWildcard modifiers.None value name prefix suffix) back (piece_ways_as config same options SegmentWildcard value) (steady_piece config same options SegmentWildcard value) no_feed
      (segment_first options.ignore_case options.delimiter) (subst (λ (m : MatcherView E). Returns answer m text result) made answers)
  one_first kind modifier value name prefix suffix front back matcher no_feed fast (engine, is, made) answers = absurd (subst (λ (i : InnerView E). IsFast i) (ap (λ (m : MatcherView E). m.inner) made) fast)

  fast_between : (front : List ℕ) (middle : List PartView) (back : List ℕ) (matcher : MatcherView E) → IsTrue (lacks line_feed text) → IsFast matcher.inner →
      IsMadeBetween IsEngine options front middle back matcher → Returns answer matcher text result → IsFirstBetween front back (parts_ways_as config same options middle)
  fast_between front [] back matcher no_feed fast made answers =
      returned_first answer (record { prefix = []; suffix = []; inner = Literal (front ++ back); ignore_case = options.ignore_case }) (exactly_as same (front ++ back)) 0 (steady_exactly config same (front ++ back)) text
      (λ head inner tail captures cut. literal_first options.ignore_case (front ++ back) inner captures) result (subst (λ (m : MatcherView E). Returns answer m text result) made answers)
      ∙ ap (λ (choice : WaysByText). first_of (choice text)) (sym (literal_between same front back))
  fast_between front (part ∷ []) back matcher no_feed fast made answers =
      one_first part.kind part.modifier part.value part.name part.prefix part.suffix front back matcher no_feed fast made answers
      ∙ ap (λ (choice : WaysByText). first_of (between same front back choice text)) (fun_ext (λ t. sym (continued_idle (part_ways_as config same part.kind options part t))))
  fast_between front (part ∷ next ∷ parts) back matcher no_feed fast (engine, is, made) answers = absurd (subst (λ (i : InnerView E). IsFast i) (ap (λ (m : MatcherView E). m.inner) made) fast)

  -- A matcher without an engine.
  pub fast_first : (parts : List PartView) (matcher : MatcherView E) → IsMadeOf IsEngine options parts matcher → IsTrue (lacks line_feed text) → IsFast matcher.inner → Returns answer matcher text result
      → result ≡ parts_first_way_by options.ignore_case options parts text
  unfolding parts_first_way_by
  fast_first parts matcher made no_feed is answers =
      fast_between (end_text made.front) made.middle (end_text made.back) matcher no_feed is made.is_made answers
      ∙ ap (λ (choice : WaysByText). first_of (choice text)) (sym (peeled_ways config same options parts made.front made.middle made.back made.are_stripped))

  -- A matcher whose engine returns the first way of the middle parts for substrings of the text.
  pub engine_first_within : (parts : List PartView) (front : Option PartView) (middle : List PartView) (back : Option PartView) (matcher : MatcherView E) (engine : E) → AreStripped parts front middle back →
      HasEnds options matcher (end_text front) (end_text back) → matcher.inner ≡ RegExp (Ok engine) →
      ((head inner tail : List ℕ) → text ≡ head ++ inner ++ tail → answer engine inner ≡ parts_first_way_by options.ignore_case options middle inner) →
      Returns answer matcher text result → result ≡ parts_first_way_by options.ignore_case options parts text
  unfolding parts_first_way_by
  engine_first_within parts front middle back matcher engine peeled ends is firsts answers =
      let choice : WaysByText = parts_ways_as config same options middle in
      returned_first answer matcher choice (parts_count middle) (steady_parts config same options middle) text accepts result answers
      ∙ ap (λ (b : Bool). first_of (between (is_same_character b) matcher.prefix matcher.suffix choice text)) ends.2
      ∙ ap (λ (t : List ℕ). first_of (between same t matcher.suffix choice text)) ends.0
      ∙ ap (λ (t : List ℕ). first_of (between same (end_text front) t choice text)) ends.1
      ∙ ap (λ (all : WaysByText). first_of (all text)) (sym (peeled_ways config same options parts front middle back peeled))
    where
      accepts : AcceptsFirst answer matcher (parts_ways_as config same options middle) (parts_count middle) (steady_parts config same options middle) text
      accepts head inner tail captures cut =
          let here = firsts head inner tail cut in (
            λ found. sym here ∙ subst (λ (i : InnerView E). Accepts answer matcher.ignore_case i inner captures) is found,
            λ e. subst (λ (i : InnerView E). Accepts answer matcher.ignore_case i inner captures) (sym is) (here ∙ e),
          )

  -- A matcher whose engine returns the first way of the middle parts.
  pub engine_first : (parts : List PartView) (front : Option PartView) (middle : List PartView) (back : Option PartView) (matcher : MatcherView E) (engine : E) → AreStripped parts front middle back →
      HasEnds options matcher (end_text front) (end_text back) → matcher.inner ≡ RegExp (Ok engine) → ((t : List ℕ) → IsTrue (all_scalars t) → answer engine t ≡ parts_first_way_by options.ignore_case options middle t) →
      IsTrue (all_scalars text) → Returns answer matcher text result → result ≡ parts_first_way_by options.ignore_case options parts text
  engine_first parts front middle back matcher engine peeled ends is firsts fine answers =
      engine_first_within parts front middle back matcher engine peeled ends is
      (λ head inner tail cut. firsts inner (scalars_middle head inner tail (subst (λ (t : List ℕ). IsTrue (all_scalars t)) cut fine))) answers

-- If the values of an engine return the first way of the parts, the matchers with accepted
-- expressions do too.
pub matchers_first : {E : Type 0} (engine : Engine E) (Keeps : Keeping) (Accepted : Acceptance E) → ValuesReturnFirstOfParts engine Keeps → TookAsKept Accepted Keeps
    → MatchersReturnFirstOfParts engine Accepted
matchers_first engine Keeps Accepted values took options flags parts matcher made silent text result no_feed fine answers =
    let m = made.is_made in
    let silent_middle = middle_all (λ part. CapturesNothing part.kind part.value) parts m.front m.middle m.back m.are_stripped silent in
    matcher_asks engine Keeps Accepted took options flags parts matcher made (result ≡ parts_first_way_by options.ignore_case options parts text)
    (λ is. fast_first engine.answer (IsEngineOf engine false flags) options text result parts matcher m no_feed is answers)
    (λ value e keeps ends of. engine_first engine.answer (IsEngineOf engine false flags) options text result parts m.front m.middle m.back matcher value m.are_stripped ends e
    (λ t good. values options flags m.middle value keeps of.alone silent_middle of.is_made t good ∙ ap (λ (b : Bool). parts_first_way_by b options m.middle t) (sym made.case_kept)) fine answers)
    ∙ ap (λ (b : Bool). parts_first_way_by b options parts text) made.case_kept
