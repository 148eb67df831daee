-- A text that the matcher of parts matches fits the parts.
use Rattle.std.proofs.Common.{◌≡◌, ℕ, Bool, true, false, true≢false, arith, cond, codes, not, List, [], ◌∷◌, ◌++◌, append_assoc, ap, refl, subst, sym, ◌∙◌, ◌⊎◌, inl, inr}
use Rattle.std.proofs.lemmas.List.{append-nil}
use Rattle.std.proofs.lemmas.List.Elements.{All-cons, All-nil}
use Rattle.std.specs.Prelude.{◌&&◌, ◌||◌, ◌≢◌, ◌<◌, ◌≤◌, length, slice_index_or, IsTrue, Ok, Err, Option, None, Some, Result, option_to_list, unwrap_or}
use Rattle.urlpattern_matcher.specs.Components.{IsEngineOf, engine_flags, has_regexp, is_custom}
use Rattle.urlpattern_matcher.specs.declared.regexp.RegExp.{Ghosts as Engine}
use Rattle.urlpattern_index.specs.Known.{IsFirstText}
use Rattle.urlpattern_index.specs.Paths.{FitsModified, FitsUnmodified, FitsPart, FitsParts}
use Rattle.urlpattern_meaning.proofs.FirstResults.{middle_plain}
use Rattle.urlpattern_meaning.proofs.MatchingLaws.{middle_kept, regrouped}
use Rattle.urlpattern_meaning.specs.Matching.{Agrees, BeginsPlain, HoldsEngine, IsMadeBetween, IsMadeByEngine, IsMadeOf, IsMadeOfOne, IsMatched, IsRemoved, IsSame, Literal, MatcherView, Matches, PassesFilter, RegExp, ValuesAgreeWithParts, end_text, single_capture_matcher}
use Rattle.urlpattern_meaning.specs.PartMeaning.{Allows, AreCopies, AreGenerated, Captures, IsCopyOf, PartMeans, PartsMean}
use Rattle.urlpattern_syntax.specs.declared.parser.PartModifier.{PartModifier}
use Rattle.urlpattern_syntax.specs.declared.parser.PartModifier.TheVariants as modifiers
use Rattle.urlpattern_syntax.specs.declared.parser.PartType.{PartType}
use Rattle.urlpattern_syntax.specs.declared.parser.PartType.TheVariants.{FixedText, FullWildcard, Regexp, SegmentWildcard}
use Rattle.urlpattern_syntax.specs.Errors.{ErrorView}
use Rattle.urlpattern_syntax.specs.Options.{OptionsView}
use Rattle.urlpattern_syntax.specs.declared.parser.Part.{Part}
use Rattle.urlpattern_syntax.specs.Parts.{PartView, part_view, parts_view}
use Rattle.urlpattern_syntax.specs.RegexpText.{is_fixed_text, is_plain, is_unmodified, regexp_text}
use Rattle.urlpattern_syntax.specs.Text.{lacks, line_feed, text_of}

-- ---- texts that fit, one after another

fits_append : (delimiter : Option ℕ) (parts others : List PartView) (text more : List ℕ) → FitsParts true delimiter parts text
    → FitsParts true delimiter others more → FitsParts true delimiter (parts ++ others) (text ++ more)
fits_append delimiter [] others text more none fits = subst (λ t. FitsParts true delimiter others (t ++ more)) (sym (none refl)) fits
fits_append delimiter (part ∷ parts) others text more (first, rest, cut, fits_first, fits_rest) fits = (
  first,
  rest ++ more,
  ap (λ t. t ++ more) cut ∙ append_assoc first rest more,
  fits_first,
  fits_append delimiter parts others rest more fits_rest fits,
)

fits_one : (delimiter : Option ℕ) (part : PartView) (text : List ℕ) → FitsPart delimiter part text → FitsParts true delimiter (part ∷ []) text
fits_one delimiter part text fits = (text, [], sym (append-nil text), fits, λ whole. refl)

-- Only its own text fits a plain fixed text.
plain_part : (part : PartView) → IsTrue (is_plain part) → (part.kind ≡ FixedText) × (part.modifier ≡ modifiers.None)
plain_part part plain = by part.kind part.modifier plain
  where
    by : (kind : PartType) (modifier : PartModifier) → IsTrue (is_fixed_text kind && is_unmodified modifier) → (kind ≡ FixedText) × (modifier ≡ modifiers.None)
    by FixedText modifiers.None is = (refl, refl)
    by kind modifier is = absurd (cc)

plain_fits : (delimiter : Option ℕ) (part : PartView) → IsTrue (is_plain part) → FitsPart delimiter part part.value
plain_fits delimiter part plain =
    let (is_kind, once) = plain_part part plain in
    subst (λ m. FitsModified m delimiter part part.value) (sym once) (subst (λ k. FitsUnmodified k delimiter part part.value) (sym is_kind) refl)

plain_alone : (delimiter : Option ℕ) (part : PartView) (text : List ℕ) → IsTrue (is_plain part) → FitsPart delimiter part text → text ≡ part.value
plain_alone delimiter part text plain fits =
    let (is_kind, once) = plain_part part plain in
    subst (λ k. FitsUnmodified k delimiter part text) is_kind (subst (λ m. FitsModified m delimiter part text) once fits)

end_fits : (delimiter : Option ℕ) (end : Option PartView) (IsThere : Type 0) → IsRemoved end IsThere → FitsParts true delimiter (option_to_list end) (end_text end)
end_fits delimiter (Some part) IsThere plain = fits_one delimiter part part.value (plain_fits delimiter part plain)
end_fits delimiter None IsThere none = λ whole. refl

-- ---- texts that parts mean

segment_fits : (delimiter : Option ℕ) (part : PartView) (piece text : List ℕ) → text ≡ part.prefix ++ piece ++ part.suffix
    → IsTrue (lacks (unwrap_or delimiter line_feed) piece) → FitsUnmodified SegmentWildcard delimiter part text
segment_fits (Some end) part piece text cut lack = (piece, cut, lack)
segment_fits None part piece text cut lack = (piece ++ part.suffix, cut ∙ append_assoc part.prefix piece part.suffix)

copy_fits : (options : OptionsView) (kind : PartType) (part : PartView) (text : List ℕ) → IsCopyOf options kind part text → FitsUnmodified kind options.delimiter part text
copy_fits options FixedText part text is = is
copy_fits options Regexp part text (piece, cut, never) = absurd never
copy_fits options SegmentWildcard part text (piece, cut, (filled, lack)) = segment_fits options.delimiter part piece text cut lack
copy_fits options FullWildcard part text (piece, cut, lack) = (piece ++ part.suffix, cut ∙ append_assoc part.prefix piece part.suffix)

part_fits : (options : OptionsView) (part : PartView) (text : List ℕ) (captures : Captures) → PartMeans options part text captures → FitsPart options.delimiter part text
part_fits options part text captures means = by part.modifier means.allowed
  where
    by : (modifier : PartModifier) → Allows modifier means.count → FitsModified modifier options.delimiter part text
    by modifiers.None one =
        let (first, rest, cut, is, none) = subst (λ n. AreCopies options part n text) one means.are_copies in
        subst (FitsUnmodified part.kind options.delimiter part) (sym (cut ∙ ap (λ r. first ++ r) none ∙ append-nil first)) (copy_fits options part.kind part first is)
    by modifiers.Optional allowed = tt
    by modifiers.ZeroOrMore allowed = tt
    by modifiers.OneOrMore allowed = tt

means_fit : (options : OptionsView) (parts : List PartView) (text : List ℕ) (captures : Captures) → PartsMean options parts text captures → FitsParts true options.delimiter parts text
means_fit options [] text captures means = λ whole. means.0
means_fit options (part ∷ parts) text captures (first, rest, actual, others, cut, joined, means, more) =
    (first, rest, cut, part_fits options part first actual means, means_fit options parts rest others more)

-- ---- the text between prefix and suffix

module _ {E : Type 0} (answer : E → List ℕ → Option Captures) (IsEngine : List ℕ → Result E ErrorView → Type 0) (options : OptionsView)
    (kept : options.ignore_case ≡ false) (matcher : MatcherView E) (text : List ℕ) (captures : Captures) (matches : Matches answer matcher text captures) where
  -- An engine of the middle parts matches the inner text.
  abbrev IsAsked : List PartView → (inner : List ℕ) → Type 0
  IsAsked middle inner = (value : E) × (matcher.inner ≡ RegExp (Ok value)) × IsEngine (regexp_text options middle) (Ok value) × (answer value inner ≡ Some captures)

  -- The text is `front`, an inner text and `back`; the inner text fits the middle parts, or an
  -- engine matches it.
  abbrev pub IsBetween : (front : List ℕ) → List PartView → (back : List ℕ) → Type 0
  IsBetween front middle back = (inner : List ℕ) × (text ≡ front ++ inner ++ back) × (FitsParts true options.delimiter middle inner ⊎ IsAsked middle inner)

  literal_between : (front back : List ℕ) → IsMadeBetween IsEngine options front [] back matcher → IsBetween front [] back
  literal_between front back made =
      let literal : MatcherView E = record { prefix = []; suffix = []; inner = Literal (front ++ back); ignore_case = options.ignore_case } in
      let (middle, cut, (same, none)) = subst (λ (m : MatcherView E). Matches answer m text captures) made matches in
      let whole = (middle_kept literal text middle kept).0 cut in
      let is : middle ≡ front ++ back = subst (λ (b : Bool). IsSame b middle (front ++ back)) kept same in
      ([], whole ∙ append-nil middle ∙ is ∙ ap (λ t. t ++ back) (sym (append-nil front)), inl (λ all. refl))

  capture_between : (front : List ℕ) (part : PartView) (back : List ℕ) (filter : Option ℕ) (allow_empty : Bool) → matcher ≡ single_capture_matcher options front part back filter allow_empty
      → ((piece : List ℕ) → PassesFilter false filter piece → FitsPart options.delimiter part (part.prefix ++ piece ++ part.suffix)) → IsBetween front (part ∷ []) back
  capture_between front part back filter allow_empty made fits =
      let single : MatcherView E = single_capture_matcher options front part back filter allow_empty in
      let (piece, cut, (may, passes, is)) = subst (λ (m : MatcherView E). Matches answer m text captures) made matches in
      let whole = (middle_kept single text piece kept).0 cut in
      let inner = part.prefix ++ piece ++ part.suffix in (
        inner,
        whole ∙ regrouped front part.prefix piece part.suffix back,
        inl (fits_one options.delimiter part inner (fits piece (subst (λ (b : Bool). PassesFilter b filter piece) kept passes))),
      )

  engine_between : (front : List ℕ) (middle : List PartView) (back : List ℕ) → IsMadeByEngine IsEngine options front middle back matcher → IsBetween front middle back
  engine_between front middle back (engine, of, made) = by engine of made
    where
      by : (engine : Result E ErrorView) → IsEngine (regexp_text options middle) engine
          → matcher ≡ record { prefix = front; suffix = back; inner = RegExp engine; ignore_case = options.ignore_case } → IsBetween front middle back
      by (Ok value) of made =
          let asked : MatcherView E = record { prefix = front; suffix = back; inner = RegExp (Ok value); ignore_case = options.ignore_case } in
          let (inner, cut, answers) = subst (λ (m : MatcherView E). Matches answer m text captures) made matches in
          let whole = (middle_kept asked text inner kept).0 cut in
          (inner, whole, inr (value, ap (λ (m : MatcherView E). m.inner) made, of, answers))
      by (Err error) of made = absurd (let (inner, cut, never) = subst (λ (m : MatcherView E). Matches answer m text captures) made matches in never)

  passes_fits : (delimiter : Option ℕ) (part : PartView) (piece : List ℕ) → PassesFilter false delimiter piece → FitsUnmodified SegmentWildcard delimiter part (part.prefix ++ piece ++ part.suffix)
  passes_fits (Some end) part piece passes = (piece, refl, passes)
  passes_fits None part piece passes = (piece ++ part.suffix, append_assoc part.prefix piece part.suffix)

  one_between : (kind : PartType) (modifier : PartModifier) (front : List ℕ) (part : PartView) (back : List ℕ) → part.kind ≡ kind → part.modifier ≡ modifier
      → IsMadeOfOne IsEngine kind modifier options front part back matcher → IsBetween front (part ∷ []) back
  one_between FullWildcard modifiers.None front part back is_kind once made =
      capture_between front part back None true made (λ piece passes.
      subst (λ m. FitsModified m options.delimiter part (part.prefix ++ piece ++ part.suffix)) (sym once)
      (subst (λ k. FitsUnmodified k options.delimiter part (part.prefix ++ piece ++ part.suffix)) (sym is_kind) (piece ++ part.suffix, append_assoc part.prefix piece part.suffix)))
  one_between SegmentWildcard modifiers.None front part back is_kind once made =
      capture_between front part back options.delimiter false made (λ piece passes.
      subst (λ m. FitsModified m options.delimiter part (part.prefix ++ piece ++ part.suffix)) (sym once)
      (subst (λ k. FitsUnmodified k options.delimiter part (part.prefix ++ piece ++ part.suffix)) (sym is_kind) (passes_fits options.delimiter part piece passes)))
  one_between kind modifier front part back is_kind once made = engine_between front (part ∷ []) back made

  pub matched_between : (front : List ℕ) (middle : List PartView) (back : List ℕ) → IsMadeBetween IsEngine options front middle back matcher → IsBetween front middle back
  matched_between front [] back made = literal_between front back made
  matched_between front (part ∷ []) back made = one_between part.kind part.modifier front part back refl refl made
  matched_between front (part ∷ next ∷ parts) back made = engine_between front (part ∷ next ∷ parts) back made

-- ---- whole texts

pub none_custom : (parts : List PartView) → has_regexp parts ≡ false → AreGenerated parts
none_custom [] none = All-nil (λ part. part.kind ≢ Regexp)
none_custom (part ∷ parts) none = by (is_custom part.kind) refl none (none_custom parts)
  where
    by : (custom : Bool) → is_custom part.kind ≡ custom → (custom || has_regexp parts) ≡ false → (has_regexp parts ≡ false → AreGenerated parts) → AreGenerated (part ∷ parts)
    by true is none others = absurd (true≢false none)
    by false is none others = All-cons (λ part. part.kind ≢ Regexp) part parts (λ custom. true≢false (sym (ap is_custom custom) ∙ is)) (others none)

module _ {E : Type 0} (engine : Engine E) (options : OptionsView) (parts : List PartView) (matcher : MatcherView E) (text : List ℕ)
    (made : IsMadeOf (IsEngineOf engine false (engine_flags options)) options parts matcher) (kept : options.ignore_case ≡ false)
    (matched : IsMatched engine.answer matcher text) where
  between : IsBetween engine.answer (IsEngineOf engine false (engine_flags options)) options kept matcher text matched.0 matched.1 (end_text made.front) made.middle (end_text made.back)
  between = matched_between engine.answer (IsEngineOf engine false (engine_flags options)) options kept matcher text matched.0 matched.1 (end_text made.front) made.middle (end_text made.back) made.is_made

  -- A matched text fits the parts, if an engine, where one is needed, agrees with them.
  pub matched_fits : (HoldsEngine matcher.inner → ValuesAgreeWithParts engine.IsMade engine.answer × AreGenerated parts) → FitsParts true options.delimiter parts text
  matched_fits agrees =
      let (inner, cut, fits_or_asked) = between in
      let fits : FitsParts true options.delimiter made.middle inner =
      elim fits_or_asked [
        | inl fits ↦ fits
        | inr (value, is, of, answers) ↦ (
            let (agree, generated) = agrees (subst HoldsEngine (sym is) tt) in
            let by_u : engine.IsMade value (regexp_text options made.middle) (codes "u") =
            subst (engine.IsMade value (regexp_text options made.middle)) (ap (λ b. cond b (codes "ui") (codes "u")) kept) of in
            means_fit options made.middle inner matched.0
            (subst (Agrees options made.middle inner) answers
            (agree options made.middle value (middle_plain parts made.front made.middle made.back made.are_stripped generated) by_u inner)))
      ] in
      let whole = fits_append options.delimiter (option_to_list made.front ++ made.middle) (option_to_list made.back) (end_text made.front ++ inner) (end_text made.back)
      (fits_append options.delimiter (option_to_list made.front) made.middle (end_text made.front) inner (end_fits options.delimiter made.front _ made.are_stripped.front_removed) fits)
      (end_fits options.delimiter made.back _ made.are_stripped.back_removed) in
      subst (λ ps. FitsParts true options.delimiter ps text) (sym made.are_stripped.cut)
      (subst (FitsParts true options.delimiter (option_to_list made.front ++ made.middle ++ option_to_list made.back)) (sym cut) whole)

  -- A matched text begins with the plain fixed text that the parts begin with.
  pub matched_begins : (first : PartView) (rest : List PartView) → parts ≡ first ∷ rest → IsTrue (is_plain first) → FitsParts false options.delimiter (first ∷ []) text
  matched_begins first rest are plain =
      let (inner, cut, fits_or_asked) = between in
      let whole : text ≡ first.value ++ (inner ++ end_text made.back) =
      cut ∙ append_assoc (end_text made.front) inner (end_text made.back) ∙ ap (λ t. t ++ (inner ++ end_text made.back)) (by made.front made.are_stripped.front_removed made.are_stripped.cut) in
      (first.value, inner ++ end_text made.back, whole, plain_fits options.delimiter first plain, λ never. absurd (true≢false (sym never)))
    where
      by : (front : Option PartView) → IsRemoved front (BeginsPlain parts) → parts ≡ option_to_list front ++ made.middle ++ option_to_list made.back → end_text front ≡ first.value
      by (Some part) removed cut =
          let both : part ∷ (made.middle ++ option_to_list made.back) ≡ first ∷ rest = sym cut ∙ are in
          let same : part ≡ first = cc both in
          ap (λ (p : PartView). p.value) same
      by None none cut = absurd (none (subst BeginsPlain (sym are) plain))

-- A matched text fits the parts that a path is known to begin with.
pub first_fits : {E : Type 0} (engine : Engine E) (options : OptionsView) (parts : List PartView) (matcher : MatcherView E) (text : List ℕ)
    → IsMadeOf (IsEngineOf engine false (engine_flags options)) options parts matcher → IsMatched engine.answer matcher text
    → (firsts : List PartView) → IsFirstText options parts firsts → FitsParts false options.delimiter firsts text
first_fits engine options parts matcher text made matched [] is = λ never. absurd (true≢false (sym never))
first_fits engine options parts matcher text made matched (first ∷ []) (kept, plain, rest, are) =
    matched_begins engine options parts matcher text made kept matched first rest are plain
first_fits engine options parts matcher text made matched (first ∷ next ∷ firsts) never = absurd never

-- ---- lists of parts

-- Only the empty text fits an empty list of parts.
pub none_fits : (delimiter : Option ℕ) (parts : List Part) (text : List ℕ) → length parts < 1 → FitsParts true delimiter (parts_view parts) text → text ≡ []
none_fits delimiter [] text none fits = fits refl
none_fits delimiter (part ∷ parts) text none fits = absurd (omega arith)

-- Only its own text fits a list of one plain fixed text.
pub one_fits : (delimiter : Option ℕ) (parts : List Part) (part : Part) (text : List ℕ) → 1 ≤ length parts → length parts < 2 → part ≡ slice_index_or parts 0 part
    → IsTrue (is_plain (part_view part)) → FitsParts true delimiter (parts_view parts) text → text ≡ text_of part.value
one_fits delimiter [] part text some one is plain fits = absurd (omega arith)
one_fits delimiter (first ∷ next ∷ parts) part text some one is plain fits = absurd (omega arith)
one_fits delimiter (first ∷ []) part text some one is plain fits =
    let (actual, rest, cut, fits_own, none) = subst (λ (p : Part). FitsParts true delimiter (part_view p ∷ []) text) (sym is) fits in
    cut ∙ ap (λ r. actual ++ r) (none refl) ∙ append-nil actual ∙ plain_alone delimiter (part_view part) actual plain fits_own

pub not_true : (b : Bool) → IsTrue (not b) → b ≡ false
not_true true never = absurd (cc)
not_true false is = refl
