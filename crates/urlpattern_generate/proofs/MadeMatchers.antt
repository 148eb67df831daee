-- A matcher without an engine finds the requested captures in the text of the parts that it was
-- made of.
use Rattle.std.proofs.Common.{◌≡◌, ◌⊎◌, ◌∙◌, ℕ, zero, suc, Bool, true, false, not, ◌==◌, List, [], ◌∷◌, ◌++◌, append-nil, append_assoc, ap, arith, inl, inr, refl, sym, subst, Option, Some, None, Result}
use Rattle.std.proofs.lemmas.Bool.{and_from, and_parts}
use Rattle.std.proofs.lemmas.Bool.Decides.{nat_tests}
use Rattle.std.specs.Char.{is_ascii_alphabetic, to_ascii_lowercase}
use Rattle.std.specs.Prelude.{◌||◌, IsTrue, map, option_to_list, unwrap_or}
use Rattle.urlpattern_generate.specs.Generating.{ReadsWritten, has_one_case}
use Rattle.urlpattern_generate.specs.Links.{IsCopyText, MayCapture, MayCaptureAll, OfFirst, captures_after, fewest_copies, text_of_group, text_of_part, text_of_parts}
use Rattle.urlpattern_meaning.specs.Matching.{Returns, BeginsPlain, EndsPlain, IsMadeBetween, IsMadeByEngine, IsMadeOf, IsMadeOfOne, IsRemoved, MatcherView, MayBeEmpty, PassesFilter, end_text, folded, single_capture_matcher}
use Rattle.urlpattern_meaning.specs.PartMeaning.{Allows, Captures}
use Rattle.urlpattern_syntax.specs.declared.parser.PartModifier.{PartModifier}
use Rattle.urlpattern_syntax.specs.declared.parser.PartModifier.TheVariants as modifiers
use Rattle.urlpattern_syntax.specs.declared.parser.PartType.{PartType}
use Rattle.urlpattern_syntax.specs.declared.parser.PartType.TheVariants.{FixedText, FullWildcard, Regexp, SegmentWildcard}
use Rattle.urlpattern_syntax.specs.Errors.{ErrorView}
use Rattle.urlpattern_syntax.specs.Options.{OptionsView}
use Rattle.urlpattern_syntax.specs.Parts.{PartView}
use Rattle.urlpattern_syntax.specs.RegexpText.{is_plain}
use Rattle.urlpattern_syntax.specs.Text.{lacks, line_feed}

-- ---- plain fixed texts at the ends

plain_by : (kind : PartType) (modifier : PartModifier) (part : PartView) → IsTrue (is_plain (record part { kind = kind; modifier = modifier })) → (kind ≡ FixedText) × (modifier ≡ modifiers.None)
plain_by FixedText modifiers.None part t = (refl, refl)
plain_by FixedText modifiers.Optional part t = cc
plain_by FixedText modifiers.ZeroOrMore part t = cc
plain_by FixedText modifiers.OneOrMore part t = cc
plain_by Regexp modifier part t = cc
plain_by SegmentWildcard modifier part t = cc
plain_by FullWildcard modifier part t = cc

is_fixed : (part : PartView) → IsTrue (is_plain part) → (part.kind ≡ FixedText) × (part.modifier ≡ modifiers.None)
is_fixed part t = plain_by part.kind part.modifier part t

plain_text : (part : PartView) (captures : Captures) → IsTrue (is_plain part) → text_of_part part.kind part captures ≡ part.value
plain_text part captures t =
    let fixed = is_fixed part t in
    ap (λ kind. text_of_part kind part captures) fixed.0 ∙ ap (λ modifier. fewest_copies modifier part.value) fixed.1

plain_after : (options : OptionsView) (part : PartView) (parts : List PartView) (captures : Captures) → IsTrue (is_plain part) → MayCaptureAll options (part ∷ parts) captures →
    MayCaptureAll options parts captures × (text_of_parts (part ∷ parts) captures ≡ part.value ++ text_of_parts parts captures)
plain_after options part parts captures t may =
    by_kind part.kind (is_fixed part t).0 (plain_text part captures t) may
  where
    by_kind : (kind : PartType) → kind ≡ FixedText → text_of_part kind part captures ≡ part.value →
        OfFirst (MayCapture options) kind part captures × MayCaptureAll options parts (captures_after kind captures) →
        MayCaptureAll options parts captures
        × (text_of_part kind part captures ++ text_of_parts parts (captures_after kind captures) ≡ part.value ++ text_of_parts parts captures)
    by_kind FixedText e is all = (all.1, ap (λ text. text ++ text_of_parts parts captures) is)
    by_kind Regexp e is all = cc e
    by_kind SegmentWildcard e is all = cc e
    by_kind FullWildcard e is all = cc e

front_first : (options : OptionsView) (front : Option PartView) (IsThere : Type 0) (parts : List PartView) (captures : Captures) → IsRemoved front IsThere → MayCaptureAll options (option_to_list front ++ parts) captures →
    MayCaptureAll options parts captures × (text_of_parts (option_to_list front ++ parts) captures ≡ end_text front ++ text_of_parts parts captures)
front_first options None IsThere parts captures removed may = (may, refl)
front_first options (Some part) IsThere parts captures removed may = plain_after options part parts captures removed may

back_alone : (options : OptionsView) (back : Option PartView) (IsThere : Type 0) (captures : Captures) → IsRemoved back IsThere → MayCaptureAll options (option_to_list back) captures →
    (captures ≡ []) × (text_of_parts (option_to_list back) captures ≡ end_text back)
back_alone options None IsThere captures removed may = (may, refl)
back_alone options (Some part) IsThere captures removed may =
    let after = plain_after options part [] captures removed may in (after.0, after.1 ∙ append-nil part.value)

-- ---- the parts between the ends

-- The first capture is that of a part, and the others are those of the parts after it.
record IsFirstCut (options : OptionsView) (part : PartView) (parts : List PartView) (captures : Captures) (text : List ℕ) : Type 0 where
  capture : Option (List ℕ)
  more : Captures
  is_cut : captures ≡ capture ∷ more
  may_capture : MayCapture options part capture
  may_more : MayCaptureAll options parts more
  is_text : text ≡ text_of_group part capture ++ text_of_parts parts more

first_cut : (options : OptionsView) (part : PartView) (parts : List PartView) (kind : PartType) (captures : Captures) → (kind ≡ SegmentWildcard) ⊎ (kind ≡ FullWildcard) →
    OfFirst (MayCapture options) kind part captures × MayCaptureAll options parts (captures_after kind captures) →
    IsFirstCut options part parts captures (text_of_part kind part captures ++ text_of_parts parts (captures_after kind captures))
first_cut options part parts FixedText captures (inl e) may = cc e
first_cut options part parts FixedText captures (inr e) may = cc e
first_cut options part parts Regexp captures (inl e) may = cc e
first_cut options part parts Regexp captures (inr e) may = cc e
first_cut options part parts SegmentWildcard [] e may = absurd may.0
first_cut options part parts SegmentWildcard (capture ∷ more) e may = record { capture = capture; more = more; is_cut = refl; may_capture = may.0; may_more = may.1; is_text = refl }
first_cut options part parts FullWildcard [] e may = absurd may.0
first_cut options part parts FullWildcard (capture ∷ more) e may = record { capture = capture; more = more; is_cut = refl; may_capture = may.0; may_more = may.1; is_text = refl }

-- A wildcard without modifier captures one text.
one_text : (options : OptionsView) (kind : PartType) (part : PartView) (capture : Option (List ℕ)) → part.kind ≡ kind → part.modifier ≡ modifiers.None → MayCapture options part capture →
    (text : List ℕ) × (capture ≡ Some text) × IsCopyText options kind text
one_text options kind part capture e f (inl (allowed, is)) =
    absurd (let none : 0 ≡ 1 = subst (λ modifier. Allows modifier 0) f allowed in omega (arith, none))
one_text options kind part None e f (inr never) = absurd never
one_text options kind part (Some text) e f (inr (zero, allowed, is)) = (text, refl, subst (λ k. IsCopyText options k text) e is)
one_text options kind part (Some text) e f (inr (suc n, allowed, is)) =
    absurd (let one : suc (suc n) ≡ 1 = subst (λ modifier. Allows modifier (suc (suc n))) f allowed in omega (arith, one))

passes : (delimiter : Option ℕ) (text : List ℕ) → IsTrue (lacks (unwrap_or delimiter line_feed) text) → PassesFilter false delimiter text
passes None text lacking = tt
passes (Some c) text lacking = lacking

cut_out : (front prefix text suffix back : List ℕ) → front ++ ((prefix ++ text ++ suffix) ++ back) ≡ (front ++ prefix) ++ text ++ (suffix ++ back)
cut_out front prefix text suffix back = simp append_assoc

-- ---- a filter where case is ignored

-- Characters that differ also differ when case is ignored, if one is not a letter.
other_folded : (c d : ℕ) → not (is_ascii_alphabetic c) ≡ true → not (d == c) ≡ true → not (to_ascii_lowercase d == to_ascii_lowercase c) ≡ true
other_folded c d one other = grind (arith, nat_tests)

lacks_folded : (c : ℕ) (text : List ℕ) → not (is_ascii_alphabetic c) ≡ true → IsTrue (lacks c text) → IsTrue (lacks (to_ascii_lowercase c) (map to_ascii_lowercase text))
lacks_folded c [] one lacking = refl
lacks_folded c (d ∷ text) one lacking =
    let parts = and_parts (not (d == c)) (lacks c text) lacking in
    and_from (not (to_ascii_lowercase d == to_ascii_lowercase c)) (lacks (to_ascii_lowercase c) (map to_ascii_lowercase text)) (other_folded c d one parts.0) (lacks_folded c text one parts.1)

passes_folded : (ignore_case : Bool) (filter : Option ℕ) (text : List ℕ) → IsTrue (not ignore_case || has_one_case filter) → PassesFilter false filter text → PassesFilter ignore_case filter text
passes_folded false filter text one lacking = lacking
passes_folded true None text one lacking = tt
passes_folded true (Some c) text one lacking = lacks_folded c text one lacking

module _ {E : Type 0} (answer : E → List ℕ → Option Captures) (IsEngine : (regexp : List ℕ) → Result E ErrorView → Type 0) (options : OptionsView) where
  -- A single capture is found.
  capture_found : (filter : Option ℕ) (allow_empty : Bool) (part : PartView) (front back text : List ℕ) (matcher : MatcherView E) →
      matcher ≡ single_capture_matcher options front part back filter allow_empty → IsTrue (not options.ignore_case || has_one_case filter) → MayBeEmpty allow_empty text → PassesFilter false filter text →
      Returns answer matcher (front ++ ((part.prefix ++ text ++ part.suffix) ++ back)) (Some (Some text ∷ []))
  capture_found filter allow_empty part front back text matcher e one some lacking =
      subst (λ m. Returns answer m (front ++ ((part.prefix ++ text ++ part.suffix) ++ back)) (Some (Some text ∷ []))) (sym e) (
        text,
        (front ++ part.prefix, part.suffix ++ back, cut_out front part.prefix text part.suffix back, refl, refl),
        (some, passes_folded options.ignore_case filter text one lacking, refl),
      )

  engine_made : (prefix suffix : List ℕ) (parts : List PartView) (matcher : MatcherView E) → IsMadeByEngine IsEngine options prefix parts suffix matcher → ReadsWritten matcher.ignore_case matcher.inner → ⊥
  engine_made prefix suffix parts matcher (engine, is, e) reads = subst (λ m. ReadsWritten m.ignore_case m.inner) e reads

  module _ (front : List ℕ) (part : PartView) (back : Option PartView) (IsThere : Type 0) (removed : IsRemoved back IsThere) (matcher : MatcherView E) (captures : Captures) where
    -- The matcher finds the captures.
    abbrev Found : Type 0
    Found = Returns answer matcher (front ++ text_of_parts (part ∷ option_to_list back) captures) (Some captures)

    -- The matcher finds the capture of the part and those after it.
    with_capture : (filter : Option ℕ) (allow_empty : Bool) (capture : Option (List ℕ)) (text : List ℕ) (more : Captures) → captures ≡ capture ∷ more → capture ≡ Some text →
        text_of_parts (part ∷ option_to_list back) captures ≡ text_of_group part capture ++ text_of_parts (option_to_list back) more → MayCaptureAll options (option_to_list back) more →
        matcher ≡ single_capture_matcher options front part (end_text back) filter allow_empty → IsTrue (not options.ignore_case || has_one_case filter) → MayBeEmpty allow_empty text → PassesFilter false filter text → Found
    with_capture filter allow_empty capture text more e f cut may made folds some lacking =
        let alone = back_alone options back IsThere more removed may in
        let whole : text_of_parts (part ∷ option_to_list back) captures ≡ (part.prefix ++ text ++ part.suffix) ++ end_text back =
        cut ∙ ap (λ c. text_of_group part c ++ text_of_parts (option_to_list back) more) f ∙ ap (λ t. (part.prefix ++ text ++ part.suffix) ++ t) alone.1 in
        let all : captures ≡ Some text ∷ [] = e ∙ ap (λ c. c ∷ more) f ∙ ap (λ m. Some text ∷ m) alone.0 in
        subst (λ t. Returns answer matcher (front ++ t) (Some captures)) (sym whole)
        (subst (λ c. Returns answer matcher (front ++ ((part.prefix ++ text ++ part.suffix) ++ end_text back)) (Some c)) (sym all)
        (capture_found filter allow_empty part front (end_text back) text matcher made folds some lacking))

    segment_found : part.kind ≡ SegmentWildcard → part.modifier ≡ modifiers.None → MayCaptureAll options (part ∷ option_to_list back) captures →
        matcher ≡ single_capture_matcher options front part (end_text back) options.delimiter false → IsTrue (not options.ignore_case || has_one_case options.delimiter) → Found
    segment_found e f may made folds =
        let cut = first_cut options part (option_to_list back) part.kind captures (inl e) may in
        let one = one_text options SegmentWildcard part cut.capture e f cut.may_capture in
        with_capture options.delimiter false cut.capture one.0 cut.more cut.is_cut one.1 cut.is_text cut.may_more made folds one.2.0 (passes options.delimiter one.0 one.2.1)

    full_found : part.kind ≡ FullWildcard → part.modifier ≡ modifiers.None → MayCaptureAll options (part ∷ option_to_list back) captures →
        matcher ≡ single_capture_matcher options front part (end_text back) None true → IsTrue (not options.ignore_case || has_one_case None) → Found
    full_found e f may made folds =
        let cut = first_cut options part (option_to_list back) part.kind captures (inr e) may in
        let one = one_text options FullWildcard part cut.capture e f cut.may_capture in
        with_capture None true cut.capture one.0 cut.more cut.is_cut one.1 cut.is_text cut.may_more made folds tt tt

    one_case : (filter : Option ℕ) (allow_empty : Bool) → matcher ≡ single_capture_matcher options front part (end_text back) filter allow_empty → ReadsWritten matcher.ignore_case matcher.inner →
        IsTrue (not options.ignore_case || has_one_case filter)
    one_case filter allow_empty e reads = subst (λ m. ReadsWritten m.ignore_case m.inner) e reads

    -- The remaining parts, by kind and modifier.
    one_found : (kind : PartType) (modifier : PartModifier) → part.kind ≡ kind → part.modifier ≡ modifier → IsMadeOfOne IsEngine kind modifier options front part (end_text back) matcher →
        ReadsWritten matcher.ignore_case matcher.inner → MayCaptureAll options (part ∷ option_to_list back) captures → Found
    one_found FullWildcard modifiers.None e f made reads may = full_found e f may made (one_case None true made reads)
    one_found SegmentWildcard modifiers.None e f made reads may = segment_found e f may made (one_case options.delimiter false made reads)
    one_found FullWildcard modifiers.Optional e f made reads may = absurd (engine_made front (end_text back) (part ∷ []) matcher made reads)
    one_found FullWildcard modifiers.ZeroOrMore e f made reads may = absurd (engine_made front (end_text back) (part ∷ []) matcher made reads)
    one_found FullWildcard modifiers.OneOrMore e f made reads may = absurd (engine_made front (end_text back) (part ∷ []) matcher made reads)
    one_found SegmentWildcard modifiers.Optional e f made reads may = absurd (engine_made front (end_text back) (part ∷ []) matcher made reads)
    one_found SegmentWildcard modifiers.ZeroOrMore e f made reads may = absurd (engine_made front (end_text back) (part ∷ []) matcher made reads)
    one_found SegmentWildcard modifiers.OneOrMore e f made reads may = absurd (engine_made front (end_text back) (part ∷ []) matcher made reads)
    one_found FixedText modifier e f made reads may = absurd (engine_made front (end_text back) (part ∷ []) matcher made reads)
    one_found Regexp modifier e f made reads may = absurd (engine_made front (end_text back) (part ∷ []) matcher made reads)

  -- The parts between two texts.
  between_found : (front : List ℕ) (middle : List PartView) (back : Option PartView) (IsThere : Type 0) (matcher : MatcherView E) (captures : Captures) → IsRemoved back IsThere →
      IsMadeBetween IsEngine options front middle (end_text back) matcher → ReadsWritten matcher.ignore_case matcher.inner → MayCaptureAll options (middle ++ option_to_list back) captures →
      Returns answer matcher (front ++ text_of_parts (middle ++ option_to_list back) captures) (Some captures)
  between_found front [] back IsThere matcher captures removed made reads may =
      let alone = back_alone options back IsThere captures removed may in
      subst (λ m. Returns answer m (front ++ text_of_parts (option_to_list back) captures) (Some captures)) (sym made) (
        front ++ text_of_parts (option_to_list back) captures,
        ([], [], sym (append-nil (front ++ text_of_parts (option_to_list back) captures)), refl, refl),
        (ap (λ text. folded options.ignore_case (front ++ text)) alone.1, alone.0),
      )
  between_found front (part ∷ []) back IsThere matcher captures removed made reads may =
      one_found front part back IsThere removed matcher captures part.kind part.modifier refl refl made reads may
  between_found front (part ∷ next ∷ parts) back IsThere matcher captures removed made reads may = absurd (engine_made front (end_text back) (part ∷ next ∷ parts) matcher made reads)

  pub made_finds : (parts : List PartView) (matcher : MatcherView E) (captures : Captures) → IsMadeOf IsEngine options parts matcher → ReadsWritten matcher.ignore_case matcher.inner →
      MayCaptureAll options parts captures → Returns answer matcher (text_of_parts parts captures) (Some captures)
  made_finds parts matcher captures made reads may =
      let front = option_to_list made.front in
      let back = option_to_list made.back in
      let cut : parts ≡ front ++ (made.middle ++ back) = made.are_stripped.cut ∙ append_assoc front made.middle back in
      let after = front_first options made.front (BeginsPlain parts) (made.middle ++ back) captures made.are_stripped.front_removed (subst (λ all. MayCaptureAll options all captures) cut may) in
      subst (λ text. Returns answer matcher text (Some captures)) (sym (ap (λ all. text_of_parts all captures) cut ∙ after.1))
      (between_found (end_text made.front) made.middle made.back (EndsPlain made.middle) matcher captures made.are_stripped.back_removed made.is_made reads after.0)
