-- A matcher returns captures exactly for the texts that its parts match.
use Rattle.std.proofs.Common.{◌≡◌, ◌↔◌, ℕ, List, [], ◌∷◌, ◌++◌, true, false, Option, Some, None, Result, is_some, refl, sym, ap, ◌∙◌, subst, append-nil, true≢false}
use Rattle.std.proofs.lemmas.List.Elements.{All-cons, All-head, All-nil, All-tail}
use Rattle.std.specs.Prelude.{◌≢◌, ◌&&◌, All, IsTrue, Ok, Err, option_to_list}
use Rattle.std.specs.Str.{all_scalars}
use Rattle.regex_hir.proofs.OptionLemmas.{value_of_IsSome}
use Rattle.urlpattern_matcher.specs.Components.{IsEngineOf, is_custom}
use Rattle.urlpattern_matcher.specs.FirstWays.{Keeping, Acceptance}
use Rattle.urlpattern_matcher.specs.declared.regexp.RegExp.{Ghosts as Engine}
use Rattle.urlpattern_laws.proofs.Denoting.{Joined, AreSameTexts, joined_same}
use Rattle.urlpattern_laws.proofs.ItemsOf.{joined_assoc, nothing_joined, same_then, same_texts}
use Rattle.urlpattern_laws.proofs.GroupItems.{one_copy}
use Rattle.urlpattern_laws.proofs.TakenMeanings.{means_takes, parts_take_meanings}
use Rattle.urlpattern_laws.specs.LawsOfTexts.{HasMatcherPremises, IsSomeIfMatched, MatchersReturnIfMatched, ValuesReturnIfMatched}
use Rattle.urlpattern_expressions.specs.MatchedPartTexts.{AllStandAlone, PartMatches, PartsMatch, IsSelfContained}
use Rattle.urlpattern_meaning.proofs.MatcherMeaning.{HasEnds, ends_of, not_fast, scalars_middle}
use Rattle.urlpattern_meaning.proofs.MatchingLaws.{IsFast, fast_means, middle_kept, part_of}
use Rattle.urlpattern_meaning.proofs.PartTrees.{IsNotCustom}
use Rattle.urlpattern_meaning.specs.FirstResults.{AcceptedText}
use Rattle.urlpattern_meaning.specs.Matching.{Accepts, Returns, AreStripped, InnerView, IsMadeBetween, IsMadeOfOne, IsRemoved, Literal, MatcherView, Matches, RegExp, SingleCapture, end_text}
use Rattle.urlpattern_meaning.specs.PartMeaning.{Captures, PartsMean}
use Rattle.urlpattern_syntax.specs.Errors.{ErrorView}
use Rattle.urlpattern_syntax.specs.Options.{OptionsView}
use Rattle.urlpattern_syntax.specs.Parts.{PartView}
use Rattle.urlpattern_syntax.specs.declared.parser.PartModifier.{PartModifier}
use Rattle.urlpattern_syntax.specs.declared.parser.PartModifier.TheVariants as modifiers
use Rattle.urlpattern_syntax.specs.declared.parser.PartType.{PartType}
use Rattle.urlpattern_syntax.specs.declared.parser.PartType.TheVariants.{FixedText, Regexp, SegmentWildcard, FullWildcard}
use Rattle.urlpattern_syntax.specs.RegexpText.{is_fixed_text, is_plain, is_unmodified, regexp_text}
use Rattle.urlpattern_syntax.specs.Text.{IsRepeated}

-- ---- parts without plain ends

-- The texts of parts are those of the first parts, and then those of the others.
takes_append : (options : OptionsView) (parts others : List PartView) → AreSameTexts (PartsMatch options (parts ++ others)) (Joined (PartsMatch options parts) (PartsMatch options others))
takes_append options [] others = nothing_joined (PartsMatch options others)
takes_append options (part ∷ parts) others =
    same_then _ _ _ (joined_same (PartMatches options part) (PartMatches options part) _ _ (same_texts (PartMatches options part)) (takes_append options parts others))
    (joined_assoc (PartMatches options part) (PartsMatch options parts) (PartsMatch options others))

plain_by : (options : OptionsView) (kind : PartType) (modifier : PartModifier) (value name prefix suffix text : List ℕ) → IsTrue (is_fixed_text kind && is_unmodified modifier) →
    PartMatches options (part_of kind modifier value name prefix suffix) text ↔ (text ≡ value)
plain_by options FixedText modifiers.None value name prefix suffix text h = (
  λ (n, allowed, are). (one_copy (λ t. t ≡ value) text).0 (subst (λ k. IsRepeated (λ t. t ≡ value) k text) allowed are),
  λ is. (1, refl, (text, [], sym (append-nil text), is, refl)),
)
plain_by options kind modifier value name prefix suffix text h = absurd (true≢false (sym h))

plain_takes : (options : OptionsView) (part : PartView) (text : List ℕ) → IsTrue (is_plain part) → PartMatches options part text ↔ (text ≡ part.value)
plain_takes options part text h = plain_by options part.kind part.modifier part.value part.name part.prefix part.suffix text h

-- A removed end matches its own text alone.
end_takes : (options : OptionsView) (end : Option PartView) (IsThere : Type 0) (text : List ℕ) → IsRemoved end IsThere → PartsMatch options (option_to_list end) text ↔ (text ≡ end_text end)
end_takes options None IsThere text goes = (λ takes. takes, λ is. is)
end_takes options (Some part) IsThere text goes = (
  λ (first, rest, cut, one, none). cut ∙ ap (λ t. first ++ t) none ∙ append-nil first ∙ (plain_takes options part first goes).0 one,
  λ is. (text, [], sym (append-nil text), (plain_takes options part text goes).1 is, refl),
)

-- The text between the ends is matched by the middle parts.
abbrev pub TakesBetween : OptionsView → (front : Option PartView) → List PartView → (back : Option PartView) → List ℕ → Type 0
TakesBetween options front middle back text = (inner : List ℕ) × (text ≡ end_text front ++ inner ++ end_text back) × PartsMatch options middle inner

three_take : (options : OptionsView) (parts others last : List PartView) → AreSameTexts (PartsMatch options (parts ++ others ++ last)) (Joined (Joined (PartsMatch options parts) (PartsMatch options others)) (PartsMatch options last))
three_take options parts others last =
    same_then _ _ _ (takes_append options (parts ++ others) last)
    (joined_same (PartsMatch options (parts ++ others)) _ (PartsMatch options last) (PartsMatch options last) (takes_append options parts others) (same_texts (PartsMatch options last)))

pub peeled_takes : (options : OptionsView) (parts : List PartView) (front : Option PartView) (middle : List PartView) (back : Option PartView) (text : List ℕ) → AreStripped parts front middle back → IsTrue (all_scalars text) →
    PartsMatch options parts text ↔ TakesBetween options front middle back text
peeled_takes options parts front middle back text peeled fine =
    let three = three_take options (option_to_list front) middle (option_to_list back) text fine in (
      λ takes. there (three.0 (subst (λ ps. PartsMatch options ps text) peeled.cut takes)),
      λ (inner, cut, takes).
          subst (λ ps. PartsMatch options ps text) (sym peeled.cut)
          (three.1 (end_text front ++ inner, end_text back, cut, (end_text front, inner, refl, (end_takes options front _ (end_text front) peeled.front_removed).1 refl, takes), (end_takes options back _ (end_text back) peeled.back_removed).1 refl)),
    )
  where
    there : Joined (Joined (PartsMatch options (option_to_list front)) (PartsMatch options middle)) (PartsMatch options (option_to_list back)) text → TakesBetween options front middle back text
    there (most, last, cut, (first, inner, other, f, m), b) = (
      inner,
      cut ∙ ap (λ t. most ++ t) ((end_takes options back _ last peeled.back_removed).0 b) ∙ ap (λ t. t ++ end_text back) (other ∙ ap (λ t. t ++ inner) ((end_takes options front _ first peeled.front_removed).0 f)),
      m,
    )

-- ---- matchers with an engine

-- The text between the removed ends, for which the engine returns the captures of the match.
pub record IsRequested {E : Type 0} (answer : E → List ℕ → Option Captures) (front back : List ℕ) (engine : E) (text : List ℕ) (captures : Captures) : Type 0 where
  pub inner : List ℕ
  pub cut : text ≡ front ++ inner ++ back
  pub scalars : IsTrue (all_scalars inner)
  pub found : answer engine inner ≡ Some captures

module _ {E : Type 0} (answer : E → List ℕ → Option Captures) (options : OptionsView) (front back : List ℕ) (matcher : MatcherView E) (engine : E)
    (ends : HasEnds options matcher front back) (is : matcher.inner ≡ RegExp (Ok engine)) (case : options.ignore_case ≡ false) (text : List ℕ) where
  pub asked : (captures : Captures) → IsTrue (all_scalars text) → Matches answer matcher text captures → IsRequested answer front back engine text captures
  asked captures scalars (inner, has_middle, accepts) =
      let e = (middle_kept matcher text inner (ends.2 ∙ case)).0 has_middle in
      let cut : text ≡ front ++ inner ++ back = e ∙ ap (λ t. t ++ inner ++ matcher.suffix) ends.0 ∙ ap (λ t. front ++ inner ++ t) ends.1 in
      record {
        inner = inner;
        cut = cut;
        scalars = scalars_middle front inner back (subst (λ t. IsTrue (all_scalars t)) cut scalars);
        found = subst (λ i. Accepts answer matcher.ignore_case i inner captures) is accepts;
      }

  -- A text is matched with the engine's captures for the text between the ends.
  pub answered : (inner : List ℕ) (captures : Captures) → text ≡ front ++ inner ++ back → answer engine inner ≡ Some captures → Matches answer matcher text captures
  answered inner captures cut found =
      let whole : text ≡ matcher.prefix ++ inner ++ matcher.suffix = cut ∙ ap (λ t. t ++ inner ++ back) (sym ends.0) ∙ ap (λ t. matcher.prefix ++ inner ++ t) (sym ends.1) in
      (inner, (middle_kept matcher text inner (ends.2 ∙ case)).1 whole, subst (λ i. Accepts answer matcher.ignore_case i inner captures) (sym is) found)

-- The result of an engine for the middle parts makes the result for all parts.
pub engine_taken : {E : Type 0} (answer : E → List ℕ → Option Captures) (options : OptionsView) (parts : List PartView) (front : Option PartView) (middle : List PartView) (back : Option PartView) (matcher : MatcherView E) (engine : E) (text : List ℕ) (result : Option Captures) →
    AreStripped parts front middle back → HasEnds options matcher (end_text front) (end_text back) → matcher.inner ≡ RegExp (Ok engine) → options.ignore_case ≡ false →
    ((t : List ℕ) → IsTrue (all_scalars t) → IsSomeIfMatched options middle t (answer engine t)) → IsTrue (all_scalars text) → Returns answer matcher text result → IsSomeIfMatched options parts text result
engine_taken answer options parts front middle back matcher engine text (Some captures) peeled ends is case taken fine matches =
    let of = asked answer options (end_text front) (end_text back) matcher engine ends is case text captures fine matches in
    (λ some. (peeled_takes options parts front middle back text peeled fine).1 (of.inner, of.cut, (taken of.inner of.scalars).0 (ap is_some of.found)), λ takes. refl)
engine_taken answer options parts front middle back matcher engine text None peeled ends is case taken fine never = (
  λ some. absurd (true≢false (sym some)),
  λ takes.
      let cut = (peeled_takes options parts front middle back text peeled fine).0 takes in
      let here : IsTrue (all_scalars cut.0) = scalars_middle (end_text front) cut.0 (end_text back) (subst (λ t. IsTrue (all_scalars t)) cut.1 fine) in
      let found = value_of_IsSome (answer engine cut.0) ((taken cut.0 here).1 cut.2) in
      absurd (never found.0 (answered answer options (end_text front) (end_text back) matcher engine ends is case text cut.0 found.0 cut.1 found.1)),
)

-- ---- matchers without an engine

fast_one : {E : Type 0} (IsEngine : List ℕ → Result E ErrorView → Type 0) (options : OptionsView) (kind : PartType) (modifier : PartModifier) (front : List ℕ) (part : PartView) (back : List ℕ) (matcher : MatcherView E) →
    IsMadeOfOne IsEngine kind modifier options front part back matcher → IsFast matcher.inner → kind ≢ Regexp
fast_one IsEngine options Regexp modifier front part back matcher (engine, is, made) fast e = subst (λ i. IsFast i) (ap (λ m. m.inner) made) fast
fast_one IsEngine options kind modifier front part back matcher made fast e = true≢false (sym (ap is_custom e))

pub fast_plain : {E : Type 0} (IsEngine : List ℕ → Result E ErrorView → Type 0) (options : OptionsView) (front : List ℕ) (middle : List PartView) (back : List ℕ) (matcher : MatcherView E) →
    IsMadeBetween IsEngine options front middle back matcher → IsFast matcher.inner → All IsNotCustom middle
fast_plain IsEngine options front [] back matcher made fast = All-nil IsNotCustom
fast_plain IsEngine options front (part ∷ []) back matcher made fast = All-cons IsNotCustom part [] (fast_one IsEngine options part.kind part.modifier front part back matcher made fast) (All-nil IsNotCustom)
fast_plain IsEngine options front (part ∷ next ∷ parts) back matcher (engine, is, made) fast = absurd (subst (λ i. IsFast i) (ap (λ m. m.inner) made) fast)

-- ---- lists of parts

all_append : (P : PartView → Type 0) (parts others : List PartView) → All P parts → All P others → All P (parts ++ others)
all_append P [] others h k = k
all_append P (part ∷ parts) others h k = All-cons P part (parts ++ others) (All-head P part parts h) (all_append P parts others (All-tail P part parts h) k)

all_left : (P : PartView → Type 0) (parts others : List PartView) → All P (parts ++ others) → All P parts
all_left P [] others h = All-nil P
all_left P (part ∷ parts) others h = All-cons P part parts (All-head P part (parts ++ others) h) (all_left P parts others (All-tail P part (parts ++ others) h))

all_right : (P : PartView → Type 0) (parts others : List PartView) → All P (parts ++ others) → All P others
all_right P [] others h = h
all_right P (part ∷ parts) others h = all_right P parts others (All-tail P part (parts ++ others) h)

plain_kind : (kind : PartType) (modifier : PartModifier) → IsTrue (is_fixed_text kind && is_unmodified modifier) → kind ≢ Regexp
plain_kind Regexp modifier h e = true≢false (sym h)
plain_kind kind modifier h e = true≢false (sym (ap is_custom e))

end_plain : (end : Option PartView) (IsThere : Type 0) → IsRemoved end IsThere → All IsNotCustom (option_to_list end)
end_plain None IsThere goes = All-nil IsNotCustom
end_plain (Some part) IsThere goes = All-cons IsNotCustom part [] (plain_kind part.kind part.modifier goes) (All-nil IsNotCustom)

pub all_plain : (parts : List PartView) (front : Option PartView) (middle : List PartView) (back : Option PartView) → AreStripped parts front middle back → All IsNotCustom middle → All IsNotCustom parts
all_plain parts front middle back peeled h =
    subst (λ ps. All IsNotCustom ps) (sym peeled.cut)
    (all_append IsNotCustom (option_to_list front ++ middle) (option_to_list back)
    (all_append IsNotCustom (option_to_list front) middle (end_plain front _ peeled.front_removed) h) (end_plain back _ peeled.back_removed))

pub middle_all : (P : PartView → Type 0) (parts : List PartView) (front : Option PartView) (middle : List PartView) (back : Option PartView) → AreStripped parts front middle back → All P parts → All P middle
middle_all P parts front middle back peeled h =
    all_right P (option_to_list front) middle (all_left P (option_to_list front ++ middle) (option_to_list back) (subst (λ ps. All P ps) peeled.cut h))

-- ---- any matcher

made_value : {E : Type 0} (IsEngine : List ℕ → Result E ErrorView → Type 0) (regexp : List ℕ) (value other : Result E ErrorView) → IsEngine regexp other → RegExp value ≡ RegExp other → IsEngine regexp value
made_value IsEngine regexp value other is e = let same : value ≡ other = cc e in subst (λ made. IsEngine regexp made) (sym same) is

made_one : {E : Type 0} (IsEngine : List ℕ → Result E ErrorView → Type 0) (options : OptionsView) (kind : PartType) (modifier : PartModifier) (front : List ℕ) (part : PartView) (back : List ℕ) (matcher : MatcherView E) (value : Result E ErrorView) →
    IsMadeOfOne IsEngine kind modifier options front part back matcher → matcher.inner ≡ RegExp value → IsEngine (regexp_text options (part ∷ [])) value
made_one IsEngine options FullWildcard modifiers.None front part back matcher value made e = absurd (not_fast matcher.inner (SingleCapture None true) value (ap (λ m. m.inner) made) tt e)
made_one IsEngine options SegmentWildcard modifiers.None front part back matcher value made e = absurd (not_fast matcher.inner (SingleCapture options.delimiter false) value (ap (λ m. m.inner) made) tt e)
made_one IsEngine options kind modifier front part back matcher value (other, is, made) e = made_value IsEngine _ value other is (sym e ∙ ap (λ m. m.inner) made)

pub made_between : {E : Type 0} (IsEngine : List ℕ → Result E ErrorView → Type 0) (options : OptionsView) (front : List ℕ) (middle : List PartView) (back : List ℕ) (matcher : MatcherView E) (value : Result E ErrorView) →
    IsMadeBetween IsEngine options front middle back matcher → matcher.inner ≡ RegExp value → IsEngine (regexp_text options middle) value
made_between IsEngine options front [] back matcher value made e = absurd (not_fast matcher.inner (Literal (front ++ back)) value (ap (λ m. m.inner) made) tt e)
made_between IsEngine options front (part ∷ []) back matcher value made e = made_one IsEngine options part.kind part.modifier front part back matcher value made e
made_between IsEngine options front (part ∷ next ∷ parts) back matcher value (other, is, made) e = made_value IsEngine _ value other is (sym e ∙ ap (λ m. m.inner) made)

-- The result of a matcher without an engine.
pub fast_taken : {E : Type 0} (answer : E → List ℕ → Option Captures) (options : OptionsView) (parts : List PartView) (matcher : MatcherView E) (text : List ℕ) (result : Option Captures) → All IsNotCustom parts →
    ((captures : Captures) → Matches answer matcher text captures ↔ PartsMean options parts text captures) → Returns answer matcher text result → IsSomeIfMatched options parts text result
fast_taken answer options parts matcher text (Some captures) plain same matches = (λ some. means_takes options parts text captures ((same captures).0 matches), λ takes. refl)
fast_taken answer options parts matcher text None plain same never = (
  λ some. absurd (true≢false (sym some)),
  λ takes. let means = (parts_take_meanings options parts text plain).0 takes in absurd (never means.0 ((same means.0).1 means.1)),
)

-- The engine's value was made of the text of the middle parts.
pub record IsOfMiddle {E : Type 0} (engine : Engine E) (options : OptionsView) (flags : List ℕ) (middle : List PartView) (value : E) : Type 0 where
  pub alone : AllStandAlone middle
  pub is_made : engine.IsMade value (regexp_text options middle) flags

-- An expression that the engine accepted was accepted with flags that keep case.
abbrev pub TookAsKept : {E : Type 0} → Acceptance E → Keeping → Type 0
TookAsKept {E} Accepted Keeps = (options : OptionsView) (flags : List ℕ) (inner : InnerView E) → options.ignore_case ≡ false → Accepted options flags inner → AcceptedText (λ value. Keeps flags) inner

-- A matcher has no engine, or a value that was made of the text of the middle parts.
pub matcher_asks : {E : Type 0} (engine : Engine E) (Keeps : Keeping) (Accepted : Acceptance E) → TookAsKept Accepted Keeps
    → (options : OptionsView) (flags : List ℕ) (parts : List PartView) (matcher : MatcherView E) (made : HasMatcherPremises engine Accepted options flags parts matcher)
    → (Is : Type 0) → (IsFast matcher.inner → Is)
    → ((value : E) → matcher.inner ≡ RegExp (Ok value) → Keeps flags → HasEnds options matcher (end_text made.is_made.front) (end_text made.is_made.back)
    → IsOfMiddle engine options flags made.is_made.middle value → Is)
    → Is
matcher_asks {E} engine Keeps Accepted took options flags parts matcher made Is fast asks = by_inner matcher.inner refl (took options flags matcher.inner made.case_kept made.took)
  where
    by_inner : (inner : InnerView E) → matcher.inner ≡ inner → AcceptedText (λ value. Keeps flags) inner → Is
    by_inner (Literal literal) e keeps = fast (subst (λ i. IsFast i) (sym e) tt)
    by_inner (SingleCapture filter allow_empty) e keeps = fast (subst (λ i. IsFast i) (sym e) tt)
    by_inner (RegExp (Err error)) e keeps = absurd keeps
    by_inner (RegExp (Ok value)) e keeps =
        let m = made.is_made in
        asks value e keeps (ends_of (IsEngineOf engine false flags) options (end_text m.front) m.middle (end_text m.back) matcher (Ok value) m.is_made e)
        (record {
          alone = middle_all (λ part. IsSelfContained part.kind part.value) parts m.front m.middle m.back m.are_stripped made.alone;
          is_made = made_between (IsEngineOf engine false flags) options (end_text m.front) m.middle (end_text m.back) matcher (Ok value) m.is_made e;
        })

-- If the values of an engine return captures for the texts that the parts match, the matchers with
-- accepted expressions do too.
pub matchers_taken : {E : Type 0} (engine : Engine E) (Keeps : Keeping) (Accepted : Acceptance E) → ValuesReturnIfMatched engine Keeps → TookAsKept Accepted Keeps
    → MatchersReturnIfMatched engine Accepted
matchers_taken engine Keeps Accepted values took options flags parts matcher made text result no_feed fine answers =
    let m = made.is_made in
    matcher_asks engine Keeps Accepted took options flags parts matcher made (IsSomeIfMatched options parts text result)
    (λ is. fast_taken engine.answer options parts matcher text result (all_plain parts m.front m.middle m.back m.are_stripped (fast_plain (IsEngineOf engine false flags) options (end_text m.front) m.middle (end_text m.back) matcher m.is_made is))
    (λ captures. fast_means engine.answer (IsEngineOf engine false flags) options parts matcher text captures m made.case_kept no_feed is) answers)
    (λ value e keeps ends of. engine_taken engine.answer options parts m.front m.middle m.back matcher value text result m.are_stripped ends e made.case_kept
    (values options flags m.middle value keeps of.alone of.is_made) fine answers)
