-- A matcher that is made from parts returns what the parts mean.
use Rattle.std.proofs.Common.{◌≡◌, ℕ, List, [], ◌∷◌, ◌++◌, refl, sym, subst, ap, Bool, true, false, Some, None, Option, Result, ◌∙◌, ◌↔◌}
use Rattle.std.proofs.lemmas.List.Elements.{All-cons, All-head, All-nil, All-tail}
use Rattle.std.specs.Prelude.{◌≢◌, ◌&&◌, All, IsTrue, Ok, Err, option_to_list}
use Rattle.std.specs.Str.{all_scalars}
use Rattle.urlpattern_meaning.specs.Matching.{Accepts, Agrees, AgreesInMiddle, Returns, AreStripped, FollowsMiddle, InnerView, IsMadeBetween, IsMadeOf, IsMadeOfOne, Literal, MatcherView, Matches, RegExp, SingleCapture, end_text}
use Rattle.urlpattern_meaning.specs.PartMeaning.{Captures, PartsMean}
use Rattle.urlpattern_syntax.specs.declared.parser.PartModifier.{PartModifier}
use Rattle.urlpattern_syntax.specs.declared.parser.PartModifier.TheVariants as modifiers
use Rattle.urlpattern_syntax.specs.declared.parser.PartType.{PartType}
use Rattle.urlpattern_syntax.specs.declared.parser.PartType.TheVariants.{Regexp, SegmentWildcard, FullWildcard}
use Rattle.urlpattern_syntax.specs.Errors.{ErrorView}
use Rattle.urlpattern_syntax.specs.Options.{OptionsView}
use Rattle.urlpattern_syntax.specs.Parts.{PartView}
use Rattle.urlpattern_syntax.specs.Text.{lacks, line_feed}
use Rattle.urlpattern_meaning.proofs.MatchingLaws.{IsFast, and_right, fast_means, middle_kept}
use Rattle.urlpattern_meaning.proofs.MeaningLaws.{peeled_means}
use Rattle.urlpattern_meaning.proofs.OneMeaning.{follows_agrees}
use Rattle.urlpattern_meaning.proofs.PartTrees.{IsNotCustom}
use Rattle.urlpattern_meaning.proofs.StrippedParts.{middle_one}

-- ---- texts of characters

and_weaker : (a b c : Bool) → (IsTrue b → IsTrue c) → IsTrue (a && b) → IsTrue (a && c)
and_weaker true b c weaker h = weaker h
and_weaker false b c weaker h = h

scalars_left : (text more : List ℕ) → IsTrue (all_scalars (text ++ more)) → IsTrue (all_scalars text)
scalars_left [] more h = refl
scalars_left (c ∷ text) more h = and_weaker _ (all_scalars (text ++ more)) (all_scalars text) (scalars_left text more) h

scalars_right : (text more : List ℕ) → IsTrue (all_scalars (text ++ more)) → IsTrue (all_scalars more)
scalars_right [] more h = h
scalars_right (c ∷ text) more h = scalars_right text more (and_right _ (all_scalars (text ++ more)) h)

-- The text between two others.
pub scalars_middle : (front text back : List ℕ) → IsTrue (all_scalars (front ++ text ++ back)) → IsTrue (all_scalars text)
scalars_middle front text back h = scalars_right front text (scalars_left (front ++ text) back h)

-- ---- a matcher that calls an engine

-- Prefix and suffix of the matcher are the texts that are removed, compared as the options say.
abbrev pub HasEnds : {E : Type 0} → OptionsView → MatcherView E → (front back : List ℕ) → Type 0
HasEnds options matcher front back = (matcher.prefix ≡ front) × (matcher.suffix ≡ back) × (matcher.ignore_case ≡ options.ignore_case)

-- A matcher that needs no engine has no `RegExp`.
pub not_fast : {E : Type 0} (inner other : InnerView E) (value : Result E ErrorView) → inner ≡ other → IsFast other → inner ≡ RegExp value → ⊥
not_fast inner other value e fast f = subst (λ i. IsFast i) (sym e ∙ f) fast

ends_of_one : {E : Type 0} (IsEngine : List ℕ → Result E ErrorView → Type 0) (options : OptionsView) (kind : PartType) (modifier : PartModifier) (front : List ℕ) (part : PartView) (back : List ℕ) (matcher : MatcherView E) (value : Result E ErrorView) →
    IsMadeOfOne IsEngine kind modifier options front part back matcher → matcher.inner ≡ RegExp value → HasEnds options matcher front back
ends_of_one IsEngine options FullWildcard modifiers.None front part back matcher value made e = absurd (not_fast matcher.inner (SingleCapture None true) value (ap (λ m. m.inner) made) tt e)
ends_of_one IsEngine options SegmentWildcard modifiers.None front part back matcher value made e = absurd (not_fast matcher.inner (SingleCapture options.delimiter false) value (ap (λ m. m.inner) made) tt e)
ends_of_one IsEngine options kind modifier front part back matcher value made e = (ap (λ m. m.prefix) made.2, ap (λ m. m.suffix) made.2, ap (λ m. m.ignore_case) made.2)

pub ends_of : {E : Type 0} (IsEngine : List ℕ → Result E ErrorView → Type 0) (options : OptionsView) (front : List ℕ) (middle : List PartView) (back : List ℕ) (matcher : MatcherView E) (value : Result E ErrorView) →
    IsMadeBetween IsEngine options front middle back matcher → matcher.inner ≡ RegExp value → HasEnds options matcher front back
ends_of IsEngine options front [] back matcher value made e = absurd (not_fast matcher.inner (Literal (front ++ back)) value (ap (λ m. m.inner) made) tt e)
ends_of IsEngine options front (part ∷ []) back matcher value made e = ends_of_one IsEngine options part.kind part.modifier front part back matcher value made e
ends_of IsEngine options front (part ∷ next ∷ parts) back matcher value made e = (ap (λ m. m.prefix) made.2, ap (λ m. m.suffix) made.2, ap (λ m. m.ignore_case) made.2)

-- The result of a matcher is what the parts mean where the result of its engine is what the middle
-- means.
engine_agrees : {E : Type 0} (answer : E → List ℕ → Option Captures) (options : OptionsView) (parts : List PartView) (front : Option PartView) (middle : List PartView) (back : Option PartView) (matcher : MatcherView E) (engine : E) (text : List ℕ) (result : Option Captures) →
    AreStripped parts front middle back → HasEnds options matcher (end_text front) (end_text back) → matcher.inner ≡ RegExp (Ok engine) → options.ignore_case ≡ false →
    ((t : List ℕ) → IsTrue (all_scalars t) → Agrees options middle t (answer engine t)) → IsTrue (all_scalars text) → Returns answer matcher text result → Agrees options parts text result
engine_agrees answer options parts front middle back matcher engine text (Some captures) peeled ends is case agrees scalars (inner, has_middle, accepts) =
    let e = (middle_kept matcher text inner (ends.2 ∙ case)).0 has_middle in
    let found : answer engine inner ≡ Some captures = subst (λ i. Accepts answer matcher.ignore_case i inner captures) is accepts in
    let cut : text ≡ end_text front ++ inner ++ end_text back = e ∙ ap (λ t. t ++ inner ++ matcher.suffix) ends.0 ∙ ap (λ t. end_text front ++ inner ++ t) ends.1 in
    let here : IsTrue (all_scalars inner) = scalars_middle (end_text front) inner (end_text back) (subst (λ t. IsTrue (all_scalars t)) cut scalars) in
    (peeled_means options parts front middle back text captures peeled).1 (inner, cut, subst (λ a. Agrees options middle inner a) found (agrees inner here))
engine_agrees answer options parts front middle back matcher engine text None peeled ends is case agrees scalars never = λ captures means.
    let cut = (peeled_means options parts front middle back text captures peeled).0 means in
    let here : IsTrue (all_scalars cut.0) = scalars_middle (end_text front) cut.0 (end_text back) (subst (λ t. IsTrue (all_scalars t)) cut.1 scalars) in
    let whole : text ≡ matcher.prefix ++ cut.0 ++ matcher.suffix = cut.1 ∙ ap (λ t. t ++ cut.0 ++ end_text back) (sym ends.0) ∙ ap (λ t. matcher.prefix ++ cut.0 ++ t) (sym ends.1) in
    refused cut.0 captures (answer engine cut.0) refl whole cut.2 (agrees cut.0 here)
  where
    refused : (inner : List ℕ) (captures : Captures) (found : Option Captures) → answer engine inner ≡ found → text ≡ matcher.prefix ++ inner ++ matcher.suffix →
        PartsMean options middle inner captures → Agrees options middle inner found → ⊥
    refused inner captures None e cut means none = none captures means
    refused inner captures (Some others) e cut means agreed = never others (inner, (middle_kept matcher text inner (ends.2 ∙ case)).1 cut, subst (λ i. Accepts answer matcher.ignore_case i inner others) (sym is) e)

-- ---- every matcher

-- A matcher that needs no engine.
fast_agrees : {E : Type 0} (answer : E → List ℕ → Option Captures) (options : OptionsView) (parts : List PartView) (matcher : MatcherView E) (text : List ℕ) (result : Option Captures) →
    ((captures : Captures) → Matches answer matcher text captures ↔ PartsMean options parts text captures) → Returns answer matcher text result → Agrees options parts text result
fast_agrees answer options parts matcher text None same never = λ captures means. never captures ((same captures).1 means)
fast_agrees answer options parts matcher text (Some captures) same matches = (same captures).0 matches

-- A matcher returns what its parts mean, for texts of characters without line feed where case is
-- kept, if its engine returns what the parts between the ends mean.
pub matcher_agrees : {E : Type 0} (answer : E → List ℕ → Option Captures) (IsEngine : List ℕ → Result E ErrorView → Type 0) (options : OptionsView) (parts : List PartView) (matcher : MatcherView E) (text : List ℕ) (result : Option Captures) →
    IsMadeOf IsEngine options parts matcher → options.ignore_case ≡ false → IsTrue (lacks line_feed text) → IsTrue (all_scalars text) → AgreesInMiddle answer options parts matcher.inner →
    Returns answer matcher text result → Agrees options parts text result
matcher_agrees {E} answer IsEngine options parts matcher text result made case no_feed scalars agrees answers = by_inner matcher.inner refl agrees
  where
    fast : IsFast matcher.inner → Agrees options parts text result
    fast is = fast_agrees answer options parts matcher text result (λ captures. fast_means answer IsEngine options parts matcher text captures made case no_feed is) answers

    by_inner : (inner : InnerView E) → matcher.inner ≡ inner → AgreesInMiddle answer options parts inner → Agrees options parts text result
    by_inner (Literal literal) e agrees = fast (subst (λ i. IsFast i) (sym e) tt)
    by_inner (SingleCapture filter allow_empty) e agrees = fast (subst (λ i. IsFast i) (sym e) tt)
    by_inner (RegExp (Err error)) e agrees = absurd agrees
    by_inner (RegExp (Ok engine)) e (front, middle, back, peeled, agrees) =
        let same : middle ≡ made.middle = middle_one parts front made.front middle made.middle back made.back peeled made.are_stripped in
        engine_agrees answer options parts made.front made.middle made.back matcher engine text result made.are_stripped
        (ends_of IsEngine options (end_text made.front) made.middle (end_text made.back) matcher (Ok engine) made.is_made e) e case
        (subst (λ m. (t : List ℕ) → IsTrue (all_scalars t) → Agrees options m t (answer engine t)) same agrees) scalars answers

-- ---- engines that follow

pub all_left : (parts others : List PartView) → All IsNotCustom (parts ++ others) → All IsNotCustom parts
all_left [] others h = All-nil IsNotCustom
all_left (part ∷ parts) others h = All-cons IsNotCustom part parts (All-head IsNotCustom part (parts ++ others) h) (all_left parts others (All-tail IsNotCustom part (parts ++ others) h))

pub all_right : (parts others : List PartView) → All IsNotCustom (parts ++ others) → All IsNotCustom others
all_right [] others h = h
all_right (part ∷ parts) others h = all_right parts others (All-tail IsNotCustom part (parts ++ others) h)

-- An engine that follows the regular expression of the parts between the ends returns what they
-- mean.
pub follows_in_middle : {E : Type 0} (answer : E → List ℕ → Option Captures) (options : OptionsView) (parts : List PartView) (inner : InnerView E) → All IsNotCustom parts →
    FollowsMiddle answer options parts inner → AgreesInMiddle answer options parts inner
follows_in_middle answer options parts (Literal literal) h follows = tt
follows_in_middle answer options parts (SingleCapture filter allow_empty) h follows = tt
follows_in_middle answer options parts (RegExp (Err error)) h follows = follows
follows_in_middle answer options parts (RegExp (Ok engine)) h (front, middle, back, peeled, follows) =
    let not_custom : All IsNotCustom (option_to_list front ++ middle ++ option_to_list back) = subst (λ ps. All IsNotCustom ps) peeled.cut h in
    (front, middle, back, peeled, follows_agrees options middle (all_right (option_to_list front) middle (all_left (option_to_list front ++ middle) (option_to_list back) not_custom)) (answer engine) follows)

-- A matcher returns what its parts mean, for texts of characters without line feed where case is
-- kept and no part is custom, if its engine follows the regular expression of the parts between the
-- ends.
pub matcher_means : {E : Type 0} (answer : E → List ℕ → Option Captures) (IsEngine : List ℕ → Result E ErrorView → Type 0) (options : OptionsView) (parts : List PartView) (matcher : MatcherView E) (text : List ℕ) (result : Option Captures) →
    IsMadeOf IsEngine options parts matcher → All (λ part. part.kind ≢ Regexp) parts → options.ignore_case ≡ false → IsTrue (lacks line_feed text) → IsTrue (all_scalars text) →
    FollowsMiddle answer options parts matcher.inner → Returns answer matcher text result → Agrees options parts text result
matcher_means answer IsEngine options parts matcher text result made not_custom case no_feed scalars follows answers =
    matcher_agrees answer IsEngine options parts matcher text result made case no_feed scalars (follows_in_middle answer options parts matcher.inner not_custom follows) answers
