-- A matcher that is made from parts returns the first way of their tree, and this is one result.
use Rattle.std.proofs.Common.{◌≡◌, ℕ, false, true, List, [], ◌∷◌, ◌++◌, refl, sym, subst, ap, Some, None, Option, Result, ◌∙◌, ◌↔◌}
use Rattle.std.specs.Prelude.{⊤, All, IsTrue, Ok, Err, option_to_list}
use Rattle.std.specs.Str.{all_scalars}
use Rattle.urlpattern_meaning.specs.Dialect.{IsTreeOf, Items}
use Rattle.urlpattern_meaning.specs.FirstResults.{ReturnsFirst, ReturnsFirstInMiddle, IsFirstOf, AcceptedText}
use Rattle.urlpattern_meaning.specs.Matching.{Accepts, Agrees, Returns, AreStripped, InnerView, IsMadeBetween, IsMadeOf, IsMadeOfOne, IsOfMiddle, Literal, MatcherView, Matches, RegExp, SingleCapture, end_text}
use Rattle.urlpattern_meaning.specs.PartMeaning.{Captures, PartsMean}
use Rattle.urlpattern_meaning.specs.Ways.{first_way}
use Rattle.urlpattern_syntax.specs.declared.parser.PartModifier.{PartModifier}
use Rattle.urlpattern_syntax.specs.declared.parser.PartModifier.TheVariants as modifiers
use Rattle.urlpattern_syntax.specs.declared.parser.PartType.{PartType}
use Rattle.urlpattern_syntax.specs.declared.parser.PartType.TheVariants.{SegmentWildcard, FullWildcard}
use Rattle.urlpattern_syntax.specs.Errors.{ErrorView}
use Rattle.urlpattern_syntax.specs.Options.{OptionsView}
use Rattle.urlpattern_syntax.specs.Parts.{PartView}
use Rattle.urlpattern_syntax.specs.RegexpText.{regexp_text}
use Rattle.urlpattern_syntax.specs.Text.{lacks, line_feed}
use Rattle.urlpattern_meaning.proofs.DialectUnique.{trees_are_one}
use Rattle.urlpattern_meaning.proofs.FirstStripped.{first_peeled}
use Rattle.urlpattern_meaning.proofs.FirstWay.{first_way_means, no_way_means_none}
use Rattle.urlpattern_meaning.proofs.MatcherMeaning.{HasEnds, all_left, all_right, ends_of, not_fast, scalars_middle}
use Rattle.urlpattern_meaning.proofs.MatchingLaws.{IsFast, fast_means, middle_kept}
use Rattle.urlpattern_meaning.proofs.MeaningLaws.{peeled_means}
use Rattle.urlpattern_meaning.proofs.Middles.{middle-one}
use Rattle.urlpattern_meaning.proofs.OneMeaning.{each_tree_means, is_tree_of}
use Rattle.urlpattern_meaning.proofs.PartTreeAllowed.{tree_allowed}
use Rattle.urlpattern_meaning.proofs.PartTreeMeans.{tree_means}
use Rattle.urlpattern_meaning.proofs.PartTrees.{IsNotCustom, tree_of}
use Rattle.urlpattern_meaning.proofs.StrippedParts.{middle_one}

-- ---- one result

-- At most one result is the first way.
pub first_one : (options : OptionsView) (parts : List PartView) (text : List ℕ) (result other : Option Captures) → IsFirstOf options parts text result → IsFirstOf options parts text other → result ≡ other
first_one options parts text result other first last =
    first.is_first
    ∙ ap (λ (tree : Items). first_way tree text) (trees_are_one (regexp_text options parts) first.tree last.tree first.is_tree last.is_tree)
    ∙ sym last.is_first

-- The result that is the first way is what the parts mean.
agrees_of : (options : OptionsView) (parts : List PartView) (tree : Items) (text : List ℕ) (result : Option Captures) → All IsNotCustom parts → IsTreeOf (regexp_text options parts) tree →
    result ≡ first_way tree text → Agrees options parts text result
agrees_of options parts tree text None plain is e = λ captures means.
    no_way_means_none tree is.1 text (sym e) captures ((each_tree_means options parts tree text captures plain is).1 means)
agrees_of options parts tree text (Some captures) plain is e =
    (each_tree_means options parts tree text captures plain is).0 (first_way_means tree is.1 text captures (sym e))

pub first_agrees : (options : OptionsView) (parts : List PartView) (text : List ℕ) (result : Option Captures) → All IsNotCustom parts → IsFirstOf options parts text result → Agrees options parts text result
first_agrees options parts text result plain first = agrees_of options parts first.tree text result plain first.is_tree first.is_first

-- ---- matchers without an engine

same_accepted : {E : Type 0} (answer : E → List ℕ → Option Captures) (ignore_case : _) (inner : InnerView E) (text : List ℕ) (captures others : Captures) → IsFast inner →
    Accepts answer ignore_case inner text captures → Accepts answer ignore_case inner text others → captures ≡ others
same_accepted answer ignore_case (Literal literal) text captures others fast is also = is.1 ∙ sym also.1
same_accepted answer ignore_case (SingleCapture filter allow_empty) text captures others fast (filled, passes, e) (filled', passes', f) = e ∙ sym f
same_accepted answer ignore_case (RegExp value) text captures others fast is also = absurd fast

-- At most one list of captures matches.
same_matched : {E : Type 0} (answer : E → List ℕ → Option Captures) (matcher : MatcherView E) (text : List ℕ) (captures others : Captures) → IsFast matcher.inner →
    Matches answer matcher text captures → Matches answer matcher text others → captures ≡ others
same_matched answer matcher text captures others fast (inner, cut, accepts) (other, has, also) =
    same_accepted answer matcher.ignore_case matcher.inner inner captures others fast accepts
    (subst (λ t. Accepts answer matcher.ignore_case matcher.inner t others) (middle-one matcher text other inner has cut) also)

fast_by : {E : Type 0} (answer : E → List ℕ → Option Captures) (options : OptionsView) (parts : List PartView) (matcher : MatcherView E) (text : List ℕ) → IsFast matcher.inner →
    ((captures : Captures) → Matches answer matcher text captures ↔ PartsMean options parts text captures) →
    (result first : Option Captures) → Returns answer matcher text result → Agrees options parts text first → result ≡ first
fast_by answer options parts matcher text fast same None None answers agrees = refl
fast_by answer options parts matcher text fast same None (Some captures) never means = absurd (never captures ((same captures).1 means))
fast_by answer options parts matcher text fast same (Some captures) None matches never = absurd (never captures ((same captures).0 matches))
fast_by answer options parts matcher text fast same (Some captures) (Some others) matches means =
    ap Some (same_matched answer matcher text captures others fast matches ((same others).1 means))

-- ---- the parts between the ends

pub middle_plain : (parts : List PartView) (front : Option PartView) (middle : List PartView) (back : Option PartView) → AreStripped parts front middle back → All IsNotCustom parts → All IsNotCustom middle
middle_plain parts front middle back peeled plain =
    let whole : All IsNotCustom (option_to_list front ++ middle ++ option_to_list back) = subst (λ ps. All IsNotCustom ps) peeled.cut plain in
    all_right (option_to_list front) middle (all_left (option_to_list front ++ middle) (option_to_list back) whole)

-- ---- a matcher that calls an engine

engine_by : {E : Type 0} (answer : E → List ℕ → Option Captures) (options : OptionsView) (parts : List PartView) (front : Option PartView) (middle : List PartView) (back : Option PartView) (matcher : MatcherView E) (engine : E) (text : List ℕ) (result : Option Captures) →
    All IsNotCustom parts → All IsNotCustom middle → AreStripped parts front middle back → HasEnds options matcher (end_text front) (end_text back) → matcher.inner ≡ RegExp (Ok engine) → options.ignore_case ≡ false →
    ReturnsFirst (regexp_text options middle) (answer engine) → IsTrue (all_scalars text) → Returns answer matcher text result → result ≡ first_way (tree_of options parts) text
engine_by answer options parts front middle back matcher engine text (Some captures) plain left peeled ends is case firsts scalars (inner, has_middle, accepts) =
    let e = (middle_kept matcher text inner (ends.2 ∙ case)).0 has_middle in
    let found : answer engine inner ≡ Some captures = subst (λ i. Accepts answer matcher.ignore_case i inner captures) is accepts in
    let cut : text ≡ end_text front ++ inner ++ end_text back = e ∙ ap (λ t. t ++ inner ++ matcher.suffix) ends.0 ∙ ap (λ t. end_text front ++ inner ++ t) ends.1 in
    let here : IsTrue (all_scalars inner) = scalars_middle (end_text front) inner (end_text back) (subst (λ t. IsTrue (all_scalars t)) cut scalars) in
    sym found ∙ firsts (tree_of options middle) inner (is_tree_of options middle left) here
    ∙ sym (first_peeled options parts front middle back inner (tree_allowed options middle left) peeled) ∙ ap (first_way (tree_of options parts)) (sym cut)
engine_by answer options parts front middle back matcher engine text None plain left peeled ends is case firsts scalars never = by (first_way (tree_of options parts) text) refl
  where
    by : (first : Option Captures) → first_way (tree_of options parts) text ≡ first → None ≡ first
    by None e = refl
    by (Some captures) e =
        let means : PartsMean options parts text captures = (tree_means options parts plain text captures).0 (first_way_means (tree_of options parts) (tree_allowed options parts plain) text captures e) in
        let cut = (peeled_means options parts front middle back text captures peeled).0 means in
        let inner = cut.0 in
        let here : IsTrue (all_scalars inner) = scalars_middle (end_text front) inner (end_text back) (subst (λ t. IsTrue (all_scalars t)) cut.1 scalars) in
        let whole : text ≡ matcher.prefix ++ inner ++ matcher.suffix = cut.1 ∙ ap (λ t. t ++ inner ++ end_text back) (sym ends.0) ∙ ap (λ t. matcher.prefix ++ inner ++ t) (sym ends.1) in
        let found : answer engine inner ≡ Some captures =
        firsts (tree_of options middle) inner (is_tree_of options middle left) here
        ∙ sym (first_peeled options parts front middle back inner (tree_allowed options middle left) peeled)
        ∙ ap (first_way (tree_of options parts)) (sym cut.1) ∙ e in
        absurd (never captures (inner, (middle_kept matcher text inner (ends.2 ∙ case)).1 whole, subst (λ i. Accepts answer matcher.ignore_case i inner captures) (sym is) found))

-- ---- every matcher

pub matcher_first : {E : Type 0} (answer : E → List ℕ → Option Captures) (IsEngine : List ℕ → Result E ErrorView → Type 0) (options : OptionsView) (parts : List PartView) (matcher : MatcherView E) (text : List ℕ) (result : Option Captures) →
    IsMadeOf IsEngine options parts matcher → All IsNotCustom parts → options.ignore_case ≡ false → IsTrue (lacks line_feed text) → IsTrue (all_scalars text) →
    ReturnsFirstInMiddle answer options parts matcher.inner → Returns answer matcher text result → IsFirstOf options parts text result
matcher_first {E} answer IsEngine options parts matcher text result made plain case no_feed scalars firsts answers =
    record { tree = tree_of options parts; is_tree = is_tree_of options parts plain; is_first = by_inner matcher.inner refl firsts }
  where
    fast : IsFast matcher.inner → result ≡ first_way (tree_of options parts) text
    fast is =
        fast_by answer options parts matcher text is (λ captures. fast_means answer IsEngine options parts matcher text captures made case no_feed is) result
        (first_way (tree_of options parts) text) answers (agrees_of options parts (tree_of options parts) text (first_way (tree_of options parts) text) plain (is_tree_of options parts plain) refl)

    by_inner : (inner : InnerView E) → matcher.inner ≡ inner → ReturnsFirstInMiddle answer options parts inner → result ≡ first_way (tree_of options parts) text
    by_inner (Literal literal) e firsts = fast (subst (λ i. IsFast i) (sym e) tt)
    by_inner (SingleCapture filter allow_empty) e firsts = fast (subst (λ i. IsFast i) (sym e) tt)
    by_inner (RegExp (Err error)) e firsts = absurd firsts
    by_inner (RegExp (Ok engine)) e (front, middle, back, peeled, firsts) =
        let same : middle ≡ made.middle = middle_one parts front made.front middle made.middle back made.back peeled made.are_stripped in
        engine_by answer options parts made.front made.middle made.back matcher engine text result plain (middle_plain parts made.front made.middle made.back made.are_stripped plain) made.are_stripped
        (ends_of IsEngine options (end_text made.front) made.middle (end_text made.back) matcher (Ok engine) made.is_made e) e case
        (subst (λ m. ReturnsFirst (regexp_text options m) (answer engine)) same firsts) scalars answers

-- ---- properties of each value that is made

module _ {E : Type 0} (IsEngine : List ℕ → Result E ErrorView → Type 0) (options : OptionsView) where
  made_value : (regexp : List ℕ) (value other : Result E ErrorView) → IsEngine regexp other → RegExp value ≡ RegExp other → IsEngine regexp value
  made_value regexp value other is e = let same : value ≡ other = cc e in subst (λ made. IsEngine regexp made) (sym same) is

  made_one : (kind : PartType) (modifier : PartModifier) (front : List ℕ) (part : PartView) (back : List ℕ) (matcher : MatcherView E) (value : Result E ErrorView) →
      IsMadeOfOne IsEngine kind modifier options front part back matcher → matcher.inner ≡ RegExp value → IsEngine (regexp_text options (part ∷ [])) value
  made_one FullWildcard modifiers.None front part back matcher value made e = absurd (not_fast matcher.inner (SingleCapture None true) value (ap (λ m. m.inner) made) tt e)
  made_one SegmentWildcard modifiers.None front part back matcher value made e = absurd (not_fast matcher.inner (SingleCapture options.delimiter false) value (ap (λ m. m.inner) made) tt e)
  made_one kind modifier front part back matcher value (other, is, made) e = made_value _ value other is (sym e ∙ ap (λ m. m.inner) made)

  made_between : (front : List ℕ) (middle : List PartView) (back : List ℕ) (matcher : MatcherView E) (value : Result E ErrorView) →
      IsMadeBetween IsEngine options front middle back matcher → matcher.inner ≡ RegExp value → IsEngine (regexp_text options middle) value
  made_between front [] back matcher value made e = absurd (not_fast matcher.inner (Literal (front ++ back)) value (ap (λ m. m.inner) made) tt e)
  made_between front (part ∷ []) back matcher value made e = made_one part.kind part.modifier front part back matcher value made e
  made_between front (part ∷ next ∷ parts) back matcher value (other, is, made) e = made_value _ value other is (sym e ∙ ap (λ m. m.inner) made)

  -- Where an engine accepted its text, a property of each value made from such a text holds of the
  -- matcher's value.
  pub of_made : (Is : E → List PartView → Type 0) (Holds : E → Type 0) (parts : List PartView) (matcher : MatcherView E) →
      IsMadeOf IsEngine options parts matcher → All IsNotCustom parts → AcceptedText Holds matcher.inner →
      ((engine : E) (middle : List PartView) → All IsNotCustom middle → IsEngine (regexp_text options middle) (Ok engine) → Holds engine → Is engine middle) → IsOfMiddle Is parts matcher.inner
  of_made Is Holds parts matcher made plain took is = by_inner matcher.inner refl took
    where
      by_inner : (inner : InnerView E) → matcher.inner ≡ inner → AcceptedText Holds inner → IsOfMiddle Is parts inner
      by_inner (Literal literal) e took = tt
      by_inner (SingleCapture filter allow_empty) e took = tt
      by_inner (RegExp (Err error)) e took = absurd took
      by_inner (RegExp (Ok engine)) e took = (
        made.front,
        made.middle,
        made.back,
        made.are_stripped,
        is engine made.middle (middle_plain parts made.front made.middle made.back made.are_stripped plain)
            (made_between (end_text made.front) made.middle (end_text made.back) matcher (Ok engine) made.is_made e) took,
      )

  -- An engine that has no error for a text accepted it.
  pub took_all : (parts : List PartView) (matcher : MatcherView E) → IsMadeOf IsEngine options parts matcher → All IsNotCustom parts →
      ((middle : List PartView) (error : ErrorView) → All IsNotCustom middle → ¬ IsEngine (regexp_text options middle) (Err error)) → AcceptedText (λ engine. ⊤) matcher.inner
  took_all parts matcher made plain takes = by_inner matcher.inner refl
    where
      by_inner : (inner : InnerView E) → matcher.inner ≡ inner → AcceptedText (λ (engine : E). ⊤) inner
      by_inner (Literal literal) e = tt
      by_inner (SingleCapture filter allow_empty) e = tt
      by_inner (RegExp (Ok engine)) e = tt
      by_inner (RegExp (Err error)) e =
          takes made.middle error (middle_plain parts made.front made.middle made.back made.are_stripped plain)
          (made_between (end_text made.front) made.middle (end_text made.back) matcher (Err error) made.is_made e)
