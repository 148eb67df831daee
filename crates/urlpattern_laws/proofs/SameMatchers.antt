-- Matchers made of parts that are the same except for names.
use Rattle.std.proofs.Common.{◌≡◌, ◌∙◌, ◌⊎◌, ℕ, Bool, true, false, List, [], ◌∷◌, ◌++◌, ap, ap₂, codes, inl, inr, refl, subst, sym, Option, Some, None, Result, Ok, Err}
use Rattle.std.specs.List.{flat_map}
use Rattle.std.specs.Prelude.{⊤, All, IsTrue, option_map, option_to_list}
use Rattle.std.specs.Str.{all_scalars}
use Rattle.urlpattern_matcher.specs.Components.{ComponentView, IsEngineOf, engine_flags}
use Rattle.urlpattern_matcher.specs.declared.regexp.RegExp.{Ghosts as Engine}
use Rattle.urlpattern_components.specs.Eight.{at}
use Rattle.urlpattern_engine.specs.GrammarReadings.{ExpressionsReturnAlike}
use Rattle.urlpattern_init.specs.UrlTexts.{IsLine}
use Rattle.urlpattern_matches.specs.ResultViews.{IsResultOf}
use Rattle.urlpattern_meaning.proofs.MatcherMeaning.{all_left, all_right, scalars_middle}
use Rattle.urlpattern_meaning.proofs.PartTrees.{IsNotCustom}
use Rattle.urlpattern_meaning.specs.FirstResults.{AcceptedText}
use Rattle.urlpattern_meaning.specs.Matching.{Accepts, AreStripped, IsMadeBetween, IsMadeByEngine, IsMadeOf, IsMadeOfOne, Matches, MatcherView, RegExp, end_text}
use Rattle.urlpattern_meaning.specs.PartMeaning.{AreGenerated, Captures}
use Rattle.urlpattern_pattern.proofs.MadeAlike.{AreAlike, made_alike}
use Rattle.urlpattern_pattern.specs.UrlPatterns.{IsMadeOfParts}
use Rattle.urlpattern_laws.proofs.ChangedParts.{peeled_changed}
use Rattle.urlpattern_laws.specs.PartReadings.{EqualAreMatched, MadeAreMatched}
use Rattle.urlpattern_compare.proofs.NamelessParts.{all_nameless, generated_nameless, nameless}
use Rattle.urlpattern_compare.proofs.SameParts.{equal_same, same_nameless}
use Rattle.urlpattern_compare.specs.{Comparing.AreSame, EqualParts.AreEqual}
use Rattle.urlpattern_syntax.specs.declared.parts.ComponentParts.{ComponentParts}
use Rattle.urlpattern_syntax.specs.declared.parser.PartModifier.{PartModifier}
use Rattle.urlpattern_syntax.specs.declared.parser.PartModifier.TheVariants as modifiers
use Rattle.urlpattern_syntax.specs.declared.parser.PartType.{PartType}
use Rattle.urlpattern_syntax.specs.declared.parser.PartType.TheVariants.{SegmentWildcard, FullWildcard}
use Rattle.urlpattern_syntax.specs.Errors.{ErrorView}
use Rattle.urlpattern_syntax.specs.Options.{OptionsView, options_view}
use Rattle.urlpattern_syntax.specs.Parts.{PartView, parts_view}
use Rattle.urlpattern_syntax.specs.RegexpText.{group_names, is_fixed_text, part_regexp, part_regexp_of, regexp_text}

-- ---- regular expressions have no names

part_nameless : (options : OptionsView) (part : PartView) → part_regexp options (nameless part) ≡ part_regexp options part
unfolding part_regexp
part_nameless options part = by (is_fixed_text part.kind)
  where
    by : (fixed : Bool) → part_regexp_of options (nameless part) fixed ≡ part_regexp_of options part fixed
    by true = refl
    by false = refl

parts_nameless : (options : OptionsView) (parts : List PartView) → flat_map (part_regexp options) (all_nameless parts) ≡ flat_map (part_regexp options) parts
parts_nameless options [] = refl
parts_nameless options (part ∷ parts) = ap₂ ◌++◌ (part_nameless options part) (parts_nameless options parts)

regexp_nameless : (options : OptionsView) (parts : List PartView) → regexp_text options (all_nameless parts) ≡ regexp_text options parts
regexp_nameless options parts = ap (λ (text : List ℕ). codes "^" ++ text ++ codes "$") (parts_nameless options parts)

-- ---- plain ends have none

end_nameless : (part : Option PartView) → end_text part ≡ end_text (option_map nameless part)
end_nameless (Some part) = refl
end_nameless None = refl

-- ---- matchers have no names

module _ {E : Type 0} (IsEngine : List ℕ → Result E ErrorView → Type 0) (options : OptionsView) where
  engine_nameless : (prefix : List ℕ) (middle : List PartView) (suffix : List ℕ) (matcher : MatcherView E) → IsMadeByEngine IsEngine options prefix middle suffix matcher →
      IsMadeByEngine IsEngine options prefix (all_nameless middle) suffix matcher
  engine_nameless prefix middle suffix matcher (engine, is, made) =
      (engine, subst (λ (text : List ℕ). IsEngine text engine) (sym (regexp_nameless options middle)) is, made)

  one_nameless : (kind : PartType) (modifier : PartModifier) (prefix : List ℕ) (part : PartView) (suffix : List ℕ) (matcher : MatcherView E) →
      IsMadeOfOne IsEngine kind modifier options prefix part suffix matcher → IsMadeOfOne IsEngine kind modifier options prefix (nameless part) suffix matcher
  one_nameless FullWildcard modifiers.None prefix part suffix matcher made = made
  one_nameless SegmentWildcard modifiers.None prefix part suffix matcher made = made
  one_nameless kind modifier prefix part suffix matcher made = engine_nameless prefix (part ∷ []) suffix matcher made

  between_nameless : (prefix : List ℕ) (middle : List PartView) (suffix : List ℕ) (matcher : MatcherView E) → IsMadeBetween IsEngine options prefix middle suffix matcher →
      IsMadeBetween IsEngine options prefix (all_nameless middle) suffix matcher
  between_nameless prefix [] suffix matcher made = made
  between_nameless prefix (part ∷ []) suffix matcher made = one_nameless part.kind part.modifier prefix part suffix matcher made
  between_nameless prefix (part ∷ next ∷ parts) suffix matcher made = engine_nameless prefix (part ∷ next ∷ parts) suffix matcher made

  made_nameless : (parts : List PartView) (matcher : MatcherView E) → IsMadeOf IsEngine options parts matcher → IsMadeOf IsEngine options (all_nameless parts) matcher
  made_nameless parts matcher made = record {
    front = option_map nameless made.front;
    middle = all_nameless made.middle;
    back = option_map nameless made.back;
    are_stripped = peeled_changed nameless (λ part. refl) parts made.front made.middle made.back made.are_stripped;
    is_made =
        subst (λ (begin : List ℕ). IsMadeBetween IsEngine options begin (all_nameless made.middle) (end_text (option_map nameless made.back)) matcher) (end_nameless made.front)
        (subst (λ (end : List ℕ). IsMadeBetween IsEngine options (end_text made.front) (all_nameless made.middle) end matcher) (end_nameless made.back)
        (between_nameless (end_text made.front) made.middle (end_text made.back) matcher made.is_made));
  }

-- ---- the texts that are matched

middle_generated : (parts : List PartView) (front : Option PartView) (middle : List PartView) (back : Option PartView) → AreStripped parts front middle back → AreGenerated parts → AreGenerated middle
middle_generated parts front middle back peeled generated =
    all_right (option_to_list front) middle (all_left (option_to_list front ++ middle) (option_to_list back) (subst (λ (ps : List PartView). All IsNotCustom ps) peeled.cut generated))

module _ {E : Type 0} (engine : Engine E) (alike : ExpressionsReturnAlike engine) (options : OptionsView) where
  abbrev IsEngine : List ℕ → Result E ErrorView → Type 0
  IsEngine = IsEngineOf engine false (engine_flags options)

  abbrev Settled : List PartView → Type 0
  Settled parts = (options.ignore_case ≡ false) ⊎ AreGenerated parts

  accepted_too : (middle : List PartView) (own other : Result E ErrorView) → Settled middle → IsEngine (regexp_text options middle) own → IsEngine (regexp_text options middle) other →
      AcceptedText (λ value. ⊤) (RegExp own) → (text : List ℕ) (captures : Captures) → IsTrue (all_scalars text) →
      Accepts engine.answer options.ignore_case (RegExp other) text captures → Accepts engine.answer options.ignore_case (RegExp own) text captures
  accepted_too middle (Ok own) (Ok other) settled is also took text captures fine accepts = alike options middle own other text settled is also fine ∙ accepts
  accepted_too middle (Ok own) (Err error) settled is also took text captures fine accepts = absurd accepts
  accepted_too middle (Err error) other settled is also took text captures fine accepts = absurd took

  -- `matcher` matches each line as `other` does.
  abbrev MatchesAs : (matcher other : MatcherView E) → Type 0
  MatchesAs matcher other = (text : List ℕ) (captures : Captures) → IsLine text → Matches engine.answer other text captures → Matches engine.answer matcher text captures

  matched_by_engine : (prefix : List ℕ) (middle : List PartView) (suffix : List ℕ) (matcher other : MatcherView E) → Settled middle →
      IsMadeByEngine IsEngine options prefix middle suffix matcher → IsMadeByEngine IsEngine options prefix middle suffix other →
      AcceptedText (λ value. ⊤) matcher.inner → MatchesAs matcher other
  matched_by_engine prefix middle suffix matcher other settled (own, is, made) (others, also, made_too) took text captures line matched =
      let took_own : AcceptedText (λ value. ⊤) (RegExp own) = subst (λ (m : MatcherView E). AcceptedText (λ value. ⊤) m.inner) made took in
      let (between, has, accepts) = subst (λ (m : MatcherView E). Matches engine.answer m text captures) made_too matched in
      let (front, back, cut, begins, ends) = has in
      let fine = scalars_middle front between back (subst (λ (t : List ℕ). IsTrue (all_scalars t)) cut line.characters) in
      subst (λ (m : MatcherView E). Matches engine.answer m text captures) (sym made)
      (between, (front, back, cut, begins, ends), accepted_too middle own others settled is also took_own between captures fine accepts)

  pub same_matched : (parts : List PartView) (matcher other : MatcherView E) → Settled parts → IsMadeOf IsEngine options parts matcher → IsMadeOf IsEngine options parts other →
      AcceptedText (λ value. ⊤) matcher.inner → MatchesAs matcher other
  same_matched parts matcher other settled made also took text captures line matched = by (made_alike IsEngine options parts matcher other made also)
    where
      settled_middle : Settled parts → Settled made.middle
      settled_middle (inl kept) = inl kept
      settled_middle (inr generated) = inr (middle_generated parts made.front made.middle made.back made.are_stripped generated)

      by : AreAlike IsEngine options (end_text made.front) made.middle (end_text made.back) matcher other → Matches engine.answer matcher text captures
      by (inl same) = subst (λ (m : MatcherView E). Matches engine.answer m text captures) (sym same) matched
      by (inr (one, two)) = matched_by_engine (end_text made.front) made.middle (end_text made.back) matcher other (settled_middle settled) one two took text captures line matched

settled_nameless : (options : OptionsView) (parts : List PartView) → (options.ignore_case ≡ false) ⊎ AreGenerated parts → (options.ignore_case ≡ false) ⊎ AreGenerated (all_nameless parts)
settled_nameless options parts (inl kept) = inl kept
settled_nameless options parts (inr generated) = inr (generated_nameless parts generated)

-- Components made of the same parts match the same texts, with the same captures.
module _ {E : Type 0} (engine : Engine E) (alike : ExpressionsReturnAlike engine) (component other : ComponentParts) (compiled another : ComponentView E) where
  made_same : IsMadeOfParts engine component compiled → IsMadeOfParts engine other another → AreSame component other → (text : List ℕ) (captures : Captures) → IsLine text →
      Matches engine.answer another.matcher text captures → Matches engine.answer compiled.matcher text captures
  made_same made also same =
      let options = options_view component.options in
      let own = parts_view component.parts.items in
      let others : IsMadeOf (IsEngineOf engine false (engine_flags options)) options (parts_view other.parts.items) another.matcher =
      subst (λ (o : OptionsView). IsMadeOf (IsEngineOf engine false (engine_flags o)) o (parts_view other.parts.items) another.matcher) (sym same.options) also.is_component.has_matcher in
      let others_nameless : IsMadeOf (IsEngineOf engine false (engine_flags options)) options (all_nameless own) another.matcher =
      subst (λ (ps : List PartView). IsMadeOf (IsEngineOf engine false (engine_flags options)) options ps another.matcher) (sym (same_nameless component other same))
      (made_nameless (IsEngineOf engine false (engine_flags options)) options (parts_view other.parts.items) another.matcher others) in
      same_matched engine alike options (all_nameless own) compiled.matcher another.matcher (settled_nameless options own same.kept_or_generated)
      (made_nameless (IsEngineOf engine false (engine_flags options)) options own compiled.matcher made.is_component.has_matcher) others_nameless made.has_engine.of_matcher

  names_equal : IsMadeOfParts engine component compiled → IsMadeOfParts engine other another → AreEqual component other → compiled.group_name_list ≡ another.group_name_list
  names_equal made also equal = made.is_component.has_names ∙ ap group_names equal.parts ∙ sym also.is_component.has_names

pub made_matched : {E : Type 0} (engine : Engine E) → MadeAreMatched engine
made_matched engine alike pattern asked parts asked_parts made also name unknown same text line (captures, matches) =
    (captures, made_same engine alike (at parts.components name) (at asked_parts.components name) (pattern name) (asked name) (made name) (also name) same text captures line matches)

-- Patterns made of equal parts have equal results.
pub equal_matched : {E : Type 0} (engine : Engine E) → ExpressionsReturnAlike engine → EqualAreMatched engine
equal_matched engine alike pattern other parts others made also equal kept texts result lines matched = record {
  captures = matched.captures;
  are_answers = λ name.
      let own = at parts.components name in
      let another = at others.components name in
      made_same engine alike own another (pattern name) (other name) (made name) (also name) (equal_same own another (equal name) (kept name))
      (at texts name) (matched.captures name) (lines name) (matched.are_answers name);
  are_results = λ name.
      let same = names_equal engine alike (at parts.components name) (at others.components name) (pattern name) (other name) (made name) (also name) (equal name) in
      subst (λ (names : List (List ℕ)). IsResultOf names (matched.captures name) (at texts name) (result name)) (sym same) (matched.are_results name);
}
