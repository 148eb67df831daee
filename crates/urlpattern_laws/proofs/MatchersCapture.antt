-- A matcher returns what its parts capture.
use Rattle.std.proofs.Common.{◌≡◌, ◌↔◌, ℕ, List, [], ◌∷◌, ◌++◌, false, Option, Some, None, refl, sym, ap, ◌∙◌, subst, append_assoc, append-nil, true≢false}
use Rattle.std.proofs.lemmas.List.Elements.{All-head, All-tail}
use Rattle.std.specs.Prelude.{◌≢◌, ◌&&◌, All, IsTrue, Ok, option_to_list}
use Rattle.std.specs.Str.{all_scalars}
use Rattle.urlpattern_matcher.specs.Components.{IsEngineOf}
use Rattle.urlpattern_matcher.specs.FirstWays.{Keeping, Acceptance}
use Rattle.urlpattern_matcher.specs.declared.regexp.RegExp.{Ghosts as Engine}
use Rattle.urlpattern_laws.proofs.Catching.{Then}
use Rattle.urlpattern_laws.proofs.MatchersTaken.{TookAsKept, all_plain, asked, engine_taken, fast_plain, fast_taken, matcher_asks, middle_all}
use Rattle.urlpattern_laws.specs.LawsOfTexts.{IsSomeIfMatched, MatchersCapture, PartsCaptureMeanings, ValuesCapture}
use Rattle.urlpattern_expressions.specs.PartCaptures.{IsCapturedByParts, PartCaptures, PartsCapture}
use Rattle.urlpattern_expressions.specs.MatchedPartTexts.{CapturesNothing, PartsMatch}
use Rattle.urlpattern_meaning.proofs.MatcherMeaning.{HasEnds}
use Rattle.urlpattern_meaning.proofs.MatchingLaws.{fast_means, part_of}
use Rattle.urlpattern_meaning.proofs.PartTrees.{IsNotCustom}
use Rattle.urlpattern_meaning.specs.Matching.{Returns, AreStripped, IsRemoved, MatcherView, Matches, RegExp, end_text}
use Rattle.urlpattern_meaning.specs.PartMeaning.{AreGenerated, Captures, PartMeans, PartsMean}
use Rattle.urlpattern_syntax.specs.Options.{OptionsView}
use Rattle.urlpattern_syntax.specs.Parts.{PartView}
use Rattle.urlpattern_syntax.specs.declared.parser.PartModifier.{PartModifier}
use Rattle.urlpattern_syntax.specs.declared.parser.PartModifier.TheVariants as modifiers
use Rattle.urlpattern_syntax.specs.declared.parser.PartType.{PartType}
use Rattle.urlpattern_syntax.specs.declared.parser.PartType.TheVariants.{FixedText, Regexp}
use Rattle.urlpattern_syntax.specs.RegexpText.{is_fixed_text, is_unmodified}

-- ---- the meaning of parts

mean_capture : (options : OptionsView) (kind : PartType) (modifier : PartModifier) (value name prefix suffix text : List ℕ) (captures : Captures) →
    PartMeans options (part_of kind modifier value name prefix suffix) text captures → PartCaptures options (part_of kind modifier value name prefix suffix) text captures
mean_capture options Regexp modifier value name prefix suffix text captures means = absurd means.are_captures
mean_capture options kind modifier value name prefix suffix text captures means = record { count = means.count; allowed = means.allowed; are_copies = means.are_copies; are_captures = means.are_captures }

-- Texts and captures that parts mean are those of a match by the parts.
means_captures : (options : OptionsView) (parts : List PartView) (text : List ℕ) (captures : Captures) → PartsMean options parts text captures → PartsCapture options parts text captures
means_captures options [] text captures means = means
means_captures options (part ∷ parts) text captures (first, rest, own, others, cut, all, one, more) =
    (first, rest, own, others, cut, all, mean_capture options part.kind part.modifier part.value part.name part.prefix part.suffix first own one, means_captures options parts rest others more)

captures_append : (options : OptionsView) (parts others : List PartView) (text : List ℕ) (captures : Captures) → Then (PartsCapture options parts) (PartsCapture options others) text captures → PartsCapture options (parts ++ others) text captures
captures_append options [] others text captures (first, rest, own, more, cut, all, (none, nothing), is) =
    let same_text : rest ≡ text = sym (cut ∙ ap (λ t. t ++ rest) none) in
    let same_captures : more ≡ captures = sym (all ∙ ap (λ (c : Captures). c ++ more) nothing) in
    subst (λ c. PartsCapture options others text c) same_captures (subst (λ t. PartsCapture options others t more) same_text is)
captures_append options (part ∷ parts) others text captures (first, rest, own, more, cut, all, (head, tail, mine, theirs, inner, both, one, remaining), is) = (
  head,
  tail ++ rest,
  mine,
  theirs ++ more,
  cut ∙ ap (λ t. t ++ rest) inner ∙ append_assoc head tail rest,
  all ∙ ap (λ (c : Captures). c ++ more) both ∙ append_assoc mine theirs more,
  one,
  captures_append options parts others (tail ++ rest) (theirs ++ more) (tail, rest, theirs, more, refl, refl, remaining, is),
)

capture_mean : (options : OptionsView) (kind : PartType) (modifier : PartModifier) (value name prefix suffix text : List ℕ) (captures : Captures) → kind ≢ Regexp →
    PartCaptures options (part_of kind modifier value name prefix suffix) text captures → PartMeans options (part_of kind modifier value name prefix suffix) text captures
capture_mean options Regexp modifier value name prefix suffix text captures plain is = absurd (plain refl)
capture_mean options kind modifier value name prefix suffix text captures plain is = record { count = is.count; allowed = is.allowed; are_copies = is.are_copies; are_captures = is.are_captures }

captures_mean : (options : OptionsView) (parts : List PartView) (text : List ℕ) (captures : Captures) → AreGenerated parts → PartsCapture options parts text captures → PartsMean options parts text captures
captures_mean options [] text captures plain is = is
captures_mean options (part ∷ parts) text captures plain (first, rest, own, others, cut, all, one, more) = (
  first,
  rest,
  own,
  others,
  cut,
  all,
  capture_mean options part.kind part.modifier part.value part.name part.prefix part.suffix first own (All-head IsNotCustom part parts plain) one,
  captures_mean options parts rest others (All-tail IsNotCustom part parts plain) more,
)

pub parts_capture_meanings : PartsCaptureMeanings
parts_capture_meanings options parts text captures plain = (captures_mean options parts text captures plain, means_captures options parts text captures)

captures_takes : (options : OptionsView) (parts : List PartView) (text : List ℕ) (captures : Captures) → PartsCapture options parts text captures → PartsMatch options parts text
captures_takes options [] text captures is = is.0
captures_takes options (part ∷ parts) text captures (first, rest, own, others, cut, all, one, more) =
    (first, rest, cut, (one.count, one.allowed, one.are_copies), captures_takes options parts rest others more)

captured_taken : (options : OptionsView) (parts : List PartView) (text : List ℕ) (result : Option Captures) → IsCapturedByParts options parts text result → IsSomeIfMatched options parts text result
captured_taken options parts text (Some captures) is = (λ some. captures_takes options parts text captures is, λ takes. refl)
captured_taken options parts text None is = (λ some. absurd (true≢false (sym some)), λ takes. absurd (is takes))

-- ---- parts without plain ends

plain_by : (options : OptionsView) (kind : PartType) (modifier : PartModifier) (value name prefix suffix : List ℕ) → IsTrue (is_fixed_text kind && is_unmodified modifier) → PartCaptures options (part_of kind modifier value name prefix suffix) value []
plain_by options FixedText modifiers.None value name prefix suffix h = record { count = 1; allowed = refl; are_copies = (value, [], sym (append-nil value), refl, refl); are_captures = refl }
plain_by options kind modifier value name prefix suffix h = absurd (true≢false (sym h))

end_captures : (options : OptionsView) (end : Option PartView) (IsThere : Type 0) → IsRemoved end IsThere → PartsCapture options (option_to_list end) (end_text end) []
end_captures options None IsThere goes = (refl, refl)
end_captures options (Some part) IsThere goes =
    (part.value, [], [], [], sym (append-nil part.value), refl, plain_by options part.kind part.modifier part.value part.name part.prefix part.suffix goes, (refl, refl))

peeled_captures : (options : OptionsView) (parts : List PartView) (front : Option PartView) (middle : List PartView) (back : Option PartView) (text inner : List ℕ) (captures : Captures) → AreStripped parts front middle back →
    text ≡ end_text front ++ inner ++ end_text back → PartsCapture options middle inner captures → PartsCapture options parts text captures
peeled_captures options parts front middle back text inner captures peeled cut is =
    let most = captures_append options (option_to_list front) middle (end_text front ++ inner) captures (end_text front, inner, [], captures, refl, refl, end_captures options front _ peeled.front_removed, is) in
    subst (λ ps. PartsCapture options ps text captures) (sym peeled.cut)
    (captures_append options (option_to_list front ++ middle) (option_to_list back) text captures
    (end_text front ++ inner, end_text back, captures, [], cut, sym (append-nil captures), most, end_captures options back _ peeled.back_removed))

-- ---- matchers with an engine

pub engine_captured : {E : Type 0} (answer : E → List ℕ → Option Captures) (options : OptionsView) (parts : List PartView) (front : Option PartView) (middle : List PartView) (back : Option PartView) (matcher : MatcherView E) (engine : E) (text : List ℕ) (result : Option Captures) →
    AreStripped parts front middle back → HasEnds options matcher (end_text front) (end_text back) → matcher.inner ≡ RegExp (Ok engine) → options.ignore_case ≡ false →
    ((t : List ℕ) → IsTrue (all_scalars t) → IsCapturedByParts options middle t (answer engine t)) → IsTrue (all_scalars text) → Returns answer matcher text result → IsCapturedByParts options parts text result
engine_captured answer options parts front middle back matcher engine text (Some captures) peeled ends is case captured fine matches =
    let of = asked answer options (end_text front) (end_text back) matcher engine ends is case text captures fine matches in
    peeled_captures options parts front middle back text of.inner captures peeled of.cut (subst (λ result. IsCapturedByParts options middle of.inner result) of.found (captured of.inner of.scalars))
engine_captured answer options parts front middle back matcher engine text None peeled ends is case captured fine never = λ takes.
    let taken = engine_taken answer options parts front middle back matcher engine text None peeled ends is case (λ t good. captured_taken options middle t (answer engine t) (captured t good)) fine never in
    true≢false (sym (taken.1 takes))

-- ---- any matcher

pub fast_captured : {E : Type 0} (answer : E → List ℕ → Option Captures) (options : OptionsView) (parts : List PartView) (matcher : MatcherView E) (text : List ℕ) (result : Option Captures) → All IsNotCustom parts →
    ((captures : Captures) → Matches answer matcher text captures ↔ PartsMean options parts text captures) → Returns answer matcher text result → IsCapturedByParts options parts text result
fast_captured answer options parts matcher text (Some captures) plain same matches = means_captures options parts text captures ((same captures).0 matches)
fast_captured answer options parts matcher text None plain same never = λ takes. true≢false (sym ((fast_taken answer options parts matcher text None plain same never).1 takes))

-- If the values of an engine return what the parts capture, the matchers with accepted expressions
-- do too.
pub matchers_capture : {E : Type 0} (engine : Engine E) (Keeps : Keeping) (Accepted : Acceptance E) → ValuesCapture engine Keeps → TookAsKept Accepted Keeps
    → MatchersCapture engine Accepted
matchers_capture engine Keeps Accepted values took options flags parts matcher made silent text result no_feed fine answers =
    let m = made.is_made in
    let silent_middle = middle_all (λ part. CapturesNothing part.kind part.value) parts m.front m.middle m.back m.are_stripped silent in
    matcher_asks engine Keeps Accepted took options flags parts matcher made (IsCapturedByParts options parts text result)
    (λ is. fast_captured engine.answer options parts matcher text result (all_plain parts m.front m.middle m.back m.are_stripped (fast_plain (IsEngineOf engine false flags) options (end_text m.front) m.middle (end_text m.back) matcher m.is_made is))
    (λ captures. fast_means engine.answer (IsEngineOf engine false flags) options parts matcher text captures m made.case_kept no_feed is) answers)
    (λ value e keeps ends of. engine_captured engine.answer options parts m.front m.middle m.back matcher value text result m.are_stripped ends e made.case_kept
    (values options flags m.middle value keeps of.alone silent_middle of.is_made) fine answers)
