-- A meaning of a list of parts has as many captures as the list has names.
use Rattle.std.proofs.Common.{◌≡◌, ℕ, suc, List, [], ◌∷◌, ◌++◌, ap, length, ◌∙◌}
use Rattle.urlpattern_meaning.specs.PartMeaning.{AreCaptures, Captures, PartsMean}
use Rattle.urlpattern_syntax.specs.declared.parser.PartModifier.{PartModifier}
use Rattle.urlpattern_syntax.specs.declared.parser.PartType.{PartType}
use Rattle.urlpattern_syntax.specs.declared.parser.PartType.TheVariants.{FixedText, Regexp, SegmentWildcard, FullWildcard}
use Rattle.urlpattern_syntax.specs.Options.{OptionsView}
use Rattle.urlpattern_syntax.specs.Parts.{PartView}
use Rattle.urlpattern_syntax.specs.RegexpText.{group_names}
use Rattle.urlpattern_meaning.proofs.MatchingLaws.{part_of}

-- A part before others.
counted_by : (kind : PartType) (modifier : PartModifier) (value name prefix suffix : List ℕ) (parts : List PartView) (n : ℕ) (text : List ℕ) (own others : Captures) →
    AreCaptures kind (part_of kind modifier value name prefix suffix) n text own → length others ≡ length (group_names parts) →
    length (own ++ others) ≡ length (group_names (part_of kind modifier value name prefix suffix ∷ parts))
counted_by FixedText modifier value name prefix suffix parts n text own others none e = ap (λ c. length (c ++ others)) none ∙ e
counted_by Regexp modifier value name prefix suffix parts n text own others none e = absurd none
counted_by SegmentWildcard modifier value name prefix suffix parts n text own others (capture, is, f) e = ap (λ c. length (c ++ others)) f ∙ ap (λ k. suc k) e
counted_by FullWildcard modifier value name prefix suffix parts n text own others (capture, is, f) e = ap (λ c. length (c ++ others)) f ∙ ap (λ k. suc k) e

pub captures_counted : (options : OptionsView) (parts : List PartView) (text : List ℕ) (captures : Captures) → PartsMean options parts text captures → length captures ≡ length (group_names parts)
captures_counted options [] text captures (e, f) = ap (λ c. length c) f
captures_counted options (part ∷ parts) text captures (first, rest, own, others, e, f, mean, means) =
    ap (λ c. length c) f
    ∙ counted_by part.kind part.modifier part.value part.name part.prefix part.suffix parts mean.count first own others mean.are_captures
    (captures_counted options parts rest others means)
