-- Parts have a capture for each name.
use Rattle.std.proofs.Common.{◌≡◌, ℕ, suc, List, [], ◌∷◌, ◌++◌, ap, length, ◌∙◌}
use Rattle.urlpattern_laws.specs.LawsOfTexts.{CapturesAreAsNames}
use Rattle.urlpattern_expressions.specs.PartCaptures.{AreCapturesOf}
use Rattle.urlpattern_meaning.proofs.MatchingLaws.{part_of}
use Rattle.urlpattern_meaning.specs.PartMeaning.{Captures}
use Rattle.urlpattern_syntax.specs.declared.parser.PartModifier.{PartModifier}
use Rattle.urlpattern_syntax.specs.declared.parser.PartType.{PartType}
use Rattle.urlpattern_syntax.specs.declared.parser.PartType.TheVariants.{FixedText}
use Rattle.urlpattern_syntax.specs.Parts.{PartView}
use Rattle.urlpattern_syntax.specs.RegexpText.{group_names}

-- A part before others.
counted_by : (kind : PartType) (modifier : PartModifier) (value name prefix suffix : List ℕ) (parts : List PartView) (n : ℕ) (text : List ℕ) (own others : Captures) →
    AreCapturesOf kind (part_of kind modifier value name prefix suffix) n text own → length others ≡ length (group_names parts) →
    length (own ++ others) ≡ length (group_names (part_of kind modifier value name prefix suffix ∷ parts))
counted_by FixedText modifier value name prefix suffix parts n text own others none e = ap (λ c. length (c ++ others)) none ∙ e
counted_by kind modifier value name prefix suffix parts n text own others (capture, is, f) e = ap (λ c. length (c ++ others)) f ∙ ap (λ k. suc k) e

pub captures_are_as_names : CapturesAreAsNames
captures_are_as_names options [] text captures (e, f) = ap (λ c. length c) f
captures_are_as_names options (part ∷ parts) text captures (first, rest, own, others, e, f, one, more) =
    ap (λ c. length c) f
    ∙ counted_by part.kind part.modifier part.value part.name part.prefix part.suffix parts one.count first own others one.are_captures (captures_are_as_names options parts rest others more)
