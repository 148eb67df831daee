-- Parts without a custom one match the texts that they mean.
use Rattle.std.proofs.Common.{ℕ, zero, suc, List, [], ◌∷◌, ◌++◌, Option, Some, refl}
use Rattle.std.proofs.lemmas.List.Elements.{All-head, All-tail}
use Rattle.std.specs.Prelude.{◌≢◌}
use Rattle.urlpattern_laws.specs.LawsOfTexts.{PartsMatchMeanings}
use Rattle.urlpattern_expressions.specs.MatchedPartTexts.{PartMatches, PartsMatch}
use Rattle.urlpattern_meaning.proofs.Copies.{IsBetween, copies_core}
use Rattle.urlpattern_meaning.proofs.MatchingLaws.{part_of}
use Rattle.urlpattern_meaning.proofs.PartTrees.{IsNotCustom}
use Rattle.urlpattern_meaning.specs.PartMeaning.{AreGenerated, Captures, IsCapture, IsWildcardText, PartMeans, PartsMean, capture_of_no_copies}
use Rattle.urlpattern_syntax.specs.Options.{OptionsView}
use Rattle.urlpattern_syntax.specs.Parts.{PartView}
use Rattle.urlpattern_syntax.specs.declared.parser.PartModifier.{PartModifier}
use Rattle.urlpattern_syntax.specs.declared.parser.PartType.{PartType}
use Rattle.urlpattern_syntax.specs.declared.parser.PartType.TheVariants.{FixedText, Regexp, SegmentWildcard, FullWildcard}
use Rattle.urlpattern_syntax.specs.Text.{IsRepeated}

-- Any number of copies has a capture.
some_capture : (part : PartView) (IsPiece : List ℕ → Type 0) (n : ℕ) (text : List ℕ) → IsRepeated (IsBetween IsPiece part.prefix part.suffix) n text → (capture : Option (List ℕ)) × IsCapture part n text capture
some_capture part IsPiece zero text are = (capture_of_no_copies part, refl)
some_capture part IsPiece (suc n) text are = let found = copies_core IsPiece part.prefix part.suffix n text are in (Some found.0, (found.0, found.1, refl))

takes_by : (options : OptionsView) (kind : PartType) (modifier : PartModifier) (value name prefix suffix text : List ℕ) → kind ≢ Regexp →
    PartMatches options (part_of kind modifier value name prefix suffix) text → (captures : Captures) × PartMeans options (part_of kind modifier value name prefix suffix) text captures
takes_by options FixedText modifier value name prefix suffix text plain (n, allowed, are) = ([], record { count = n; allowed = allowed; are_copies = are; are_captures = refl })
takes_by options Regexp modifier value name prefix suffix text plain takes = absurd (plain refl)
takes_by options SegmentWildcard modifier value name prefix suffix text plain (n, allowed, are) =
    let capture = some_capture (part_of SegmentWildcard modifier value name prefix suffix) (IsWildcardText options SegmentWildcard) n text are in
    (capture.0 ∷ [], record { count = n; allowed = allowed; are_copies = are; are_captures = (capture.0, capture.1, refl) })
takes_by options FullWildcard modifier value name prefix suffix text plain (n, allowed, are) =
    let capture = some_capture (part_of FullWildcard modifier value name prefix suffix) (IsWildcardText options FullWildcard) n text are in
    (capture.0 ∷ [], record { count = n; allowed = allowed; are_copies = are; are_captures = (capture.0, capture.1, refl) })

means_by : (options : OptionsView) (kind : PartType) (modifier : PartModifier) (value name prefix suffix text : List ℕ) (captures : Captures) →
    PartMeans options (part_of kind modifier value name prefix suffix) text captures → PartMatches options (part_of kind modifier value name prefix suffix) text
means_by options Regexp modifier value name prefix suffix text captures means = absurd means.are_captures
means_by options kind modifier value name prefix suffix text captures means = (means.count, means.allowed, means.are_copies)

-- A text that parts mean is a text that they match.
pub means_takes : (options : OptionsView) (parts : List PartView) (text : List ℕ) (captures : Captures) → PartsMean options parts text captures → PartsMatch options parts text
means_takes options [] text captures means = means.0
means_takes options (part ∷ parts) text captures (first, rest, own, others, cut, all, one, more) =
    (first, rest, cut, means_by options part.kind part.modifier part.value part.name part.prefix part.suffix first own one, means_takes options parts rest others more)

takes_means : (options : OptionsView) (parts : List PartView) (text : List ℕ) → AreGenerated parts → PartsMatch options parts text → (captures : Captures) × PartsMean options parts text captures
takes_means options [] text plain takes = ([], (takes, refl))
takes_means options (part ∷ parts) text plain (first, rest, cut, one, more) =
    let own = takes_by options part.kind part.modifier part.value part.name part.prefix part.suffix first (All-head IsNotCustom part parts plain) one in
    let others = takes_means options parts rest (All-tail IsNotCustom part parts plain) more in
    (own.0 ++ others.0, (first, rest, own.0, others.0, cut, refl, own.1, others.1))

pub parts_take_meanings : PartsMatchMeanings
parts_take_meanings options parts text plain = (takes_means options parts text plain, λ (captures, means). means_takes options parts text captures means)
