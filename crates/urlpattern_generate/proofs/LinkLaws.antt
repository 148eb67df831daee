-- The laws of the text of parts with given captures.
use Rattle.std.proofs.Common.{◌≡◌, ◌⊎◌, ℕ, List, [], ◌∷◌, ◌++◌, ap, arith, inl, inr, refl, sym, subst, ◌∙◌, Option, Some, None}
use Rattle.std.proofs.lemmas.List.{append-nil}
use Rattle.std.proofs.lemmas.List.Elements.{All-head, All-tail}
use Rattle.std.specs.Prelude.{◌&&◌}
use Rattle.urlpattern_generate.proofs.CopyTexts.{core_texts, texts_core}
use Rattle.urlpattern_generate.specs.LawsOfLinks.{HavePlainTexts}
use Rattle.urlpattern_generate.specs.Links.{IsOfCopies, IsOfNoCopies, MayCaptureAll, fewest_copies, text_of_group, text_of_parts}
use Rattle.urlpattern_meaning.proofs.Copies.{GroupMeans, wildcard_means}
use Rattle.urlpattern_meaning.proofs.MatchingLaws.{part_of}
use Rattle.urlpattern_meaning.proofs.MeaningLaws.{one_copy}
use Rattle.urlpattern_meaning.specs.PartMeaning.{Allows, AreGenerated, Captures, IsWildcardText, PartMeans, PartsMean, capture_of_none}
use Rattle.urlpattern_syntax.specs.declared.parser.PartModifier.{PartModifier}
use Rattle.urlpattern_syntax.specs.declared.parser.PartModifier.TheVariants as modifiers
use Rattle.urlpattern_syntax.specs.declared.parser.PartType.{PartType}
use Rattle.urlpattern_syntax.specs.declared.parser.PartType.TheVariants.{FixedText, Regexp, SegmentWildcard, FullWildcard}
use Rattle.urlpattern_syntax.specs.Options.{OptionsView}
use Rattle.urlpattern_syntax.specs.Parts.{PartView}
use Rattle.urlpattern_syntax.specs.RegexpText.{is_empty}

-- ---- groups

-- Zero copies have no text.
no_copies_text : (kind : PartType) (modifier : PartModifier) (value name prefix suffix : List ℕ) →
    text_of_group (part_of kind modifier value name prefix suffix) (capture_of_none modifier (is_empty prefix && is_empty suffix)) ≡ []
no_copies_text kind modifiers.ZeroOrMore value name [] [] = refl
no_copies_text kind modifiers.ZeroOrMore value name [] (c ∷ suffix) = refl
no_copies_text kind modifiers.ZeroOrMore value name (c ∷ prefix) suffix = refl
no_copies_text kind modifiers.None value name prefix suffix = refl
no_copies_text kind modifiers.Optional value name prefix suffix = refl
no_copies_text kind modifiers.OneOrMore value name prefix suffix = refl

-- The captures of a group whose copies may capture texts of this kind.
abbrev MayCaptureBy : (List ℕ → Type 0) → PartView → Option (List ℕ) → Type 0
MayCaptureBy Is part capture = IsOfNoCopies part capture ⊎ IsOfCopies Is part capture

-- A group means the text that is written from it.
group_written : (Is : List ℕ → Type 0) (kind : PartType) (modifier : PartModifier) (value name prefix suffix : List ℕ) (capture : Option (List ℕ)) →
    MayCaptureBy Is (part_of kind modifier value name prefix suffix) capture →
    GroupMeans Is (is_empty prefix && is_empty suffix) modifier prefix suffix (text_of_group (part_of kind modifier value name prefix suffix) capture) (capture ∷ [])
group_written Is kind modifier value name prefix suffix capture (inl (allowed, e)) = inl (
  allowed,
  ap (text_of_group (part_of kind modifier value name prefix suffix)) e ∙ no_copies_text kind modifier value name prefix suffix,
  ap (λ c. c ∷ []) e,
)
group_written Is kind modifier value name prefix suffix None (inr never) = absurd never
group_written Is kind modifier value name prefix suffix (Some text) (inr (n, allowed, are)) =
    inr (n, text, allowed, refl, texts_core Is prefix suffix n text are, refl)

-- The captures of a group in a text: a single one, which the group may have, and with which the
-- text is written.
record IsCaptured (Is : List ℕ → Type 0) (part : PartView) (text : List ℕ) (captures : Captures) : Type 0 where
  capture : Option (List ℕ)
  is_one : captures ≡ capture ∷ []
  may : MayCaptureBy Is part capture
  is_text : text_of_group part capture ≡ text

group_captured : (Is : List ℕ → Type 0) (kind : PartType) (modifier : PartModifier) (value name prefix suffix text : List ℕ) (captures : Captures) →
    GroupMeans Is (is_empty prefix && is_empty suffix) modifier prefix suffix text captures →
    IsCaptured Is (part_of kind modifier value name prefix suffix) text captures
group_captured Is kind modifier value name prefix suffix text captures (inl (allowed, nothing, e)) = record {
  capture = capture_of_none modifier (is_empty prefix && is_empty suffix);
  is_one = e;
  may = inl (allowed, refl);
  is_text = no_copies_text kind modifier value name prefix suffix ∙ sym nothing;
}
group_captured Is kind modifier value name prefix suffix text captures (inr (n, core, allowed, cut, is, e)) = record {
  capture = Some core;
  is_one = e;
  may = inr (n, allowed, core_texts Is prefix suffix n core is);
  is_text = sym cut;
}

-- ---- fixed texts

fixed_written : (options : OptionsView) (modifier : PartModifier) (value name prefix suffix : List ℕ) →
    PartMeans options (part_of FixedText modifier value name prefix suffix) (fewest_copies modifier value) []
fixed_written options modifiers.None value name prefix suffix =
    record { count = 1; allowed = refl; are_copies = (value, [], sym (append-nil value), refl, refl); are_captures = refl }
fixed_written options modifiers.Optional value name prefix suffix = record { count = 0; allowed = omega arith; are_copies = refl; are_captures = refl }
fixed_written options modifiers.ZeroOrMore value name prefix suffix = record { count = 0; allowed = tt; are_copies = refl; are_captures = refl }
fixed_written options modifiers.OneOrMore value name prefix suffix =
    record { count = 1; allowed = omega arith; are_copies = (value, [], sym (append-nil value), refl, refl); are_captures = refl }

-- ---- lists of parts

-- A part before others.
before : (options : OptionsView) (part : PartView) (parts : List PartView) (first rest : List ℕ) (own others : Captures) →
    PartMeans options part first own → PartsMean options parts rest others → PartsMean options (part ∷ parts) (first ++ rest) (own ++ others)
before options part parts first rest own others mean means = (first, rest, own, others, refl, refl, mean, means)

abbrev AreWritten : OptionsView → List PartView → Type 0
AreWritten options parts = (captures : Captures) → MayCaptureAll options parts captures → PartsMean options parts (text_of_parts parts captures) captures

written_by : (options : OptionsView) (kind : PartType) (modifier : PartModifier) (value name prefix suffix : List ℕ) (parts : List PartView) →
    ¬ (kind ≡ Regexp) → AreWritten options parts → AreWritten options (part_of kind modifier value name prefix suffix ∷ parts)
written_by options FixedText modifier value name prefix suffix parts custom written captures (may, all) =
    before options _ parts _ _ _ _ (fixed_written options modifier value name prefix suffix) (written captures all)
written_by options Regexp modifier value name prefix suffix parts custom written captures may = absurd (custom refl)
written_by options SegmentWildcard modifier value name prefix suffix parts custom written [] (may, all) = absurd may
written_by options SegmentWildcard modifier value name prefix suffix parts custom written (capture ∷ captures) (may, all) =
    before options _ parts _ _ (capture ∷ []) _
    ((wildcard_means options SegmentWildcard modifier value name prefix suffix _ _ tt).1
    (group_written (IsWildcardText options SegmentWildcard) SegmentWildcard modifier value name prefix suffix capture may)) (written captures all)
written_by options FullWildcard modifier value name prefix suffix parts custom written [] (may, all) = absurd may
written_by options FullWildcard modifier value name prefix suffix parts custom written (capture ∷ captures) (may, all) =
    before options _ parts _ _ (capture ∷ []) _
    ((wildcard_means options FullWildcard modifier value name prefix suffix _ _ tt).1
    (group_written (IsWildcardText options FullWildcard) FullWildcard modifier value name prefix suffix capture may)) (written captures all)

pub written_means : (options : OptionsView) (parts : List PartView) (captures : Captures) → AreGenerated parts → MayCaptureAll options parts captures →
    PartsMean options parts (text_of_parts parts captures) captures
written_means options [] captures generated none = (refl, none)
written_means options (part ∷ parts) captures generated may =
    written_by options part.kind part.modifier part.value part.name part.prefix part.suffix parts (All-head (λ p. ¬ (p.kind ≡ Regexp)) part parts generated)
    (λ others all. written_means options parts others (All-tail (λ p. ¬ (p.kind ≡ Regexp)) part parts generated) all) captures may

-- ---- captures of a text

captured_by : (options : OptionsView) (kind : PartType) (modifier : PartModifier) (value name prefix suffix : List ℕ) (parts : List PartView) (first : List ℕ) (own others : Captures) →
    PartMeans options (part_of kind modifier value name prefix suffix) first own → MayCaptureAll options parts others →
    MayCaptureAll options (part_of kind modifier value name prefix suffix ∷ parts) (own ++ others)
captured_by options FixedText modifier value name prefix suffix parts first own others mean all =
    (tt, subst (λ c. MayCaptureAll options parts (c ++ others)) (sym mean.are_captures) all)
captured_by options Regexp modifier value name prefix suffix parts first own others mean all = absurd mean.are_captures
captured_by options SegmentWildcard modifier value name prefix suffix parts first own others mean all =
    let is = group_captured (IsWildcardText options SegmentWildcard) SegmentWildcard modifier value name prefix suffix first own
    ((wildcard_means options SegmentWildcard modifier value name prefix suffix _ _ tt).0 mean) in
    subst (λ c. MayCaptureAll options (part_of SegmentWildcard modifier value name prefix suffix ∷ parts) (c ++ others)) (sym is.is_one) (is.may, all)
captured_by options FullWildcard modifier value name prefix suffix parts first own others mean all =
    let is = group_captured (IsWildcardText options FullWildcard) FullWildcard modifier value name prefix suffix first own
    ((wildcard_means options FullWildcard modifier value name prefix suffix _ _ tt).0 mean) in
    subst (λ c. MayCaptureAll options (part_of FullWildcard modifier value name prefix suffix ∷ parts) (c ++ others)) (sym is.is_one) (is.may, all)

pub meant_captured : (options : OptionsView) (parts : List PartView) (text : List ℕ) (captures : Captures) → PartsMean options parts text captures → MayCaptureAll options parts captures
meant_captured options [] text captures (e, f) = f
meant_captured options (part ∷ parts) text captures (first, rest, own, others, e, f, mean, means) =
    subst (MayCaptureAll options (part ∷ parts)) (sym f)
    (captured_by options part.kind part.modifier part.value part.name part.prefix part.suffix parts first own others mean (meant_captured options parts rest others means))

-- ---- the inverse

abbrev IsPlainText : PartView → Type 0
IsPlainText part = part.kind ≡ FixedText → part.modifier ≡ modifiers.None

same_by : (options : OptionsView) (kind : PartType) (modifier : PartModifier) (value name prefix suffix : List ℕ) (parts : List PartView) (first rest : List ℕ) (own others : Captures) →
    (kind ≡ FixedText → modifier ≡ modifiers.None) → PartMeans options (part_of kind modifier value name prefix suffix) first own → text_of_parts parts others ≡ rest →
    text_of_parts (part_of kind modifier value name prefix suffix ∷ parts) (own ++ others) ≡ first ++ rest
same_by options FixedText modifier value name prefix suffix parts first rest own others plain mean e =
    ap (λ c. fewest_copies modifier value ++ text_of_parts parts (c ++ others)) mean.are_captures
    ∙ ap (λ m. fewest_copies m value ++ text_of_parts parts others) (plain refl)
    ∙ ap (λ t. t ++ text_of_parts parts others) (sym (one_copy _ _ _ mean.are_copies (subst (λ m. Allows m mean.count) (plain refl) mean.allowed)))
    ∙ ap (λ t. first ++ t) e
same_by options Regexp modifier value name prefix suffix parts first rest own others plain mean e = absurd mean.are_captures
same_by options SegmentWildcard modifier value name prefix suffix parts first rest own others plain mean e =
    let part = part_of SegmentWildcard modifier value name prefix suffix in
    let is = group_captured (IsWildcardText options SegmentWildcard) SegmentWildcard modifier value name prefix suffix first own
    ((wildcard_means options SegmentWildcard modifier value name prefix suffix _ _ tt).0 mean) in
    ap (λ c. text_of_parts (part ∷ parts) (c ++ others)) is.is_one ∙ ap (λ t. t ++ text_of_parts parts others) is.is_text ∙ ap (λ t. first ++ t) e
same_by options FullWildcard modifier value name prefix suffix parts first rest own others plain mean e =
    let part = part_of FullWildcard modifier value name prefix suffix in
    let is = group_captured (IsWildcardText options FullWildcard) FullWildcard modifier value name prefix suffix first own
    ((wildcard_means options FullWildcard modifier value name prefix suffix _ _ tt).0 mean) in
    ap (λ c. text_of_parts (part ∷ parts) (c ++ others)) is.is_one ∙ ap (λ t. t ++ text_of_parts parts others) is.is_text ∙ ap (λ t. first ++ t) e

pub text_same : (options : OptionsView) (parts : List PartView) (text : List ℕ) (captures : Captures) → HavePlainTexts parts → PartsMean options parts text captures →
    text_of_parts parts captures ≡ text
text_same options [] text captures plain (e, f) = sym e
text_same options (part ∷ parts) text captures plain (first, rest, own, others, e, f, mean, means) =
    ap (text_of_parts (part ∷ parts)) f
    ∙ same_by options part.kind part.modifier part.value part.name part.prefix part.suffix parts first rest own others (All-head IsPlainText part parts plain) mean
    (text_same options parts rest others (All-tail IsPlainText part parts plain) means)
    ∙ sym e
