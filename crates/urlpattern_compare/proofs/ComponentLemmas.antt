-- Comparisons of one component.
use Rattle.std.proofs.Common.{◌≡◌, ◌≢◌, ◌∙◌, ℕ, Bool, true, false, List, [], ◌∷◌, ◌++◌, ap₂, inl, inr, map, refl, sym, subst, append-nil, Option, Some, None}
use Rattle.std.proofs.lemmas.Bool.{false≢true}
use Rattle.std.proofs.lemmas.List.Elements.{All-cons, All-nil}
use Rattle.std.specs.Prelude.{◌==◌, ◌&&◌, IfNone, IfSome, IsTrue, not}
use Rattle.urlpattern_compare.proofs.AnswerLemmas.{generated_known, known_generated}
use Rattle.urlpattern_compare.specs.Answers.{IsCovering, IsOverlap, IsReason, AreKnown, AreUnknownBy}
use Rattle.urlpattern_compare.specs.MeantTexts.{MeansText}
use Rattle.urlpattern_compare.specs.declared.coverage.Covering.{Covering}
use Rattle.urlpattern_compare.specs.declared.coverage.Covering.TheVariants as coverings
use Rattle.urlpattern_compare.specs.declared.coverage.Overlap.{Overlap}
use Rattle.urlpattern_compare.specs.declared.coverage.Overlap.TheVariants as overlaps
use Rattle.urlpattern_compare.specs.declared.coverage.Reason.{Reason}
use Rattle.urlpattern_compare.specs.declared.coverage.Reason.TheVariants as reasons
use Rattle.urlpattern_compare.specs.Comparing.{IsComponentOverlap, IsExample, IsKnown, IsReasonAlone, IsReasonToMiss, IsReasonToShare, IsUnknownBy, MatchesEveryLine, MayMissLine, anything_part, misses_case}
use Rattle.urlpattern_compare.specs.ComparingSteps.{IsCoveringByMeaning}
use Rattle.urlpattern_compare.specs.TextSearch.{IsLine}
use Rattle.urlpattern_expressions.proofs.SimpleLemmas.{generated_simple}
use Rattle.urlpattern_expressions.specs.SimpleExpressions.{AreSimple}
use Rattle.urlpattern_meaning.specs.PartMeaning.{AreGenerated}
use Rattle.urlpattern_meaning.proofs.FoldedTrees.{line_feed_same}
use Rattle.urlpattern_meaning.specs.Matching.{folded_character}
use Rattle.urlpattern_syntax.specs.declared.parser.PartType.{PartType}
use Rattle.urlpattern_syntax.specs.declared.parts.ComponentParts.{ComponentParts}
use Rattle.urlpattern_syntax.specs.{Options.OptionsView, Options.default_options, Options.options_view, Parts.PartView, Parts.parts_view, Text.lacks, Text.line_feed}

-- ---- a full wildcard

feed_kept : (ignore_case : Bool) (c : ℕ) → (folded_character ignore_case c == line_feed) ≡ (c == line_feed)
feed_kept false c = refl
feed_kept true c = line_feed_same true c

-- A text has a line feed in lower case if it has one.
lowered_lacks : (ignore_case : Bool) (text : List ℕ) → lacks line_feed (map (folded_character ignore_case) text) ≡ lacks line_feed text
lowered_lacks ignore_case [] = refl
lowered_lacks ignore_case (c ∷ text) = ap₂ (λ a b. not a && b) (feed_kept ignore_case c) (lowered_lacks ignore_case text)

pub wildcard_means : (options : OptionsView) (text : List ℕ) → IsTrue (lacks line_feed text) → MeansText options (anything_part ∷ []) text
wildcard_means options text line =
    let read = map (folded_character options.ignore_case) text in
    let plain : IsTrue (lacks line_feed read) = lowered_lacks options.ignore_case text ∙ line in
    let whole : read ≡ read ++ [] = sym (append-nil read) in
    (read, [], whole, (1, refl, (read, [], whole, (read, whole, plain), refl)), refl)

-- ---- reasons

-- Where parts do not tell which texts they match, nothing is known of the component.
pub parts_unknown : (component : ComponentParts) (reason : Reason) → AreUnknownBy (options_view component.options) (parts_view component.parts.items) reason → IsUnknownBy component reason
parts_unknown component reasons.CustomExpression is = (λ known. is.0 known.parts.simple, is.1)
parts_unknown component reasons.IgnoredCase is = (λ known. is.0 (known_generated (options_view component.options) (parts_view component.parts.items) known.parts is.1), is.1)
parts_unknown component reasons.TooMany is = is

-- What the options and the flag `i` decide of a component.
case_ignored : (ignored honours : Bool) → (ignored && not honours) ≡ true → ignored ≡ true
case_ignored true honours e = refl
case_ignored false honours e = e

-- A component that honours the flag `i` misses no case.
pub none_missed : (component : ComponentParts) → component.honours_case ≡ true → misses_case component ≡ false
none_missed component honoured = by component.options.ignore_case component.honours_case honoured
  where
    by : (ignored honours : Bool) → honours ≡ true → (ignored && not honours) ≡ false
    by false honours e = refl
    by true true e = refl
    by true false e = absurd (false≢true e)

-- Nothing is known of a component whose engine keeps case where it is to be ignored.
pub missed_unknown : (component : ComponentParts) → misses_case component ≡ true → IsUnknownBy component reasons.IgnoredCase
missed_unknown component missed = (
  λ known. false≢true (sym known.case ∙ missed),
  case_ignored component.options.ignore_case component.honours_case missed,
)

-- A reason that is true of the parts of two components is true of the components.
reason_shared : (component other : ComponentParts) (reason : Reason) → IsKnown component → IsKnown other →
    IsReason (options_view component.options) (parts_view component.parts.items) (options_view other.options) (parts_view other.parts.items) reason → IsReasonToShare component other reason
reason_shared component other reasons.CustomExpression known other_known (inl is) = inl (parts_unknown component reasons.CustomExpression is)
reason_shared component other reasons.CustomExpression known other_known (inr is) = inr (parts_unknown other reasons.CustomExpression is)
reason_shared component other reasons.IgnoredCase known other_known (inl is) = inl (parts_unknown component reasons.IgnoredCase is)
reason_shared component other reasons.IgnoredCase known other_known (inr is) = inr (parts_unknown other reasons.IgnoredCase is)
reason_shared component other reasons.TooMany known other_known is = (known, other_known, is)

pub first_unknown : (component other : ComponentParts) (reason : Reason) → IsUnknownBy component reason → IsReasonToShare component other reason
first_unknown component other reasons.CustomExpression is = inl is
first_unknown component other reasons.IgnoredCase is = inl is
first_unknown component other reasons.TooMany is = absurd is

pub other_unknown : (component other : ComponentParts) (reason : Reason) → IsUnknownBy other reason → IsReasonToShare component other reason
other_unknown component other reasons.CustomExpression is = inr is
other_unknown component other reasons.IgnoredCase is = inr is
other_unknown component other reasons.TooMany is = absurd is

pub later_unknown : (component other : ComponentParts) (found : Option Reason) → IfSome found (IsUnknownBy other) → IfSome found (IsReasonToShare component other) × IfSome found (IsReasonToShare other component)
later_unknown component other None is = (tt, tt)
later_unknown component other (Some reason) is = (other_unknown component other reason is, first_unknown other component reason is)

pub later_known : (component other : ComponentParts) (found : Option Reason) → IsKnown component → IfNone found (IsKnown other) → IfNone found (IsKnown component × IsKnown other)
later_known component other None known is = (known, is)
later_known component other (Some reason) known is = tt

pub alone_unknown : (component : ComponentParts) (reason : Reason) → IsUnknownBy component reason → IsReasonAlone component reason
alone_unknown component reasons.CustomExpression is = is
alone_unknown component reasons.IgnoredCase is = is
alone_unknown component reasons.TooMany is = absurd is

pub unknown_missed : (component : ComponentParts) (reason : Reason) → IsUnknownBy component reason → MayMissLine component
unknown_missed component reasons.CustomExpression is = inr (reasons.CustomExpression, is)
unknown_missed component reasons.IgnoredCase is = inr (reasons.IgnoredCase, is)
unknown_missed component reasons.TooMany is = absurd is

-- A full wildcard is not custom.
pub anything_generated : AreGenerated (anything_part ∷ [])
anything_generated = All-cons (λ (part : PartView). part.kind ≢ PartType.Regexp) anything_part [] (λ e. absurd (cc e)) (All-nil (λ (part : PartView). part.kind ≢ PartType.Regexp))

anything_simple : AreSimple (anything_part ∷ [])
anything_simple = generated_simple (anything_part ∷ []) anything_generated

-- A full wildcard tells which texts it matches.
pub anything_known : (component : ComponentParts) → parts_view component.parts.items ≡ anything_part ∷ [] → AreKnown (options_view component.options) (parts_view component.parts.items)
anything_known component are = subst (AreKnown (options_view component.options)) (sym are) (generated_known (options_view component.options) (anything_part ∷ []) anything_generated)

own_alone : (component : ComponentParts) (reason : Reason) → IsKnown component → IsReason (options_view component.options) (parts_view component.parts.items) default_options (anything_part ∷ []) reason → IsReasonAlone component reason
own_alone component reasons.CustomExpression known (inl is) = parts_unknown component reasons.CustomExpression is
own_alone component reasons.CustomExpression known (inr is) = absurd (is.0 anything_simple)
own_alone component reasons.IgnoredCase known (inl is) = parts_unknown component reasons.IgnoredCase is
own_alone component reasons.IgnoredCase known (inr is) = absurd (is.0 anything_generated)
own_alone component reasons.TooMany known is = (known, is)

own_missed : (component : ComponentParts) (reason : Reason) → IsKnown component → IsReason default_options (anything_part ∷ []) (options_view component.options) (parts_view component.parts.items) reason → IsReasonToMiss component reason
own_missed component reasons.CustomExpression known (inl is) = absurd (is.0 anything_simple)
own_missed component reasons.CustomExpression known (inr is) = parts_unknown component reasons.CustomExpression is
own_missed component reasons.IgnoredCase known (inl is) = absurd (is.0 anything_generated)
own_missed component reasons.IgnoredCase known (inr is) = parts_unknown component reasons.IgnoredCase is
own_missed component reasons.TooMany known is = (known, is)

-- ---- results of lists of parts

pub covering_known : (component asked : ComponentParts) (covering : Covering) → IsKnown component → IsKnown asked →
    IsCovering (options_view component.options) (parts_view component.parts.items) (options_view asked.options) (parts_view asked.parts.items) covering →
    IsCoveringByMeaning component asked covering
covering_known component asked coverings.Covered known asked_known is = record { known = known; asked_known = asked_known; within = is }
covering_known component asked (coverings.NotCovered text) known asked_known is =
    record { known = known; meant = record { known = asked_known; means = is.0; line = is.2 }; not_meant = is.1 }
covering_known component asked (coverings.Unknown reason) known asked_known is = reason_shared asked component reason asked_known known is

pub overlap_known : (component other : ComponentParts) (overlap : Overlap) → IsKnown component → IsKnown other →
    IsOverlap (options_view component.options) (parts_view component.parts.items) (options_view other.options) (parts_view other.parts.items) overlap →
    IsComponentOverlap component other overlap
overlap_known component other overlaps.Apart known other_known is = record { known = known; other_known = other_known; apart = is }
overlap_known component other (overlaps.Common text) known other_known is =
    (record { known = known; means = is.0; line = is.2 }, record { known = other_known; means = is.1; line = is.2 })
overlap_known component other (overlaps.Unknown reason) known other_known is = reason_shared component other reason known other_known is

-- A component that covers a full wildcard means each line.
pub each_line : (component anything : ComponentParts) → IsKnown component → parts_view anything.parts.items ≡ anything_part ∷ [] →
    IsCovering (options_view component.options) (parts_view component.parts.items) (options_view anything.options) (parts_view anything.parts.items) coverings.Covered → MatchesEveryLine component
each_line component anything known are is = record {
  known = known;
  takes = λ text line. is text line (subst (λ parts. MeansText (options_view anything.options) parts text) (sym are) (wildcard_means (options_view anything.options) text line.plain));
}

-- A component that does not cover a full wildcard misses a line.
pub line_missed : (component anything : ComponentParts) (text : List ℕ) →
    MeansText (options_view anything.options) (parts_view anything.parts.items) text × (¬ MeansText (options_view component.options) (parts_view component.parts.items) text) × IsLine text
    → MayMissLine component
line_missed component anything text is = inl (text, is.2, is.1)

reason_with_anything : (component anything : ComponentParts) (reason : Reason) → IsKnown component → options_view anything.options ≡ default_options → parts_view anything.parts.items ≡ anything_part ∷ [] →
    IsReason (options_view component.options) (parts_view component.parts.items) (options_view anything.options) (parts_view anything.parts.items) reason → IsReasonAlone component reason
reason_with_anything component anything reason known options are is =
    let own = options_view component.options in
    let parts = parts_view component.parts.items in
    own_alone component reason known
    (subst (λ (o : OptionsView). IsReason own parts o (anything_part ∷ []) reason) options
    (subst (λ (ps : List PartView). IsReason own parts (options_view anything.options) ps reason) are is))

-- A component of which it is not known whether it covers a full wildcard may miss a line.
pub line_doubted : (component anything : ComponentParts) (reason : Reason) → IsKnown component → options_view anything.options ≡ default_options → parts_view anything.parts.items ≡ anything_part ∷ [] →
    IsCovering (options_view component.options) (parts_view component.parts.items) (options_view anything.options) (parts_view anything.parts.items) (coverings.Unknown reason) → MayMissLine component
line_doubted component anything reason known options are is =
    let own = options_view component.options in
    let parts = parts_view component.parts.items in
    inr (
      reason,
      own_missed component reason known
          (subst (λ (o : OptionsView). IsReason o (anything_part ∷ []) own parts reason) options
          (subst (λ (ps : List PartView). IsReason (options_view anything.options) ps own parts reason) are is)),
    )

-- The overlap with a full wildcard is an example.
pub example_known : (component anything : ComponentParts) (overlap : Overlap) → IsKnown component →
    options_view anything.options ≡ default_options → parts_view anything.parts.items ≡ anything_part ∷ [] →
    IsOverlap (options_view component.options) (parts_view component.parts.items) (options_view anything.options) (parts_view anything.parts.items) overlap → IsExample component overlap
example_known component anything overlaps.Apart known options are is = record {
  known = known;
  takes_none = λ text line means. is text line means (subst (λ parts. MeansText (options_view anything.options) parts text) (sym are) (wildcard_means (options_view anything.options) text line.plain));
}
example_known component anything (overlaps.Common text) known options are is = record { known = known; means = is.0; line = is.2 }
example_known component anything (overlaps.Unknown reason) known options are is = reason_with_anything component anything reason known options are is
