-- What a pattern matches of which one component is written.
use Rattle.std.proofs.Common.{◌≡◌, ◌≢◌, ◌∙◌, ◌++◌, ℕ, List, [], ◌∷◌, append-nil, inl, inr, refl, subst, sym}
use Rattle.std.proofs.lemmas.List.Elements.{All-cons, All-nil}
use Rattle.std.specs.Prelude.{IsTrue}
use Rattle.urlpattern_compare.proofs.AnswerLemmas.{generated_known}
use Rattle.urlpattern_compare.proofs.CandidateLemmas.{name_cases}
use Rattle.urlpattern_compare.proofs.ComponentLemmas.{none_missed, wildcard_means}
use Rattle.urlpattern_compare.proofs.KeptCase.{kept_matches}
use Rattle.urlpattern_compare.specs.Comparing.{IsKnown, MeansIn}
use Rattle.urlpattern_compare.specs.MeantTexts.{MeansText}
use Rattle.urlpattern_components.specs.Eight.{at}
use Rattle.urlpattern_components.specs.declared.eight.ComponentName.{ComponentName}
use Rattle.urlpattern_differences.specs.Credentials.{IsWildcard, WrittenMatch, wildcard_part}
use Rattle.urlpattern_expressions.specs.MatchedPartTexts.{IsMatchedCopy}
use Rattle.urlpattern_meaning.specs.PartMeaning.{AreGenerated}
use Rattle.urlpattern_syntax.specs.Options.{OptionsView, default_options, options_view}
use Rattle.urlpattern_syntax.specs.Parts.{PartView, parts_view}
use Rattle.urlpattern_syntax.specs.Text.{IsRepeated, lacks, line_feed}
use Rattle.urlpattern_syntax.specs.declared.parser.PartType.{PartType}
use Rattle.urlpattern_syntax.specs.declared.parts.ComponentParts.{ComponentParts}

-- ---- a wildcard alone

pub segment_means : (text : List ℕ) → text ≢ [] → IsTrue (lacks line_feed text) → MeansText default_options (wildcard_part PartType.SegmentWildcard ∷ []) text
segment_means text some line =
    let whole : text ≡ text ++ [] = sym (append-nil text) in
    (kept_matches default_options (wildcard_part PartType.SegmentWildcard ∷ []) text refl).1
    (text, [], whole, (1, refl, (text, [], whole, (text, whole, (some, line)), refl)), refl)

empty_first : (first rest : List ℕ) → [] ≡ first ++ rest → first ≡ []
empty_first [] rest e = refl
empty_first (c ∷ first) rest e = absurd cc

abbrev Copies : ℕ → List ℕ → Type 0
Copies n text = IsRepeated (IsMatchedCopy default_options PartType.SegmentWildcard (wildcard_part PartType.SegmentWildcard)) n text

copy_some : Copies 1 [] → ⊥
copy_some (first, rest, cut, (piece, is, (some, line)), end) = some (empty_first piece [] (sym (empty_first first rest cut) ∙ is))

pub segment_some : MeansText default_options (wildcard_part PartType.SegmentWildcard ∷ []) [] → ⊥
segment_some (first, rest, cut, (count, allowed, copies), end) =
    copy_some (subst (λ (text : List ℕ). Copies 1 text) (empty_first first rest cut) (subst (λ (n : ℕ). Copies n first) allowed copies))

-- ---- a component

module _ (kind : PartType) (component : ComponentParts) (is : IsWildcard kind component) where
  pub known_wildcard : kind ≢ PartType.Regexp → IsKnown component
  known_wildcard other =
      let generated = subst AreGenerated (sym is.parts) (All-cons (λ (part : PartView). part.kind ≢ PartType.Regexp) (wildcard_part kind) [] other (All-nil (λ (part : PartView). part.kind ≢ PartType.Regexp))) in
      record { parts = generated_known (options_view component.options) (parts_view component.parts.items) generated; case = none_missed component is.case }

  pub means_in : (text : List ℕ) → MeansText default_options (wildcard_part kind ∷ []) text → MeansIn component text
  means_in text means =
      subst (λ (options : OptionsView). MeansText options (parts_view component.parts.items) text) (sym is.options)
      (subst (λ (parts : List PartView). MeansText default_options parts text) (sym is.parts) means)

  pub means_out : (text : List ℕ) → MeansIn component text → MeansText default_options (wildcard_part kind ∷ []) text
  means_out text means =
      subst (λ (parts : List PartView). MeansText default_options parts text) is.parts
      (subst (λ (options : OptionsView). MeansText options (parts_view component.parts.items) text) is.options means)

pub segment_not_custom : PartType.SegmentWildcard ≢ PartType.Regexp
segment_not_custom e = absurd cc

pub full_not_custom : PartType.FullWildcard ≢ PartType.Regexp
full_not_custom e = absurd cc

-- ---- a pattern

pub written_match : WrittenMatch
written_match written it is known texts lines =
    let own = (is written).itself refl in
    let own_known = known_wildcard PartType.SegmentWildcard (at it.parts.components written) own segment_not_custom in
    let here = known written own_known (texts written) (lines written) in (
      λ each empty.
          segment_some
          (subst (λ (text : List ℕ). MeansText default_options (wildcard_part PartType.SegmentWildcard ∷ []) text) empty
          (means_out PartType.SegmentWildcard (at it.parts.components written) own (texts written) (here.0 (each written)))),
      λ some name. elim (name_cases name written) [
        | inl same ↦
            subst (λ (other : ComponentName). IsTrue (it.means other (texts other))) (sym same)
            (here.1 (means_in PartType.SegmentWildcard (at it.parts.components written) own (texts written) (segment_means (texts written) some (lines written).plain)))
        | inr other ↦
            let full = (is name).others other in
            (known name (known_wildcard PartType.FullWildcard (at it.parts.components name) full full_not_custom) (texts name) (lines name)).1
            (means_in PartType.FullWildcard (at it.parts.components name) full (texts name) (wildcard_means default_options (texts name) (lines name).plain))
      ],
    )
