-- The groups of a match by `regex::Regex` are those of the first way.
use Rattle.std.proofs.Common.{◌≡◌, ℕ, false, List, subst, sym, ◌∙◌}
use Rattle.std.specs.Prelude.{⊤, Some, Ok}
use Rattle.regex.specs.declared.string.regex.Regex.{Regex}
use Rattle.urlpattern_expressions.proofs.SimpleLemmas.{generated_simple}
use Rattle.urlpattern_expressions.specs.SimpleExpressions.{HaveMeaning}
use Rattle.urlpattern_laws.proofs.SimpleMatchers.{regex_makes_first_ways}
use Rattle.urlpattern_matcher.proofs.FirstMatchers.{flags_agree}
use Rattle.urlpattern_engine.proofs.RegexWays.{regex_follows}
use Rattle.urlpattern_matcher.specs.Components.{ComponentView, IsComponentOf, IsEngineOf, engine_flags}
use Rattle.urlpattern_matcher.specs.Regexes.{regex_result, regex_engine}
use Rattle.urlpattern_matcher.specs.FirstWays.{IsAcceptedBy}
use Rattle.urlpattern_init.specs.declared.init.UrlPatternMatchInput.{UrlPatternMatchInput}
use Rattle.urlpattern_components.specs.declared.eight.ComponentName.{ComponentName}
use Rattle.urlpattern_inputs.specs.declared.options.UrlPatternOptions.{UrlPatternOptions}
use Rattle.urlpattern_meaning.proofs.FirstResults.{of_made}
use Rattle.urlpattern_meaning.proofs.OneMeaning.{is_tree_of}
use Rattle.urlpattern_meaning.proofs.PartTrees.{tree_of}
use Rattle.urlpattern_meaning.specs.Dialect.{Follows}
use Rattle.urlpattern_meaning.specs.FirstResults.{AcceptedText}
use Rattle.urlpattern_meaning.specs.Matching.{Returns, FollowsMiddle}
use Rattle.urlpattern_meaning.specs.PartMeaning.{Captures}
use Rattle.urlpattern_pattern.proofs.MatchLaws.{texts-one}
use Rattle.urlpattern_pattern.proofs.MeaningLemmas.{none_custom, read_once}
use Rattle.urlpattern_compile.specs.Compiled.{AreCompiled, IsComponentCompiled, ParseSettings, settings_of}
use Rattle.urlpattern_pattern.specs.Match.{IsMatch}
use Rattle.urlpattern_matches.specs.ResultViews.{IsResultOf, ResultView}
use Rattle.urlpattern_matches.specs.MatchInput.{input_texts}
use Rattle.urlpattern_pattern.specs.ByText.{IsFirstResult}
use Rattle.urlpattern_pattern.specs.MatchMeaning.{MeaningPremises, RegexPremises}
use Rattle.urlpattern_pattern.specs.Patterns.{PatternView}
use Rattle.urlpattern_syntax.specs.Parts.{PartView}
use Rattle.urlpattern_syntax.specs.RegexpText.{regexp_text}
use Rattle.urlpattern_components.specs.Eight.{Texts, Values, at}

module _ (settings : ParseSettings) (compiled : ComponentView Regex) (is_compiled : IsComponentCompiled regex_engine settings compiled)
    (text : List ℕ) (premises : RegexPremises settings compiled text) where
  -- The matcher is one whose expression `regex` accepted.
  taken : (parts : List PartView) → IsComponentOf regex_engine settings.options parts compiled →
      IsAcceptedBy regex_engine (λ options flags. AcceptedText (λ regex. ⊤)) settings.options (engine_flags settings.options) parts compiled.matcher
  taken parts is_component = record {
    is_made = is_component.has_matcher;
    generated = none_custom parts (sym is_component.regexp_flag ∙ premises.generated);
    case_kept = premises.case_kept;
    took = premises.took;
  }

  pub regex_premises : MeaningPremises regex_result settings compiled text
  regex_premises =
      let (parts, reads, is_component) = is_compiled.0 in
      let options = settings.options in
      let is = taken parts is_component in
      let follows : FollowsMiddle regex_result options parts compiled.matcher.inner =
      of_made (IsEngineOf regex_engine false (engine_flags options)) options (λ regex middle. Follows (regexp_text options middle) (regex_result regex)) (λ regex. ⊤) parts compiled.matcher
      is.is_made is.generated is.took (λ regex middle plain made took. regex_follows (regexp_text options middle) (tree_of options middle) regex (is_tree_of options middle plain) made) in
      record {
        generated = premises.generated;
        case_kept = premises.case_kept;
        no_line_feed = premises.no_line_feed;
        characters = premises.characters;
        follows = λ others also.
            subst (λ (ps : List PartView). FollowsMiddle regex_result options ps compiled.matcher.inner) (read_once settings parts others reads also) follows;
      }

  pub first_result : (captures : Captures) (result : ResultView) → Returns regex_result compiled.matcher text (Some captures) →
      IsResultOf compiled.group_name_list captures text result → IsFirstResult settings text result
  first_result captures result answers is_result =
      let (parts, reads, is_component) = is_compiled.0 in
      let options = settings.options in
      let is = taken parts is_component in
      let have : HaveMeaning options parts = record { simple = generated_simple parts is.generated; case_kept = is.case_kept } in
      let first =
      regex_makes_first_ways options (engine_flags options) parts compiled.matcher is.is_made have (flags_agree options, is.took) text (Some captures) premises.no_line_feed premises.characters answers in
      record {
        captures = captures;
        way = record { parts = parts; reads = reads; is_first = first };
        is_result = subst (λ (names : List (List ℕ)). IsResultOf names captures text result) is_component.has_names is_result;
      }

pub matched_first : (asked : UrlPatternOptions) (values : Values) (pattern : PatternView Regex) (input : UrlPatternMatchInput) (texts : Texts) (result : ComponentName → ResultView) (component : ComponentName) →
    (compiled : AreCompiled regex_engine asked values pattern) → input_texts input ≡ Ok texts → IsMatch regex_result pattern input result →
    RegexPremises (settings_of asked values compiled.hierarchical component) (pattern component) (at texts component) →
    IsFirstResult (settings_of asked values compiled.hierarchical component) (at texts component) (result component)
matched_first asked values pattern input texts result component compiled are_texts (others, are_others, match) premises =
    let same = texts-one input others texts are_others are_texts in
    first_result (settings_of asked values compiled.hierarchical component) (pattern component) (compiled.are_compiled component) (at texts component) premises (match.captures component) (result component)
    (subst (λ (t : Texts). Returns regex_result (pattern component).matcher (at t component) (Some (match.captures component))) same (match.are_answers component))
    (subst (λ (t : Texts). IsResultOf (pattern component).group_name_list (match.captures component) (at t component) (result component)) same (match.are_results component))
