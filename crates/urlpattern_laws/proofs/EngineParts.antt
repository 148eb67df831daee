-- Patterns over engines that return first ways match by their texts, and what their parts mean.
use Rattle.std.proofs.Common.{◌≡◌, Bool, true, false, refl}
use Rattle.urlpattern_matcher.proofs.FirstMatchers.{flags_agree}
use Rattle.urlpattern_matcher.specs.Regexes.{regex_engine}
use Rattle.urlpattern_matcher.specs.declared.regexp.RegExp.{Ghosts as Engine}
use Rattle.urlpattern_engine.proofs.EngineLaws as own
use Rattle.urlpattern_engine.specs.PatternRegexps.{pattern_engine}
use Rattle.urlpattern_pattern.specs.ByText.{AcceptedAlone, MakesFirstWays}
use Rattle.urlpattern_laws.proofs.MatchingLemmas.{all_parts_mean, keeping_parts_mean, own_parts_mean}
use Rattle.urlpattern_compile.specs.Compiled.{settings_of}
use Rattle.urlpattern_matcher.specs.Components.{IsEngineOf, engine_flags}
use Rattle.urlpattern_pattern.proofs.ByTextLemmas.{component_by, pattern_by}
use Rattle.urlpattern_pattern.specs.ByTextLaws.{PatternsReturnByText}
use Rattle.urlpattern_laws.proofs.SimpleMatchers.{matcher_of_middle, pattern_makes_first_ways, regex_makes_first_ways}
use Rattle.urlpattern_laws.specs.PartReadings.{DoesHonourCase, OwnPartsMean, OwnPartsMeanWithCase}

pub parts_mean_by_first_ways : {E : Type 0} (engine : Engine E) → MakesFirstWays engine → OwnPartsMeanWithCase engine
parts_mean_by_first_ways engine firsts = own_parts_mean engine AcceptedAlone firsts (λ options inner took. (flags_agree options, took))

pub parts_mean_by_flags : {E : Type 0} (engine : Engine E) → MakesFirstWays engine → DoesHonourCase engine → OwnPartsMean engine
parts_mean_by_flags engine firsts honours = by engine.case_honoured refl
  where
    by : (honoured : Bool) → engine.case_honoured ≡ honoured → OwnPartsMean engine
    by true e = all_parts_mean engine AcceptedAlone firsts (honours e) (λ options inner took. (flags_agree options, took))
    by false e = keeping_parts_mean engine AcceptedAlone firsts e (λ options inner took. (flags_agree options, took))

pub pattern_parts_mean : OwnPartsMean pattern_engine
pattern_parts_mean = all_parts_mean pattern_engine AcceptedAlone pattern_makes_first_ways own.values_by_flags (λ options inner took. (flags_agree options, took))

pub regex_parts_mean : OwnPartsMean regex_engine
regex_parts_mean = keeping_parts_mean regex_engine AcceptedAlone regex_makes_first_ways refl (λ options inner took. (flags_agree options, took))

-- The values of the engine that are called return first ways.
pub pattern_by_engines : {E : Type 0} (engine : Engine E) → PatternsReturnByText engine
pattern_by_engines engine init asked values pattern are_values compiled firsts = pattern_by engine init asked values pattern are_values compiled (λ component has.
    let settings = settings_of asked values compiled.hierarchical component in
    component_by engine settings (pattern component) (compiled.are_compiled component) has
    (λ parts reads is_component have.
    matcher_of_middle engine.answer (IsEngineOf engine false (engine_flags settings.options)) settings.options parts (pattern component).matcher is_component.has_matcher have.case_kept
    (firsts component parts has reads)))
