-- A link of a match has the texts that were matched.
use Rattle.std.proofs.Common.{◌≡◌, ◌∙◌, ℕ, Bool, false, List, [], ◌∷◌, ap, bytes_eq, cond, length, map, refl, subst, sym, true, zip, Option, Some}
use Rattle.std.proofs.Math.Path.{fun_ext}
use Rattle.std.proofs.lemmas.Map.Made.{AllPairs-from_IsDistinct, IsDistinct-from_AllPairs}
use Rattle.std.proofs.lemmas.Option.{same_Some}
use Rattle.std.proofs.lemmas.Slice.Eq.{bytes_eq-Decides}
use Rattle.std.specs.List.{AllByRecursion, IsDistinct}
use Rattle.std.specs.Map.{keys_of, lookup}
use Rattle.std.specs.Option.{option_flatten}
use Rattle.std.specs.Prelude.{⊤, String, option_map}
use Rattle.std.specs.String.{string_eq}
use Rattle.std.specs.declared.alloc.Global.{Global}
use Rattle.urlpattern_matcher.specs.Components.{ComponentView, engine_flags}
use Rattle.urlpattern_matcher.specs.FirstWays.{Acceptance, EachReturnsFirst}
use Rattle.urlpattern_matcher.specs.declared.regexp.RegExp.{Ghosts as Engine}
use Rattle.urlpattern_compare.specs.declared.pattern_parts.PatternParts.{PatternParts}
use Rattle.urlpattern_components.specs.declared.eight.ComponentName.{ComponentName}
use Rattle.urlpattern_components.specs.Eight.{at}
use Rattle.urlpattern_generate.specs.WriteSettings.{WriteSettings, text_given}
use Rattle.urlpattern_laws.proofs.GivenGroups.{Distinct, Groups, captured_again, first_found, found_reversed, given_first, zip_distinct}
use Rattle.urlpattern_laws.proofs.LinkedTexts.{links_of_captures}
use Rattle.urlpattern_laws.specs.MatchLinks.{GroupsOfCapturesAreGiven, GroupsOfMatchesDiffer, GroupsOfResultsAreGiven, IsWritableFromMatch, IsWritableFromParts, LinksOfCompiledMatchesAreTheTexts, LinksOfMatchesAreTheTexts, NamesDiffer}
use Rattle.urlpattern_matches.proofs.MatchGroupLemmas.{text-eq}
use Rattle.urlpattern_matches.specs.BorrowedMatches.{groups_view, listed_entries, listed_groups}
use Rattle.urlpattern_matches.specs.ResultViews.{ResultView, group_of, results_of}
use Rattle.urlpattern_meaning.proofs.CaptureCount.{captures_counted}
use Rattle.urlpattern_meaning.proofs.NameLaws.{names_distinct}
use Rattle.urlpattern_meaning.specs.{FirstResults.AcceptedText, Matching.InnerView, PartMeaning.Captures, PartMeaning.PartsMean}
use Rattle.urlpattern_compile.specs.Compiled.{ParseSettings, canonical_encoding, settings_of}
use Rattle.urlpattern_pattern.specs.ComponentTexts.{settings_in, parts_in}
use Rattle.urlpattern_pattern.specs.KeptParts.{AreReadBySettings}
use Rattle.urlpattern_pattern.specs.Patterns.{pattern_view}
use Rattle.urlpattern_pattern.specs.UrlPatterns.{IsMadeOfParts}
use Rattle.urlpattern_syntax.specs.{ComponentParts.kept_options, ComponentParts.kept_parts, Options.OptionsView, RegexpText.group_names, Text.text_of}
use Rattle.urlpattern_syntax.specs.declared.parts.ComponentParts.{ComponentParts}

-- ---- the texts given for groups

distinct_names : (names : List (List ℕ)) → NamesDiffer names → IsDistinct bytes_eq names
distinct_names names differ = IsDistinct-from_AllPairs bytes_eq-Decides names differ

pub captures_given : GroupsOfCapturesAreGiven
captures_given found groups are differ component name =
    let own = groups_view found component in
    let distinct : Distinct own = distinct_names (keys_of own) (differ component) in
    given_first (groups_view found) groups are component name ∙ first_found own name distinct ∙ ap option_flatten (sym (found_reversed own name distinct))

-- The entries of a map have the names of their keys.
listed_found : (entries : List (String Global × Option (String Global))) (name : List ℕ) →
    lookup (bytes_eq name) (listed_entries entries) ≡ option_map (option_map text_of) (lookup (λ key. bytes_eq name (text_of key)) entries)
listed_found [] name = refl
listed_found (entry ∷ entries) name = by (bytes_eq name (text_of entry.0)) (listed_found entries name)
  where
    by : (here : Bool) → lookup (bytes_eq name) (listed_entries entries) ≡ option_map (option_map text_of) (lookup (λ key. bytes_eq name (text_of key)) entries)
        → cond here (Some (option_map text_of entry.1)) (lookup (bytes_eq name) (listed_entries entries))
        ≡ option_map (option_map text_of) (cond here (Some entry.1) (lookup (λ key. bytes_eq name (text_of key)) entries))
    by true later = refl
    by false later = later

listed_apart : (key : String Global) (entries : List (String Global × Option (String Global))) → AllByRecursion (λ other. string_eq key other ≡ false) (keys_of entries)
    → AllByRecursion (λ other. bytes_eq (text_of key) other ≡ false) (keys_of (listed_entries entries))
listed_apart key [] apart = tt
listed_apart key (entry ∷ entries) apart = (text-eq key entry.0 ∙ apart.0, listed_apart key entries apart.1)

listed_distinct : (entries : List (String Global × Option (String Global))) → IsDistinct string_eq (keys_of entries) → Distinct (listed_entries entries)
unfolding IsDistinct
listed_distinct [] distinct = tt
listed_distinct (entry ∷ entries) distinct = (listed_apart entry.0 entries distinct.0, listed_distinct entries distinct.1)

pub results_given : GroupsOfResultsAreGiven
results_given result groups are differ component name =
    let groups_of = λ (other : ComponentName). listed_groups (at (results_of result) other).groups in
    let entries = (at (results_of result) component).groups.entries in
    given_first groups_of groups are component name
    ∙ first_found (listed_entries entries) name (listed_distinct entries (differ component))
    ∙ ap option_flatten (listed_found entries name)

-- ---- names of a pattern

pub groups_differ : {E : Type 0} (engine : Engine E) → GroupsOfMatchesDiffer engine
groups_differ engine asked values pattern texts found compiled in_order component =
    let (captures, answers, are) = in_order component in
    let settings = settings_of asked values compiled.hierarchical component in
    let (parts, reads, of_parts) = (compiled.are_compiled component).0 in
    let names = (pattern component).group_name_list in
    let differ : NamesDiffer names = subst NamesDiffer (sym of_parts.has_names) (names_distinct settings.text settings.options (canonical_encoding settings.canonical) parts reads) in
    subst (λ (groups : Groups). NamesDiffer (keys_of groups)) (sym are)
    (AllPairs-from_IsDistinct bytes_eq-Decides (keys_of (zip names captures)) (zip_distinct names captures (distinct_names names differ)))

-- ---- links

given_back : (result : ResultView) (given : List ℕ → Option (List ℕ)) (names others : List (List ℕ)) (captures : Captures) → length captures ≡ length names → NamesDiffer names → others ≡ names →
    ((name : List ℕ) → result.group name ≡ group_of others captures name) → ((name : List ℕ) → given name ≡ option_flatten (result.group name)) → map given names ≡ captures
given_back result given names others captures many differ same groups are =
    let distinct = distinct_names names differ in
    let each : (name : List ℕ) → given name ≡ option_flatten (lookup (bytes_eq name) (zip names captures)) = λ name.
    are name ∙ ap option_flatten (groups name) ∙ ap (λ (list : List (List ℕ)). option_flatten (group_of list captures name)) same
    ∙ ap option_flatten (found_reversed (zip names captures) name (zip_distinct names captures distinct)) in
    ap (λ (f : List ℕ → Option (List ℕ)). map f names) (fun_ext each) ∙ captured_again names captures many distinct

pub links_of_matches : {E : Type 0} (answer : E → List ℕ → Option Captures) → LinksOfMatchesAreTheTexts answer
links_of_matches {E} answer pattern groups url texts result link found are back =
    links_of_captures answer pattern groups url texts found.captures link found.are_answers (λ component parts has.
    let it = back component parts has in
    let settings = settings_in parts groups component in
    let own = parts_in parts component in
    let captures = found.captures component in
    let means = it.means (found.are_answers component) in
    record {
      plain = it.plain;
      means = it.means;
      are_given = given_back (result component) (text_given groups component) (group_names own) (pattern_view pattern component).group_name_list captures
          (captures_counted settings.options own (at texts component) captures means) it.names_differ it.has_names (found.are_results component).has_groups (are component);
      are_canonical = it.are_canonical;
    })

-- ---- compiled patterns

-- A component that is made of parts of known meaning is written from its match.
writable : {E : Type 0} (engine : Engine E) (Accepted : Acceptance E) → EachReturnsFirst engine Accepted
    → ((options : OptionsView) (inner : InnerView E) → AcceptedText (λ value. ⊤) inner → Accepted options (engine_flags options) inner)
    → (reading : ParseSettings) (kept : ComponentParts) (compiled : ComponentView E) (settings : WriteSettings) (text : List ℕ) (captures : Captures)
    → AreReadBySettings reading kept → IsMadeOfParts engine kept compiled → settings.options ≡ kept_options kept → IsWritableFromParts kept settings.canonical text captures
    → IsWritableFromMatch engine.answer compiled settings (kept_parts kept) text captures
writable engine Accepted firsts taken reading kept compiled settings text captures read made same it =
    let options = kept_options kept in
    let own = kept_parts kept in
    let ways = firsts options (engine_flags options) own compiled.matcher (record {
      is_made = made.is_component.has_matcher;
      generated = it.generated;
      case_kept = it.case_kept;
      took = taken options compiled.matcher.inner made.has_engine.of_matcher;
    }) in
    record {
      plain = it.plain;
      means = λ answers. subst (λ (o : OptionsView). PartsMean o own text captures) (sym same) (ways text (Some captures) it.line.no_line_feed it.line.characters answers).1;
      has_names = made.is_component.has_names;
      names_differ = names_distinct reading.text reading.options (canonical_encoding reading.canonical) own read.reads;
      are_canonical = it.are_canonical;
    }

pub links_of_compiled : {E : Type 0} (engine : Engine E) (Accepted : Acceptance E) → EachReturnsFirst engine Accepted
    → ((options : OptionsView) (inner : InnerView E) → AcceptedText (λ value. ⊤) inner → Accepted options (engine_flags options) inner) → LinksOfCompiledMatchesAreTheTexts engine
links_of_compiled engine Accepted firsts taken init asked pattern kept groups url texts result link found are each =
    links_of_matches engine.answer pattern groups url texts result link found are (λ component parts has.
    let one : kept.parts ≡ parts = same_Some _ _ (sym kept.has_parts ∙ has) in
    subst (λ (own : PatternParts). IsWritableFromMatch engine.answer (pattern_view pattern component) (settings_in own groups component) (parts_in own component) (at texts component) (found.captures component)) one
    (writable engine Accepted firsts taken (settings_of asked kept.values kept.hierarchical component) (at kept.parts.components component) (pattern_view pattern component) (settings_in kept.parts groups component)
    (at texts component) (found.captures component) (kept.are_read component) (kept.are_made component) refl (each component)))
