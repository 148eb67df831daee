-- Which rules of two tables decide about the same request.
use Rattle.std.specs.List.{list_all, list_any}
use Rattle.std.specs.Option.{option_eq}
use Rattle.std.specs.Prelude.{◌≡◌, ◌≢◌, ◌++◌, ◌⊎◌, ◌&&◌, ℕ, All, Any, Bool, true, false, IsTrue, List, [], ◌∷◌, Option, length, map, nat_eq, option_map, slice_get, string_bytes, unwrap_or}
use Rattle.url.specs.Parts.{IsValid, Parts}
use Rattle.urlpattern_compare.specs.Candidates.{TextAt}
use Rattle.urlpattern_compare.specs.TextSearch.{AreUnlike as NoTwo}
use Rattle.urlpattern_compare.specs.CommonTexts.{AreAutomata, AreMeanings, PatternMeaning, parts_of}
use Rattle.urlpattern_compare.specs.declared.common_texts.PatternAutomata.{PatternAutomata}
use Rattle.urlpattern_components.specs.Eight.{components}
use Rattle.urlpattern_route_analysis.specs.Cases.{AreLiteralsWithin, Determine, IsCase, LiteralView, NeedManyCases}
use Rattle.urlpattern_route_analysis.specs.CasePatterns.{patterns_in}
use Rattle.urlpattern_route_analysis.specs.Formulas.{FormulaView, first_to_hold}
use Rattle.urlpattern_route_analysis.specs.Naming.{AreNamed, AreNamesOf, is_so}
use Rattle.urlpattern_route_analysis.specs.declared.analysis.Analysis.{Analysis}
use Rattle.urlpattern_route_analysis.specs.declared.decisions.Decisions.{Decisions}
use Rattle.urlpattern_route_analysis.specs.declared.decisions.JointDecision.{JointDecision}
use Rattle.urlpattern_route_analysis.specs.declared.names.Attribute.{Attribute}
use Rattle.urlpattern_urls.specs.CommonUrls.{IsCommonUrl, url_at}
use Rattle.urlpattern_urls.specs.Unlike.{AreUnlike}
use Rattle.urlpattern_urls.specs.declared.common_url.CommonUrl.{CommonUrl}
use Rattle.urlpattern_urls.specs.declared.common_url.CommonUrl.TheVariants as urls

-- ---- requests

-- Whether the pattern at an index matches the texts, by what each pattern is said to match.
abbrev pub is_matched : List PatternMeaning → TextAt → (pattern : ℕ) → Bool
is_matched meant texts pattern =
    unwrap_or
    (option_map (λ it. list_all (λ name. it.means name (texts name)) components)
    (slice_get meant pattern)) false

-- Of the request, the rule `one` of the first table and the rule `other` of the second decide,
-- whatever unknown components match. None: no rule does.
abbrev pub AreDecidedBy : List PatternAutomata → (ones others : List FormulaView) → TextAt
    → (names : List (List ℕ)) → (one other : Option ℕ) → Type 0
AreDecidedBy patterns ones others texts names one other =
    (meant : List PatternMeaning) → AreMeanings (parts_of patterns) [] meant []
    → (first_to_hold (is_so (is_matched meant texts) names) ones ≡ one)
    × (first_to_hold (is_so (is_matched meant texts) names) others ≡ other)

-- Whatever unknown components match, there is no request about which these two rules decide.
abbrev pub NoneDecidedBy : List PatternAutomata → List Attribute → (ones others : List FormulaView)
    → (one other : Option ℕ) → Type 0
NoneDecidedBy patterns attributes ones others one other =
    (meant : List PatternMeaning) → AreMeanings (parts_of patterns) [] meant []
    → (url : Parts) → IsValid url → (names : List (List ℕ)) → AreNamesOf attributes names
    → ¬ ((first_to_hold (is_so (is_matched meant (url_at url)) names) ones ≡ one)
    × (first_to_hold (is_so (is_matched meant (url_at url)) names) others ≡ other))

-- ---- results

-- What is found of a URL in the case of the literals: one that the patterns match that hold, and no
-- other pattern of the case does.
abbrev pub IsUrlIn : Analysis → List LiteralView → CommonUrl → Type 0
IsUrlIn analysis literals url =
    IsCommonUrl analysis.facts.patterns.items (patterns_in analysis.patterns.items true literals)
    (patterns_in analysis.patterns.items false literals) analysis.limits.question url

-- In some case, of atoms that have to be known, these two rules decide, the names are of the case,
-- and the URL is what is found in it.
pub record IsFoundIn (analysis : Analysis) (ones others : List FormulaView) (it : JointDecision) :
    Type 0 where
  pub literals : List LiteralView
  pub within : AreLiteralsWithin (length analysis.patterns.items) literals
  pub is_case : IsCase ones others literals
  pub decided : Determine literals ones others it.one it.other
  pub names : AreNamesOf analysis.attributes.now (map string_bytes it.names.items)
  pub named : AreNamed literals (map string_bytes it.names.items)
  pub url : IsUrlIn analysis literals it.url
  pub known : it.url ≢ urls.Nothing

-- Whether a URL is found.
abbrev pub is_url : CommonUrl → Bool
is_url (urls.Url url) = true
is_url answer = false

-- Each of two decisions has a request, of the same rules.
abbrev pub AreOfSameRules : (it other : JointDecision) → Type 0
AreOfSameRules it other =
    IsTrue (is_url it.url) × IsTrue (is_url other.url) × (it.one ≡ other.one)
    × (it.other ≡ other.other)

-- What is found of the rules of two tables that decide about the same request: for each two that do
-- one request, or why it is not known whether there is one. If the cases are too many, some may be
-- missing.
pub record AreDecisions (analysis : Analysis) (ones others : List FormulaView) (it : Decisions) :
    Type 0 where
  pub found : All (IsFoundIn analysis ones others) it.found.items
  pub once : NoTwo AreOfSameRules it.found.items
  pub missing : IsTrue it.is_complete → (one other : Option ℕ)
      → Any (λ each. (each.one ≡ one) × (each.other ≡ other)) it.found.items
      ⊎ NoneDecidedBy analysis.patterns.items analysis.attributes.now ones others one other
  pub too_many : it.is_complete ≡ false → NeedManyCases ones others analysis.limits.cases

-- A request that is found is one about which the two rules decide, whatever unknown components
-- match.
abbrev pub FoundAreDecided : Type 0
FoundAreDecided =
    (analysis : Analysis) (ones others : List FormulaView) (it : JointDecision) (url : Parts)
    → IsFoundIn analysis ones others it → it.url ≡ urls.Url url
    → AreDecidedBy analysis.patterns.items ones others (url_at url)
    (map string_bytes it.names.items) it.one it.other

-- The analysis has what is known of URLs, and the automata of its patterns.
pub record IsReady (analysis : Analysis) : Type 0 where
  pub facts : AreUnlike analysis.facts.patterns.items
  pub patterns : All AreAutomata analysis.patterns.items

-- ---- steps

abbrev pub is_found_one : (one other : Option ℕ) → JointDecision → Bool
is_found_one one other it =
    is_url it.url && (option_eq nat_eq it.one one && option_eq nat_eq it.other other)

-- Whether a request is known about which these two rules decide.
abbrev pub is_found : List JointDecision → (one other : Option ℕ) → Bool
is_found found one other =
    list_any (is_found_one one other) found

-- `new` is `old` with what is found in the case of the literals, in which these two rules decide,
-- and about which no request was found before.
-- If nothing is appended, they are known to decide about a request, or none is of the case.
abbrev pub Notes : Analysis → (one other : Option ℕ) → List LiteralView
    → (old new : List JointDecision) → Type 0
Notes analysis one other literals old new =
    ((it : JointDecision) × (new ≡ old ++ it ∷ []) × (it.one ≡ one) × (it.other ≡ other)
    × AreNamesOf analysis.attributes.now (map string_bytes it.names.items)
    × AreNamed literals (map string_bytes it.names.items)
    × IsUrlIn analysis literals it.url × (it.url ≢ urls.Nothing)
    × (is_found old one other ≡ false))
    ⊎ ((new ≡ old)
    × (IsTrue (is_found old one other)
    ⊎ ((names : List (List ℕ)) → AreNamesOf analysis.attributes.now names
    → ¬ AreNamed literals names)
    ⊎ IsUrlIn analysis literals urls.Nothing))
