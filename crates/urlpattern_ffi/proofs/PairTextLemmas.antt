-- Lemmas on texts of two patterns.
use Rattle.std.proofs.Common.{◌≡◌, ℕ, false, List, [], ◌∷◌, ◌++◌, length, map, refl, codes}
use Rattle.std.specs.Prelude.{Option, None, Some, option_map, slice_get}
use Rattle.serde_json.specs.Data.{Data, Members, no_members, put, string}
use Rattle.serde_json.specs.Written.{has_float, members_have_float}
use Rattle.urlpattern_compare.specs.declared.pattern_parts.PatternParts.{PatternParts}
use Rattle.urlpattern_components.specs.Eight.{at, components, name_text}
use Rattle.urlpattern_components.specs.declared.eight.ComponentName.{ComponentName}
use Rattle.urlpattern_engine.specs.declared.pattern_regexp.PatternRegexp.{PatternRegexp}
use Rattle.urlpattern_ffi.proofs.CoveringLemmas.{of_both}
use Rattle.urlpattern_ffi.specs.KeptPatterns.{PatternList}
use Rattle.urlpattern_ffi.specs.PairTexts.{AreExamined, AreTextsWritten, IsJsonOfTexts, IsPairReported, KnownTexts}
use Rattle.urlpattern_ffi.specs.TextBuffers.{IsWrittenTo}
use Rattle.urlpattern_ffi.specs.declared.status.Status.{Status}
use Rattle.urlpattern_ffi.specs.declared.status.Status.TheVariants as statuses
use Rattle.urlpattern_inputs.specs.InputJson.{init_tree}
use Rattle.urlpattern_inputs.specs.InputValues.{InitView}
use Rattle.urlpattern_inputs.specs.Trees.{all_with}
use Rattle.urlpattern_matches.proofs.ResultFloats.{put-none}
use Rattle.urlpattern_pattern.specs.PatternComparing.{OfPartsOfBoth}
use Rattle.urlpattern_pattern.specs.UrlPatterns.{UrlPattern}

-- ---- JSON

abbrev Named : Type 0
Named = List (List ℕ × Option Data)

abbrev IsWithoutFloat : List ℕ × Option Data → Type 0
IsWithoutFloat (name, None) = Unit {0}
IsWithoutFloat (name, Some tree) = has_float tree ≡ false

abbrev AreWithoutFloat : Named → Type 0
AreWithoutFloat [] = Unit {0}
AreWithoutFloat (one ∷ named) = IsWithoutFloat one × AreWithoutFloat named

all_with-none : (listed : Members) (named : Named) → AreWithoutFloat named → members_have_float listed ≡ false → members_have_float (all_with listed named) ≡ false
all_with-none listed [] none before = before
all_with-none listed ((name, None) ∷ named) (first, none) before = all_with-none listed named none before
all_with-none listed ((name, Some tree) ∷ named) (first, none) before = all_with-none (put name tree listed) named none (put-none name tree listed first before)

text-none : (name : List ℕ) (text : Option (List ℕ)) → IsWithoutFloat (name, option_map string text)
text-none name None = tt
text-none name (Some text) = refl

texts-none : (texts : ComponentName → Option (List ℕ)) (names : List ComponentName) (rest : Named) → AreWithoutFloat rest
    → AreWithoutFloat (map (λ name. (name_text name, option_map string (texts name))) names ++ rest)
texts-none texts [] rest none = none
texts-none texts (name ∷ names) rest none = (text-none (name_text name) (texts name), texts-none texts names rest none)

-- The JSON of an init has no floats. Its text is therefore known.
pub init-none : (init : InitView) → has_float (init_tree init) ≡ false
init-none init =
    let last : Named = (codes "baseURL", option_map string init.base_url) ∷ [] in
    let texts = λ (name : ComponentName). at init.texts name in
    all_with-none no_members (map (λ name. (name_text name, option_map string (texts name))) components ++ last)
    (texts-none texts components last (text-none (codes "baseURL") init.base_url, tt)) refl

pub texts_written : (texts : KnownTexts) (text old new : List ℕ) (needed : ℕ) (status : Status) → IsJsonOfTexts texts text → needed ≡ length text → IsWrittenTo text old new status
    → AreTextsWritten texts old new needed status
texts_written texts text old new needed statuses.Done is counted written = (text, is, counted, written)
texts_written texts text old new needed statuses.TooSmall is counted written = (text, is, counted, written)
texts_written texts text old new needed status is counted written = absurd written

-- ---- two patterns

module _ (Shows : (parts others : PatternParts) → KnownTexts → Type 0) (Lacks Doubts : (parts others : PatternParts) → Type 0) (pattern other : UrlPattern PatternRegexp) where
  -- Texts that are shown and written are reported.
  pub examined : (texts : KnownTexts) (old new : List ℕ) (needed : ℕ) (status : Status) → OfPartsOfBoth pattern other (λ parts others. Shows parts others texts)
      → AreTextsWritten texts old new needed status → AreExamined Shows Lacks Doubts pattern other old new needed status
  examined texts old new needed statuses.Done shown written =
      of_both pattern other (λ parts others. Shows parts others texts) (λ parts others. (all : KnownTexts) × Shows parts others all × AreTextsWritten all old new needed statuses.Done)
      (λ parts others shows. (texts, shows, written)) shown
  examined texts old new needed statuses.TooSmall shown written =
      of_both pattern other (λ parts others. Shows parts others texts) (λ parts others. (all : KnownTexts) × Shows parts others all × AreTextsWritten all old new needed statuses.TooSmall)
      (λ parts others shows. (texts, shows, written)) shown
  examined texts old new needed statuses.OutOfMemory shown written = written
  examined texts old new needed status shown written = absurd written

  -- The outcome for two patterns is the one for the patterns at their indices.
  pub pair_reported : (patterns : PatternList) (index : ℕ) (others : PatternList) (at_other : ℕ) (old new : List ℕ) (needed : ℕ) (status : Status)
      → slice_get patterns index ≡ Some pattern → slice_get others at_other ≡ Some other → AreExamined Shows Lacks Doubts pattern other old new needed status
      → IsPairReported (AreExamined Shows Lacks Doubts) patterns index others at_other old new needed status
  pair_reported patterns index others at_other old new needed statuses.NoPattern is other_is examined = absurd examined
  pair_reported patterns index others at_other old new needed status is other_is examined = (pattern, other, is, other_is, examined)
