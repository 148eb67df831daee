-- Which patterns of a list are the first match of some texts, as reported to C in JSON.
use Rattle.std.specs.List.{AllZip, join_by}
use Rattle.std.specs.Prelude.{◌≡◌, ◌≢◌, ◌++◌, ℕ, List, [], Option, None, Some, String, codes, decimal, map}
use Rattle.std.specs.declared.alloc.Global.{Global}
use Rattle.serde_json.specs.Written.{compact_text}
use Rattle.urlpattern.specs.Reached.{AreReachedBy, LacksParts}
use Rattle.urlpattern_compare.specs.declared.candidates.TheConstants.{USUAL_LIMITS}
use Rattle.urlpattern_compare.specs.declared.reaching.Reach.{Reach}
use Rattle.urlpattern_compare.specs.declared.reaching.Reach.TheVariants.{First, Never, Unknown}
use Rattle.urlpattern_components.specs.declared.eight.Eight.{Eight}
use Rattle.urlpattern_engine.specs.PatternRegexps.{pattern_engine}
use Rattle.urlpattern_ffi.specs.KeptPatterns.{PatternList}
use Rattle.urlpattern_ffi.specs.TextBuffers.{WritesToBuffer}
use Rattle.urlpattern_ffi.specs.declared.status.Status.{Status}
use Rattle.urlpattern_ffi.specs.declared.status.Status.TheVariants as statuses
use Rattle.urlpattern_inputs.specs.InputJson.{init_tree}
use Rattle.urlpattern_inputs.specs.InputValues.{init_view, plain_init_texts}
use Rattle.urlpattern_inputs.specs.declared.init.UrlPatternInit.{UrlPatternInit}
use Rattle.urlpattern_pattern.specs.declared.pattern.compare.CompareError.TheVariants as errors

-- ---- JSON

-- An array in JSON of these elements, with no white space between them.
abbrev pub array_text : List (List ℕ) → List ℕ
array_text elements =
    codes "[" ++ join_by (λ element. element) (codes ",") elements ++ codes "]"

-- An array in JSON of these indices.
abbrev pub indices_text : List ℕ → List ℕ
indices_text indices = array_text (map decimal indices)

-- Eight texts, each of which is given.
abbrev pub given_texts : Eight (String Global) → Eight (Option (String Global))
given_texts texts = record {
  protocol = Some texts.protocol;
  username = Some texts.username;
  password = Some texts.password;
  hostname = Some texts.hostname;
  port = Some texts.port;
  pathname = Some texts.pathname;
  search = Some texts.search;
  hash = Some texts.hash;
}

-- `text` is the JSON of an init with these texts, and without a base URL.
abbrev pub IsTextOfInit : Eight (String Global) → (text : List ℕ) → Type 0
IsTextOfInit texts text =
    (init : UrlPatternInit) × (plain_init_texts init ≡ given_texts texts)
    × (init.base_url ≡ None)
    × (text ≡ compact_text (init_tree (init_view init)))

-- `text` is the JSON of a `Reach`. First: an init with the texts. Never: an array of the indices.
-- Unknown: `null`.
abbrev pub IsTextOfReach : Reach → (text : List ℕ) → Type 0
IsTextOfReach (First texts) text = IsTextOfInit texts text
IsTextOfReach (Never by) text = text ≡ indices_text by.items
IsTextOfReach (Unknown doubt) text = text ≡ codes "null"

-- `text` is the JSON of an array with an element for each `Reach`, in order.
abbrev pub IsTextOfEach : List Reach → (text : List ℕ) → Type 0
IsTextOfEach found text =
    (elements : List (List ℕ)) × AllZip IsTextOfReach found elements × (text ≡ array_text elements)

-- ---- what is written

-- `text` says of each pattern whether it is the first match of some texts, by the parts of the
-- patterns.
abbrev pub IsTextOfReaches : PatternList → (text : List ℕ) → Type 0
IsTextOfReaches patterns text =
    (found : List Reach) × AreReachedBy pattern_engine USUAL_LIMITS patterns found
    × IsTextOfEach found text

-- The outcome of writing for each pattern whether it is the first match of some texts. `NoPattern`,
-- and only this: there is no pattern. `Done`: it is written. `TooSmall`: the buffer has no room for
-- it. `Unknown`: some pattern has no parts. But for `Done` the buffer is unchanged.
abbrev pub AreReachesReported : PatternList → (old new : List ℕ) → (needed : ℕ) → Status → Type 0
AreReachesReported patterns old new needed statuses.NoPattern = (patterns ≡ []) × (new ≡ old)
AreReachesReported patterns old new needed statuses.Done =
    (patterns ≢ []) × WritesToBuffer (IsTextOfReaches patterns) old new needed statuses.Done
AreReachesReported patterns old new needed statuses.TooSmall =
    (patterns ≢ []) × WritesToBuffer (IsTextOfReaches patterns) old new needed statuses.TooSmall
AreReachesReported patterns old new needed statuses.Unknown =
    (patterns ≢ []) × LacksParts patterns errors.NoParts × (new ≡ old)
AreReachesReported patterns old new needed statuses.OutOfMemory = (patterns ≢ []) × (new ≡ old)
AreReachesReported patterns old new needed status = ⊥

-- ---- steps

-- The outcome of writing what was found for each pattern.
abbrev pub AreReachesWritten : List Reach → (old new : List ℕ) → (needed : ℕ) → Status → Type 0
AreReachesWritten found old new needed statuses.OutOfMemory = new ≡ old
AreReachesWritten found old new needed status =
    WritesToBuffer (IsTextOfEach found) old new needed status
