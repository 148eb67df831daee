-- The output of `rewrite` for the lines of a reader. Arguments and texts are bytes. `input` is what
-- the reader has left, and `old` and `new` are the output before and after, as far as they are
-- known.
use Rattle.serde_json.specs.Data.{Data, number, string, unsigned}
use Rattle.std.specs.Prelude.{◌≡◌, ◌≢◌, ◌⊎◌, ◌++◌, ◌∷◌, ℕ, Bool, List, Option, Some, [], codes, false, option_copied, option_map, true}
use Rattle.url.specs.Parts.{Parts, serialize}
use Rattle.urlpat_tables.specs.FirstRules.{FiltersFields, IsAnswered, passed_verdict}
use Rattle.urlpat_tables.specs.declared.first_rule.Unmatched.{Unmatched}
use Rattle.urlpat_tables.specs.declared.first_rule.Unmatched.TheVariants as unmatched
use Rattle.urlpat_matching.specs.MatchJson.{json_line}
use Rattle.urlpat_matching.specs.Tables.{table_entries}
use Rattle.urlpat_matching.specs.declared.answers.Verdict.{Verdict}
use Rattle.urlpat_matching.specs.declared.answers.Verdict.TheVariants.{NoLink, Selected}
use Rattle.urlpat_matching.specs.declared.command.{Flags.Flags, RewriteArguments.RewriteArguments}
use Rattle.urlpat_tables.specs.RewriteRules.{AreRewriteRules, RewriteRules, groups_taken}
use Rattle.urlpat_tables.specs.declared.rewrite_rules.RewriteRule.{RewriteRule}
use Rattle.urlpattern.specs.LinkedUrls.{IsLink, RejectsLink}
use Rattle.urlpattern.specs.Patterns.{PatternView, pattern_view}
use Rattle.urlpattern.specs.ResultViews.{ResultView}
use Rattle.urlpattern_canonical.specs.BaseUrls.{base_view}
use Rattle.urlpattern_components.specs.declared.eight.ComponentName.{ComponentName}
use Rattle.urlpattern_engine.specs.PatternRegexps.{pattern_result}
use Rattle.urlpattern_engine.specs.declared.pattern_regexp.PatternRegexp.{PatternRegexp}
use Rattle.urlpattern_generate.specs.declared.no_link.NoLink.{NoLink as LinkError}
use Rattle.urlpattern_generate.specs.declared.no_link.NoLink.TheVariants.{OutOfMemory}
use Rattle.urlpattern_inputs.specs.Trees.{object_of}

-- ---- a line

-- `url` is what a rule writes of a match of its first pattern with these results: the link of its
-- second pattern, whose groups are given what those of the first captured.
abbrev pub IsNewUrl : (first : PatternView PatternRegexp) → RewriteRule
    → (ComponentName → ResultView) → (url : Parts) → Type 0
IsNewUrl first rule result url =
    IsLink pattern_result rule.to (groups_taken first (pattern_view rule.to) result) url

-- The second pattern of a rule has no link for a match of its first pattern with these results.
abbrev pub HasNoNewUrl : (first : PatternView PatternRegexp) → RewriteRule
    → (ComponentName → ResultView) → Type 0
HasNoNewUrl first rule result =
    (error : LinkError) × (error ≢ OutOfMemory)
    × RejectsLink pattern_result rule.to (groups_taken first (pattern_view rule.to) result) error

-- The JSON of a line that is rewritten: the status code of the rule if it has one, the number of
-- its line, and the URL.
abbrev pub new_tree : RewriteRule → (url : Parts) → Data
new_tree rule url =
    object_of ((codes "code", option_map (λ code. number (unsigned code)) rule.code)
    ∷ (codes "number", Some (number (unsigned rule.entry.number)))
    ∷ (codes "url", Some (string (serialize url))) ∷ [])

-- What is written for a line that is rewritten.
abbrev pub new_text : (json : Bool) → RewriteRule → (url : Parts) → List ℕ
new_text true rule url = json_line (new_tree rule url)
new_text false rule url = serialize url ++ codes "\n"

-- What is written for a line that is not rewritten: the line as it came, or in JSON `null`.
abbrev pub unchanged_text : (json : Bool) → (line : List ℕ) → List ℕ
unchanged_text true line = codes "null\n"
unchanged_text false line = line

-- The verdict on a line whose rule has no link, for this reason, and what is written for it: the
-- line as it came, or `null` in JSON.
abbrev pub IsUnlinked : (json : Bool) → LinkError → (line : List ℕ) → Verdict
    → (written : List ℕ) → Type 0
IsUnlinked json error line verdict written =
    (error ≢ OutOfMemory) × (verdict ≡ NoLink) × (written ≡ unchanged_text json line)

-- The verdict on a line that a rule is the first to match, and what is written for it: the new URL,
-- or, if there is none, the line as it came, or `null` in JSON.
abbrev pub Rewrites : (json : Bool) → (first : PatternView PatternRegexp) → RewriteRule
    → (ComponentName → ResultView) → (line : List ℕ) → Verdict → (written : List ℕ) → Type 0
Rewrites json first rule result line verdict written =
    ((url : Parts) × IsNewUrl first rule result url × (verdict ≡ Selected)
    × (written ≡ new_text json rule url))
    ⊎ (HasNoNewUrl first rule result × (verdict ≡ NoLink) × (written ≡ unchanged_text json line))

-- A line that no rule matches, as far as it is seen: an empty line stands for one that is rejected.
abbrev pub line_left : Unmatched → (line : List ℕ) → List ℕ
line_left unmatched.Rejected line = codes "\n"
line_left why line = line

-- The verdict on a line that no rule matches, and what is written for it.
abbrev pub LeavesUnchanged : (json : Bool) → Unmatched → (line : List ℕ) → Verdict
    → (written : List ℕ) → Type 0
LeavesUnchanged json why line verdict written =
    (verdict ≡ passed_verdict why) × (written ≡ unchanged_text json (line_left why line))

-- ---- the output

-- The output of `rewrite` for its arguments is written, by the rules of the table of a file. The
-- output and the exit status are known if the contents of the reader are. `Has` says which file has
-- which table.
abbrev pub RewritesLines : Flags → (Has : (name table : List ℕ) → Type 0) → RewriteArguments
    → (status : ℕ) → (input old new : Option (List ℕ)) → Type 0
RewritesLines flags Has asked status input old new =
    (table : List ℕ) × (rules : RewriteRules) × Has asked.file.now table
    × AreRewriteRules flags.ignore_case (option_copied asked.lines.base) (table_entries table) rules
    × FiltersFields (λ header written. written ≡ [])
    (IsAnswered (Rewrites flags.json) (LeavesUnchanged flags.json) rules
    (base_view (option_copied asked.lines.base))) asked.lines false status input old new
