-- Lemmas on what `rewrite` writes for a line.
use Rattle.std.proofs.Common.{◌≡◌, ◌∙◌, ◌∷◌, ◌++◌, ℕ, Bool, List, [], None, Option, Some, ap, codes, false, inr, refl, subst}
use Rattle.std.specs.Prelude.{Err, IfOk, Ok, OnOk, Result, if◌then◌else◌, is_ok, option_map}
use Rattle.std.specs.declared.alloc.AllocError.{AllocError}
use Rattle.serde_json.specs.Data.{no_members, number, put, string, unsigned}
use Rattle.serde_json.specs.Written.{has_float}
use Rattle.urlpat_matching.proofs.MatchJsonLemmas.{put-none}
use Rattle.urlpat_matching.specs.Filters.{AppendsPiece}
use Rattle.urlpat_matching.specs.declared.answers.Verdict.{Verdict}
use Rattle.urlpat_tables.specs.RewriteRules.{groups_taken}
use Rattle.urlpat_tables.specs.Rewrites.{IsUnlinked, Rewrites}
use Rattle.urlpat_tables.specs.declared.rewrite_rules.RewriteRule.{RewriteRule}
use Rattle.urlpattern.specs.LinkedUrls.{RejectsLink}
use Rattle.urlpattern.specs.Patterns.{PatternView, pattern_view}
use Rattle.urlpattern.specs.ResultViews.{ResultView}
use Rattle.urlpattern_components.specs.declared.eight.ComponentName.{ComponentName}
use Rattle.urlpattern_engine.specs.PatternRegexps.{pattern_result}
use Rattle.urlpattern_engine.specs.declared.pattern_regexp.PatternRegexp.{PatternRegexp}
use Rattle.urlpattern_generate.specs.WriteSettings.{GivenView}
use Rattle.urlpattern_generate.specs.declared.no_link.NoLink.{NoLink as LinkError}
use Rattle.urlpattern_inputs.specs.Trees.{object_of}

-- The JSON of a line that is rewritten has no float.
pub new-none : (code : Option ℕ) (line : ℕ) (url : List ℕ)
    → has_float (object_of ((codes "code", option_map (λ code. number (unsigned code)) code) ∷ (codes "number", Some (number (unsigned line))) ∷ (codes "url", Some (string url)) ∷ [])) ≡ false
new-none None line url =
    let numbered = put (codes "number") (number (unsigned line)) no_members in
    put-none (codes "url") (string url) numbered refl (put-none (codes "number") (number (unsigned line)) no_members refl refl)
new-none (Some code) line url =
    let coded = put (codes "code") (number (unsigned code)) no_members in
    let numbered = put (codes "number") (number (unsigned line)) coded in
    put-none (codes "url") (string url) numbered refl
    (put-none (codes "number") (number (unsigned line)) coded refl (put-none (codes "code") (number (unsigned code)) no_members refl refl))

-- A text is appended, if there is memory.
pub text-added : (result : Result (Unit {0}) AllocError) (old new text wanted : List ℕ) → new ≡ (if is_ok result then old ++ text else old) → text ≡ wanted → OnOk result (new ≡ old ++ wanted)
text-added (Ok done) old new text wanted goes is = goes ∙ ap (λ (piece : List ℕ). old ++ piece) is
text-added (Err error) old new text wanted goes is = tt

-- What is written for a line whose rule has no link is what a rule writes.
pub left-unlinked : {E : Type 0} (json : Bool) (first : PatternView PatternRegexp) (rule : RewriteRule) (result : ComponentName → ResultView) (error : LinkError) (line : List ℕ)
    (verdict : Result Verdict E) (old new : List ℕ) (groups : List GivenView) → groups ≡ groups_taken first (pattern_view rule.to) result → RejectsLink pattern_result rule.to groups error
    → IfOk verdict (λ it. AppendsPiece (IsUnlinked json error line it) old new) → IfOk verdict (λ it. AppendsPiece (Rewrites json first rule result line it) old new)
left-unlinked json first rule result error line (Ok verdict) old new groups are refuses (piece, goes, unlinked) =
    (piece, goes, inr ((error, unlinked.0, subst (λ (them : List GivenView). RejectsLink pattern_result rule.to them error) are refuses), unlinked.1, unlinked.2))
left-unlinked json first rule result error line (Err why) old new groups are refuses unlinked = tt
