use Rattle.std.proofs.Common.{◌∙◌, ◌≡◌, List, arith, length, subst, sym, take_all}
use Rattle.std.proofs.lemmas.List.{length-map}
use Rattle.std.proofs.lemmas.List.Elements.{All-nil}
use Rattle.std.specs.Map.{keys_of}
use Rattle.std.specs.Prelude.{All}
use Rattle.urlpattern.proofs.ListedParts.{HasParts}
use Rattle.urlpattern_pattern.specs.UrlPatterns.{UrlPattern}
use Rattle.urlpattern_policy_differences.proofs.ComparingLemmas.{lacking, one_more}
use Rattle.urlpattern_policy_differences.proofs.comparing.compare_errors.error_of.Goals as goal

pub loop-index-init : goal.loop-index-init
loop-index-init g c = All-nil (λ (pattern : UrlPattern g.row.R.Denot). HasParts pattern)

pub loop-index-preserved : goal.loop-index-preserved
loop-index-preserved g c =
    let count : length (keys_of c.args.rules.now) ≡ length c.args.rules.now = length-map c.args.rules.now (λ entry. entry.0) in
    one_more g.R.RegExp (keys_of c.args.rules.now) c.loop-index.index (omega (arith, count, c.loop-index-test.true, c.len-index-end.ensures)) (sym c.lacks_parts_at.ensures ∙ c.if-lacks_parts_at.false) c.loop-index.invariant

pub returns-then-lacks_parts_at : goal.returns-then-lacks_parts_at
returns-then-lacks_parts_at g c = lacking g.R.RegExp (keys_of c.args.rules.now) c.loop-index.index (sym c.lacks_parts_at.ensures ∙ c.if-lacks_parts_at.true)

pub returns : goal.returns
returns g c =
    let count : length (keys_of c.args.rules.now) ≡ length c.args.rules.now = length-map c.args.rules.now (λ entry. entry.0) in
    subst (λ (patterns : List (UrlPattern g.row.R.Denot)). All HasParts patterns)
    (take_all c.loop-index.index (keys_of c.args.rules.now) (omega (arith, count, c.loop-index-test.false, c.len-index-end.ensures))) c.loop-index.invariant
