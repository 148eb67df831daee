use Rattle.std.proofs.Common.{Global, List, String, ap, chars, ℕ, ◌++◌, ◌∙◌}
use Rattle.urlpat_tables.proofs.ListLemmas.{flat-map-more}
use Rattle.urlpat_tables.specs.RewriteRules.{given_taken}
use Rattle.urlpattern.specs.BorrowedMatches.{pattern_captures_view}
use Rattle.urlpattern.specs.Patterns.{pattern_view}
use Rattle.urlpattern.specs.WriteSettings.{given_groups}
use Rattle.urlpattern_syntax.specs.Text.{text_of}
use Rattle.urlpat_tables.proofs.rewriting.push_component.Goals as goal

pub loop-name-preserved : goal.loop-name-preserved
loop-name-preserved c =
    let taken = given_taken (pattern_view c.args.from.now) (pattern_captures_view c.args.found.now) c.args.component in
    let old = given_groups c.loop-name.groups.items in
    flat-map-more taken (λ (name : String Global). text_of name) c.args.names.now c.loop-name.name-index c.name-item.result (given_groups c.args.groups.now.items) old
    (given_groups c.push_taken.new.groups.items) c.loop-name-test.true c.loop-name.invariant
    (c.in_ok-push_taken.ensures ∙ ap (λ (name : List ℕ). old ++ taken (chars name)) c.deref.ensures ∙ ap (λ (name : String Global). old ++ taken (text_of name)) c.name-item.is)
