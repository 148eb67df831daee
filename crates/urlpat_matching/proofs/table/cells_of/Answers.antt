use Rattle.std.proofs.Common.{Bool, ap, sym, ℕ, ◌∙◌}
use Rattle.std.proofs.lemmas.Bool.{cond-false, cond-true}
use Rattle.std.specs.List.{after_first, before_first, list_any}
use Rattle.std.specs.Str.{trim}
use Rattle.urlpat_matching.specs.Tables.{is_space, is_tab}
use Rattle.urlpat_matching.proofs.table.cells_of.Goals as goal

pub returns-then-has_tab-clause-first : goal.returns-then-has_tab-clause-first
returns-then-has_tab-clause-first c =
    let tabs = cond-true (list_any is_tab c.args.text.now) is_tab is_space (sym c.has_tab.ensures ∙ c.if-has_tab.true) in
    c.trimmed.ensures.first ∙ ap trim (c.around_tab.ensures.first ∙ ap (λ (separates : ℕ → Bool). before_first separates c.args.text.now) (sym tabs))

pub returns-then-has_tab-clause-others : goal.returns-then-has_tab-clause-others
returns-then-has_tab-clause-others c =
    let tabs = cond-true (list_any is_tab c.args.text.now) is_tab is_space (sym c.has_tab.ensures ∙ c.if-has_tab.true) in
    c.trimmed.ensures.others ∙ ap trim (c.around_tab.ensures.others ∙ ap (λ (separates : ℕ → Bool). after_first separates c.args.text.now) (sym tabs))

pub returns-else-has_tab-clause-first : goal.returns-else-has_tab-clause-first
returns-else-has_tab-clause-first c =
    let spaces = cond-false (list_any is_tab c.args.text.now) is_tab is_space (sym c.has_tab.ensures ∙ c.if-has_tab.false) in
    c.trimmed-else-has_tab.ensures.first ∙ ap trim (c.around_space.ensures.first ∙ ap (λ (separates : ℕ → Bool). before_first separates c.args.text.now) (sym spaces))

pub returns-else-has_tab-clause-others : goal.returns-else-has_tab-clause-others
returns-else-has_tab-clause-others c =
    let spaces = cond-false (list_any is_tab c.args.text.now) is_tab is_space (sym c.has_tab.ensures ∙ c.if-has_tab.false) in
    c.trimmed-else-has_tab.ensures.others ∙ ap trim (c.around_space.ensures.others ∙ ap (λ (separates : ℕ → Bool). after_first separates c.args.text.now) (sym spaces))
