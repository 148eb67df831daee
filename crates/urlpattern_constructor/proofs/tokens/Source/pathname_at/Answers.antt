use Rattle.std.proofs.Common.{◌≡◌, ap, sym, ◌∙◌, inl, inr, arith}
use Rattle.std.proofs.lemmas.Bool.{or_left, or_right}
use Rattle.urlpattern_constructor.specs.Split.{implied}
use Rattle.urlpattern_constructor.proofs.tokens.Source.pathname_at.Goals as goal
use Rattle.urlpattern_constructor.proofs.tokens.Source.pathname_at.Goals.{then-is_search_prefix-via-then-is_search_prefix, then-is_search_prefix-via-else-is_search_prefix+then-is_non_special_pattern_char-2}

pub returns-then-is_non_special_pattern_char-clause-split : goal.returns-then-is_non_special_pattern_char-clause-split
returns-then-is_non_special_pattern_char-clause-split c =
    let here : c.after.result.index ≡ c.args.end.index = omega (arith, c.after.ensures.index) in
    let split = rw (here, c.after.ensures.depth) at c.pathname_from.ensures.split in
    inl (sym c.is_non_special_pattern_char.ensures ∙ c.if-is_non_special_pattern_char.true, split)

pub returns-then-is_search_prefix-clause-split : goal.returns-then-is_search_prefix-clause-split
returns-then-is_search_prefix-clause-split c =
    inr (inl (
      elim c.then-is_search_prefix.branch [
        | then-is_search_prefix-via-then-is_search_prefix w ↦ or_left _ _ (sym c.is_search_prefix.ensures ∙ w.if-is_search_prefix.true)
        | then-is_search_prefix-via-else-is_search_prefix+then-is_non_special_pattern_char-2 w ↦ or_right _ _ (sym w.is_non_special_pattern_char-else-is_search_prefix.ensures ∙ w.if-is_non_special_pattern_char-2.true)
      ],
      c.implied.ensures ∙ ap implied c.implied_pathname.ensures,
      c.search_at-turns.ensures.split,
    ))
