use Rattle.std.proofs.Common.{ap, sym, ◌∙◌, inl, inr}
use Rattle.std.proofs.lemmas.Str.{chars-nil}
use Rattle.urlpattern_constructor.specs.Split.{implied}
use Rattle.urlpattern_constructor.proofs.tokens.Source.search_at.Goals as goal

pub returns-then-is_non_special_pattern_char-clause-split : goal.returns-then-is_non_special_pattern_char-clause-split
returns-then-is_non_special_pattern_char-clause-split c =
    let split = rw c.after-then-is_non_special_pattern_char.ensures.index at c.hash_from-turns.ensures.split in
    inr (inl (sym c.is_non_special_pattern_char.ensures ∙ c.if-is_non_special_pattern_char.true, c.implied.ensures ∙ ap implied chars-nil, split))
