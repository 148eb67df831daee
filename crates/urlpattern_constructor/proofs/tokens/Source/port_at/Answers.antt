use Rattle.std.proofs.Common.{◌+◌, ◌<◌, codes, ap, sym, ◌∙◌, inl, inr, arith}
use Rattle.std.proofs.lemmas.Bool.{both_ways}
use Rattle.std.proofs.lemmas.Str.{chars-nil}
use Rattle.urlpattern_constructor.specs.Split.{implied}
use Rattle.urlpattern_constructor.specs.Splitting.{tokens_of}
use Rattle.urlpattern_constructor.specs.declared.sections.Section.TheVariants.{Port}
use Rattle.urlpattern_constructor.proofs.SplitLemmas.{port_sign, slash_is_seen, slash_seen_from_sign}
use Rattle.urlpattern_constructor.proofs.TextBetween.{tokens_len}
use Rattle.urlpattern_constructor.proofs.tokens.Source.port_at.Goals as goal

pub pathname_at-turns-requires-clause-sign : goal.pathname_at-turns-requires-clause-sign
pathname_at-turns-requires-clause-sign c = port_sign (tokens_of c.args.self.now) _ _ _ c.end_of-end.ensures.ends

pub pathname_at-turns-requires-clause-slash : goal.pathname_at-turns-requires-clause-slash
pathname_at-turns-requires-clause-slash c slash =
    let tokens = tokens_of c.args.self.now in
    let ends = rw (c.after-from.ensures.index, c.after-from.ensures.depth) at c.end_of-end.ensures.ends in
    let size = tokens_len c.args.self.now in
    let after : c.args.end.index < c.end_of-end.result.index = omega (arith, ends.after) in
    let seen = slash_seen_from_sign (codes ":") tokens c.args.end.index c.end_of-end.result.index (sym c.is_non_special_pattern_char.ensures ∙ c.if-is_non_special_pattern_char.true) after (slash_is_seen Port tokens (c.args.end.index + 1) 0 c.end_of-end.result.index ends slash) in
    let left = c.requires.slash c.end_of-end.result.index (omega arith) seen slash in
    omega (arith, left, c.end_of-end.ensures.turns, c.after-from.ensures.index, c.after-from.ensures.turns, ends.within)

pub returns-then-is_non_special_pattern_char-clause-split : goal.returns-then-is_non_special_pattern_char-clause-split
returns-then-is_non_special_pattern_char-clause-split c =
    let ends = rw (c.after-from.ensures.index, c.after-from.ensures.depth) at c.end_of-end.ensures.ends in
    let between = rw c.after-from.ensures.index at c.split_text.ensures in
    inl (sym c.is_non_special_pattern_char.ensures ∙ c.if-is_non_special_pattern_char.true, (c.end_of-end.result.index, ends, between, c.pathname_at-turns.ensures.split))

pub returns-clause-split : goal.returns-clause-split
returns-clause-split c =
    inr ((λ h. both_ways _ (sym c.is_non_special_pattern_char.ensures ∙ c.if-is_non_special_pattern_char.false) h), c.implied.ensures ∙ ap implied chars-nil, c.pathname_at-turns-2.ensures.split)
