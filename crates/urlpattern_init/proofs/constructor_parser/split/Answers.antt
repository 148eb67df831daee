use Rattle.std.proofs.Common.{ap, sym, ◌∙◌, inl, inr, arith}
use Rattle.std.proofs.lemmas.Result.{err_from_is_err_and}
use Rattle.urlpattern_constructor.specs.Split.{is_colon_sign}
use Rattle.urlpattern_constructor.specs.Splitting.{split_text_view, tokens_of}
use Rattle.urlpattern_constructor.proofs.SplitLemmas.{colon_found}
use Rattle.urlpattern_constructor.proofs.TextBetween.{source_closed}
use Rattle.urlpattern_init.proofs.constructor_parser.split.Goals as goal

pub absolute-requires-clause-sign : goal.absolute-requires-clause-sign
absolute-requires-clause-sign g c =
    let tokens = tokens_of c.args.source.now in
    let colon = sym c.is_non_special_pattern_char.ensures ∙ c.if-not-is_non_special_pattern_char.false in
    let found = colon_found tokens _ _ _ (source_closed c.args.source.now c.requires) c.end_of-end.ensures.ends colon c.end_of-end.ensures.depth c.end_of-colon.ensures.ends in
    ap (is_colon_sign tokens) found.0 ∙ colon

pub absolute-requires-clause-turns : goal.absolute-requires-clause-turns
absolute-requires-clause-turns g c =
    let tokens = tokens_of c.args.source.now in
    let colon = sym c.is_non_special_pattern_char.ensures ∙ c.if-not-is_non_special_pattern_char.false in
    let found = colon_found tokens _ _ _ (source_closed c.args.source.now c.requires) c.end_of-end.ensures.ends colon c.end_of-end.ensures.depth c.end_of-colon.ensures.ends in
    omega (arith, found.0, c.end_of-colon.ensures.turns, c.end_of-end.ensures.turns)

pub returns-in_err-special-clause-refused : goal.returns-in_err-special-clause-refused
returns-in_err-special-clause-refused g c =
    let tokens = tokens_of c.args.source.now in
    let colon = sym c.is_non_special_pattern_char.ensures ∙ c.if-not-is_non_special_pattern_char.false in
    let found = colon_found tokens _ _ _ (source_closed c.args.source.now c.requires) c.end_of-end.ensures.ends colon c.end_of-end.ensures.depth c.end_of-colon.ensures.ends in
    let p = err_from_is_err_and c.from_residual.result c.from_residual.ensures.1 in
    rw (p.1, p.2)
    (elim c.in_err-special.ensures.refused [
      | inl memory ↦ inl memory
      | inr refused ↦ inr (tokens, c.end_of-colon.result.index, split_text_view c.split_text-protocol.result, c.requires, found.1, ap (is_colon_sign tokens) found.0 ∙ colon, c.split_text-protocol.ensures, refused)
    ])
