use Rattle.std.proofs.Common.{◌≡◌, ◌++◌, ◌-◌, length, sym, ap, ◌∙◌, arith, subst, length-append}
use Rattle.std.proofs.lemmas.Str.{chars-append, IsCharBoundary-at_seam}
use Rattle.std.specs.Prelude.{encode_utf8_all}
use Rattle.std.specs.Str.{chars, IsCharBoundary}
use Rattle.urlpattern_syntax.proofs.TextLemmas.{bytes_before, slice_before}
use Rattle.urlpattern_syntax.proofs.text.before.Goals as goal

pub overflow_sub-text : goal.overflow_sub-text
overflow_sub-text c =
    let e = bytes_before c.args.text.now c.args.end.now c.requires.0 c.utf8.text c.utf8.end c.requires.1 in
    omega (arith, ap length e, length-append (encode_utf8_all c.requires.0) c.args.end.now)

pub range-requires-clause-end_boundary : goal.range-requires-clause-end_boundary
range-requires-clause-end_boundary c =
    let e = bytes_before c.args.text.now c.args.end.now c.requires.0 c.utf8.text c.utf8.end c.requires.1 in
    let n : length c.args.text.now - length c.args.end.now ≡ length (encode_utf8_all c.requires.0) = omega (arith, ap length e, length-append (encode_utf8_all c.requires.0) c.args.end.now) in
    subst (IsCharBoundary c.args.text.now) (sym n) (IsCharBoundary-at_seam c.args.text.now (encode_utf8_all c.requires.0) c.args.end.now e c.utf8.end)

pub returns : goal.returns
returns c =
    let e = bytes_before c.args.text.now c.args.end.now c.requires.0 c.utf8.text c.utf8.end c.requires.1 in
    let n : length c.args.text.now - length c.args.end.now ≡ length (encode_utf8_all c.requires.0) = omega (arith, ap length e, length-append (encode_utf8_all c.requires.0) c.args.end.now) in
    let cut : c.args.text.now ≡ c.range.result.now ++ c.args.end.now = e ∙ ap (λ x. x ++ c.args.end.now) (sym (c.range.ensures.value ∙ slice_before c.args.text.now (encode_utf8_all c.requires.0) c.args.end.now e)) in
    ap chars cut ∙ chars-append c.range.result.now c.args.end.now c.range.utf8
